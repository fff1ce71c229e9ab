use Rattle.bridges.proofs.Lines.{line_follows}
use Rattle.bridges.proofs.line_follows.Goals as goal

pub returns : goal.returns
returns g c = line_follows g.row.P.Denot
