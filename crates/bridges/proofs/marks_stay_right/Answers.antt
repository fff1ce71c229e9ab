use Rattle.bridges.proofs.Marks.{marks_kept}
use Rattle.bridges.proofs.marks_stay_right.Goals as goal

pub returns : goal.returns
returns g c = marks_kept g.P.Priority.not_behind (record { total = g.met.P.Priority.total; transitive = g.met.P.Priority.transitive })
