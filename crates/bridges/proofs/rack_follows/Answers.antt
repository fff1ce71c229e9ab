use Rattle.bridges.proofs.Counts.{rack_follows}
use Rattle.bridges.proofs.rack_follows.Goals as goal

pub returns : goal.returns
returns g c = rack_follows g.P.Priority.not_behind (record { total = g.met.P.Priority.total; transitive = g.met.P.Priority.transitive })
