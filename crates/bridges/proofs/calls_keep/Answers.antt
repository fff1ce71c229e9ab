use Rattle.bridges.proofs.Keeping.{keeps}
use Rattle.bridges.proofs.calls_keep.Goals as goal

pub returns : goal.returns
returns g c = keeps g.P.Priority.not_behind g.P.Priority.canonical (record { total = g.met.P.Priority.total; transitive = g.met.P.Priority.transitive }) g.met.P.Priority.idempotent
