use Rattle.bridges.proofs.Calls.{law_of_calls}
use Rattle.bridges.proofs.law_of_calls.Goals as goal

pub returns : goal.returns
returns g c = law_of_calls g.P.Priority.not_behind g.P.Priority.canonical (record { total = g.met.P.Priority.total; transitive = g.met.P.Priority.transitive })
