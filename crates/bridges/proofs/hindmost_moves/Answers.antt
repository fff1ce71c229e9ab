use Rattle.bridges.proofs.Movers.{movers_law}
use Rattle.bridges.proofs.hindmost_moves.Goals as goal

pub returns : goal.returns
returns g c = movers_law g.P.Priority.not_behind (record { total = g.met.P.Priority.total; transitive = g.met.P.Priority.transitive })
