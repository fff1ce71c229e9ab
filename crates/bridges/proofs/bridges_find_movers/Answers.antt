use Rattle.bridges.proofs.FindMovers.{bridges_find_movers}
use Rattle.bridges.proofs.bridges_find_movers.Goals as goal

pub returns : goal.returns
returns g c = bridges_find_movers g.P.Priority.not_behind (record { total = g.met.P.Priority.total; transitive = g.met.P.Priority.transitive })
