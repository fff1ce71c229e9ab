use Rattle.bridges.proofs.Bridges.{counting}
use Rattle.bridges.proofs.sums_count_folders.Goals as goal

pub returns : goal.returns
returns g c = counting g.P.Priority.not_behind (record { total = g.met.P.Priority.total; transitive = g.met.P.Priority.transitive })
