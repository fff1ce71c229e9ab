use Rattle.bridges.proofs.FoldersOrdered.{folders_ordered}
use Rattle.bridges.proofs.folders_ordered.Goals as goal

pub returns : goal.returns
returns g c = folders_ordered g.P.Priority.not_behind (record { total = g.met.P.Priority.total; transitive = g.met.P.Priority.transitive })
