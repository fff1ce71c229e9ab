use Rattle.bridges.proofs.OneMore.{one_more}
use Rattle.bridges.proofs.one_folder_more.Goals as goal

pub returns : goal.returns
returns g c = one_more g.P.Priority.not_behind (record { total = g.met.P.Priority.total; transitive = g.met.P.Priority.transitive })
