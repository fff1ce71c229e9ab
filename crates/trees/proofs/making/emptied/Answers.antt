use Rattle.trees.proofs.Emptying.{emptied_all}
use Rattle.trees.proofs.making.emptied.Goals as goal

pub returns : goal.returns
returns g c = let e = g.E.Element in emptied_all e.empty e.whole c.release_all-free.new.nodes c.release_all-free.result c.release_all-free.ensures
