use Rattle.std.proofs.Common.{true, None, sym, subst}
use Rattle.nodes.specs.Holding.{Holds}
use Rattle.folders.specs.Lasts.{last_of}
use Rattle.trees.specs.Structures.{tree_of}
use Rattle.tree_racks.proofs.Ranks.{found_by}
use Rattle.tree_racks.proofs.by_rank.rank_in.Goals as goal

pub returns : goal.returns
returns g c = λ o. found_by c.requires (λ h.
    let lent = c.args.tree.now.lent in
    let tree = tree_of lent.nodes.now lent.links in
    let p = c.part.ensures in
    let whole = subst (λ ns. Holds true None last_of ns lent.links.root tree) (sym p.nodes) h in
    c.place_of.ensures tree (subst (λ l. Holds true None last_of c.part.result.nodes.now l tree) (sym p.root) whole) o)
