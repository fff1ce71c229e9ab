use Rattle.std.proofs.Common.{sym, subst}
use Rattle.trees.specs.Depths.{Deep, DepthTold}
use Rattle.trees.specs.Structures.{tree_of}
use Rattle.trees.proofs.Reading.{laid}
use Rattle.trees.proofs.Growing.{low_enough}
use Rattle.trees.proofs.Deepness.{deep_by}
use Rattle.trees.proofs.reads.depth_at.Goals as goal

pub to_item-requires : goal.to_item-requires
to_item-requires g c =
    let e = g.E.Element in
    let l = laid e.empty e.whole c.requires in
    let tree = tree_of c.args.nodes.now c.args.links in
    record { tree = tree; holds = c.whole-all.ensures.holds; low = low_enough c.args.links.most tree l.few l.low }

pub returns-in_err-to_item : goal.returns-in_err-to_item
returns-in_err-to_item g c =
    let tree = tree_of c.args.nodes.now c.args.links in
    subst (DepthTold tree c.args.links.most c.args.place) (sym c.from_residual.ensures) (c.in_err-to_item.ensures tree c.whole-all.ensures.holds)

pub returns : goal.returns
returns g c =
    let e = g.E.Element in
    let l = laid e.empty e.whole c.requires in
    let tree = tree_of c.args.nodes.now c.args.links in
    subst (Deep tree c.args.links.most c.args.place) (sym c.len.ensures.count) (deep_by c.whole-all.ensures.holds l.low (c.in_ok-to_item.ensures tree c.whole-all.ensures.holds))
