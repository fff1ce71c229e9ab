use Rattle.std.proofs.Common.{true, false}
use Rattle.tree_racks.specs.Scapegoat.{racked}
use Rattle.tree_racks.proofs.Ranks.{told_by, put_stays, put_refused, put_moves}
use Rattle.tree_racks.proofs.by_rank.put_in.Goals as goal

pub returns-then-present : goal.returns-then-present
returns-then-present g c =
    put_stays g.P.Priority.not_behind (record { total = g.met.P.Priority.total; transitive = g.met.P.Priority.transitive }) c.args.tree.now.lent.nodes.now c.args.tree.now.lent.links c.args.tree.now.structured c.requires c.args.folder.now c.rank_in-place.result.0
    (told_by g.P.Priority.not_behind c.args.folder.now.priority c.args.folder.now.stamp (racked c.args.tree.now.lent.nodes.now c.args.tree.now.lent.links) c.rank_in-place.result true c.if-present.true c.rank_in-place.ensures)

pub returns-in_default : goal.returns-in_default
returns-in_default g c =
    put_refused g.P.Priority.not_behind (record { total = g.met.P.Priority.total; transitive = g.met.P.Priority.transitive }) c.args.tree.now.lent.nodes.now c.args.tree.now.lent.links c.args.tree.now.structured c.requires c.args.folder.now c.rank_in-place.result.0 _ _
    (told_by g.P.Priority.not_behind c.args.folder.now.priority c.args.folder.now.stamp (racked c.args.tree.now.lent.nodes.now c.args.tree.now.lent.links) c.rank_in-place.result false c.if-present.false c.rank_in-place.ensures) _ c.in_default.ensures

pub returns : goal.returns
returns g c =
    put_moves g.P.Priority.not_behind (record { total = g.met.P.Priority.total; transitive = g.met.P.Priority.transitive }) c.args.tree.now.lent.nodes.now c.args.tree.now.lent.links c.args.tree.now.structured c.requires c.args.folder.now c.rank_in-place.result.0 _ _
    (told_by g.P.Priority.not_behind c.args.folder.now.priority c.args.folder.now.stamp (racked c.args.tree.now.lent.nodes.now c.args.tree.now.lent.links) c.rank_in-place.result false c.if-present.false c.rank_in-place.ensures) c.in-Ok.ensures
