use Rattle.std.proofs.Common.{true, false}
use Rattle.tree_racks.specs.Scapegoat.{racked}
use Rattle.tree_racks.proofs.Ranks.{told_by, remove_stays, remove_refused, remove_moves}
use Rattle.tree_racks.proofs.by_rank.remove_from.Goals as goal

pub returns-then-not-present : goal.returns-then-not-present
returns-then-not-present g c =
    remove_stays g.P.Priority.not_behind (record { total = g.met.P.Priority.total; transitive = g.met.P.Priority.transitive }) c.args.tree.now.lent.nodes.now c.args.tree.now.lent.links c.args.tree.now.structured c.requires c.args.priority.now c.args.stamp c.rank_in-place.result.0
    (told_by g.P.Priority.not_behind c.args.priority.now c.args.stamp (racked c.args.tree.now.lent.nodes.now c.args.tree.now.lent.links) c.rank_in-place.result false c.if-not-present.true c.rank_in-place.ensures)

pub returns-in_default : goal.returns-in_default
returns-in_default g c =
    remove_refused g.P.Priority.not_behind (record { total = g.met.P.Priority.total; transitive = g.met.P.Priority.transitive }) c.args.tree.now.lent.nodes.now c.args.tree.now.lent.links c.args.tree.now.structured c.requires c.args.priority.now c.args.stamp c.rank_in-place.result.0 _ _
    (told_by g.P.Priority.not_behind c.args.priority.now c.args.stamp (racked c.args.tree.now.lent.nodes.now c.args.tree.now.lent.links) c.rank_in-place.result true c.if-not-present.false c.rank_in-place.ensures) c.in_default.ensures

pub returns : goal.returns
returns g c =
    remove_moves g.P.Priority.not_behind (record { total = g.met.P.Priority.total; transitive = g.met.P.Priority.transitive }) c.args.tree.now.lent.nodes.now c.args.tree.now.lent.links c.args.tree.now.structured c.requires c.args.priority.now c.args.stamp c.rank_in-place.result.0 _ _
    (told_by g.P.Priority.not_behind c.args.priority.now c.args.stamp (racked c.args.tree.now.lent.nodes.now c.args.tree.now.lent.links) c.rank_in-place.result true c.if-not-present.false c.rank_in-place.ensures) _ c.in-Some.ensures
