use Rattle.std.proofs.Common.{◌≡◌, List, length, reverse}
use Rattle.changes.specs.Stacks.{stacked}
use Rattle.rebuild.specs.Shapes.{Labelled}
use Rattle.rebuild.proofs.Plans.{weights}
use Rattle.rebuild.proofs.Building.{Building}
use Rattle.rebuild.proofs.build.build.Given as goal

abbrev pub invariant-loop-task : goal.invariant-loop-task
invariant-loop-task g l =
    let e = g.E.Element in
    (list : List g.row.E.Denot) → length list ≡ length l.order → Labelled l.initial.nodes l.order list → Building e.empty e.whole l.initial.nodes l.nodes l.order list (stacked l.tasks)

abbrev pub decreases-loop-task : goal.decreases-loop-task
decreases-loop-task g l = weights (reverse (stacked l.tasks))
