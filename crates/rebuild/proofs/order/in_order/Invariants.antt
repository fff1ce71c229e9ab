use Rattle.std.proofs.Common.{◌≡◌, false, take}
use Rattle.nodes.specs.Tree.{Tree, slots}
use Rattle.nodes.specs.Holding.{Holds}
use Rattle.rebuild.proofs.order.in_order.Given as goal

abbrev pub invariant-loop-place : goal.invariant-loop-place
invariant-loop-place g l = let e = g.E.Element in (t : Tree _) → Holds false e.empty e.whole l.part.nodes.now l.part.link t → take l.place l.entry-items ≡ take l.place (slots t)
