use Rattle.std.proofs.Common.{◌≤◌}
use Rattle.nodes.specs.Holding.{size_at}
use Rattle.changes.specs.Stacks.{stacked}
use Rattle.changes.proofs.Descents.{Walked}
use Rattle.changes.proofs.descend.to_gap.Given as goal

abbrev pub invariant-loop-fork : goal.invariant-loop-fork
invariant-loop-fork g l = let e = g.E.Element in Walked e.empty e.whole l.fn.all.nodes.now l.fn.all.link l.part.nodes.now l.part.link (stacked l.path) ◌≤◌ l.fn.place l.rest

abbrev pub decreases-loop-fork : goal.decreases-loop-fork
decreases-loop-fork g l = size_at l.part.nodes.now l.part.link
