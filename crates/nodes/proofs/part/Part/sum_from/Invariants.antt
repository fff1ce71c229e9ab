use Rattle.std.proofs.Common.{true, drop}
use Rattle.nodes.specs.Tree.{Tree, items}
use Rattle.nodes.specs.Holding.{Holds, size_at}
use Rattle.nodes.proofs.Fronts.{Back}
use Rattle.nodes.proofs.part.Part.sum_from.Given as goal

abbrev pub invariant-loop-fork : goal.invariant-loop-fork
invariant-loop-fork g l =
    let e = g.E.Element in
    (t : Tree _) → Holds true e.empty e.whole l.fn.self.nodes.now l.fn.self.link t → Back e.empty e.whole l.part.nodes.now l.part.link (drop l.fn.place (items t)) l.passed l.rest

abbrev pub decreases-loop-fork : goal.decreases-loop-fork
decreases-loop-fork g l = size_at l.part.nodes.now l.part.link
