use Rattle.std.proofs.Common.{false}
use Rattle.std.specs.List.{slice_get}
use Rattle.nodes.specs.Tree.{Tree, items, slots}
use Rattle.nodes.specs.Holding.{Holds, size_at}
use Rattle.nodes.proofs.Places.{Place}
use Rattle.nodes.proofs.part.Part.node_at.Given as goal

abbrev pub invariant-loop-fork : goal.invariant-loop-fork
invariant-loop-fork g l =
    let e = g.E.Element in
    (t : Tree _) → Holds false e.empty e.whole l.fn.self.nodes.now l.fn.self.link t → Place e.empty e.whole l.part.nodes.now l.part.link l.rest (slice_get (items t) l.fn.place) (slice_get (slots t) l.fn.place)

abbrev pub decreases-loop-fork : goal.decreases-loop-fork
decreases-loop-fork g l = size_at l.part.nodes.now l.part.link
