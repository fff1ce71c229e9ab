use Rattle.std.proofs.Common.{ℕ, Bool, List, Option}
use Rattle.std.specs.Iterator.Adapters.{rev_source}
use Rattle.std.specs.Slice.Iter.{iter_rest}
use Rattle.nodes.specs.Tree.{Tree}
use Rattle.changes.specs.Frames.{Frame}
use Rattle.changes.specs.Grafted.{Graft}
use Rattle.changes.proofs.Grafts.{Grafting}
use Rattle.changes.proofs.graft.graft.Given as goal

abbrev pub invariant-loop-step : goal.invariant-loop-step
invariant-loop-step g l =
    let e = g.E.Element in
    (must : Bool) (root hole : Option ℕ) (frames : List (Frame g.row.E.Denot)) (part : Tree g.row.E.Denot) → Graft must e.empty e.whole l.initial.nodes root frames hole l.initial.above part l.steps → Grafting must e.empty e.whole l.initial.nodes l.nodes root l.above frames part (iter_rest (rev_source l.step-iterator))
