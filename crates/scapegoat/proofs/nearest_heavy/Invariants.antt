use Rattle.std.proofs.Common.{◌≡◌, ℕ, ◌<◌, ◌≤◌, ◌++◌, false, List, length, Option}
use Rattle.nodes.specs.Tree.{Tree, size}
use Rattle.nodes.specs.Holding.{Holds}
use Rattle.changes.specs.Frames.{Frame, steps_of, plug}
use Rattle.changes.specs.declared.path.Step.{Step}
use Rattle.scapegoat.specs.Heavy.{size_from, Heavy}
use Rattle.scapegoat.proofs.nearest_heavy.Given as goal

abbrev pub invariant-loop-step : goal.invariant-loop-step
invariant-loop-step g l =
    let e = g.E.Element in
    ((below : List Step) × (l.rest ++ below ≡ l.fn.steps)) × ((root : Option ℕ) (frames : List (Frame g.row.E.Denot)) (part : Tree g.row.E.Denot) → Holds false e.empty e.whole l.nodes root (plug frames part) → steps_of frames ≡ l.fn.steps → size part ≡ 1 → (l.child ≡ size_from (length l.rest) frames part) × ((j : ℕ) → length l.rest ≤ j → j < length frames → Heavy 2 3 j frames part → ⊥))

abbrev pub decreases-loop-step : goal.decreases-loop-step
decreases-loop-step g l = length l.rest
