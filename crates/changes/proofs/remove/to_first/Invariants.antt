use Rattle.std.proofs.Common.{ℕ, ◌≤◌, false, Some, Option}
use Rattle.nodes.specs.Tree.{Tree, height}
use Rattle.nodes.specs.Holding.{Holds, size_at}
use Rattle.changes.specs.Ways.{Way}
use Rattle.changes.specs.Stacks.{stacked}
use Rattle.changes.proofs.Losses.{Firsts}
use Rattle.changes.proofs.remove.to_first.Given as goal

abbrev pub invariant-loop-i : goal.invariant-loop-i
invariant-loop-i g l =
    let e = g.E.Element in
    (root : Option ℕ) (skipped : ℕ) (all t : Tree g.row.E.Denot) → Holds false e.empty e.whole l.nodes root all → height all ≤ 32 → Way e.empty e.whole l.nodes root (Some l.initial.slot) (stacked l.initial.path) skipped all t → Firsts e.empty e.whole l.nodes root skipped all l.slot (stacked l.path)

abbrev pub decreases-loop-i : goal.decreases-loop-i
decreases-loop-i g l = size_at l.nodes (Some l.slot)
