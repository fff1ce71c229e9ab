-- When an item may be replaced, and what that leaves.
use Rattle.std.specs.Prelude.{◌≡◌, ℕ, ◌^◌, ◌<◌, ◌≤◌, Bool, false, List, Some, None, Option, slice_set}
use Rattle.nodes.specs.declared.node.Node.{Node}
use Rattle.nodes.specs.Tree.{Tree, branch, items, size, height, uses}
use Rattle.std.specs.List.{slice_get}
use Rattle.nodes.specs.Holding.{Holds}
use Rattle.changes.specs.declared.changed.Changed.{Changed}
use Rattle.changes.specs.Frames.{Frame, plug, Apart}

-- the slice holds a tree that uses no slot twice, not too deep for a path
pub record Sound {E S : Type 0} (empty : S) (whole : S → E → S → S) (nodes : List (Node E S)) (root : Option ℕ) : Type 0 where
  pub tree : Tree E
  pub holds : Holds false empty whole nodes root tree
  pub low : height tree ≤ 32
  pub apart : Apart tree
  pub fits : size tree < 2 ^ 64

-- one node has another item, and all else of the tree is as it was
pub record Swapped {E S : Type 0} (must : Bool) (empty : S) (whole : S → E → S → S) (entry exit : List (Node E S)) (place : ℕ) (item : E) (t : Tree E) (r : Changed E) : Type 0 where
  pub frames : List (Frame E)
  pub slot : ℕ
  pub before : Tree E
  pub after : Tree E
  pub was : t ≡ plug frames (branch slot r.item before after)
  pub holds : Holds must empty whole exit r.root (plug frames (branch slot item before after))
  pub found : slice_get (items t) place ≡ Some r.item
  pub lists : items (plug frames (branch slot item before after)) ≡ slice_set (items t) place item
  pub kept : (k : ℕ) → uses k t ≡ 0 → slice_get exit k ≡ slice_get entry k

abbrev pub Replaced : {E S : Type 0} → Bool → S → (S → E → S → S) → List (Node E S) → List (Node E S) → ℕ → E → Tree E → Option (Changed E) → Type 0
Replaced must empty whole entry exit place item t None = (size t ≤ place) × (exit ≡ entry)
Replaced must empty whole entry exit place item t (Some r) = Swapped must empty whole entry exit place item t r
