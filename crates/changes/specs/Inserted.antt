-- When a node may be put at a place, and what that leaves.
use Rattle.std.specs.Prelude.{◌≡◌, ℕ, ◌+◌, ◌^◌, ◌<◌, ◌≤◌, Bool, false, List, ◌∷◌, ◌++◌, length, take, drop, Option, ◌≢◌}
use Rattle.nodes.specs.declared.node.Node.{Node}
use Rattle.nodes.specs.Tree.{Tree, leaf, branch, items, size, height, uses}
use Rattle.std.specs.List.{slice_get}
use Rattle.nodes.specs.Holding.{Holds}
use Rattle.changes.specs.declared.grown.Grown.{Grown}
use Rattle.changes.specs.Frames.{Frame, steps_of, plug, ahead, Apart}
use Rattle.changes.specs.Stacks.{stacked}

-- the list with an item more, before the one at a place
abbrev pub inserted : {E : Type 0} → ℕ → E → List E → List E
inserted place item list = take place list ++ (item ∷ drop place list)

-- the slice holds a tree that uses no slot twice and this one not at all, not too deep for a path
pub record Room {E S : Type 0} (empty : S) (whole : S → E → S → S) (nodes : List (Node E S)) (root : Option ℕ) (place slot : ℕ) : Type 0 where
  pub tree : Tree E
  pub holds : Holds false empty whole nodes root tree
  pub low : height tree ≤ 32
  pub apart : Apart tree
  pub spare : uses slot tree ≡ 0
  pub slot_within : slot < length nodes
  pub place_within : place ≤ size tree
  pub fits : size tree + 1 < 2 ^ 64

-- the new node is a leaf at the end of the path; the list has one item more; slots outside are as they were
pub record Inserted {E S : Type 0} (must : Bool) (empty : S) (whole : S → E → S → S) (entry exit : List (Node E S)) (place slot : ℕ) (item : E) (t : Tree E) (r : Grown) : Type 0 where
  pub frames : List (Frame E)
  pub traced : steps_of frames ≡ stacked r.path
  pub was : plug frames leaf ≡ t
  pub holds : Holds must empty whole exit r.root (plug frames (branch slot item leaf leaf))
  pub lists : items (plug frames (branch slot item leaf leaf)) ≡ inserted place item (items t)
  pub kept : (k : ℕ) → uses k t ≡ 0 → (k ≢ slot) → slice_get exit k ≡ slice_get entry k

-- the same, with as many items ahead of the new leaf as its place says
pub record InsertedThere {E S : Type 0} (must : Bool) (empty : S) (whole : S → E → S → S) (entry exit : List (Node E S)) (place slot : ℕ) (item : E) (t : Tree E) (r : Grown) : Type 0 where
  pub inserted : Inserted must empty whole entry exit place slot item t r
  pub gap : length (ahead inserted.frames) ≡ place
