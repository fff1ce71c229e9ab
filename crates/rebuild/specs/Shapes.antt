-- The balanced shape, and what building it needs and leaves.
use Rattle.std.specs.Prelude.{◌≡◌, ℕ, zero, suc, ◌+◌, ◌-◌, ◌*◌, ◌/◌, ◌^◌, ◌<◌, ◌≤◌, true, false, List, length, Some, None, Option}
use Rattle.nodes.specs.declared.node.Node.{Node}
use Rattle.nodes.specs.Tree.{Tree, leaf, branch, items, slots, size, height}
use Rattle.std.specs.List.{slice_get}
use Rattle.nodes.specs.Holding.{Holds, Shaped, size_at}
use Rattle.changes.specs.Frames.{Apart}
use Rattle.changes.specs.Placed.{Placed}
use Rattle.changes.specs.Chains.{count}

-- of so many items the root is the one at half of that, rounded down, and each part likewise
pub data Even {E : Type 0} : Tree E → Type 0 where
  even_leaf : Even leaf
  even_branch : {slot : ℕ} {item : E} {before after : Tree E} → size before ≡ suc (size before + size after) / 2 → Even before → Even after → Even (branch slot item before after)

-- the slot at the root of that shape over a range of places
abbrev pub root_of : List ℕ → ℕ → ℕ → Option ℕ
root_of order lo zero = None
root_of order lo (suc n) = slice_get order (lo + suc n / 2)

-- the nodes in these slots have these items
abbrev pub Labelled : {E S : Type 0} → List (Node E S) → List ℕ → List E → Type 0
Labelled {E} {S} nodes order list = (j slot : ℕ) (x : E) → slice_get order j ≡ Some slot → slice_get list j ≡ Some x → (node : Node E S) × (slice_get nodes slot ≡ Some node) × (node.item ≡ x)

-- the slots are within the slice and none stands twice
pub record Buildable {E S : Type 0} (nodes : List (Node E S)) (order : List ℕ) : Type 0 where
  pub list : List E
  pub long : length list ≡ length order
  pub labelled : Labelled nodes order list
  pub small : length order < 2 ^ 13
  pub once : (k : ℕ) → count k order ≤ 1

-- the slice holds the balanced tree over the slots, with their items in order, no higher than it must be; other slots are as they were
pub record Rebuilt {E S : Type 0} (empty : S) (whole : S → E → S → S) (entry exit : List (Node E S)) (order : List ℕ) (list : List E) (root : Option ℕ) : Type 0 where
  pub tree : Tree E
  pub holds : Holds true empty whole exit root tree
  pub even : Even tree
  pub low : 1 ≤ size tree → 2 ^ height tree ≤ 2 * size tree
  pub slots_are : slots tree ≡ order
  pub items_are : items tree ≡ list
  pub kept : (k : ℕ) → count k order ≡ 0 → slice_get exit k ≡ slice_get entry k

-- the halves of a range are in the slice, and so is the node of its root
pub record Closable {E S : Type 0} (empty : S) (whole : S → E → S → S) (nodes : List (Node E S)) (order : List ℕ) (lo n : ℕ) : Type 0 where
  pub some : 0 < n
  pub within : lo + n ≤ length order
  pub slot : ℕ
  pub node : Node E S
  pub here : slice_get order (lo + n / 2) ≡ Some slot
  pub at : slice_get nodes slot ≡ Some node
  pub left : Shaped empty whole nodes (root_of order lo (n / 2))
  pub right : Shaped empty whole nodes (root_of order (lo + n / 2 + 1) (n - n / 2 - 1))
  pub fits : size_at nodes (root_of order lo (n / 2)) + size_at nodes (root_of order (lo + n / 2 + 1) (n - n / 2 - 1)) + 1 < 2 ^ 64

-- the root is written over the halves
pub record Closed {E S : Type 0} (empty : S) (whole : S → E → S → S) (entry exit : List (Node E S)) (order : List ℕ) (lo n : ℕ) : Type 0 where
  pub slot : ℕ
  pub node : Node E S
  pub here : slice_get order (lo + n / 2) ≡ Some slot
  pub at : slice_get entry slot ≡ Some node
  pub placed : Placed empty whole entry exit slot node.item (root_of order lo (n / 2)) (root_of order (lo + n / 2 + 1) (n - n / 2 - 1))

-- the slice holds a tree of at most 4096 items at the link, and none of its slots twice
pub record Rebuildable {E S : Type 0} (empty : S) (whole : S → E → S → S) (nodes : List (Node E S)) (link : Option ℕ) : Type 0 where
  pub tree : Tree E
  pub holds : Holds false empty whole nodes link tree
  pub apart : Apart tree
  pub small : size tree ≤ 4096
