-- When a node may be taken out, and what that leaves.
use Rattle.std.specs.Prelude.{◌≡◌, ℕ, suc, ◌+◌, ◌^◌, ◌<◌, ◌≤◌, Bool, false, cond, ◌⊎◌, List, ◌++◌, take, drop, Some, None, Option, ◌==◌}
use Rattle.nodes.specs.declared.node.Node.{Node}
use Rattle.nodes.specs.Tree.{Tree, leaf, items, size, height, uses, before_of}
use Rattle.std.specs.List.{slice_get}
use Rattle.nodes.specs.Holding.{Holds}
use Rattle.changes.specs.declared.found.Found.{Found}
use Rattle.changes.specs.declared.removed.Removed.{Removed}
use Rattle.changes.specs.Frames.{Apart}
use Rattle.changes.specs.Ways.{Way, Leads}
use Rattle.changes.specs.Stacks.{stacked}

-- the list without the item at a place
abbrev pub removed : {E : Type 0} → ℕ → List E → List E
removed place list = take place list ++ drop (suc place) list

-- a path to a part of a tree that is not too deep
pub record Beginning {E S : Type 0} (empty : S) (whole : S → E → S → S) (nodes : List (Node E S)) (from : Found) : Type 0 where
  pub root : Option ℕ
  pub skipped : ℕ
  pub all : Tree E
  pub part : Tree E
  pub holds : Holds false empty whole nodes root all
  pub way : Way empty whole nodes root (Some from.slot) (stacked from.path) skipped all part
  pub low : height all ≤ 32

-- the way to a node with no part before it, as many items on as the way began with
pub record Leftmost {E S : Type 0} (empty : S) (whole : S → E → S → S) (nodes : List (Node E S)) (root : Option ℕ) (skipped : ℕ) (all : Tree E) (r : Found) : Type 0 where
  pub part : Tree E
  pub way : Way empty whole nodes root (Some r.slot) (stacked r.path) skipped all part
  pub bare : before_of part ≡ leaf

-- the way to a node with this item that has at most one part, the one at the link
pub record FoundWay {E S : Type 0} (empty : S) (whole : S → E → S → S) (nodes : List (Node E S)) (found : Found) (rest : Option ℕ) (item : E) : Type 0 where
  pub root : Option ℕ
  pub place : ℕ
  pub tree : Tree E
  pub holds : Holds false empty whole nodes root tree
  pub leads : Leads empty whole nodes root place tree found
  pub apart : Apart tree
  pub fits : size tree < 2 ^ 64
  pub node : Node E S
  pub at : slice_get nodes found.slot ≡ Some node
  pub item_is : node.item ≡ item
  pub one : ((node.left ≡ None) × (node.right ≡ rest)) ⊎ ((node.right ≡ None) × (node.left ≡ rest))

-- the list has lost the item at the place; the tree has lost one slot, is no higher, and slots outside are as they were
pub record TakenOut {E S : Type 0} (must : Bool) (empty : S) (whole : S → E → S → S) (entry exit : List (Node E S)) (place : ℕ) (t : Tree E) (r : Removed E) : Type 0 where
  pub new : Tree E
  pub holds : Holds must empty whole exit r.root new
  pub found : slice_get (items t) place ≡ Some r.item
  pub lists : items new ≡ removed place (items t)
  pub sized : size new + 1 ≡ size t
  pub freed : (k : ℕ) → cond (k == r.slot) 1 0 + uses k new ≡ uses k t
  pub low : height new ≤ height t
  pub kept : (k : ℕ) → uses k new ≡ 0 → slice_get exit k ≡ slice_get entry k

-- the way to a node with parts on both sides, the second at the link
pub record Inner {E S : Type 0} (empty : S) (whole : S → E → S → S) (nodes : List (Node E S)) (place : ℕ) (found : Found) (next : ℕ) : Type 0 where
  pub root : Option ℕ
  pub tree : Tree E
  pub holds : Holds false empty whole nodes root tree
  pub leads : Leads empty whole nodes root place tree found
  pub apart : Apart tree
  pub fits : size tree < 2 ^ 64
  pub low : height tree ≤ 32
  pub node : Node E S
  pub at : slice_get nodes found.slot ≡ Some node
  pub right : node.right ≡ Some next

-- an item is always found there
abbrev pub TakesOut : {E S : Type 0} → Bool → S → (S → E → S → S) → List (Node E S) → List (Node E S) → ℕ → Tree E → Option (Removed E) → Type 0
TakesOut must empty whole entry exit place t None = ⊥
TakesOut must empty whole entry exit place t (Some r) = TakenOut must empty whole entry exit place t r

-- none just past the end, with nothing changed
abbrev pub Takes : {E S : Type 0} → Bool → S → (S → E → S → S) → List (Node E S) → List (Node E S) → ℕ → Tree E → Option (Removed E) → Type 0
Takes must empty whole entry exit place t None = (size t ≤ place) × (exit ≡ entry)
Takes must empty whole entry exit place t (Some r) = TakenOut must empty whole entry exit place t r
