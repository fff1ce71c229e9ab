-- What putting an item at a place leaves, by the rule of the nearest heavy ancestor.
use Rattle.std.specs.Prelude.{◌≡◌, ℕ, suc, ◌+◌, ◌<◌, ◌≤◌, Bool, false, cond, List, length, take, drop, Some, Option, ◌==◌}
use Rattle.std.specs.List.{insert, slice_get}
use Rattle.nodes.specs.declared.node.Node.{Node}
use Rattle.nodes.specs.Tree.{Tree, leaf, branch, items, size, height, uses}
use Rattle.nodes.specs.Holding.{Holds}
use Rattle.changes.specs.Frames.{Frame, plug, ahead}
use Rattle.changes.specs.Inserted.{Room}
use Rattle.rebuild.specs.Shapes.{Even}
use Rattle.balance.specs.Allowances.{part as share, whole as all, most_items, Allowance}
use Rattle.scapegoat.specs.declared.balanced.Balanced.{Balanced}
use Rattle.scapegoat.specs.Heavy.{Nearest}

-- no node lies deeper than the allowance of m; a tree of one level has depth 0
abbrev pub Within : {E : Type 0} → ℕ → ℕ → ℕ → Tree E → Type 0
Within a b m t = (d : ℕ) → Allowance a b m d → height t ≤ suc d

-- The rule, as a relation between the trees before and after; it says too whether the whole tree was rebuilt.
-- A new leaf goes into the gap at the place. Where it lies no deeper than the allowance of m, that is all. Where it would lie
-- deeper, the part at its nearest heavy ancestor is given the balanced shape, and all above that part is as it was.
pub data Grows {E : Type 0} (a b m place slot : ℕ) (item : E) (t : Tree E) : Bool → Tree E → Type 0 where
  added : (d : ℕ) (frames : List (Frame E)) → Allowance a b m d → plug frames leaf ≡ t → length (ahead frames) ≡ place → length frames ≤ d → Grows a b m place slot item t false (plug frames (branch slot item leaf leaf))
  rebuilt : (d : ℕ) (frames : List (Frame E)) (k : ℕ) (part : Tree E) → Allowance a b m d → plug frames leaf ≡ t → length (ahead frames) ≡ place → d < length frames → Nearest a b frames (branch slot item leaf leaf) (Some k) → Even part → items part ≡ items (plug (drop k frames) (branch slot item leaf leaf)) → Grows a b m place slot item t (k == 0) (plug (take k frames) part)

-- room for the node, in a tree within its allowance that may grow to m items
pub record Fitting {E S : Type 0} (empty : S) (whole : S → E → S → S) (nodes : List (Node E S)) (root : Option ℕ) (place slot m : ℕ) : Type 0 where
  pub room : Room empty whole nodes root place slot
  pub more : size room.tree < m
  pub few : m ≤ most_items
  pub low : Within share all m room.tree

-- the slice holds the tree that the rule gives, with the item at its place and no node too deep; other slots are as they were
pub record Growth {E S : Type 0} (must : Bool) (empty : S) (whole : S → E → S → S) (entry exit : List (Node E S)) (place slot m : ℕ) (item : E) (t : Tree E) (r : Balanced) : Type 0 where
  pub new : Tree E
  pub holds : Holds must empty whole exit r.root new
  pub grows : Grows share all m place slot item t r.whole new
  pub lists : items new ≡ insert (items t) place item
  pub used : (k : ℕ) → uses k new ≡ cond (k == slot) 1 0 + uses k t
  pub low : Within share all (cond r.whole (size new) m) new
  pub kept : (k : ℕ) → uses k new ≡ 0 → slice_get exit k ≡ slice_get entry k
