-- What taking out the item at a place leaves, by the rule of the whole tree.
use Rattle.std.specs.Prelude.{◌≡◌, ℕ, ◌+◌, ◌*◌, ◌<◌, ◌≤◌, Bool, true, false, cond, List, Some, None, Option, ◌==◌}
use Rattle.std.specs.List.{remove, slice_get}
use Rattle.nodes.specs.declared.node.Node.{Node}
use Rattle.nodes.specs.Tree.{Tree, items, size, height, uses}
use Rattle.nodes.specs.Holding.{Holds}
use Rattle.changes.specs.Replaced.{Sound}
use Rattle.rebuild.specs.Shapes.{Even}
use Rattle.balance.specs.Allowances.{part as share, whole as all, most_items}
use Rattle.upkeep.specs.declared.shrunk.Shrunk.{Shrunk}
use Rattle.upkeep.specs.Growth.{Within}

-- The rule, as a relation between the trees before and after; it says too whether the whole tree was rebuilt.
-- Where less than the share of m items is left, the tree has the balanced shape; else it is no higher than it was.
pub data Shrinks {E : Type 0} (a b m : ℕ) (t : Tree E) : Bool → Tree E → Type 0 where
  thinned : (new : Tree E) → m * a ≤ size new * b → height new ≤ height t → Shrinks a b m t false new
  rebuilt : (new : Tree E) → size new * b < m * a → Even new → Shrinks a b m t true new

-- a tree within its allowance that has had at most m items
pub record Shrinkable {E S : Type 0} (empty : S) (whole : S → E → S → S) (nodes : List (Node E S)) (root : Option ℕ) (m : ℕ) : Type 0 where
  pub sound : Sound empty whole nodes root
  pub less : size sound.tree ≤ m
  pub few : m ≤ most_items
  pub low : Within share all m sound.tree

-- the slice holds the tree that the rule gives, without the item at the place and no node too deep; slots outside are as they were
pub record Loss {E S : Type 0} (must : Bool) (empty : S) (whole : S → E → S → S) (entry exit : List (Node E S)) (place m : ℕ) (t : Tree E) (r : Shrunk E) : Type 0 where
  pub new : Tree E
  pub holds : Holds must empty whole exit r.root new
  pub shrinks : Shrinks share all m t r.whole new
  pub found : slice_get (items t) place ≡ Some r.item
  pub lists : items new ≡ remove (items t) place
  pub freed : (k : ℕ) → cond (k == r.slot) 1 0 + uses k new ≡ uses k t
  pub low : Within share all (cond r.whole (size new) m) new
  pub kept : (k : ℕ) → uses k new ≡ 0 → slice_get exit k ≡ slice_get entry k

-- none just past the end, with nothing changed
abbrev pub Loses : {E S : Type 0} → Bool → S → (S → E → S → S) → List (Node E S) → List (Node E S) → ℕ → ℕ → Tree E → Option (Shrunk E) → Type 0
Loses must empty whole entry exit place m t None = (size t ≤ place) × (exit ≡ entry)
Loses must empty whole entry exit place m t (Some r) = Loss must empty whole entry exit place m t r
