-- How a tree lies in its slice, and what it means.
use Rattle.std.specs.Prelude.{◌≡◌, ℕ, ◌+◌, ◌≤◌, min, true, false, List, length}
use Rattle.nodes.specs.declared.node.Node.{Node}
use Rattle.nodes.specs.Tree.{Tree, items, size, uses}
use Rattle.nodes.specs.Holding.{Holds, tree_at}
use Rattle.changes.specs.Chains.{Chain, count}
use Rattle.balance.specs.Allowances.{part as share, whole as all}
use Rattle.balance.specs.Allowances.{most_items}
use Rattle.upkeep.specs.Growth.{Within}
use Rattle.trees.specs.declared.links.Links.{Links}

-- the tree that the slice holds at its root
abbrev pub tree_of : {E S : Type 0} → List (Node E S) → Links → Tree E
tree_of nodes links = tree_at (length nodes) nodes links.root

-- what it means: the list of its items in order
abbrev pub listed : {E S : Type 0} → List (Node E S) → Links → List E
listed nodes links = items (tree_of nodes links)

-- and a capacity: the number of slots, or the greatest count of items where there are more
abbrev pub capacity_of : {A : Type 0} → List A → ℕ
capacity_of nodes = min (length nodes) most_items

-- the summaries that its nodes store are right
abbrev pub Right : {E S : Type 0} → S → (S → E → S → S) → List (Node E S) → Links → Type 0
Right empty whole nodes links = Holds true empty whole nodes links.root (tree_of nodes links)

-- The links form this tree, with right sizes; these slots are free, in a chain; no slot is used twice, and every slot is either
-- used or free; the counts are right; no node lies deeper than the allowance of the greatest count.
pub record Laid {E S : Type 0} (nodes : List (Node E S)) (links : Links) (tree : Tree E) (spare : List ℕ) : Type 0 where
  pub holds : (empty : S) (whole : S → E → S → S) → Holds false empty whole nodes links.root tree
  pub chain : Chain nodes links.free spare
  pub once : (k : ℕ) → uses k tree + count k spare ≤ 1
  pub sized : size tree ≡ links.count
  pub slots : links.count + length spare ≡ length nodes
  pub grown : links.count ≤ links.most
  pub few : links.most ≤ most_items
  pub low : Within share all links.most tree

pub record Structure {E S : Type 0} (nodes : List (Node E S)) (links : Links) : Type 0 where
  pub tree : Tree E
  pub spare : List ℕ
  pub laid : Laid nodes links tree spare

-- the structural invariant, which whoever keeps a tree keeps in its type
abbrev pub Structured : {E S : Type 0} → List (Node E S) → Links → Type 0
Structured nodes links = ∥ Structure nodes links ∥₁
