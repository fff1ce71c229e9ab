-- When a slice of nodes holds a tree.
use Rattle.std.specs.List.{slice_get}
use Rattle.std.specs.Prelude.{◌≡◌, ℕ, zero, suc, ◌+◌, ◌^◌, ◌<◌, Bool, true, false, List, Some, None, Option}
use Rattle.nodes.specs.declared.node.Node.{Node}
use Rattle.nodes.specs.Tree.{Tree, leaf, branch, size, summary}

-- the slice holds the tree at the link, with right sizes; where `must` is true, the stored summaries are right too
pub data Holds {E S : Type 0} (must : Bool) (empty : S) (whole : S → E → S → S) (nodes : List (Node E S)) : Option ℕ → Tree E → Type 0 where
  nothing : Holds must empty whole nodes None leaf
  part : {slot : ℕ} {before after : Tree E} (node : Node E S) → slice_get nodes slot ≡ Some node → Holds must empty whole nodes node.left before → Holds must empty whole nodes node.right after → node.size ≡ suc (size before + size after) → (must ≡ true → node.sum ≡ whole (summary empty whole before) node.item (summary empty whole after)) → Holds must empty whole nodes (Some slot) (branch slot node.item before after)

-- the slice holds some tree at the link
pub record Shaped {E S : Type 0} (empty : S) (whole : S → E → S → S) (nodes : List (Node E S)) (link : Option ℕ) : Type 0 where
  pub tree : Tree E
  pub holds : Holds false empty whole nodes link tree

-- the size that a node stores, and the one stored where a link leads
abbrev pub stored_size : {E S : Type 0} → Option (Node E S) → ℕ
stored_size None = 0
stored_size (Some node) = node.size

abbrev pub size_at : {E S : Type 0} → List (Node E S) → Option ℕ → ℕ
size_at nodes None = 0
size_at nodes (Some i) = stored_size (slice_get nodes i)

-- what opening the part at a link gives: the node there, and the parts at its two links, which have the other nodes
pub record Opens {E S : Type 0} (nodes : List (Node E S)) (link : Option ℕ) (slot : ℕ) (node : Node E S) (lefts : List (Node E S)) (left : Option ℕ) (rights : List (Node E S)) (right : Option ℕ) : Type 0 where
  pub leads : link ≡ Some slot
  pub stands : slice_get nodes slot ≡ Some node
  pub same_left : lefts ≡ nodes
  pub at_left : left ≡ node.left
  pub same_right : rights ≡ nodes
  pub at_right : right ≡ node.right
  pub adds : size_at nodes link ≡ suc (size_at lefts left + size_at rights right)
  pub fits : size_at nodes link < 2 ^ 64

-- a branch at a slot, if it has a node, with the parts that its links lead to
abbrev pub grown : {E S : Type 0} → ℕ → Option (Node E S) → (Option ℕ → Tree E) → Tree E
grown slot None at_link = leaf
grown slot (Some node) at_link = branch slot node.item (at_link node.left) (at_link node.right)

-- the tree at a link, read off to a depth
abbrev pub tree_at : {E S : Type 0} → ℕ → List (Node E S) → Option ℕ → Tree E
tree_at zero nodes link = leaf
tree_at (suc depth) nodes None = leaf
tree_at (suc depth) nodes (Some slot) = grown slot (slice_get nodes slot) (tree_at depth nodes)
