-- What writing one node leaves.
use Rattle.std.specs.Prelude.{◌≡◌, ℕ, Bool, List, Some, Option, slice_set}
use Rattle.nodes.specs.declared.node.Node.{Node}
use Rattle.nodes.specs.Tree.{Tree, branch, uses}
use Rattle.nodes.specs.Holding.{Holds}

-- one slot is written, with these links and this item; over parts that do not use it, it holds the branch of the two
pub record Placed {E S : Type 0} (empty : S) (whole : S → E → S → S) (entry exit : List (Node E S)) (slot : ℕ) (item : E) (left right : Option ℕ) : Type 0 where
  pub node : Node E S
  pub wrote : exit ≡ slice_set entry slot node
  pub holds : (must : Bool) (before after : Tree E) → Holds must empty whole entry left before → Holds must empty whole entry right after → uses slot before ≡ 0 → uses slot after ≡ 0 → Holds must empty whole exit (Some slot) (branch slot item before after)
