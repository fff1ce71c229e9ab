-- Ancestors with a child that has more than its share, for a ratio a / b between a child and its parent.
use Rattle.std.specs.Prelude.{◌≡◌, ℕ, suc, ◌*◌, ◌^◌, ◌<◌, ◌≤◌, false, List, length, drop, Some, None, Option}
use Rattle.nodes.specs.declared.node.Node.{Node}
use Rattle.nodes.specs.Tree.{Tree, size}
use Rattle.nodes.specs.Holding.{Holds}
use Rattle.changes.specs.declared.path.Step.{Step}
use Rattle.changes.specs.Frames.{Frame, steps_of, plug}
use Rattle.balance.specs.Allowances.{Allowance}

-- how many items the part at a place of a way has
abbrev pub size_from : {E : Type 0} → ℕ → List (Frame E) → Tree E → ℕ
size_from k frames t = size (plug (drop k frames) t)

-- the child on the way has more than its share
abbrev pub Heavy : {E : Type 0} → ℕ → ℕ → ℕ → List (Frame E) → Tree E → Type 0
Heavy a b k frames t = size_from k frames t * a < size_from (suc k) frames t * b

-- the last such place; where there is none, the way is no longer than its count of items allows
abbrev pub Nearest : {E : Type 0} → ℕ → ℕ → List (Frame E) → Tree E → Option ℕ → Type 0
Nearest a b frames t None = ((k : ℕ) → k < length frames → Heavy a b k frames t → ⊥) × ((m d : ℕ) → Allowance a b m d → size (plug frames t) ≤ m → length frames ≤ d)
Nearest a b frames t (Some k) = (k < length frames) × Heavy a b k frames t × ((j : ℕ) → k < j → j < length frames → Heavy a b j frames t → ⊥)

-- the slice holds a tree with this way to a part of one item
pub record Climbable {E S : Type 0} (empty : S) (whole : S → E → S → S) (nodes : List (Node E S)) (steps : List Step) : Type 0 where
  pub root : Option ℕ
  pub frames : List (Frame E)
  pub part : Tree E
  pub holds : Holds false empty whole nodes root (plug frames part)
  pub traced : steps_of frames ≡ steps
  pub one : size part ≡ 1
  pub small : size (plug frames part) < 2 ^ 32
