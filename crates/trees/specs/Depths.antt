-- How deep an item lies.
use Rattle.std.specs.Prelude.{◌≡◌, ℕ, ◌+◌, ◌≤◌, List, length, Some, None, Option}
use Rattle.nodes.specs.Tree.{Tree, size, before_of}
use Rattle.changes.specs.Frames.{Frame, plug, ahead}
use Rattle.balance.specs.Allowances.{part as share, whole as all}
use Rattle.balance.specs.Allowances.{Allowance}

-- there are so many nodes on the way from the root to the item at a place, and no more than the allowance of m
pub record Deep {E : Type 0} (t : Tree E) (m place depth : ℕ) : Type 0 where
  pub frames : List (Frame E)
  pub part : Tree E
  pub on_way : plug frames part ≡ t
  pub there : length (ahead frames) + size (before_of part) ≡ place
  pub deep : length frames ≡ depth
  pub allowed : (d : ℕ) → Allowance share all m d → depth ≤ d

-- none past the end
abbrev pub DepthTold : {E : Type 0} → Tree E → ℕ → ℕ → Option ℕ → Type 0
DepthTold t m place None = size t ≤ place
DepthTold t m place (Some depth) = Deep t m place depth
