-- The chain of the free slots.
use Rattle.std.specs.Prelude.{◌≡◌, ℕ, ◌+◌, ◌≤◌, cond, List, [], ◌∷◌, length, Some, None, Option, ◌==◌}
use Rattle.nodes.specs.declared.node.Node.{Node}
use Rattle.std.specs.List.{slice_get}

-- the slots that follow one another by their left links, from a link on
pub data Chain {E S : Type 0} (nodes : List (Node E S)) : Option ℕ → List ℕ → Type 0 where
  ends : Chain nodes None []
  links : {slot : ℕ} {rest : List ℕ} (node : Node E S) → slice_get nodes slot ≡ Some node → Chain nodes node.left rest → Chain nodes (Some slot) (slot ∷ rest)

-- how often a slot stands in a list
abbrev pub count : ℕ → List ℕ → ℕ
count k [] = 0
count k (slot ∷ rest) = cond (k == slot) 1 0 + count k rest

-- every slot is in the chain, once
pub record AllFree {E S : Type 0} (nodes : List (Node E S)) (free : Option ℕ) : Type 0 where
  pub spare : List ℕ
  pub chain : Chain nodes free spare
  pub all : length spare ≡ length nodes
  pub once : (k : ℕ) → count k spare ≤ 1
