-- What the tasks on the stack will make of the spans that are built.
use Rattle.std.proofs.Common.{◌≡◌, ℕ, ◌+◌, ◌-◌, ◌*◌, ◌/◌, ◌^◌, ◌<◌, ◌≤◌, true, List, [], ◌∷◌, length, refl, arith}
use Rattle.nodes.specs.declared.node.Node.{Node}
use Rattle.nodes.specs.Tree.{Tree, items, slots, size}
use Rattle.nodes.specs.Holding.{Holds}
use Rattle.rebuild.specs.declared.task.Task.{Task}
use Rattle.rebuild.specs.declared.task.Task.TheVariants.{Build, Close}
use Rattle.rebuild.specs.Shapes.{Even, root_of}
use Rattle.rebuild.proofs.Ranges.{range}

-- the places from one on, so many
pub data Span : Type 0 where
  span : ℕ → ℕ → Span

-- a span over which the balanced tree stands in the slice
pub record Built {E S : Type 0} (empty : S) (whole : S → E → S → S) (nodes : List (Node E S)) (order : List ℕ) (list : List E) (lo n : ℕ) : Type 0 where
  pub tree : Tree E
  pub holds : Holds true empty whole nodes (root_of order lo n) tree
  pub even : Even tree
  pub slots_are : slots tree ≡ range lo n order
  pub items_are : items tree ≡ range lo n list
  pub sized : size tree ≡ n

abbrev pub AllBuilt : {E S : Type 0} → S → (S → E → S → S) → List (Node E S) → List ℕ → List E → List Span → Type 0
AllBuilt empty whole nodes order list [] = Unit {0}
AllBuilt empty whole nodes order list (span lo n ∷ rest) = Built empty whole nodes order list lo n × AllBuilt empty whole nodes order list rest

-- all spans end before a place
abbrev pub Below : ℕ → List Span → Type 0
Below place [] = Unit {0}
Below place (span lo n ∷ rest) = (lo + n ≤ place) × Below place rest

-- the tasks from the top down make one span of all: a range to build comes on top of the spans, and one to close takes the place of its two halves
abbrev pub Plan : ℕ → List Task → List Span → Type 0
Plan total [] spans = spans ≡ span 0 total ∷ []
Plan total (Build lo n ∷ ts) spans = (lo + n ≤ total) × Below lo spans × Plan total ts (span lo n ∷ spans)
Plan total (Close lo n ∷ ts) spans = (rest : List Span) × (spans ≡ span (lo + n / 2 + 1) (n - n / 2 - 1) ∷ (span lo (n / 2) ∷ rest)) × (lo + n ≤ total) × (0 < n) × Below lo rest × Plan total ts (span lo n ∷ rest)

-- a range to build halves with each two tasks below it
abbrev pub Roomy : List Task → Type 0
Roomy [] = Unit {0}
Roomy (Build lo n ∷ ts) = ((b : ℕ) × (n < 2 ^ b) × (length ts + 2 * b ≤ 26)) × Roomy ts
Roomy (Close lo n ∷ ts) = Roomy ts

pub below_more : (a b : ℕ) (spans : List Span) → a ≤ b → Below a spans → Below b spans
below_more a b [] h w = tt
below_more a b (span lo n ∷ rest) h w = (let l = w.0 in omega arith, below_more a b rest h w.1)

-- splitting a range that is not empty
pub plan_split : (total lo n : ℕ) (ts : List Task) (spans : List Span) → 0 < n → lo + n ≤ total → Below lo spans → Plan total ts (span lo n ∷ spans) → Plan total (Build lo (n / 2) ∷ (Build (lo + n / 2 + 1) (n - n / 2 - 1) ∷ (Close lo n ∷ ts))) spans
plan_split total lo n ts spans some within below plan =
    (omega arith, below, (omega arith, (omega arith, below_more lo (lo + n / 2 + 1) spans (omega arith) below), (spans, refl, within, some, below, plan)))

-- how much is left to do
abbrev pub weight : Task → ℕ
weight (Build lo n) = 3 * n + 1
weight (Close lo n) = 1

abbrev pub weights : List Task → ℕ
weights [] = 0
weights (t ∷ ts) = weight t + weights ts
