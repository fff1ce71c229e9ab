-- Which summaries a list has. How the items are bracketed is left open, since nothing says that it makes no difference.
use Rattle.std.specs.Prelude.{◌≡◌, List, [], ◌∷◌, ◌++◌, Some, None, Option}
use Rattle.nodes.specs.declared.pending.Pending.{Pending}
use Rattle.nodes.specs.Tree.{Tree, items, summary}

-- the sum is that of some tree of just these items, in this order
pub record Summarizes {E S : Type 0} (empty : S) (whole : S → E → S → S) (list : List E) (sum : S) : Type 0 where
  pub tree : Tree E
  pub lists : items tree ≡ list
  pub sums : summary empty whole tree ≡ sum

-- the list ends with the pending item, and the sum is of those before it; nothing pends after no items
abbrev pub Ends : {E S : Type 0} → S → (S → E → S → S) → List E → Option (Pending E S) → Type 0
Ends empty whole list None = list ≡ []
Ends {E} empty whole list (Some p) = (front : List E) × Summarizes empty whole front p.sum × (list ≡ front ++ (p.item ∷ []))

-- the list begins with the pending item, and the sum is of those after it
abbrev pub Begins : {E S : Type 0} → S → (S → E → S → S) → List E → Option (Pending E S) → Type 0
Begins empty whole list None = list ≡ []
Begins {E} empty whole list (Some p) = (back : List E) × Summarizes empty whole back p.sum × (list ≡ p.item ∷ back)
