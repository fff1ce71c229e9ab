-- What a caller is told: a value, or a refusal by its number and the values that it carries.
use Rattle.std.specs.Prelude.{ℕ, List, [], ◌∷◌, ◌++◌, Ok, Err, Result, codes}
use Rattle.std.specs.Fmt.{decimal}
use Rattle.std.specs.List.{flat_map}
use Rattle.orders.specs.declared.priority.PriorityFault.{PriorityFault}
use Rattle.orders.specs.declared.priority.PriorityFault.TheVariants.{OutOfBounds}

pub data Told (A : Type 0) : Type 0 where
  told : A → Told A
  refused : ℕ → List ℕ → Told A

-- what a result tells, where `refusal` gives each fault its number and values
abbrev pub reply : {A E : Type 0} → (E → ℕ × List ℕ) → Result A E → Told A
reply refusal (Ok a) = told a
reply refusal (Err e) = refused (refusal e).0 (refusal e).1

-- a refusal in print: its number and its values, each after a space
abbrev pub refusal_text : ℕ × List ℕ → List ℕ
refusal_text (n, vs) = codes "refused" ++ flat_map (λ v. 32 ∷ decimal v) (n ∷ vs)

-- a priority's part is out of bounds: 3
abbrev pub priority_refusal : PriorityFault → ℕ × List ℕ
priority_refusal OutOfBounds = (3, [])
