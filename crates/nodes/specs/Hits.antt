-- The first and the last hit of a probe in a list, and when a probe is lawful.
use Rattle.std.specs.Prelude.{◌≡◌, ℕ, suc, Bool, false, cond, ◌||◌, List, [], ◌∷◌, ◌++◌, length, Some, None, Option}
use Rattle.std.specs.Option.{option_or, unwrap_or}
use Rattle.std.specs.List.{slice_get}
use Rattle.nodes.specs.Tree.{Tree, items, summary}
use Rattle.nodes.specs.Rules.{Rules}

-- the probe past some items
abbrev pub passed : {P E S : Type 0} → Rules P E S → P → List E → P
passed rules p [] = p
passed rules p (x ∷ xs) = passed rules (rules.past p x) xs

-- whether any of the items is a hit
abbrev pub any_hit : {P E S : Type 0} → Rules P E S → P → List E → Bool
any_hit rules p [] = false
any_hit rules p (x ∷ xs) = rules.hits p x || any_hit rules (rules.past p x) xs

-- the place of the first hit, where the first item has the place `base`
abbrev pub first_in : {P E S : Type 0} → Rules P E S → P → ℕ → List E → Option ℕ
first_in rules p base [] = None
first_in rules p base (x ∷ xs) = cond (rules.hits p x) (Some base) (first_in rules (rules.past p x) (suc base) xs)

-- the place of the last hit
abbrev pub last_in : {P E S : Type 0} → Rules P E S → P → ℕ → List E → Option ℕ
last_in rules p base [] = None
last_in rules p base (x ∷ xs) = option_or (last_in rules (rules.past p x) (suc base) xs) (cond (rules.hits p x) (Some base) None)

-- how many items stand before the first hit, all where there is none, and the item that stands there
abbrev pub rank_in : {P E S : Type 0} → Rules P E S → P → List E → ℕ × Option E
rank_in rules p xs = let place = unwrap_or (first_in rules p 0 xs) (length xs) in (place, slice_get xs place)

-- on every part of the list, what the probe tells from a summary is what it finds item by item
pub record Lawful {P E S : Type 0} (empty : S) (whole : S → E → S → S) (rules : Rules P E S) (p : P) (list : List E) : Type 0 where
  pub passes : (xs : List E) (t : Tree E) (ys : List E) → list ≡ xs ++ (items t ++ ys) → rules.beyond (passed rules p xs) (summary empty whole t) ≡ passed rules (passed rules p xs) (items t)
  pub finds : (xs : List E) (t : Tree E) (ys : List E) → list ≡ xs ++ (items t ++ ys) → rules.reaches (passed rules p xs) (summary empty whole t) ≡ any_hit rules (passed rules p xs) (items t)
