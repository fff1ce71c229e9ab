-- What a flat rack's slots and count mean.
use Rattle.std.specs.Prelude.{ℕ, min, List, length, take}
use Rattle.journal.specs.Racks.{most_entries}

-- the capacity: the number of slots, or the greatest capacity where there are more
abbrev pub flat_capacity : {A : Type 0} → List A → ℕ
flat_capacity slots = min (length slots) most_entries

-- how many slots are in use: a count above the capacity means the capacity
abbrev pub in_use : {A : Type 0} → List A → ℕ → ℕ
in_use slots count = min count (flat_capacity slots)

-- the items: the first slots, as many as are in use
abbrev pub flat_items : {A : Type 0} → List A → ℕ → List A
flat_items slots count = take (in_use slots count) slots
