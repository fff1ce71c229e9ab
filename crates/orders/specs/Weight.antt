-- What a weight means: its decoded bytes, where a held number above the bound means the bound.
use Rattle.std.specs.Prelude.{ℕ, min, Bool, cond, ◌&&◌, List, [], ◌∷◌, drop, ◌==◌, nat_le, slice_index}
use Rattle.orders.specs.declared.weight.Weight.{Weight}
use Rattle.orders.specs.Bytes.{bytes, number}
use Rattle.orders.specs.Refusal.{Told, told, refused}

-- the greatest weight
abbrev pub most_bytes : ℕ
most_bytes = 999999999999

-- a weight's decoded bytes
abbrev pub decoded : Weight → ℕ
decoded w = min w.held most_bytes

-- the lesser weight is ahead
abbrev pub weight_not_behind : Weight → Weight → Bool
weight_not_behind a b = nat_le (decoded a) (decoded b)

-- the same weight, held as what it means
abbrev pub weight_canonical : Weight → Weight
weight_canonical w = record { held = decoded w }

-- equal: the same decoded bytes
abbrev pub weight_equals : Weight → Weight → Bool
weight_equals a b = decoded a == decoded b

-- the weight of a number of bytes, refused above the bound
abbrev pub weight_made : ℕ → Told Weight
weight_made n = cond (nat_le n most_bytes) (told (record { held = n })) (refused 3 [])

-- four zero bytes, and eight of number
abbrev pub weight_written : Weight → List ℕ
weight_written w = 0 ∷ 0 ∷ 0 ∷ 0 ∷ bytes 8 (decoded w)

-- the weight that twelve bytes write, or refused
abbrev pub weight_reading : List ℕ → Told Weight
weight_reading bs =
    cond (slice_index bs 0 == 0 && (slice_index bs 1 == 0 && (slice_index bs 2 == 0 && slice_index bs 3 == 0)))
    (weight_made (number (drop 4 bs))) (refused 3 [])
