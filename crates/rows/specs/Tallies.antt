-- The running sums of a part's rows, held to 32 bits.
use Rattle.std.specs.Prelude.{ℤ, ◌+ℤ◌, Some, None, Option}
use Rattle.std.specs.Int.{int_min, saturate_to_bits}
use Rattle.std.specs.Option.{option_map}
use Rattle.rows.specs.declared.tally.Tally.{Tally}

-- the one that is chosen of two, where there are two
abbrev pub chosen : {A : Type 0} → (A → A → A) → Option A → Option A → Option A
chosen choose None b = b
chosen choose (Some x) None = Some x
chosen choose (Some x) (Some y) = Some (choose x y)

-- the lesser of two numbers, where there are two
abbrev pub lesser : Option ℤ → Option ℤ → Option ℤ
lesser a b = chosen int_min a b

-- the sum that 32 bits hold
abbrev pub plus : ℤ → ℤ → ℤ
plus a b = saturate_to_bits 31 (a +ℤ b)

-- the tally of one row
abbrev pub tally_of : ℤ → Tally
tally_of step = record { total = step; least = Some step }

-- the tally of some rows and then others
abbrev pub tally_then : Tally → Tally → Tally
tally_then a b = record { total = plus a.total b.total; least = lesser a.least (option_map (plus a.total) b.least) }
