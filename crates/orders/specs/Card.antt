-- What a card means: day, class and name, where a held number above its bound means the bound.
use Rattle.std.specs.Prelude.{ℕ, min, Bool, cond, ◌&&◌, List, [], ◌∷◌, ◌++◌, take, drop, ◌==◌, nat_le, nat_lt, slice_index}
use Rattle.orders.specs.declared.card.Card.{Card}
use Rattle.orders.specs.Bytes.{bytes, number}
use Rattle.orders.specs.Refusal.{Told, told, refused}

-- the greatest day, class and name
abbrev pub most_day : ℕ
most_day = 65535

abbrev pub most_class : ℕ
most_class = 15

abbrev pub most_name : ℕ
most_name = 18446744073709551615

-- a card's deadline day, its class, and its client's name as one number
abbrev pub day_of : Card → ℕ
day_of c = min c.day most_day

abbrev pub class_of : Card → ℕ
class_of c = min c.class most_class

abbrev pub name_of : Card → ℕ
name_of c = min c.name most_name

-- the lesser day is ahead, then the lesser class, then the lesser name
abbrev pub card_not_behind : Card → Card → Bool
card_not_behind a b =
    cond (day_of a == day_of b)
    (cond (class_of a == class_of b) (nat_le (name_of a) (name_of b)) (nat_lt (class_of a) (class_of b)))
    (nat_lt (day_of a) (day_of b))

-- the same card, held as what it means
abbrev pub card_canonical : Card → Card
card_canonical c = record { day = day_of c; class = class_of c; name = name_of c }

-- equal: the same day, class and name
abbrev pub card_equals : Card → Card → Bool
card_equals a b = day_of a == day_of b && (class_of a == class_of b && name_of a == name_of b)

-- the card of three numbers, refused where one is above its bound
abbrev pub card_made : ℕ → ℕ → ℕ → Told Card
card_made d k n =
    cond (nat_le d most_day && (nat_le k most_class && nat_le n most_name)) (told (record { day = d; class = k; name = n })) (refused 3 [])

-- two bytes of day, one of class, a zero byte, and eight of name
abbrev pub card_written : Card → List ℕ
card_written c = bytes 2 (day_of c) ++ (class_of c ∷ 0 ∷ bytes 8 (name_of c))

-- the card that twelve bytes write, or refused
abbrev pub card_reading : List ℕ → Told Card
card_reading bs = cond (slice_index bs 3 == 0) (card_made (number (take 2 bs)) (slice_index bs 2) (number (drop 4 bs))) (refused 3 [])
