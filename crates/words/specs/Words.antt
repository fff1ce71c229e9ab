-- Lines, words and numbers in bytes.
use Rattle.std.specs.Prelude.{ℕ, ◌+◌, ◌-◌, ◌*◌, min, Bool, true, not, if◌then◌else◌, ◌&&◌, ◌||◌, List, [], ◌∷◌, take, drop, Some, None, fold, Option, ◌==◌, nat_le}
use Rattle.std.specs.List.{prefix_len}

-- how many bytes stand before the first that is the mark
abbrev pub until : ℕ → List ℕ → ℕ
until mark bs = prefix_len (λ b. not (b == mark)) bs

-- the bytes before the first mark, and those after it
abbrev pub before : ℕ → List ℕ → List ℕ
before mark bs = take (until mark bs) bs

abbrev pub after : ℕ → List ℕ → List ℕ
after mark bs = drop (until mark bs + 1) bs

-- a space, a tab or a carriage return
abbrev pub blank : ℕ → Bool
blank b = b == 32 || (b == 9 || b == 13)

-- the bytes from the first that is no blank
abbrev pub unblanked : List ℕ → List ℕ
unblanked bs = drop (prefix_len blank bs) bs

-- how long the word is that bytes begin with
abbrev pub word_length : List ℕ → ℕ
word_length bs = prefix_len (λ b. not (blank b)) bs

-- the first word, empty where there is none, and the bytes after it
abbrev pub first_word : List ℕ → List ℕ
first_word bs = take (word_length (unblanked bs)) (unblanked bs)

abbrev pub past_word : List ℕ → List ℕ
past_word bs = drop (word_length (unblanked bs)) (unblanked bs)

-- a decimal digit, 0 to 9
abbrev pub digit : ℕ → Bool
digit b = nat_le 48 b && nat_le b 57

-- the number that digits write after a number
abbrev pub decimal_after : ℕ → List ℕ → ℕ
decimal_after n bs = fold (λ m b. m * 10 + (b - 48)) n bs

-- each is a digit
abbrev pub digits : List ℕ → Bool
digits [] = true
digits (b ∷ bs) = digit b && digits bs

-- a word of digits reads as its number, or as the largest where that is greater; no other word reads
abbrev pub decimal : ℕ → List ℕ → Option ℕ
decimal largest [] = None
decimal largest (b ∷ bs) = (if digits (b ∷ bs) then Some (min (decimal_after 0 (b ∷ bs)) largest) else None)
