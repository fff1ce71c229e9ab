-- The number of each refusal, with the values that it carries.
use Rattle.std.specs.Prelude.{◌≡◌, ℕ, ◌≤◌, List, [], ◌∷◌, length}
use Rattle.orders.specs.Refusal.{Told, told, refused}
use Rattle.journal.specs.declared.refusal.ListRefusal.{ListRefusal}
use Rattle.journal.specs.declared.refusal.ListRefusal.TheVariants as list
use Rattle.journal.specs.declared.refusal.Refusal.{Refusal}
use Rattle.journal.specs.declared.refusal.Refusal.TheVariants as book

-- of a rack and of a date line
abbrev pub list_refusal : ListRefusal → ℕ × List ℕ
list_refusal list.Present = (4, [])
list_refusal list.Absent = (5, [])
list_refusal list.Full = (6, [])

-- of a book and of a replay
abbrev pub book_refusal : Refusal → ℕ × List ℕ
book_refusal book.StampOutOfRange = (1, [])
book_refusal book.NumberOutOfRange = (2, [])
book_refusal book.StampTaken = (4, [])
book_refusal book.StampAbsent = (5, [])
book_refusal book.Full = (6, [])
book_refusal (book.NoFolder s) = (7, s ∷ [])
book_refusal book.TooSmall = (8, [])

-- a rack's or a date line's refusal, as the book gives it: under the same number
abbrev pub raised : ListRefusal → Refusal
raised list.Present = book.StampTaken
raised list.Absent = book.StampAbsent
raised list.Full = book.Full

-- A rule for a change: it gives what the thing becomes, or refuses.

-- what a thing is after a change by the rule: a refused one has changed nothing
abbrev pub later : {A : Type 0} → Told A → A → A
later (told a) before = a
later (refused n vs) before = before

-- the rule's reply, where an accepted change is answered with nothing more
abbrev pub accepted : {A : Type 0} → Told A → Told (Unit {0})
accepted (told a) = told tt
accepted (refused n vs) = refused n vs

-- What a call that changes a list promises. Of a list in good order: the reply is the rule's, the list comes to what the rule
-- gives, and stays in good order. Of any list: it keeps within the capacity, and a refusal changes nothing.
pub record Follows {A : Type 0} (right stays_right : Type 0) (capacity : ℕ) (rule : Told (List A)) (before after : List A) (reply : Told (Unit {0})) : Type 0 where
  pub replied : right → reply ≡ accepted rule
  pub followed : right → after ≡ later rule before
  pub kept : right → stays_right
  pub within : length after ≤ capacity
  pub untouched : (n : ℕ) (vs : List ℕ) → reply ≡ refused n vs → after ≡ before
