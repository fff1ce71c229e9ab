-- The law over lists of calls, at the level of journals: by the defined replies, who joins and who leaves the waiting list.
use Rattle.std.specs.Prelude.{◌≡◌, ℕ, ◌+◌, Bool, true, false, cond, ◌||◌, ◌↔◌, List, [], ◌∷◌}
use Rattle.orders.specs.Refusal.{Told, told, refused}
use Rattle.journal.specs.declared.folder.Folder.{Folder}
use Rattle.journal.specs.declared.entry.Entry.{Entry}
use Rattle.journal.specs.declared.call.Call.{Call}
use Rattle.journal.specs.Replay.{waiting, sound, by_stamp}
use Rattle.journal.specs.Calls.{Answer, joined, left, counted, waits_at, standing_is, stood_there, defined_reply, later_journal}
use Rattle.bridges.specs.Counting.{count}
use Rattle.bridges.specs.Movers.{OneApart}

-- a call as it is made: with it goes a spare rack, of some capacity, for a look back
pub record Asked (P : Type 0) : Type 0 where
  pub call : Call P
  pub spare : ℕ

-- how often these replies said joined of a folder that passes a test, and how often left
abbrev pub joined_by : {P : Type 0} → (Folder P → Bool) → Told (Answer P) → ℕ
joined_by t (told (joined f)) = cond (t f) 1 0
joined_by t (told (left f)) = 0
joined_by t (told (counted n)) = 0
joined_by t (told (waits_at o)) = 0
joined_by t (told (standing_is s)) = 0
joined_by t (told (stood_there fs)) = 0
joined_by t (refused n vs) = 0

abbrev pub left_by : {P : Type 0} → (Folder P → Bool) → Told (Answer P) → ℕ
left_by t (told (joined f)) = 0
left_by t (told (left f)) = cond (t f) 1 0
left_by t (told (counted n)) = 0
left_by t (told (waits_at o)) = 0
left_by t (told (standing_is s)) = 0
left_by t (told (stood_there fs)) = 0
left_by t (refused n vs) = 0

abbrev pub total_of : {P : Type 0} → (Told (Answer P) → ℕ) → List (Told (Answer P)) → ℕ
total_of n [] = 0
total_of n (r ∷ rs) = n r + total_of n rs

-- one of these folders passes a test
abbrev pub any : {P : Type 0} → (Folder P → Bool) → List (Folder P) → Bool
any t [] = false
any t (f ∷ fs) = t f || any t fs

module _ {P : Type 0} (not_behind : P → P → Bool) (canonical : P → P) where
  -- a journal that a book can have: by rising stamp, and sound
  pub record Right (es : List (Entry P)) : Type 0 where
    pub order : by_stamp es ≡ true
    pub served : sound not_behind es ≡ true

  -- the replies to a list of calls, each by the journal that the calls before it left
  abbrev pub replies : ℕ → List (Entry P) → List (Asked P) → List (Told (Answer P))
  replies capacity es [] = []
  replies capacity es (a ∷ rest) = defined_reply not_behind canonical capacity a.spare es a.call ∷ replies capacity (later_journal not_behind canonical capacity es a.call) rest

  -- the journal that a list of calls leaves
  abbrev pub journal_after : ℕ → List (Entry P) → List (Asked P) → List (Entry P)
  journal_after capacity es [] = es
  journal_after capacity es (a ∷ rest) = journal_after capacity (later_journal not_behind canonical capacity es a.call) rest

  -- how a reply says the waiting list changes: by the one folder named, which joins or leaves, or not at all
  abbrev pub MovesAs : Told (Answer P) → List (Folder P) → List (Folder P) → Type 0
  MovesAs (told (joined m)) before after = OneApart not_behind m before after
  MovesAs (told (left m)) before after = OneApart not_behind m after before
  MovesAs (told (counted n)) before after = after ≡ before
  MovesAs (told (waits_at o)) before after = after ≡ before
  MovesAs (told (standing_is s)) before after = after ≡ before
  MovesAs (told (stood_there fs)) before after = after ≡ before
  MovesAs (refused n vs) before after = after ≡ before

  -- at each call of a list the waiting list changes as the reply says
  abbrev pub EachMoves : ℕ → List (Entry P) → List (Asked P) → Type 0
  EachMoves capacity es [] = Unit {0}
  EachMoves capacity es (a ∷ rest) =
      MovesAs (defined_reply not_behind canonical capacity a.spare es a.call) (waiting not_behind es) (waiting not_behind (later_journal not_behind canonical capacity es a.call))
      × EachMoves capacity (later_journal not_behind canonical capacity es a.call) rest

  -- for any list of calls, from any journal that a book can have
  pub record LawOfCalls : Type 0 where
    -- only an accepted correction changes the waiting list, by the one folder that its reply names
    pub named : (capacity : ℕ) (es : List (Entry P)) (asked : List (Asked P)) → Right es → EachMoves capacity es asked
    -- equal capacity and journal give equal replies, and leave equal journals
    pub alike : (capacity capacity' : ℕ) (es es' : List (Entry P)) (asked : List (Asked P)) → capacity ≡ capacity' → es ≡ es'
        → (replies capacity es asked ≡ replies capacity' es' asked) × (journal_after capacity es asked ≡ journal_after capacity' es' asked)
    -- of the folders that pass any test, as many joined, with those waiting at first, as left, with those waiting now
    pub counted_out : (capacity : ℕ) (es : List (Entry P)) (asked : List (Asked P)) (t : Folder P → Bool) → Right es
        → total_of (joined_by t) (replies capacity es asked) + count t (waiting not_behind es) ≡ total_of (left_by t) (replies capacity es asked) + count t (waiting not_behind (journal_after capacity es asked))
    -- from the empty journal each folder joined as often as it left, and once more if it is waiting now
    pub each_folder : (capacity : ℕ) (asked : List (Asked P)) (f : Folder P) (is_f : Folder P → Bool) → ((g : Folder P) → (is_f g ≡ true) ↔ (g ≡ f))
        → total_of (joined_by is_f) (replies capacity [] asked) ≡ total_of (left_by is_f) (replies capacity [] asked) + cond (any is_f (waiting not_behind (journal_after capacity [] asked))) 1 0
    -- the journal stays one that a book can have
    pub stays_right : (capacity : ℕ) (es : List (Entry P)) (asked : List (Asked P)) → Right es → Right (journal_after capacity es asked)
