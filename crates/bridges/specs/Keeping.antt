-- What else every call keeps of a journal: its entries within their bounds, its length within the capacity.
use Rattle.std.specs.Prelude.{◌≡◌, ℕ, ◌<◌, ◌≤◌, Bool, true, List, [], ◌∷◌, length}
use Rattle.orders.specs.Refusal.{told}
use Rattle.journal.specs.declared.folder.Folder.{Folder}
use Rattle.journal.specs.declared.entry.Entry.{Entry}
use Rattle.journal.specs.declared.entry.Entry.TheVariants.{Arrival, Taking}
use Rattle.journal.specs.declared.call.Call.{Call}
use Rattle.journal.specs.Replay.{stamp_of, waiting}
use Rattle.journal.specs.Entering.{stamp_in_range, number_in_range}
use Rattle.journal.specs.Calls.{joined, defined_reply}
use Rattle.bridges.specs.Law.{Asked, Right, journal_after}

module _ {P : Type 0} (not_behind : P → P → Bool) (canonical : P → P) where
  -- an entry's priority, if it has one, is held as what it means
  abbrev pub HeldAsMeant : Entry P → Type 0
  HeldAsMeant (Arrival f) = canonical f.priority ≡ f.priority
  HeldAsMeant (Taking s) = Unit {0}

  -- an entry that a book may hold
  pub record Fit (e : Entry P) : Type 0 where
    pub stamp : stamp_in_range (stamp_of e) ≡ true
    pub number : number_in_range e ≡ true
    pub meant : HeldAsMeant e

  abbrev pub AllFit : List (Entry P) → Type 0
  AllFit [] = Unit {0}
  AllFit (e ∷ es) = Fit e × AllFit es

  -- from any journal, over any list of calls
  pub record Keeps : Type 0 where
    pub fit : (capacity : ℕ) (es : List (Entry P)) (asked : List (Asked P)) → AllFit es → AllFit (journal_after not_behind canonical capacity es asked)
    pub within : (capacity : ℕ) (es : List (Entry P)) (asked : List (Asked P)) → length es ≤ capacity → length (journal_after not_behind canonical capacity es asked) ≤ capacity
    -- no more folders wait than there are entries, so a rack of the book's capacity has room for whoever joins
    pub waiting_within : (es : List (Entry P)) → length (waiting not_behind es) ≤ length es
    pub room : (capacity spare : ℕ) (es : List (Entry P)) (c : Call P) (m : Folder P) → Right not_behind canonical es → length es ≤ capacity
        → defined_reply not_behind canonical capacity spare es c ≡ told (joined m) → length (waiting not_behind es) < capacity
