-- Places: what the places that a date line answers with stand for, and the folder with so many ahead of it.
use Rattle.std.specs.Prelude.{◌≡◌, ℕ, ◌≤◌, Bool, true, List, [], length, take, drop, Some, None}
use mathlib.Core.List.{Memᴰ}
use Rattle.std.specs.List.{slice_get}
use Rattle.journal.specs.declared.folder.Folder.{Folder}
use Rattle.journal.specs.declared.entry.Entry.{Entry}
use Rattle.journal.specs.declared.row.Row.{Row}
use Rattle.journal.specs.declared.row.Row.TheVariants.{Arrival}
use Rattle.journal.specs.declared.row.Mark.TheVariants.{Waiting, Fetched}
use Rattle.journal.specs.Folders.{ahead, Foremost, Hindmost}
use Rattle.journal.specs.Replay.{stamp_of, by_stamp, dated, waiting}
use Rattle.journal.specs.Rows.{entry_of, entries, Bridge}
use Rattle.journal.specs.Searches.{earlier, place_in, first_low_stock, first_low_balance, last_low_balance, folders_marked, hindmost_fetched_from, foremost_waiting_before}
use Rattle.bridges.specs.Counting.{count}
use Rattle.bridges.specs.Rules.{Kept}

module _ {P : Type 0} (not_behind : P → P → Bool) where
  -- the searches from a place above the count answer as from the count
  pub record ReadAsCount (rs : List (Row P)) (p : ℕ) : Type 0 where
    pub stock_from : first_low_stock rs p ≡ first_low_stock rs (length rs)
    pub balance_from : first_low_balance rs p ≡ first_low_balance rs (length rs)
    pub balance_to : last_low_balance rs p ≡ last_low_balance rs (length rs)
    pub hindmost_from : hindmost_fetched_from not_behind rs p ≡ hindmost_fetched_from not_behind rs (length rs)
    pub foremost_before : foremost_waiting_before not_behind rs p ≡ foremost_waiting_before not_behind rs (length rs)

  pub record PlacesTold : Type 0 where
    -- a stamp that is there stands at the place found; the row at a place is found there
    pub stamp_found : (rs : List (Row P)) (s : ℕ) → by_stamp (entries rs) ≡ true → dated s (entries rs) ≡ true → (r : Row P) × (slice_get rs (earlier rs s) ≡ Some r) × (stamp_of (entry_of r) ≡ s)
    pub row_found : (rs : List (Row P)) (k : ℕ) (r : Row P) → by_stamp (entries rs) ≡ true → slice_get rs k ≡ Some r → earlier rs (stamp_of (entry_of r)) ≡ k
    pub within : (rs : List (Row P)) (s : ℕ) → earlier rs s ≤ length rs
    pub above_count : (rs : List (Row P)) (p : ℕ) → length rs ≤ p → ReadAsCount rs p
    -- the place of the hindmost fetched arrival, and of the foremost waiting one
    pub hindmost_place : (rs : List (Row P)) (q k : ℕ) → by_stamp (entries rs) ≡ true → hindmost_fetched_from not_behind rs q ≡ Some k
        → (m : Folder P) × (slice_get rs k ≡ Some (Arrival m Fetched)) × Hindmost not_behind m (folders_marked Fetched (drop (place_in rs q) rs))
    pub hindmost_none : (rs : List (Row P)) (q : ℕ) → hindmost_fetched_from not_behind rs q ≡ None → folders_marked Fetched (drop (place_in rs q) rs) ≡ []
    pub foremost_place : (rs : List (Row P)) (q k : ℕ) → by_stamp (entries rs) ≡ true → foremost_waiting_before not_behind rs q ≡ Some k
        → (m : Folder P) × (slice_get rs k ≡ Some (Arrival m Waiting)) × Foremost not_behind m (folders_marked Waiting (take (place_in rs q) rs))
    pub foremost_none : (rs : List (Row P)) (q : ℕ) → foremost_waiting_before not_behind rs q ≡ None → folders_marked Waiting (take (place_in rs q) rs) ≡ []
    -- there is always a last bridge up to a place, and a first bridge from it
    pub last_bridge : (rs : List (Row P)) (p : ℕ) → Kept not_behind rs → (b : ℕ) × (last_low_balance rs p ≡ Some b) × Bridge rs b
    pub first_bridge : (rs : List (Row P)) (p : ℕ) → Kept not_behind rs → (b : ℕ) × (first_low_balance rs p ≡ Some b) × Bridge rs b
    -- waiting at k is the waiting folder with exactly k waiting folders ahead of it
    pub waiting_at : (es : List (Entry P)) (k : ℕ) (f : Folder P) → by_stamp es ≡ true → slice_get (waiting not_behind es) k ≡ Some f
        → Memᴰ f (waiting not_behind es) × (count (λ g. ahead not_behind g f) (waiting not_behind es) ≡ k)
    pub waiting_with : (es : List (Entry P)) (k : ℕ) (f : Folder P) → by_stamp es ≡ true → Memᴰ f (waiting not_behind es) → count (λ g. ahead not_behind g f) (waiting not_behind es) ≡ k
        → slice_get (waiting not_behind es) k ≡ Some f
