-- A date line follows a rule's change of rows: its own rules for put, remove and mark accept each part of it.
use Rattle.std.specs.Prelude.{◌≡◌, ℕ, ◌<◌, true, false, List, length, Some}
use Rattle.std.specs.List.{slice_get}
use Rattle.orders.specs.Refusal.{told}
use Rattle.journal.specs.declared.folder.Folder.{Folder}
use Rattle.journal.specs.declared.row.Row.{Row}
use Rattle.journal.specs.declared.row.Row.TheVariants.{Arrival}
use Rattle.journal.specs.declared.row.Mark.{Mark}
use Rattle.journal.specs.Replay.{stamp_of, by_stamp, dated}
use Rattle.journal.specs.Rows.{entry_of, entries}
use Rattle.journal.specs.Searches.{earlier}
use Rattle.journal.specs.Changes.{put_row, removed_at, mark_at}
use Rattle.journal.specs.DateLines.{put_row_rule, remove_row_rule, mark_rule}

-- marking a row changes neither the journal, nor the count, nor any place
pub record SameJournal {P : Type 0} (rs changed : List (Row P)) : Type 0 where
  pub entries_same : entries changed ≡ entries rs
  pub length_same : length changed ≡ length rs
  pub places_same : (s : ℕ) → earlier changed s ≡ earlier rs s

pub record LineFollows (P : Type 0) : Type 0 where
  pub put : (capacity : ℕ) (rs : List (Row P)) (r : Row P) → dated (stamp_of (entry_of r)) (entries rs) ≡ false → length rs < capacity → put_row_rule capacity rs r ≡ told (put_row r rs)
  pub mark : (rs : List (Row P)) (k : ℕ) (f : Folder P) (old new : Mark) → slice_get rs k ≡ Some (Arrival f old) → mark_rule rs k new ≡ told (mark_at new k rs)
  pub mark_same : (rs : List (Row P)) (k : ℕ) (new : Mark) → SameJournal rs (mark_at new k rs)
  pub remove : (rs : List (Row P)) (s : ℕ) → by_stamp (entries rs) ≡ true → dated s (entries rs) ≡ true → remove_row_rule rs (earlier rs s) ≡ told (removed_at (earlier rs s) rs)
