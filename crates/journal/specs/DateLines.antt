-- What a date line's calls do to its rows.
use Rattle.std.specs.Prelude.{ℕ, Bool, true, false, cond, List, [], length, Some, None, Option, nat_lt}
use Rattle.std.specs.List.{slice_get}
use Rattle.orders.specs.Refusal.{Told, told, refused}
use Rattle.journal.specs.declared.row.Row.{Row}
use Rattle.journal.specs.declared.row.Row.TheVariants.{Arrival, Taking}
use Rattle.journal.specs.declared.row.Mark.{Mark}
use Rattle.journal.specs.Changes.{put_row, removed_at, mark_at}
use Rattle.journal.specs.Replay.{stamp_of, dated}
use Rattle.journal.specs.Rows.{entry_of, entries}

module _ {P : Type 0} where
  -- putting a row at its stamp: refused 4 where the stamp is there, else 6 where the line is full
  abbrev pub put_row_rule : ℕ → List (Row P) → Row P → Told (List (Row P))
  put_row_rule capacity rs r = cond (dated (stamp_of (entry_of r)) (entries rs)) (refused 4 []) (cond (nat_lt (length rs) capacity) (told (put_row r rs)) (refused 6 []))

  -- removing the row at a place: refused 5 where there is none
  abbrev pub remove_row_rule : List (Row P) → ℕ → Told (List (Row P))
  remove_row_rule rs k = cond (nat_lt k (length rs)) (told (removed_at k rs)) (refused 5 [])

  -- there is an arrival
  abbrev pub is_arrival : Option (Row P) → Bool
  is_arrival None = false
  is_arrival (Some (Arrival f m)) = true
  is_arrival (Some (Taking s)) = false

  -- marking the arrival at a place: refused 5 where there is none
  abbrev pub mark_rule : List (Row P) → ℕ → Mark → Told (List (Row P))
  mark_rule rs k m = cond (is_arrival (slice_get rs k)) (told (mark_at m k rs)) (refused 5 [])
