-- What is done to rows: one more by its stamp, the one at a place removed, the arrival at a place marked.
use Rattle.std.specs.Prelude.{ℕ, zero, suc, List, [], ◌∷◌}
use Rattle.std.specs.List.{insert, remove}
use Rattle.journal.specs.declared.row.Row.{Row}
use Rattle.journal.specs.declared.row.Row.TheVariants.{Arrival, Taking}
use Rattle.journal.specs.declared.row.Mark.{Mark}
use Rattle.journal.specs.Replay.{stamp_of}
use Rattle.journal.specs.Rows.{entry_of}
use Rattle.journal.specs.Searches.{earlier}

-- the rows with one row more, in its place by stamp
abbrev pub put_row : {P : Type 0} → Row P → List (Row P) → List (Row P)
put_row r rs = insert rs (earlier rs (stamp_of (entry_of r))) r

-- the rows without the one at a place
abbrev pub removed_at : {P : Type 0} → ℕ → List (Row P) → List (Row P)
removed_at k rs = remove rs k

-- a row with this mark, if it is an arrival's
abbrev pub marked_as : {P : Type 0} → Mark → Row P → Row P
marked_as m (Arrival f k) = Arrival f m
marked_as m (Taking s) = Taking s

-- the rows with the one at a place marked
abbrev pub mark_at : {P : Type 0} → Mark → ℕ → List (Row P) → List (Row P)
mark_at m k [] = []
mark_at m zero (r ∷ rs) = marked_as m r ∷ rs
mark_at m (suc k) (r ∷ rs) = r ∷ mark_at m k rs
