-- Marks: after a rule's change of rows, the marks agree with the replay of the corrected journal.
use Rattle.std.specs.Prelude.{◌≡◌, ℕ, Bool, true, false, cond, List, Some, None, Option}
use Rattle.journal.specs.declared.folder.Folder.{Folder}
use Rattle.journal.specs.declared.entry.Entry.{Entry}
use Rattle.journal.specs.declared.entry.Entry.TheVariants as entry
use Rattle.journal.specs.declared.row.Row.{Row}
use Rattle.journal.specs.declared.row.Row.TheVariants.{Arrival, Taking}
use Rattle.journal.specs.declared.row.Mark.{Mark}
use Rattle.journal.specs.declared.row.Mark.TheVariants.{Waiting, Fetched}
use Rattle.journal.specs.Folders.{ahead, has_stamp}
use Rattle.journal.specs.Replay.{waiting, sound, dated, entered, struck}
use Rattle.journal.specs.Rows.{entries}
use Rattle.journal.specs.Searches.{earlier}
use Rattle.journal.specs.Changes.{put_row, removed_at, mark_at}
use Rattle.journal.specs.Movers.{entry_at}
use Rattle.bridges.specs.Rules.{hindmost_since_bridge, taking_rule, fetched_revoked_rule, taking_revoked_rule, Kept}

-- the rows with the mover's new mark, if there is a mover
abbrev pub mover_marked : {P : Type 0} → Mark → List (Row P) → Option (Folder P) → List (Row P)
mover_marked k rs None = rs
mover_marked k rs (Some m) = mark_at k (earlier rs m.stamp) rs

module _ {P : Type 0} (not_behind : P → P → Bool) where
  -- the rows after an arrival, where g is the hindmost fetched folder since the last bridge: the hinder of the two is waiting now
  abbrev pub arrival_change : List (Row P) → Folder P → Option (Folder P) → List (Row P)
  arrival_change rs f None = put_row (Arrival f Waiting) rs
  arrival_change rs f (Some g) = cond (ahead not_behind f g) (put_row (Arrival f Fetched) (mark_at Waiting (earlier rs g.stamp) rs)) (put_row (Arrival f Waiting) rs)

  -- the rows after each correction
  abbrev pub arrival_rows : List (Row P) → Folder P → List (Row P)
  arrival_rows rs f = arrival_change rs f (hindmost_since_bridge not_behind rs (earlier rs f.stamp))

  abbrev pub taking_rows : List (Row P) → ℕ → List (Row P)
  taking_rows rs s = put_row (Taking s) (mover_marked Fetched rs (taking_rule not_behind rs s))

  abbrev pub waiting_revoked_rows : List (Row P) → ℕ → List (Row P)
  waiting_revoked_rows rs s = removed_at (earlier rs s) rs

  abbrev pub fetched_revoked_rows : List (Row P) → ℕ → List (Row P)
  fetched_revoked_rows rs s = removed_at (earlier rs s) (mover_marked Fetched rs (fetched_revoked_rule not_behind rs s))

  abbrev pub taking_revoked_rows : List (Row P) → ℕ → List (Row P)
  taking_revoked_rows rs s = removed_at (earlier rs s) (mover_marked Waiting rs (taking_revoked_rule not_behind rs s))

  -- the rows carry this journal, and are kept as they must be
  pub record Carries (rs : List (Row P)) (es : List (Entry P)) : Type 0 where
    pub journal : entries rs ≡ es
    pub kept : Kept not_behind rs

  pub record MarksKept : Type 0 where
    pub arrival : (rs : List (Row P)) (f : Folder P) → Kept not_behind rs → dated f.stamp (entries rs) ≡ false
        → Carries (arrival_rows rs f) (entered (entry.Arrival f) (entries rs))
    pub taking : (rs : List (Row P)) (s : ℕ) → Kept not_behind rs → dated s (entries rs) ≡ false → sound not_behind (entered (entry.Taking s) (entries rs)) ≡ true
        → Carries (taking_rows rs s) (entered (entry.Taking s) (entries rs))
    pub waiting_revoked : (rs : List (Row P)) (s : ℕ) (f : Folder P) → Kept not_behind rs → entry_at s (entries rs) ≡ Some (entry.Arrival f) → has_stamp s (waiting not_behind (entries rs)) ≡ true
        → Carries (waiting_revoked_rows rs s) (struck s (entries rs))
    pub fetched_revoked : (rs : List (Row P)) (s : ℕ) (f : Folder P) → Kept not_behind rs → entry_at s (entries rs) ≡ Some (entry.Arrival f) → has_stamp s (waiting not_behind (entries rs)) ≡ false
        → sound not_behind (struck s (entries rs)) ≡ true → Carries (fetched_revoked_rows rs s) (struck s (entries rs))
    pub taking_revoked : (rs : List (Row P)) (s t : ℕ) → Kept not_behind rs → entry_at s (entries rs) ≡ Some (entry.Taking t)
        → Carries (taking_revoked_rows rs s) (struck s (entries rs))
