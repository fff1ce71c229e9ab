-- The five bridge rules: who moves at a correction, found on marked rows by the last bridge up to a place and the first bridge from it.
use Rattle.std.specs.Prelude.{◌≡◌, ℕ, suc, Bool, true, false, cond, List, Some, None, Option}
use Rattle.std.specs.Option.{option_map, option_flatten}
use Rattle.std.specs.List.{slice_get}
use Rattle.journal.specs.declared.folder.Folder.{Folder}
use Rattle.journal.specs.declared.entry.Entry.TheVariants as entry
use Rattle.journal.specs.declared.row.Row.{Row}
use Rattle.journal.specs.declared.row.Row.TheVariants.{Arrival, Taking}
use Rattle.journal.specs.Folders.{ahead, has_stamp}
use Rattle.journal.specs.Replay.{waiting, sound, by_stamp, dated, entered, struck}
use Rattle.journal.specs.Rows.{entries, MarksAgree}
use Rattle.journal.specs.Searches.{earlier, first_low_balance, last_low_balance, hindmost_fetched_from, foremost_waiting_before}
use Rattle.journal.specs.Movers.{entry_at, arrival_mover, taking_mover}

-- the answer to a second question, put to the answer of the first, if there is one
abbrev pub and_then : {A B : Type 0} → Option A → (A → Option B) → Option B
and_then o ask = option_flatten (option_map ask o)

-- the folder of an arrival's row
abbrev pub folder_of : {P : Type 0} → Row P → Option (Folder P)
folder_of (Arrival f m) = Some f
folder_of (Taking s) = None

-- the folder of the arrival at a place, or none
abbrev pub folder_at : {P : Type 0} → List (Row P) → ℕ → Option (Folder P)
folder_at rs k = and_then (slice_get rs k) folder_of

module _ {P : Type 0} (not_behind : P → P → Bool) where
  -- the hindmost of a folder and perhaps another
  abbrev pub hinder : Folder P → Option (Folder P) → Folder P
  hinder f None = f
  hinder f (Some g) = cond (ahead not_behind f g) g f

  -- the hindmost fetched folder in the rows from the last bridge up to a place onward
  abbrev pub hindmost_since_bridge : List (Row P) → ℕ → Option (Folder P)
  hindmost_since_bridge rs p = and_then (last_low_balance rs p) (λ b. and_then (hindmost_fetched_from not_behind rs b) (folder_at rs))

  -- the foremost waiting folder before the first bridge from a place
  abbrev pub foremost_before_bridge : List (Row P) → ℕ → Option (Folder P)
  foremost_before_bridge rs q = and_then (first_low_balance rs q) (λ b. and_then (foremost_waiting_before not_behind rs b) (folder_at rs))

  -- arrival: the hindmost of the new folder and the fetched ones since the last bridge joins
  abbrev pub arrival_rule : List (Row P) → Folder P → Folder P
  arrival_rule rs f = hinder f (hindmost_since_bridge rs (earlier rs f.stamp))

  -- taking: the foremost waiting folder before the first bridge from its place leaves
  abbrev pub taking_rule : List (Row P) → ℕ → Option (Folder P)
  taking_rule rs s = foremost_before_bridge rs (earlier rs s)

  -- revoke of a waiting arrival: its folder leaves
  abbrev pub waiting_revoked_rule : Folder P → Folder P
  waiting_revoked_rule f = f

  -- revoke of a fetched arrival: the foremost waiting folder before the first bridge after it leaves
  abbrev pub fetched_revoked_rule : List (Row P) → ℕ → Option (Folder P)
  fetched_revoked_rule rs s = foremost_before_bridge rs (suc (earlier rs s))

  -- revoke of a taking: the hindmost fetched folder since the last bridge joins
  abbrev pub taking_revoked_rule : List (Row P) → ℕ → Option (Folder P)
  taking_revoked_rule rs s = hindmost_since_bridge rs (earlier rs s)

  -- rows of a sound journal, by rising stamp, whose marks agree with the replay
  pub record Kept (rs : List (Row P)) : Type 0 where
    pub order : by_stamp (entries rs) ≡ true
    pub served : sound not_behind (entries rs) ≡ true
    pub marks : MarksAgree not_behind rs

  -- each rule finds the mover that the replay defines, whenever the corrected journal is sound
  pub record BridgesFindMovers : Type 0 where
    pub arrival : (rs : List (Row P)) (f : Folder P) → Kept rs → dated f.stamp (entries rs) ≡ false
        → arrival_rule rs f ≡ arrival_mover not_behind (entries rs) f
    pub taking : (rs : List (Row P)) (s : ℕ) → Kept rs → dated s (entries rs) ≡ false → sound not_behind (entered (entry.Taking s) (entries rs)) ≡ true
        → taking_rule rs s ≡ taking_mover not_behind (entered (entry.Taking s) (entries rs)) s
    pub waiting_revoked : (rs : List (Row P)) (s : ℕ) (f : Folder P) → Kept rs → entry_at s (entries rs) ≡ Some (entry.Arrival f) → has_stamp s (waiting not_behind (entries rs)) ≡ true
        → waiting_revoked_rule f ≡ arrival_mover not_behind (struck s (entries rs)) f
    pub fetched_revoked : (rs : List (Row P)) (s : ℕ) (f : Folder P) → Kept rs → entry_at s (entries rs) ≡ Some (entry.Arrival f) → has_stamp s (waiting not_behind (entries rs)) ≡ false
        → sound not_behind (struck s (entries rs)) ≡ true → fetched_revoked_rule rs s ≡ Some (arrival_mover not_behind (struck s (entries rs)) f)
    pub taking_revoked : (rs : List (Row P)) (s t : ℕ) → Kept rs → entry_at s (entries rs) ≡ Some (entry.Taking t)
        → taking_revoked_rule rs s ≡ taking_mover not_behind (entries rs) s
