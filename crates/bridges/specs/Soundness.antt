-- Soundness by stock: whether a corrected journal is sound is read off the first low stock of the old rows.
use Rattle.std.specs.Prelude.{◌≡◌, ℕ, zero, suc, Bool, true, false, cond, ◌↔◌, List, Some, None, Option, ◌==◌}
use Rattle.std.specs.Option.{option_map}
use Rattle.std.specs.List.{slice_get}
use Rattle.journal.specs.declared.folder.Folder.{Folder}
use Rattle.journal.specs.declared.entry.Entry.{Entry}
use Rattle.journal.specs.declared.entry.Entry.TheVariants.{Arrival, Taking}
use Rattle.journal.specs.declared.row.Row.{Row}
use Rattle.journal.specs.Folders.{has_stamp}
use Rattle.journal.specs.Replay.{stamp_of, waiting, sound, by_stamp, dated, entered, struck, first_unserved}
use Rattle.journal.specs.Rows.{entry_of, entries}
use Rattle.journal.specs.Searches.{earlier, first_low_stock}
use Rattle.journal.specs.Movers.{entry_at}

-- the stamp of the row just before a place
abbrev pub stamp_before : {P : Type 0} → List (Row P) → ℕ → Option ℕ
stamp_before rs zero = None
stamp_before rs (suc i) = option_map (λ r. stamp_of (entry_of r)) (slice_get rs i)

-- the stamp of the row just before the low place found, or none where none is found
abbrev pub before_low : {P : Type 0} → List (Row P) → Option ℕ → Option ℕ
before_low rs None = None
before_low rs (Some j) = stamp_before rs j

-- the same, but at place p itself it is the new taking, of stamp s, that finds no folder
abbrev pub new_or_before_low : {P : Type 0} → List (Row P) → ℕ → ℕ → Option ℕ → Option ℕ
new_or_before_low rs p s None = None
new_or_before_low rs p s (Some j) = cond (j == p) (Some s) (stamp_before rs j)

-- the stamp of the first taking that finds no folder once a taking of stamp s is entered, by the stocks from its place
abbrev pub unserved_entered : {P : Type 0} → List (Row P) → ℕ → Option ℕ
unserved_entered rs s = new_or_before_low rs (earlier rs s) s (first_low_stock rs (earlier rs s))

-- the stamp of the first taking that finds no folder once the arrival of stamp s is struck out, by the stocks after it
abbrev pub unserved_struck : {P : Type 0} → List (Row P) → ℕ → Option ℕ
unserved_struck rs s = before_low rs (first_low_stock rs (suc (earlier rs s)))

module _ {P : Type 0} (not_behind : P → P → Bool) where
  -- for the rows of a sound journal
  pub record SoundnessByStock : Type 0 where
    -- the corrected journal is sound exactly when no low stock is found
    pub taking_sound : (rs : List (Row P)) (s : ℕ) → by_stamp (entries rs) ≡ true → sound not_behind (entries rs) ≡ true → dated s (entries rs) ≡ false
        → (sound not_behind (entered (Taking s) (entries rs)) ≡ true) ↔ (first_low_stock rs (earlier rs s) ≡ None)
    pub arrival_sound : (rs : List (Row P)) (s : ℕ) (f : Folder P) → by_stamp (entries rs) ≡ true → sound not_behind (entries rs) ≡ true → entry_at s (entries rs) ≡ Some (Arrival f)
        → (sound not_behind (struck s (entries rs)) ≡ true) ↔ (first_low_stock rs (suc (earlier rs s)) ≡ None)
    -- and else the first low place gives the first taking that finds no folder
    pub taking_entered : (rs : List (Row P)) (s : ℕ) → by_stamp (entries rs) ≡ true → sound not_behind (entries rs) ≡ true → dated s (entries rs) ≡ false
        → first_unserved not_behind (entered (Taking s) (entries rs)) ≡ unserved_entered rs s
    pub arrival_struck : (rs : List (Row P)) (s : ℕ) (f : Folder P) → by_stamp (entries rs) ≡ true → sound not_behind (entries rs) ≡ true → entry_at s (entries rs) ≡ Some (Arrival f)
        → first_unserved not_behind (struck s (entries rs)) ≡ unserved_struck rs s
    -- these are never refused for want of a folder
    pub waiting_struck : (es : List (Entry P)) (s : ℕ) (f : Folder P) → by_stamp es ≡ true → sound not_behind es ≡ true → entry_at s es ≡ Some (Arrival f) → has_stamp s (waiting not_behind es) ≡ true
        → sound not_behind (struck s es) ≡ true
    pub arrival_entered : (es : List (Entry P)) (f : Folder P) → by_stamp es ≡ true → sound not_behind es ≡ true → dated f.stamp es ≡ false
        → sound not_behind (entered (Arrival f) es) ≡ true
    pub taking_struck : (es : List (Entry P)) (s t : ℕ) → by_stamp es ≡ true → sound not_behind es ≡ true → entry_at s es ≡ Some (Taking t)
        → sound not_behind (struck s es) ≡ true
