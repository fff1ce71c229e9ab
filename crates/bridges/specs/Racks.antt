-- Racks on the way of a replay, and one folder more on them.
use Rattle.std.specs.Prelude.{◌≡◌, ℕ, suc, ◌<◌, ◌≤◌, Bool, true, List, [], ◌∷◌, None}
use Rattle.journal.specs.declared.folder.Folder.{Folder}
use Rattle.journal.specs.declared.entry.Entry.{Entry}
use Rattle.journal.specs.Folders.{in_order, placed, hindmost_of}
use Rattle.journal.specs.Replay.{stamp_of, replay, fetches, first_empty, folders_of}

-- all of these have lesser stamps
abbrev pub Below : {P : Type 0} → ℕ → List (Folder P) → Type 0
Below n [] = Unit {0}
Below n (f ∷ fs) = (f.stamp < n) × Below n fs

-- the stamps rise from n on
abbrev pub Rising : {P : Type 0} → ℕ → List (Entry P) → Type 0
Rising n [] = Unit {0}
Rising n (e ∷ es) = (n ≤ stamp_of e) × Rising (suc (stamp_of e)) es

module _ {P : Type 0} (not_behind : P → P → Bool) where
  -- a rack in order, of folders older than the entries to come, which stand by rising stamp
  pub record Stands (rack : List (Folder P)) (es : List (Entry P)) : Type 0 where
    pub bound : ℕ
    pub below : Below bound rack
    pub order : in_order not_behind rack ≡ true
    pub rising : Rising bound es

  -- no taking of these entries finds the rack empty, where they begin from this rack
  abbrev pub Served : List (Folder P) → List (Entry P) → Type 0
  Served rack es = first_empty (fetches not_behind rack es) ≡ None

  -- the folders that these entries fetch, where they begin from this rack
  abbrev pub gone : List (Folder P) → List (Entry P) → List (Folder P)
  gone rack es = folders_of (fetches not_behind rack es)

  -- one folder more at the beginning is one folder more at the end: the hindmost of it and of all that was fetched from the smaller rack
  abbrev pub OneFolderMore : Type 0
  OneFolderMore = (es : List (Entry P)) (rack : List (Folder P)) (x : Folder P) (st : Stands rack es) → x.stamp < st.bound → Served rack es
      → replay not_behind (placed not_behind x rack) es ≡ placed not_behind (hindmost_of not_behind x (gone rack es)) (replay not_behind rack es)
