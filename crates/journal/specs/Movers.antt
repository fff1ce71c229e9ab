-- Who moves at a correction, in the words of the replay: the hindmost of those concerned.
use Rattle.std.specs.Prelude.{ℕ, Bool, cond, List, [], ◌∷◌, Some, None, Option, ◌==◌}
use Rattle.journal.specs.declared.entry.Entry.{Entry}
use Rattle.journal.specs.declared.folder.Folder.{Folder}
use Rattle.journal.specs.Folders.{hindmost, hindmost_of}
use Rattle.journal.specs.Replay.{stamp_of, fetches, folders_of, fetches_from}

-- the entry at a stamp, or none
abbrev pub entry_at : {P : Type 0} → ℕ → List (Entry P) → Option (Entry P)
entry_at s [] = None
entry_at s (e ∷ es) = cond (stamp_of e == s) (Some e) (entry_at s es)

module _ {P : Type 0} (not_behind : P → P → Bool) where
  -- the folders fetched at a stamp or later
  abbrev pub fetched_from : ℕ → List (Entry P) → List (Folder P)
  fetched_from s es = folders_of (fetches_from s (fetches not_behind [] es))

  -- who moves when an arrival is entered or struck out: the hindmost of its folder and those fetched after its stamp in the journal without it
  abbrev pub arrival_mover : List (Entry P) → Folder P → Folder P
  arrival_mover es f = hindmost_of not_behind f (fetched_from f.stamp es)

  -- who moves when a taking is entered or struck out: the hindmost fetched at or after its stamp in the journal with it
  abbrev pub taking_mover : List (Entry P) → ℕ → Option (Folder P)
  taking_mover es s = hindmost not_behind (fetched_from s es)
