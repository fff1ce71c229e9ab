-- Where a priority and a stamp, the key of a folder, stand among folders.
use Rattle.std.specs.Prelude.{◌≡◌, ℕ, Bool, true, false, List, Some, None, count_by, Option}
use Rattle.journal.specs.declared.folder.Folder.{Folder}
use Rattle.journal.specs.Folders.{ahead, in_order}
use Rattle.journal.specs.Racks.{same_key, holds}
use Rattle.folders.specs.declared.element.Racked.{Racked}

module _ {P : Type 0} (not_behind : P → P → Bool) where
  -- the folder is ahead of one of this priority and stamp; the number makes no difference
  abbrev pub ahead_of_key : P → ℕ → Folder P → Bool
  ahead_of_key p s g = ahead not_behind g (record { stamp = s; priority = p; number = 0 })

  -- how many of the folders are ahead of the key
  abbrev pub rank : P → ℕ → List (Folder P) → ℕ
  rank p s fs = count_by (ahead_of_key p s) fs

  -- whether there is an element, and its folder is of the key
  abbrev pub key_at : P → ℕ → Option (Racked P) → Bool
  key_at p s None = false
  key_at p s (Some r) = same_key not_behind p s r.folder

  -- the answer to a search among folders in order: how many are ahead of the key, and whether one has it
  abbrev pub Finds : P → ℕ → List (Folder P) → ℕ × Bool → Type 0
  Finds p s fs answer = in_order not_behind fs ≡ true → answer ≡ (rank p s fs, holds not_behind p s fs)
