-- What a rack's calls do to its list of folders.
use Rattle.std.specs.Prelude.{◌≡◌, ℕ, Bool, true, false, cond, ◌&&◌, ◌||◌, List, [], ◌∷◌, length, ◌==◌, nat_lt}
use Rattle.orders.specs.Order.{tie}
use Rattle.orders.specs.Refusal.{Told, told, refused}
use Rattle.journal.specs.declared.folder.Folder.{Folder}
use Rattle.journal.specs.Folders.{placed, in_order}
use Rattle.journal.specs.Refusals.{Follows}

-- a rack's greatest capacity, and a date line's
abbrev pub most_entries : ℕ
most_entries = 4096

module _ {P : Type 0} (not_behind : P → P → Bool) where
  -- the folder is the one of this priority and stamp: its priority ties, its stamp is the same
  abbrev pub same_key : P → ℕ → Folder P → Bool
  same_key p s g = tie not_behind p g.priority && s == g.stamp

  -- one of these folders is of this priority and stamp
  abbrev pub holds : P → ℕ → List (Folder P) → Bool
  holds p s [] = false
  holds p s (g ∷ gs) = same_key p s g || holds p s gs

  -- the folders without the first one of this priority and stamp
  abbrev pub taken_out : P → ℕ → List (Folder P) → List (Folder P)
  taken_out p s [] = []
  taken_out p s (g ∷ gs) = cond (same_key p s g) gs (g ∷ taken_out p s gs)

  -- putting a folder on a rack: refused 4 where its like is there, else 6 where the rack is full
  abbrev pub put_rule : ℕ → List (Folder P) → Folder P → Told (List (Folder P))
  put_rule capacity fs f =
      cond (holds f.priority f.stamp fs) (refused 4 []) (cond (nat_lt (length fs) capacity) (told (placed not_behind f fs)) (refused 6 []))

  -- removing the folder of a priority and stamp: refused 5 where there is none
  abbrev pub remove_rule : List (Folder P) → P → ℕ → Told (List (Folder P))
  remove_rule fs p s = cond (holds p s fs) (told (taken_out p s fs)) (refused 5 [])

  -- what a call that changes a rack promises; in good order is here in order
  abbrev pub Changed : ℕ → Told (List (Folder P)) → List (Folder P) → List (Folder P) → Told (Unit {0}) → Type 0
  Changed capacity rule before after reply = Follows (in_order not_behind before ≡ true) (in_order not_behind after ≡ true) capacity rule before after reply
