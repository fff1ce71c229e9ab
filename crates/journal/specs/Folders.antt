-- Folders: who is ahead of whom, folders in order, the foremost and the hindmost of some.
use Rattle.std.specs.Prelude.{◌≡◌, ℕ, Bool, true, false, cond, ◌&&◌, ◌||◌, ◌⊎◌, List, [], ◌∷◌, Some, None, Option, ◌==◌, nat_lt}
use mathlib.Core.List.{Memᴰ}
use Rattle.orders.specs.Order.{behind, tie}
use Rattle.journal.specs.declared.folder.Folder.{Folder}

module _ {P : Type 0} (not_behind : P → P → Bool) where
  -- f is ahead of g: g's priority is behind f's, or the two tie and f's stamp is earlier
  abbrev pub ahead : Folder P → Folder P → Bool
  ahead f g = behind not_behind g.priority f.priority || (tie not_behind f.priority g.priority && nat_lt f.stamp g.stamp)

  -- f is ahead of each of these
  abbrev pub ahead_of_all : Folder P → List (Folder P) → Bool
  ahead_of_all f [] = true
  ahead_of_all f (g ∷ gs) = ahead f g && ahead_of_all f gs

  -- foremost first: each folder is ahead of all that stand after it
  abbrev pub in_order : List (Folder P) → Bool
  in_order [] = true
  in_order (f ∷ fs) = ahead_of_all f fs && in_order fs

  -- the list with one folder more, which stands before the first that it is ahead of
  abbrev pub placed : Folder P → List (Folder P) → List (Folder P)
  placed f [] = f ∷ []
  placed f (g ∷ gs) = cond (ahead f g) (f ∷ g ∷ gs) (g ∷ placed f gs)

  -- f is one of these and ahead of all others
  pub record Foremost (f : Folder P) (fs : List (Folder P)) : Type 0 where
    pub among : Memᴰ f fs
    pub ahead_of_others : (g : Folder P) → Memᴰ g fs → (g ≡ f) ⊎ (ahead f g ≡ true)

  -- f is one of these and ahead of none
  pub record Hindmost (f : Folder P) (fs : List (Folder P)) : Type 0 where
    pub among : Memᴰ f fs
    pub ahead_of_none : (g : Folder P) → Memᴰ g fs → ahead f g ≡ false

  -- the hindmost of a folder and some others
  abbrev pub hindmost_of : Folder P → List (Folder P) → Folder P
  hindmost_of f [] = f
  hindmost_of f (g ∷ gs) = hindmost_of (cond (ahead f g) g f) gs

  -- the foremost of a folder and some others
  abbrev pub foremost_of : Folder P → List (Folder P) → Folder P
  foremost_of f [] = f
  foremost_of f (g ∷ gs) = foremost_of (cond (ahead g f) g f) gs

  -- the hindmost of some folders, or none of none
  abbrev pub hindmost : List (Folder P) → Option (Folder P)
  hindmost [] = None
  hindmost (f ∷ fs) = Some (hindmost_of f fs)

  -- the foremost of some folders, or none of none
  abbrev pub foremost : List (Folder P) → Option (Folder P)
  foremost [] = None
  foremost (f ∷ fs) = Some (foremost_of f fs)

-- the first of a list, or none
abbrev pub front : {A : Type 0} → List A → Option A
front [] = None
front (f ∷ fs) = Some f

-- a list without its first
abbrev pub rest : {A : Type 0} → List A → List A
rest [] = []
rest (f ∷ fs) = fs

-- one of these folders has this stamp
abbrev pub has_stamp : {P : Type 0} → ℕ → List (Folder P) → Bool
has_stamp s [] = false
has_stamp s (f ∷ fs) = s == f.stamp || has_stamp s fs
