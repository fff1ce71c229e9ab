-- Folders of different stamps stand in a strict total order, so some folders have one hindmost and one foremost.
use Rattle.std.specs.Prelude.{◌≡◌, ℕ, Bool, true, false, List, ◌∷◌, take, ◌≢◌}
use mathlib.Core.List.{Memᴰ}
use Rattle.journal.specs.declared.folder.Folder.{Folder}
use Rattle.journal.specs.declared.entry.Entry.{Entry}
use Rattle.journal.specs.Folders.{ahead, in_order, Foremost, Hindmost, hindmost_of, foremost_of}
use Rattle.journal.specs.Replay.{by_stamp, waiting}

-- of these folders no two share a stamp
abbrev pub StampsDiffer : {P : Type 0} → List (Folder P) → Type 0
StampsDiffer {P} fs = (f g : Folder P) → Memᴰ f fs → Memᴰ g fs → f.stamp ≡ g.stamp → f ≡ g

module _ {P : Type 0} (not_behind : P → P → Bool) where
  pub record FoldersOrdered : Type 0 where
    pub asymmetric : (f g : Folder P) → ahead not_behind f g ≡ true → ahead not_behind g f ≡ false
    pub transitive : (f g h : Folder P) → ahead not_behind f g ≡ true → ahead not_behind g h ≡ true → ahead not_behind f h ≡ true
    pub total : (f g : Folder P) → (f.stamp ≢ g.stamp) → ahead not_behind f g ≡ false → ahead not_behind g f ≡ true
    -- the hindmost and the foremost of some folders are found, and there is only one
    pub hindmost_is : (f : Folder P) (fs : List (Folder P)) → Hindmost not_behind (hindmost_of not_behind f fs) (f ∷ fs)
    pub hindmost_only : (f g : Folder P) (fs : List (Folder P)) → StampsDiffer fs → Hindmost not_behind f fs → Hindmost not_behind g fs → f ≡ g
    pub foremost_is : (f : Folder P) (fs : List (Folder P)) → StampsDiffer (f ∷ fs) → Foremost not_behind (foremost_of not_behind f fs) (f ∷ fs)
    pub foremost_only : (f g : Folder P) (fs : List (Folder P)) → Foremost not_behind f fs → Foremost not_behind g fs → f ≡ g
    -- the rack is in order at every place of a journal, and its front, which a taking fetches, is its foremost folder
    pub rack_in_order : (es : List (Entry P)) (j : ℕ) → by_stamp es ≡ true → in_order not_behind (waiting not_behind (take j es)) ≡ true
    pub front_is_foremost : (f : Folder P) (fs : List (Folder P)) → in_order not_behind (f ∷ fs) ≡ true → Foremost not_behind f (f ∷ fs)
