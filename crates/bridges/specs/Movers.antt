-- The mover's law: who changes sides between the waiting lists of a journal and of the corrected journal.
use Rattle.std.specs.Prelude.{◌≡◌, ℕ, ◌<◌, Bool, true, false, List, length, Some}
use Rattle.journal.specs.declared.folder.Folder.{Folder}
use Rattle.journal.specs.declared.entry.Entry.{Entry}
use Rattle.journal.specs.declared.entry.Entry.TheVariants.{Arrival, Taking}
use Rattle.journal.specs.Folders.{placed, has_stamp, in_order}
use Rattle.journal.specs.Replay.{waiting, sound, by_stamp, dated, entered, struck}
use Rattle.journal.specs.Movers.{entry_at, arrival_mover, taking_mover}
use Rattle.journal.specs.Racks.{taken_out, put_rule, remove_rule}
use Rattle.orders.specs.Refusal.{told}

module _ {P : Type 0} (not_behind : P → P → Bool) where
  -- two lists in order that differ by exactly one folder
  pub record OneApart (m : Folder P) (fewer more : List (Folder P)) : Type 0 where
    pub joined : more ≡ placed not_behind m fewer
    pub left : fewer ≡ taken_out not_behind m.priority m.stamp more
    pub new : has_stamp m.stamp fewer ≡ false
    pub order : in_order not_behind more ≡ true

  -- a rack that holds the one list comes to hold the other, by removing the folder or by putting it
  abbrev pub RackFollows : Type 0
  RackFollows = (m : Folder P) (fewer more : List (Folder P)) → OneApart m fewer more
      → (remove_rule not_behind more m.priority m.stamp ≡ told fewer) × ((capacity : ℕ) → length fewer < capacity → put_rule not_behind capacity fewer m ≡ told more)

  -- the waiting list of the journal with an arrival has the mover more
  abbrev pub ArrivalMoves : List (Entry P) → List (Entry P) → Folder P → Type 0
  ArrivalMoves lacking having f = sound not_behind lacking ≡ true → OneApart (arrival_mover not_behind lacking f) (waiting not_behind lacking) (waiting not_behind having)

  -- the waiting list of the journal without a taking has the mover more
  abbrev pub TakingMoves : List (Entry P) → List (Entry P) → ℕ → Type 0
  TakingMoves lacking having s = sound not_behind having ≡ true → (m : Folder P) × (taking_mover not_behind having s ≡ Some m) × OneApart m (waiting not_behind having) (waiting not_behind lacking)

  -- who moves, at each of the four corrections
  pub record MoversLaw : Type 0 where
    pub waiting_order : (es : List (Entry P)) → by_stamp es ≡ true → in_order not_behind (waiting not_behind es) ≡ true
    pub arrival_entered : (es : List (Entry P)) (f : Folder P) → by_stamp es ≡ true → dated f.stamp es ≡ false → ArrivalMoves es (entered (Arrival f) es) f
    pub arrival_struck : (es : List (Entry P)) (s : ℕ) (f : Folder P) → by_stamp es ≡ true → entry_at s es ≡ Some (Arrival f) → ArrivalMoves (struck s es) es f
    pub taking_entered : (es : List (Entry P)) (s : ℕ) → by_stamp es ≡ true → dated s es ≡ false → TakingMoves es (entered (Taking s) es) s
    pub taking_struck : (es : List (Entry P)) (s t : ℕ) → by_stamp es ≡ true → entry_at s es ≡ Some (Taking t) → TakingMoves (struck s es) es s
