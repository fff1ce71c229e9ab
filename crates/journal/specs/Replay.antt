-- The replay: what a journal's entries leave on the rack, and what each taking fetches.
use Rattle.std.specs.Prelude.{ℕ, Bool, true, false, cond, not, ◌&&◌, ◌||◌, List, [], ◌∷◌, map, is_some, Some, None, Option, ◌==◌, nat_le, nat_lt}
use Rattle.journal.specs.declared.entry.Entry.{Entry}
use Rattle.journal.specs.declared.entry.Entry.TheVariants.{Arrival, Taking}
use Rattle.journal.specs.declared.folder.Folder.{Folder}
use Rattle.journal.specs.Folders.{placed, front, rest}

-- an entry's stamp
abbrev pub stamp_of : {P : Type 0} → Entry P → ℕ
stamp_of (Arrival f) = f.stamp
stamp_of (Taking s) = s

-- each number is below the next
abbrev pub rising : List ℕ → Bool
rising [] = true
rising (s ∷ []) = true
rising (s ∷ (t ∷ ts)) = nat_lt s t && rising (t ∷ ts)

-- the entries stand by rising stamp, so no two share one
abbrev pub by_stamp : {P : Type 0} → List (Entry P) → Bool
by_stamp es = rising (map stamp_of es)

-- an entry has this stamp
abbrev pub dated : {P : Type 0} → ℕ → List (Entry P) → Bool
dated s [] = false
dated s (e ∷ es) = stamp_of e == s || dated s es

-- the journal with one entry more, in its place by stamp
abbrev pub entered : {P : Type 0} → Entry P → List (Entry P) → List (Entry P)
entered e [] = e ∷ []
entered e (d ∷ ds) = cond (nat_lt (stamp_of e) (stamp_of d)) (e ∷ (d ∷ ds)) (d ∷ entered e ds)

-- the journal without the entry at a stamp
abbrev pub struck : {P : Type 0} → ℕ → List (Entry P) → List (Entry P)
struck s [] = []
struck s (e ∷ es) = cond (stamp_of e == s) es (e ∷ struck s es)

-- a taking's stamp, with the folder that it fetches, or none where it finds the rack empty
pub record Fetch (P : Type 0) : Type 0 where
  pub stamp : ℕ
  pub folder : Option (Folder P)

module _ {P : Type 0} (not_behind : P → P → Bool) where
  -- the rack after an entry: an arrival adds its folder, a taking fetches the foremost, if there is one
  abbrev pub rack_after : List (Folder P) → Entry P → List (Folder P)
  rack_after rack (Arrival f) = placed not_behind f rack
  rack_after rack (Taking s) = rest rack

  -- the rack at the end of a replay that begins from a rack
  abbrev pub replay : List (Folder P) → List (Entry P) → List (Folder P)
  replay rack [] = rack
  replay rack (e ∷ es) = replay (rack_after rack e) es

  -- what each taking of such a replay fetches, in order
  abbrev pub fetches : List (Folder P) → List (Entry P) → List (Fetch P)
  fetches rack [] = []
  fetches rack (Arrival f ∷ es) = fetches (placed not_behind f rack) es
  fetches rack (Taking s ∷ es) = record { stamp = s; folder = front rack } ∷ fetches (rest rack) es

-- the stamp of the first taking that finds the rack empty, or none
abbrev pub first_empty : {P : Type 0} → List (Fetch P) → Option ℕ
first_empty [] = None
first_empty (t ∷ ts) = cond (is_some t.folder) (first_empty ts) (Some t.stamp)

-- the folder, if there is one, before some others
abbrev pub with_front : {A : Type 0} → Option A → List A → List A
with_front None fs = fs
with_front (Some f) fs = f ∷ fs

-- the folders that these takings fetched, in order of takings
abbrev pub folders_of : {P : Type 0} → List (Fetch P) → List (Folder P)
folders_of [] = []
folders_of (t ∷ ts) = with_front t.folder (folders_of ts)

-- those of the takings that are at a stamp or later
abbrev pub fetches_from : {P : Type 0} → ℕ → List (Fetch P) → List (Fetch P)
fetches_from s [] = []
fetches_from s (t ∷ ts) = cond (nat_le s t.stamp) (t ∷ fetches_from s ts) (fetches_from s ts)

-- the entries up to and including a stamp
abbrev pub up_to : {P : Type 0} → ℕ → List (Entry P) → List (Entry P)
up_to s [] = []
up_to s (e ∷ es) = cond (nat_le (stamp_of e) s) (e ∷ up_to s es) (up_to s es)

module _ {P : Type 0} (not_behind : P → P → Bool) where
  -- the waiting list of a journal, foremost first: what its replay from an empty rack leaves
  abbrev pub waiting : List (Entry P) → List (Folder P)
  waiting es = replay not_behind [] es

  -- the folders that the takings of a journal fetched
  abbrev pub fetched : List (Entry P) → List (Folder P)
  fetched es = folders_of (fetches not_behind [] es)

  -- the stamp of a journal's first taking that finds the rack empty, or none
  abbrev pub first_unserved : List (Entry P) → Option ℕ
  first_unserved es = first_empty (fetches not_behind [] es)

  -- no taking of the journal finds the rack empty
  abbrev pub sound : List (Entry P) → Bool
  sound es = not (is_some (first_unserved es))

  -- what stood on the rack after all entries up to and including a stamp
  abbrev pub stood : ℕ → List (Entry P) → List (Folder P)
  stood s es = waiting (up_to s es)
