-- What the replay of a list of entries into a rack comes to.
use Rattle.std.specs.Prelude.{◌≡◌, ℕ, ◌<◌, Bool, true, cond, ◌&&◌, List, [], ◌∷◌, length, Some, None, Ok, Err, Option, Result, nat_lt}
use Rattle.orders.specs.Refusal.{Told, told, refused}
use Rattle.journal.specs.declared.entry.Entry.{Entry}
use Rattle.journal.specs.declared.folder.Folder.{Folder}
use Rattle.journal.specs.declared.refusal.Refusal.{Refusal}
use Rattle.journal.specs.declared.refusal.Refusal.TheVariants.{NoFolder}
use Rattle.journal.specs.Folders.{in_order}
use Rattle.journal.specs.Replay.{stamp_of, rack_after, fetches, first_empty, waiting, first_unserved, sound}

-- refused 7 with the stamp of the taking that found no folder, if there is one
abbrev pub served : Option ℕ → Told (Unit {0})
served None = told tt
served (Some s) = refused 7 (s ∷ [])

module _ {P : Type 0} (not_behind : P → P → Bool) where
  -- refused 8 where the rack is smaller than the list is long, else 7 where a taking finds no folder
  abbrev pub replay_reply : ℕ → List (Entry P) → Told (Unit {0})
  replay_reply capacity es = cond (nat_lt capacity (length es)) (refused 8 []) (served (first_unserved not_behind es))

  -- the rack then: as it was where it is too small, else the waiting list, or empty where a taking finds no folder
  abbrev pub replayed : ℕ → List (Entry P) → List (Folder P) → List (Folder P)
  replayed capacity es before = cond (nat_lt capacity (length es)) before (cond (sound not_behind es) (waiting not_behind es) [])

-- these folders came before the stamp
abbrev pub before_stamp : {P : Type 0} → ℕ → List (Folder P) → Bool
before_stamp s [] = true
before_stamp s (f ∷ fs) = nat_lt f.stamp s && before_stamp s fs

module _ {P : Type 0} (not_behind : P → P → Bool) where
  -- a rack that an entry's turn finds: in order, with room, all of it earlier than the entry
  pub record Ready (capacity : ℕ) (fs : List (Folder P)) (e : Entry P) : Type 0 where
    pub ordered : in_order not_behind fs ≡ true
    pub room : length fs < capacity
    pub earlier : before_stamp (stamp_of e) fs ≡ true

  -- one entry's turn: the rack after it, or the taking that finds no folder
  abbrev pub Steps : List (Folder P) → Entry P → List (Folder P) → Result (Unit {0}) Refusal → Type 0
  Steps before e after (Ok x) = (after ≡ rack_after not_behind before e) × (first_empty (fetches not_behind before (e ∷ [])) ≡ None)
  Steps before e after (Err why) = (why ≡ NoFolder (stamp_of e)) × (first_empty (fetches not_behind before (e ∷ [])) ≡ Some (stamp_of e))
