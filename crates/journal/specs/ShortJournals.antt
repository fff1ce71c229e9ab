-- Short journals by weight, with what their replay leaves before and after a correction.
use Rattle.std.specs.Prelude.{◌≡◌, ℕ, true, List, [], ◌∷◌, Some}
use Rattle.orders.specs.declared.weight.Weight.{Weight}
use Rattle.orders.specs.Weight.{weight_not_behind}
use Rattle.journal.specs.declared.entry.Entry.{Entry}
use Rattle.journal.specs.declared.entry.Entry.TheVariants.{Arrival, Taking}
use Rattle.journal.specs.declared.folder.Folder.{Folder}
use Rattle.journal.specs.Replay.{entered, struck, sound, waiting, first_unserved}

-- the folder of an arrival at stamp s with weight w
abbrev pub folder : ℕ → ℕ → Folder Weight
folder s w = record { stamp = s; priority = record { held = w }; number = 1 }

abbrev pub arrival : ℕ → ℕ → Entry Weight
arrival s w = Arrival (folder s w)

abbrev pub taking : ℕ → Entry Weight
taking s = Taking s

-- both journals are sound, and these folders wait before and after
pub record Moves (before after : List (Entry Weight)) (waited waits : List (Folder Weight)) : Type 0 where
  pub sound_before : sound weight_not_behind before ≡ true
  pub sound_after : sound weight_not_behind after ≡ true
  pub waiting_before : waiting weight_not_behind before ≡ waited
  pub waiting_after : waiting weight_not_behind after ≡ waits

-- the journal is sound, and in the corrected one the taking at this stamp is the first to find no folder
pub record Unserved (before after : List (Entry Weight)) (stamp : ℕ) : Type 0 where
  pub sound_before : sound weight_not_behind before ≡ true
  pub first : first_unserved weight_not_behind after ≡ Some stamp

abbrev pub level_pair : List (Entry Weight)
level_pair = arrival 10 5 ∷ arrival 20 5 ∷ []

abbrev pub one_taken : List (Entry Weight)
one_taken = arrival 10 5 ∷ taking 20 ∷ []

abbrev pub second_taken : List (Entry Weight)
second_taken = arrival 10 5 ∷ arrival 20 3 ∷ taking 30 ∷ []

abbrev pub taken_then_arrival : List (Entry Weight)
taken_then_arrival = arrival 10 5 ∷ taking 20 ∷ arrival 30 7 ∷ []

abbrev pub two_taken : List (Entry Weight)
two_taken = arrival 1 9 ∷ taking 2 ∷ arrival 10 5 ∷ taking 20 ∷ []

pub record ShortJournals : Type 0 where
  pub empty_taking : Unserved [] (entered (taking 9) []) 9
  pub tie_goes_by_stamp : Moves level_pair (entered (taking 30) level_pair) (folder 10 5 ∷ folder 20 5 ∷ []) (folder 20 5 ∷ [])
  pub earlier_arrival : Moves (entered (taking 30) level_pair) (entered (arrival 5 5) (entered (taking 30) level_pair)) (folder 20 5 ∷ []) (folder 10 5 ∷ folder 20 5 ∷ [])
  pub later_taking_suffers : Unserved one_taken (entered (taking 15) one_taken) 20
  pub taking_before_all : Unserved one_taken (entered (taking 5) one_taken) 5
  pub fetched_struck : Moves second_taken (struck 20 second_taken) (folder 10 5 ∷ []) []
  pub taking_struck : Moves second_taken (struck 30 second_taken) (folder 10 5 ∷ []) (folder 20 3 ∷ folder 10 5 ∷ [])
  pub waiting_struck : Moves second_taken (struck 10 second_taken) (folder 10 5 ∷ []) []
  pub light_arrival : Moves taken_then_arrival (entered (arrival 15 2) taken_then_arrival) (folder 30 7 ∷ []) (folder 10 5 ∷ folder 30 7 ∷ [])
  pub heavy_arrival : Moves taken_then_arrival (entered (arrival 15 9) taken_then_arrival) (folder 30 7 ∷ []) (folder 30 7 ∷ folder 15 9 ∷ [])
  pub fetched_struck_unserved : Unserved taken_then_arrival (struck 10 taken_then_arrival) 20
  -- a folder fetched before the arrival's stamp does not count: 10 moves on, and not 1
  pub earlier_fetch_stays : Moves two_taken (entered (arrival 15 2) two_taken) [] (folder 10 5 ∷ [])
