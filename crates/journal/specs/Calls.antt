-- The calls of a book's life: the reply that is defined for each, and the journal after it.
use Rattle.std.specs.Prelude.{ℕ, Bool, cond, List, [], ◌∷◌, length, Some, None, Ok, Err, Option, Result, nat_le}
use Rattle.std.specs.List.{slice_get}
use Rattle.orders.specs.Refusal.{Told, told, refused}
use Rattle.journal.specs.declared.folder.Folder.{Folder}
use Rattle.journal.specs.declared.entry.Entry.{Entry}
use Rattle.journal.specs.declared.entry.Entry.TheVariants.{Arrival, Taking}
use Rattle.journal.specs.declared.call.Call.{Call}
use Rattle.journal.specs.declared.call.Call.TheVariants as call
use Rattle.journal.specs.declared.call.Standing.{Standing}
use Rattle.journal.specs.declared.call.Standing.TheVariants as standing
use Rattle.journal.specs.declared.call.Reply.{Reply}
use Rattle.journal.specs.declared.call.Reply.TheVariants as reply
use Rattle.journal.specs.declared.refusal.Refusal.{Refusal}
use Rattle.journal.specs.Folders.{has_stamp}
use Rattle.journal.specs.Replay.{struck, dated, waiting, stood, first_unserved}
use Rattle.journal.specs.Movers.{entry_at, arrival_mover, taking_mover}
use Rattle.journal.specs.Refusals.{book_refusal, later}
use Rattle.journal.specs.Entering.{stamp_in_range, enter_rule}

-- what a book tells where it does not refuse
pub data Answer (P : Type 0) : Type 0 where
  joined : Folder P → Answer P
  left : Folder P → Answer P
  counted : ℕ → Answer P
  waits_at : Option (Folder P) → Answer P
  standing_is : Standing → Answer P
  stood_there : List (Folder P) → Answer P

-- what a reply tells, where the spare rack now holds these folders; a refusal is told by its number and its values
abbrev pub told_by : {P : Type 0} → Result (Reply P) Refusal → List (Folder P) → Told (Answer P)
told_by (Ok (reply.Joined f)) spare = told (joined f)
told_by (Ok (reply.Left f)) spare = told (left f)
told_by (Ok (reply.Count n)) spare = told (counted n)
told_by (Ok (reply.At o)) spare = told (waits_at o)
told_by (Ok (reply.Standing s)) spare = told (standing_is s)
told_by (Ok reply.Stood) spare = told (stood_there spare)
told_by (Err why) spare = refused (book_refusal why).0 (book_refusal why).1

-- what follows from what is told; a refusal stays
abbrev pub and_so : {A B : Type 0} → Told A → (A → Told B) → Told B
and_so (told a) next = next a
and_so (refused n vs) next = refused n vs

-- a journal in which some taking finds no folder is refused 7, with the stamp of the first such taking
abbrev pub if_served : {P : Type 0} → List (Entry P) → Option ℕ → Told (List (Entry P))
if_served es None = told es
if_served es (Some s) = refused 7 (s ∷ [])

-- the folder that a correction moves; no folder is no correction
abbrev pub moved : {P : Type 0} → (Folder P → Answer P) → ℕ → Option (Folder P) → Told (Answer P)
moved side s None = refused 7 (s ∷ [])
moved side s (Some m) = told (side m)

module _ {P : Type 0} (not_behind : P → P → Bool) (canonical : P → P) where
  -- the folder with its priority held as what it means
  abbrev pub as_meant : Folder P → Folder P
  as_meant f = record { stamp = f.stamp; priority = canonical f.priority; number = f.number }

  -- the corrected journal, if it is sound
  abbrev pub sound_rule : List (Entry P) → Told (List (Entry P))
  sound_rule es = if_served es (first_unserved not_behind es)

  -- an entry is entered: refused 1 or 2 for its numbers, 4 where its stamp is taken, 6 where there is no room, 7 where a taking finds no folder
  abbrev pub entering_rule : ℕ → List (Entry P) → Entry P → Told (List (Entry P))
  entering_rule capacity es e = and_so (enter_rule capacity es e) sound_rule

  -- an entry is struck out: refused 1 for the stamp, 5 where no entry has it, 7 where a taking then finds no folder
  abbrev pub revoking_rule : List (Entry P) → ℕ → Told (List (Entry P))
  revoking_rule es s = cond (stamp_in_range s) (cond (dated s es) (sound_rule (struck s es)) (refused 5 [])) (refused 1 [])

  -- what a call makes of the journal, or why it is refused; a question leaves it
  abbrev pub correction : ℕ → List (Entry P) → Call P → Told (List (Entry P))
  correction capacity es (call.Arrival f) = entering_rule capacity es (Arrival (as_meant f))
  correction capacity es (call.Taking s) = entering_rule capacity es (Taking s)
  correction capacity es (call.Revoke s) = revoking_rule es s
  correction capacity es call.WaitingCount = told es
  correction capacity es (call.WaitingAt k) = told es
  correction capacity es (call.Standing s) = told es
  correction capacity es (call.LookBack s) = told es

  -- the journal after a call
  abbrev pub later_journal : ℕ → List (Entry P) → Call P → List (Entry P)
  later_journal capacity es c = later (correction capacity es c) es

  -- who moves when the entry at a stamp is struck out
  abbrev pub revoke_moves : List (Entry P) → List (Entry P) → ℕ → Option (Entry P) → Told (Answer P)
  revoke_moves es corrected s None = refused 5 []
  revoke_moves es corrected s (Some (Arrival f)) = told (left (arrival_mover not_behind corrected f))
  revoke_moves es corrected s (Some (Taking t)) = moved joined s (taking_mover not_behind es s)

  -- what stands at a stamp
  abbrev pub standing_of : List (Entry P) → ℕ → Option (Entry P) → Standing
  standing_of es s None = standing.Absent
  standing_of es s (Some (Arrival f)) = cond (has_stamp s (waiting not_behind es)) standing.Waiting standing.Fetched
  standing_of es s (Some (Taking t)) = standing.Taking

  -- the reply to a call, by a book of this capacity and journal, where the spare rack handed with it has this capacity
  abbrev pub defined_reply : ℕ → ℕ → List (Entry P) → Call P → Told (Answer P)
  defined_reply capacity spare es (call.Arrival f) = and_so (correction capacity es (call.Arrival f)) (λ corrected. told (joined (arrival_mover not_behind es (as_meant f))))
  defined_reply capacity spare es (call.Taking s) = and_so (correction capacity es (call.Taking s)) (λ corrected. moved left s (taking_mover not_behind corrected s))
  defined_reply capacity spare es (call.Revoke s) = and_so (correction capacity es (call.Revoke s)) (λ corrected. revoke_moves es corrected s (entry_at s es))
  defined_reply capacity spare es call.WaitingCount = told (counted (length (waiting not_behind es)))
  defined_reply capacity spare es (call.WaitingAt k) = told (waits_at (slice_get (waiting not_behind es) k))
  defined_reply capacity spare es (call.Standing s) = told (standing_is (standing_of es s (entry_at s es)))
  defined_reply capacity spare es (call.LookBack s) = cond (stamp_in_range s) (cond (nat_le capacity spare) (told (stood_there (stood not_behind s es))) (refused 8 [])) (refused 1 [])
