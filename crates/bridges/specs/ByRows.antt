-- What a book replies and becomes, by its rows and its waiting list alone: no replay is run but for a look back.
use Rattle.std.specs.Prelude.{◌≡◌, ℕ, Bool, cond, List, [], ◌∷◌, length, Some, None, Option, nat_le}
use Rattle.std.specs.List.{slice_get}
use Rattle.orders.specs.Refusal.{Told, told, refused}
use Rattle.journal.specs.declared.folder.Folder.{Folder}
use Rattle.journal.specs.declared.entry.Entry.TheVariants as entry
use Rattle.journal.specs.declared.row.Row.{Row}
use Rattle.journal.specs.declared.row.Row.TheVariants.{Arrival, Taking}
use Rattle.journal.specs.declared.row.Mark.TheVariants.{Waiting, Fetched}
use Rattle.journal.specs.declared.call.Call.{Call}
use Rattle.journal.specs.declared.call.Call.TheVariants as call
use Rattle.journal.specs.declared.call.Standing.{Standing}
use Rattle.journal.specs.declared.call.Standing.TheVariants as standing
use Rattle.journal.specs.Replay.{dated, waiting, stood}
use Rattle.journal.specs.Rows.{entries}
use Rattle.journal.specs.Searches.{earlier}
use Rattle.journal.specs.Entering.{stamp_in_range, enter_rule}
use Rattle.journal.specs.Refusals.{later}
use Rattle.journal.specs.Calls.{Answer, joined, left, counted, waits_at, standing_is, stood_there, and_so, moved, as_meant, defined_reply, later_journal}
use Rattle.bridges.specs.Soundness.{unserved_entered, unserved_struck}
use Rattle.bridges.specs.Rules.{arrival_rule, taking_rule, fetched_revoked_rule, taking_revoked_rule, Kept}
use Rattle.bridges.specs.Marks.{arrival_rows, taking_rows, waiting_revoked_rows, fetched_revoked_rows, taking_revoked_rows, Carries}

-- the row at a stamp, or none
abbrev pub row_dated : {P : Type 0} → List (Row P) → ℕ → Option (Row P)
row_dated rs s = cond (dated s (entries rs)) (slice_get rs (earlier rs s)) None

-- what follows where no low stock tells of a taking without a folder
abbrev pub unless_unserved : {A : Type 0} → Option ℕ → Told A → Told A
unless_unserved None next = next
unless_unserved (Some s) next = refused 7 (s ∷ [])

-- what stands at a stamp, by its row
abbrev pub standing_by : {P : Type 0} → Option (Row P) → Standing
standing_by None = standing.Absent
standing_by (Some (Arrival f Waiting)) = standing.Waiting
standing_by (Some (Arrival f Fetched)) = standing.Fetched
standing_by (Some (Taking s)) = standing.Taking

module _ {P : Type 0} (not_behind : P → P → Bool) (canonical : P → P) where
  -- the reply to a revoke, by the row at its stamp
  abbrev pub revoke_reply : List (Row P) → ℕ → Option (Row P) → Told (Answer P)
  revoke_reply rs s None = refused 5 []
  revoke_reply rs s (Some (Arrival f Waiting)) = told (left f)
  revoke_reply rs s (Some (Arrival f Fetched)) = unless_unserved (unserved_struck rs s) (moved left s (fetched_revoked_rule not_behind rs s))
  revoke_reply rs s (Some (Taking t)) = moved joined s (taking_revoked_rule not_behind rs s)

  -- the rows after a revoke, by the row at its stamp
  abbrev pub revoke_rows : List (Row P) → ℕ → Option (Row P) → Told (List (Row P))
  revoke_rows rs s None = refused 5 []
  revoke_rows rs s (Some (Arrival f Waiting)) = told (waiting_revoked_rows not_behind rs s)
  revoke_rows rs s (Some (Arrival f Fetched)) = unless_unserved (unserved_struck rs s) (told (fetched_revoked_rows not_behind rs s))
  revoke_rows rs s (Some (Taking t)) = told (taking_revoked_rows not_behind rs s)

  -- the reply to a call, by rows and the waiting list
  abbrev pub reply_by_rows : ℕ → ℕ → List (Row P) → List (Folder P) → Call P → Told (Answer P)
  reply_by_rows capacity spare rs ws (call.Arrival f) =
      and_so (enter_rule capacity (entries rs) (entry.Arrival (as_meant not_behind canonical f))) (λ es. told (joined (arrival_rule not_behind rs (as_meant not_behind canonical f))))
  reply_by_rows capacity spare rs ws (call.Taking s) =
      and_so (enter_rule capacity (entries rs) (entry.Taking s)) (λ es. unless_unserved (unserved_entered rs s) (moved left s (taking_rule not_behind rs s)))
  reply_by_rows capacity spare rs ws (call.Revoke s) = cond (stamp_in_range s) (revoke_reply rs s (row_dated rs s)) (refused 1 [])
  reply_by_rows capacity spare rs ws call.WaitingCount = told (counted (length ws))
  reply_by_rows capacity spare rs ws (call.WaitingAt k) = told (waits_at (slice_get ws k))
  reply_by_rows capacity spare rs ws (call.Standing s) = told (standing_is (standing_by (row_dated rs s)))
  reply_by_rows capacity spare rs ws (call.LookBack s) = cond (stamp_in_range s) (cond (nat_le capacity spare) (told (stood_there (stood not_behind s (entries rs)))) (refused 8 [])) (refused 1 [])

  -- the rows after a call
  abbrev pub rows_after : ℕ → List (Row P) → Call P → List (Row P)
  rows_after capacity rs (call.Arrival f) =
      later (and_so (enter_rule capacity (entries rs) (entry.Arrival (as_meant not_behind canonical f))) (λ es. told (arrival_rows not_behind rs (as_meant not_behind canonical f)))) rs
  rows_after capacity rs (call.Taking s) =
      later (and_so (enter_rule capacity (entries rs) (entry.Taking s)) (λ es. unless_unserved (unserved_entered rs s) (told (taking_rows not_behind rs s)))) rs
  rows_after capacity rs (call.Revoke s) = later (cond (stamp_in_range s) (revoke_rows rs s (row_dated rs s)) (refused 1 [])) rs
  rows_after capacity rs call.WaitingCount = rs
  rows_after capacity rs (call.WaitingAt k) = rs
  rows_after capacity rs (call.Standing s) = rs
  rows_after capacity rs (call.LookBack s) = rs

  -- by rows that are kept as they must be, each call is replied to as defined, and the rows then carry the later journal and are kept
  pub record AnswersByRows : Type 0 where
    pub replied : (capacity spare : ℕ) (rs : List (Row P)) (ws : List (Folder P)) (c : Call P) → Kept not_behind rs → ws ≡ waiting not_behind (entries rs)
        → reply_by_rows capacity spare rs ws c ≡ defined_reply not_behind canonical capacity spare (entries rs) c
    pub carried : (capacity : ℕ) (rs : List (Row P)) (c : Call P) → Kept not_behind rs → Carries not_behind (rows_after capacity rs c) (later_journal not_behind canonical capacity (entries rs) c)
