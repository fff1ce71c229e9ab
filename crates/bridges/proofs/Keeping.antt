-- Every call keeps the entries within their bounds and the journal within the capacity.
use Rattle.std.proofs.Common.{◌≡◌, ℕ, suc, ◌+◌, ◌≤◌, Bool, true, false, cond, eqb, ltb, List, [], ◌∷◌, length, sym, refl, ap, subst, inl, inr, arith}
use Rattle.orders.specs.Refusal.{Told}
use Rattle.journal.specs.declared.folder.Folder.{Folder}
use Rattle.journal.specs.declared.entry.Entry.{Entry}
use Rattle.journal.specs.declared.entry.Entry.TheVariants.{Arrival, Taking}
use Rattle.journal.specs.declared.call.Call.{Call}
use Rattle.journal.specs.declared.call.Call.TheVariants as call
use Rattle.journal.specs.Folders.{placed}
use Rattle.journal.specs.Replay.{stamp_of, replay, waiting, entered, struck}
use Rattle.journal.specs.Refusals.{later}
use Rattle.journal.specs.Calls.{as_meant, correction, later_journal}
use Rattle.bridges.specs.Law.{Asked, journal_after, MovesAs}
use Rattle.bridges.specs.Keeping.{Fit, AllFit, Keeps}
use Rattle.journal.proofs.Ahead.{Lawful}
use Rattle.journal.proofs.Placed.{length_placed}
use Rattle.bridges.proofs.Calls.{Ruled, entering_ruled, revoking_ruled, step}

module _ {P : Type 0} where
  length_entered : (e : Entry P) (es : List (Entry P)) → length (entered e es) ≡ suc (length es)
  length_entered e [] = refl
  length_entered e (d ∷ ds) = go (ltb (stamp_of e) (stamp_of d)) (length_entered e ds)
    where
      go : (b : Bool) → length (entered e ds) ≡ suc (length ds) → length (cond b (e ∷ (d ∷ ds)) (d ∷ entered e ds)) ≡ suc (suc (length ds))
      go true ih = refl
      go false ih = ap suc ih

  length_struck : (s : ℕ) (es : List (Entry P)) → length (struck s es) ≤ length es
  length_struck s [] = omega arith
  length_struck s (d ∷ ds) = go (eqb (stamp_of d) s) (length_struck s ds)
    where
      go : (b : Bool) → length (struck s ds) ≤ length ds → length (cond b ds (d ∷ struck s ds)) ≤ suc (length ds)
      go true ih = omega arith
      go false ih = omega arith

module _ {P : Type 0} (nb : P → P → Bool) (canonical : P → P) where
  length_replay : (es : List (Entry P)) (rack : List (Folder P)) → length (replay nb rack es) ≤ length rack + length es
  length_replay [] rack = omega arith
  length_replay (Arrival f ∷ es) rack = let ih = length_replay es (placed nb f rack) in let p = length_placed nb f rack in omega arith
  length_replay (Taking s ∷ es) [] = let ih = length_replay es [] in omega arith
  length_replay (Taking s ∷ es) (y ∷ rack) = let ih = length_replay es rack in omega arith

  entered_fit : (e : Entry P) (es : List (Entry P)) → Fit nb canonical e → AllFit nb canonical es → AllFit nb canonical (entered e es)
  entered_fit e [] f a = (f, tt)
  entered_fit e (d ∷ ds) f a = go (ltb (stamp_of e) (stamp_of d)) (entered_fit e ds f a.1)
    where
      go : (b : Bool) → AllFit nb canonical (entered e ds) → AllFit nb canonical (cond b (e ∷ (d ∷ ds)) (d ∷ entered e ds))
      go true ih = (f, a)
      go false ih = (a.0, ih)

  struck_fit : (s : ℕ) (es : List (Entry P)) → AllFit nb canonical es → AllFit nb canonical (struck s es)
  struck_fit s [] a = tt
  struck_fit s (d ∷ ds) a = go (eqb (stamp_of d) s) (struck_fit s ds a.1)
    where
      go : (b : Bool) → AllFit nb canonical (struck s ds) → AllFit nb canonical (cond b ds (d ∷ struck s ds))
      go true ih = a.1
      go false ih = (a.0, ih)

  -- a property of journals that the corrected one has, and the old one
  either_way : (holds : List (Entry P) → Type 0) (o : Told (List (Entry P))) (es corrected : List (Entry P)) (reason : Type 0) → Ruled o corrected reason → (reason → holds corrected) → holds es → holds (later o es)
  either_way holds o es corrected reason (inl k) then h = subst (λ x. holds (later x es)) (sym k.0) (then k.1)
  either_way holds o es corrected reason (inr k) then h = subst (λ x. holds (later x es)) (sym k.2) h

  step_within : (capacity : ℕ) (es : List (Entry P)) (c : Call P) → length es ≤ capacity → length (later_journal nb canonical capacity es c) ≤ capacity
  step_within capacity es (call.Arrival f) le =
      let e = Arrival (as_meant nb canonical f) in
      either_way (λ l. length l ≤ capacity) (correction nb canonical capacity es (call.Arrival f)) es (entered e es) _ (entering_ruled nb canonical capacity es e) (λ why. omega (arith, length_entered e es, why.0.room)) le
  step_within capacity es (call.Taking s) le =
      either_way (λ l. length l ≤ capacity) (correction nb canonical capacity es (call.Taking s)) es (entered (Taking s) es) _ (entering_ruled nb canonical capacity es (Taking s)) (λ why. omega (arith, length_entered (Taking s) es, why.0.room)) le
  step_within capacity es (call.Revoke s) le =
      either_way (λ l. length l ≤ capacity) (correction nb canonical capacity es (call.Revoke s)) es (struck s es) _ (revoking_ruled nb canonical es s) (λ why. omega (arith, length_struck s es)) le
  step_within capacity es call.WaitingCount le = le
  step_within capacity es (call.WaitingAt k) le = le
  step_within capacity es (call.Standing s) le = le
  step_within capacity es (call.LookBack s) le = le

  step_fit : ((p : P) → canonical (canonical p) ≡ canonical p) → (capacity : ℕ) (es : List (Entry P)) (c : Call P) → AllFit nb canonical es → AllFit nb canonical (later_journal nb canonical capacity es c)
  step_fit idempotent capacity es (call.Arrival f) a =
      let e = Arrival (as_meant nb canonical f) in
      either_way (AllFit nb canonical) (correction nb canonical capacity es (call.Arrival f)) es (entered e es) _ (entering_ruled nb canonical capacity es e)
      (λ why. entered_fit e es (record { stamp = why.0.stamp; number = why.0.number; meant = idempotent f.priority }) a) a
  step_fit idempotent capacity es (call.Taking s) a =
      either_way (AllFit nb canonical) (correction nb canonical capacity es (call.Taking s)) es (entered (Taking s) es) _ (entering_ruled nb canonical capacity es (Taking s))
      (λ why. entered_fit (Taking s) es (record { stamp = why.0.stamp; number = why.0.number; meant = tt }) a) a
  step_fit idempotent capacity es (call.Revoke s) a =
      either_way (AllFit nb canonical) (correction nb canonical capacity es (call.Revoke s)) es (struck s es) _ (revoking_ruled nb canonical es s) (λ why. struck_fit s es a) a
  step_fit idempotent capacity es call.WaitingCount a = a
  step_fit idempotent capacity es (call.WaitingAt k) a = a
  step_fit idempotent capacity es (call.Standing s) a = a
  step_fit idempotent capacity es (call.LookBack s) a = a

  run_within : (capacity : ℕ) (es : List (Entry P)) (asked : List (Asked P)) → length es ≤ capacity → length (journal_after nb canonical capacity es asked) ≤ capacity
  run_within capacity es [] le = le
  run_within capacity es (a ∷ rest) le = run_within capacity (later_journal nb canonical capacity es a.call) rest (step_within capacity es a.call le)

  run_fit : ((p : P) → canonical (canonical p) ≡ canonical p) → (capacity : ℕ) (es : List (Entry P)) (asked : List (Asked P)) → AllFit nb canonical es → AllFit nb canonical (journal_after nb canonical capacity es asked)
  run_fit idempotent capacity es [] f = f
  run_fit idempotent capacity es (a ∷ rest) f = run_fit idempotent capacity (later_journal nb canonical capacity es a.call) rest (step_fit idempotent capacity es a.call f)

  pub keeps : Lawful nb → ((p : P) → canonical (canonical p) ≡ canonical p) → Keeps nb canonical
  keeps L idempotent = record {
    fit = run_fit idempotent;
    within = run_within;
    waiting_within = λ es. omega (arith, length_replay es []);
    room = λ capacity spare es c m r le e.
        let next = later_journal nb canonical capacity es c in
        let moved = subst (λ a. MovesAs nb canonical a (waiting nb es) (waiting nb next)) e (step nb canonical L capacity spare es c r).1 in
        omega (arith, ap length moved.joined, length_placed nb m (waiting nb es), length_replay next [], step_within capacity es c le);
  }
