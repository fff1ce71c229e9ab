-- The law over lists of calls, from the mover's law at each.
use Rattle.std.proofs.Common.{◌≡◌, ℕ, suc, ◌+◌, ◌<◌, ◌≤◌, Bool, true, false, cond, ◌||◌, eqb, ltb, leb, ◌⊎◌, ◌↔◌, List, [], ◌∷◌, length, Some, None, Option, sym, refl, ap, ◌∙◌, subst, ap₂, inl, inr, arith}
use Rattle.std.proofs.lemmas.Bool.{eq-eqb, both_ways, ltb-true}
use Rattle.orders.specs.Refusal.{Told, told, refused}
use Rattle.journal.specs.declared.folder.Folder.{Folder}
use Rattle.journal.specs.declared.entry.Entry.{Entry}
use Rattle.journal.specs.declared.entry.Entry.TheVariants.{Arrival, Taking}
use Rattle.journal.specs.declared.call.Call.{Call}
use Rattle.journal.specs.declared.call.Call.TheVariants as call
use Rattle.journal.specs.Replay.{stamp_of, waiting, sound, dated, entered, struck, first_unserved, stood}
use Rattle.journal.specs.Movers.{entry_at, arrival_mover, taking_mover}
use Rattle.journal.specs.Entering.{stamp_in_range, number_in_range, enter_rule}
use Rattle.journal.specs.Refusals.{later}
use Rattle.journal.specs.Calls.{Answer, joined, left, counted, waits_at, standing_is, stood_there, and_so, if_served, moved, as_meant, sound_rule, entering_rule, revoking_rule, correction, revoke_moves, defined_reply, later_journal}
use Rattle.bridges.specs.Counting.{count}
use Rattle.bridges.specs.Law.{Asked, joined_by, left_by, total_of, any, Right, replies, journal_after, MovesAs, EachMoves, LawOfCalls}
use Rattle.journal.proofs.Ahead.{Lawful}
use Rattle.bridges.proofs.Counts.{stamped, count_placed, once}
use Rattle.bridges.proofs.Journals.{entering, striking, rising_journal, by_stamp_rising, sound_served}
use Rattle.bridges.proofs.Movers.{movers_law}
use Rattle.bridges.proofs.Marks.{rising_lacking, rising_having}

module _ {P : Type 0} where
  -- an entry at a stamp is told
  dated_entry : (s : ℕ) (es : List (Entry P)) → dated s es ≡ true → (e : Entry P) × (entry_at s es ≡ Some e)
  dated_entry s [] h = absurd (both_ways _ refl h)
  dated_entry s (d ∷ ds) h = go (eqb (stamp_of d) s) h (dated_entry s ds)
    where
      go : (b : Bool) → (b || dated s ds) ≡ true → (dated s ds ≡ true → (e : Entry P) × (entry_at s ds ≡ Some e)) → (e : Entry P) × (cond b (Some d) (entry_at s ds) ≡ Some e)
      go true k ih = (d, refl)
      go false k ih = ih k

  -- a rule's reply is what it makes of the journal, with a reason for it, or a refusal
  abbrev pub Ruled : Told (List (Entry P)) → List (Entry P) → Type 0 → Type 0
  Ruled o es reason = ((o ≡ told es) × reason) ⊎ ((n : ℕ) × (vs : List ℕ) × (o ≡ refused n vs))

  -- why an entry may be entered
  pub record Enterable (capacity : ℕ) (es : List (Entry P)) (e : Entry P) : Type 0 where
    pub stamp : stamp_in_range (stamp_of e) ≡ true
    pub number : number_in_range e ≡ true
    pub free : dated (stamp_of e) es ≡ false
    pub room : length es < capacity

  pub enter_ruled : (capacity : ℕ) (es : List (Entry P)) (e : Entry P) → Ruled (enter_rule capacity es e) (entered e es) (Enterable capacity es e)
  enter_ruled capacity es e = go (stamp_in_range (stamp_of e)) refl (number_in_range e) refl (dated (stamp_of e) es) refl (ltb (length es) capacity) refl
    where
      go : (a : Bool) → stamp_in_range (stamp_of e) ≡ a → (b : Bool) → number_in_range e ≡ b → (c : Bool) → dated (stamp_of e) es ≡ c → (d : Bool) → ltb (length es) capacity ≡ d
          → Ruled (cond a (cond b (cond c (refused 4 []) (cond d (told (entered e es)) (refused 6 []))) (refused 2 [])) (refused 1 [])) (entered e es) (Enterable capacity es e)
      go false p b q c r d s = inr (1, [], refl)
      go true p false q c r d s = inr (2, [], refl)
      go true p true q true r d s = inr (4, [], refl)
      go true p true q false r false s = inr (6, [], refl)
      go true p true q false r true s = inl (refl, record { stamp = p; number = q; free = r; room = ltb-true _ _ s })

module _ {P : Type 0} (nb : P → P → Bool) (canonical : P → P) where
  sound_ruled : (es : List (Entry P)) → Ruled (sound_rule nb canonical es) es (sound nb es ≡ true)
  sound_ruled es = go (first_unserved nb es) refl
    where
      go : (o : Option ℕ) → first_unserved nb es ≡ o → Ruled (if_served es o) es (sound nb es ≡ true)
      go None e = inl (refl, sound_served _ e)
      go (Some s) e = inr (7, s ∷ [], refl)

  pub entering_ruled : (capacity : ℕ) (es : List (Entry P)) (e : Entry P) → Ruled (entering_rule nb canonical capacity es e) (entered e es) (Enterable capacity es e × (sound nb (entered e es) ≡ true))
  entering_ruled capacity es e = go (enter_rule capacity es e) (enter_ruled capacity es e)
    where
      last : Ruled (sound_rule nb canonical (entered e es)) (entered e es) (sound nb (entered e es) ≡ true) → Enterable capacity es e
          → Ruled (sound_rule nb canonical (entered e es)) (entered e es) (Enterable capacity es e × (sound nb (entered e es) ≡ true))
      last (inl k) d = inl (k.0, (d, k.1))
      last (inr k) d = inr k

      go : (o : Told (List (Entry P))) → Ruled o (entered e es) (Enterable capacity es e)
          → Ruled (and_so o (sound_rule nb canonical)) (entered e es) (Enterable capacity es e × (sound nb (entered e es) ≡ true))
      go o (inl k) = subst (λ x. Ruled (and_so x (sound_rule nb canonical)) (entered e es) (Enterable capacity es e × (sound nb (entered e es) ≡ true))) (sym k.0) (last (sound_ruled (entered e es)) k.1)
      go o (inr k) = inr (k.0, k.1, ap (λ x. and_so x (sound_rule nb canonical)) k.2)

  pub revoking_ruled : (es : List (Entry P)) (s : ℕ) → Ruled (revoking_rule nb canonical es s) (struck s es) ((dated s es ≡ true) × (sound nb (struck s es) ≡ true))
  revoking_ruled es s = go (stamp_in_range s) (dated s es) refl (sound_ruled (struck s es))
    where
      last : Ruled (sound_rule nb canonical (struck s es)) (struck s es) (sound nb (struck s es) ≡ true) → dated s es ≡ true
          → Ruled (sound_rule nb canonical (struck s es)) (struck s es) ((dated s es ≡ true) × (sound nb (struck s es) ≡ true))
      last (inl k) d = inl (k.0, (d, k.1))
      last (inr k) d = inr k

      go : (a b : Bool) → dated s es ≡ b → Ruled (sound_rule nb canonical (struck s es)) (struck s es) (sound nb (struck s es) ≡ true)
          → Ruled (cond a (cond b (sound_rule nb canonical (struck s es)) (refused 5 [])) (refused 1 [])) (struck s es) ((dated s es ≡ true) × (sound nb (struck s es) ≡ true))
      go false b q k = inr (1, [], refl)
      go true false q k = inr (5, [], refl)
      go true true q k = last k q

  -- what a rule's reply makes of the waiting list
  by_rule : (o : Told (List (Entry P))) (es corrected : List (Entry P)) (next : List (Entry P) → Told (Answer P)) (reason : Type 0) → Ruled o corrected reason
      → (reason → Right nb canonical corrected × MovesAs nb canonical (next corrected) (waiting nb es) (waiting nb corrected)) → Right nb canonical es
      → Right nb canonical (later o es) × MovesAs nb canonical (and_so o next) (waiting nb es) (waiting nb (later o es))
  by_rule o es corrected next reason (inl k) then r =
      subst (λ x. Right nb canonical (later x es) × MovesAs nb canonical (and_so x next) (waiting nb es) (waiting nb (later x es))) (sym k.0) (then k.1)
  by_rule o es corrected next reason (inr k) then r =
      subst (λ x. Right nb canonical (later x es) × MovesAs nb canonical (and_so x next) (waiting nb es) (waiting nb (later x es))) (sym k.2) (r, refl)

module _ {P : Type 0} (nb : P → P → Bool) (canonical : P → P) (L : Lawful nb) where
  -- one call
  pub step : (capacity spare : ℕ) (es : List (Entry P)) (c : Call P) → Right nb canonical es
      → Right nb canonical (later_journal nb canonical capacity es c) × MovesAs nb canonical (defined_reply nb canonical capacity spare es c) (waiting nb es) (waiting nb (later_journal nb canonical capacity es c))
  step capacity spare es (call.Arrival f) r =
      let g = as_meant nb canonical f in
      by_rule nb canonical (correction nb canonical capacity es (call.Arrival f)) es (entered (Arrival g) es) (λ corrected. told (joined (arrival_mover nb es g))) _ (entering_ruled nb canonical capacity es (Arrival g))
      (λ why. let c = entering 0 (Arrival g) es (omega arith) (rising_journal es r.order) why.0.free in
      (record { order = by_stamp_rising 0 _ (rising_having nb (Arrival g) es _ c); served = why.1 }, (movers_law nb L).arrival_entered es g r.order why.0.free r.served)) r
  step capacity spare es (call.Taking s) r =
      by_rule nb canonical (correction nb canonical capacity es (call.Taking s)) es (entered (Taking s) es) (λ corrected. moved left s (taking_mover nb corrected s)) _ (entering_ruled nb canonical capacity es (Taking s))
      (λ why. let c = entering 0 (Taking s) es (omega arith) (rising_journal es r.order) why.0.free in
      let got = (movers_law nb L).taking_entered es s r.order why.0.free why.1 in (
        record { order = by_stamp_rising 0 _ (rising_having nb (Taking s) es _ c); served = why.1 },
        subst (λ o. MovesAs nb canonical (moved left s o) (waiting nb es) (waiting nb (entered (Taking s) es))) (sym got.1) got.2,
      )) r
  step capacity spare es (call.Revoke s) r =
      by_rule nb canonical (correction nb canonical capacity es (call.Revoke s)) es (struck s es) (λ corrected. revoke_moves nb canonical es corrected s (entry_at s es)) _ (revoking_ruled nb canonical es s)
      (λ why. let got = dated_entry s es why.0 in
      let c = (striking 0 s got.0 es (rising_journal es r.order) got.1).2 in
      (record { order = by_stamp_rising 0 _ (rising_lacking nb got.0 (struck s es) es c); served = why.1 }, at got.0 got.1 why.1)) r
    where
      at : (e : Entry P) → entry_at s es ≡ Some e → sound nb (struck s es) ≡ true → MovesAs nb canonical (revoke_moves nb canonical es (struck s es) s (entry_at s es)) (waiting nb es) (waiting nb (struck s es))
      at (Arrival f) q v =
          subst (λ o. MovesAs nb canonical (revoke_moves nb canonical es (struck s es) s o) (waiting nb es) (waiting nb (struck s es))) (sym q) ((movers_law nb L).arrival_struck es s f r.order q v)
      at (Taking t) q v =
          let got = (movers_law nb L).taking_struck es s t r.order q r.served in
          subst (λ o. MovesAs nb canonical (revoke_moves nb canonical es (struck s es) s o) (waiting nb es) (waiting nb (struck s es))) (sym q)
          (subst (λ o. MovesAs nb canonical (moved joined s o) (waiting nb es) (waiting nb (struck s es))) (sym got.1) got.2)
  step capacity spare es call.WaitingCount r = (r, refl)
  step capacity spare es (call.WaitingAt k) r = (r, refl)
  step capacity spare es (call.Standing s) r = (r, refl)
  step capacity spare es (call.LookBack s) r = (r, go (stamp_in_range s) (leb capacity spare))
    where
      go : (a b : Bool) → MovesAs nb canonical (cond a (cond b (told (stood_there (stood nb s es))) (refused 8 [])) (refused 1 [])) (waiting nb es) (waiting nb es)
      go true true = refl
      go true false = refl
      go false b = refl

  -- a step's count: those who join come, those who leave go
  step_counted : (t : Folder P → Bool) (a : Told (Answer P)) (before after : List (Folder P)) → MovesAs nb canonical a before after → joined_by t a + count t before ≡ left_by t a + count t after
  step_counted t (told (joined m)) before after k = let e = ap (count t) k.joined ∙ count_placed nb t m before in one (t m) refl e
    where
      one : (b : Bool) → t m ≡ b → count t after ≡ cond (t m) (suc (count t before)) (count t before) → cond (t m) 1 0 + count t before ≡ 0 + count t after
      one true q e = let e' : count t after ≡ suc (count t before) = rw q at e in rw q (omega arith)
      one false q e = let e' : count t after ≡ count t before = rw q at e in rw q (omega arith)
  step_counted t (told (left m)) before after k = let e = ap (count t) k.joined ∙ count_placed nb t m after in one (t m) refl e
    where
      one : (b : Bool) → t m ≡ b → count t before ≡ cond (t m) (suc (count t after)) (count t after) → 0 + count t before ≡ cond (t m) 1 0 + count t after
      one true q e = let e' : count t before ≡ suc (count t after) = rw q at e in rw q (omega arith)
      one false q e = let e' : count t before ≡ count t after = rw q at e in rw q (omega arith)
  step_counted t (told (counted n)) before after k = ap (λ l. 0 + count t l) (sym k)
  step_counted t (told (waits_at o)) before after k = ap (λ l. 0 + count t l) (sym k)
  step_counted t (told (standing_is s)) before after k = ap (λ l. 0 + count t l) (sym k)
  step_counted t (told (stood_there fs)) before after k = ap (λ l. 0 + count t l) (sym k)
  step_counted t (refused n vs) before after k = ap (λ l. 0 + count t l) (sym k)

  run_right : (capacity : ℕ) (es : List (Entry P)) (asked : List (Asked P)) → Right nb canonical es → Right nb canonical (journal_after nb canonical capacity es asked)
  run_right capacity es [] r = r
  run_right capacity es (a ∷ rest) r = run_right capacity (later_journal nb canonical capacity es a.call) rest (step capacity a.spare es a.call r).0

  run_moves : (capacity : ℕ) (es : List (Entry P)) (asked : List (Asked P)) → Right nb canonical es → EachMoves nb canonical capacity es asked
  run_moves capacity es [] r = tt
  run_moves capacity es (a ∷ rest) r =
      let s = step capacity a.spare es a.call r in
      (s.1, run_moves capacity (later_journal nb canonical capacity es a.call) rest s.0)

  run_counted : (capacity : ℕ) (es : List (Entry P)) (asked : List (Asked P)) (t : Folder P → Bool) → Right nb canonical es
      → total_of (joined_by t) (replies nb canonical capacity es asked) + count t (waiting nb es) ≡ total_of (left_by t) (replies nb canonical capacity es asked) + count t (waiting nb (journal_after nb canonical capacity es asked))
  run_counted capacity es [] t r = refl
  run_counted capacity es (a ∷ rest) t r =
      let s = step capacity a.spare es a.call r in
      let next = later_journal nb canonical capacity es a.call in
      let here = step_counted t (defined_reply nb canonical capacity a.spare es a.call) (waiting nb es) (waiting nb next) s.1 in
      let ih = run_counted capacity next rest t s.0 in
      omega arith

  -- one folder is on a waiting list at most once
  counted_one : (f : Folder P) (is_f : Folder P → Bool) → ((g : Folder P) → (is_f g ≡ true) ↔ (g ≡ f)) → (ws : List (Folder P)) → count is_f ws ≤ count (stamped f.stamp) ws
  counted_one f is_f h [] = omega arith
  counted_one f is_f h (w ∷ ws) = go (is_f w) refl (counted_one f is_f h ws)
    where
      go : (b : Bool) → is_f w ≡ b → count is_f ws ≤ count (stamped f.stamp) ws
          → cond b (suc (count is_f ws)) (count is_f ws) ≤ cond (eqb f.stamp w.stamp) (suc (count (stamped f.stamp) ws)) (count (stamped f.stamp) ws)
      go true e ih = rw (eq-eqb f.stamp w.stamp (ap (λ x. x.stamp) (sym ((h w).0 e)))) (omega arith)
      go false e ih = more (eqb f.stamp w.stamp)
        where
          more : (b : Bool) → count is_f ws ≤ cond b (suc (count (stamped f.stamp) ws)) (count (stamped f.stamp) ws)
          more true = omega arith
          more false = ih

  counted_any : (t : Folder P → Bool) (ws : List (Folder P)) → count t ws ≤ 1 → count t ws ≡ cond (any t ws) 1 0
  counted_any t [] le = refl
  counted_any t (w ∷ ws) le = go (t w) le (counted_any t ws)
    where
      go : (b : Bool) → cond b (suc (count t ws)) (count t ws) ≤ 1 → (count t ws ≤ 1 → count t ws ≡ cond (any t ws) 1 0) → cond b (suc (count t ws)) (count t ws) ≡ cond (b || any t ws) 1 0
      go true k ih = omega arith
      go false k ih = ih k

  pub law_of_calls : LawOfCalls nb canonical
  law_of_calls = record {
    named = run_moves;
    alike = λ capacity capacity' es es' asked p q. (ap₂ (λ n l. replies nb canonical n l asked) p q, ap₂ (λ n l. journal_after nb canonical n l asked) p q);
    counted_out = run_counted;
    each_folder = λ capacity asked f is_f h.
        let start : Right nb canonical [] = record { order = refl; served = refl } in
        let end = journal_after nb canonical capacity [] asked in
        let r = run_right capacity [] asked start in
        let all = run_counted capacity [] asked is_f start in
        let at_most : count is_f (waiting nb end) ≤ 1 = omega (arith, counted_one f is_f h (waiting nb end), once nb f.stamp 0 end (rising_journal end r.order)) in
        let now = counted_any is_f (waiting nb end) at_most in
        omega arith;
    stays_right = run_right;
  }
