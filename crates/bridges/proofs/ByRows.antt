-- A book's replies by its rows are the defined ones.
use Rattle.std.proofs.Common.{◌≡◌, ℕ, suc, Bool, true, false, cond, eqb, List, [], ◌∷◌, map, length, Some, None, Option, sym, refl, ap, subst, subst₂, inl, inr, arith}
use Rattle.std.specs.List.{slice_get}
use Rattle.std.proofs.lemmas.Bool.{eq-eqb, ne_eqb, cond-true, cond-false}
use Rattle.orders.specs.Refusal.{Told, told, refused}
use Rattle.journal.specs.declared.folder.Folder.{Folder}
use Rattle.journal.specs.declared.entry.Entry.{Entry}
use Rattle.journal.specs.declared.entry.Entry.TheVariants as entry
use Rattle.journal.specs.declared.row.Row.{Row}
use Rattle.journal.specs.declared.row.Row.TheVariants.{Arrival, Taking}
use Rattle.journal.specs.declared.row.Mark.{Mark}
use Rattle.journal.specs.declared.row.Mark.TheVariants.{Waiting, Fetched}
use Rattle.journal.specs.declared.call.Call.{Call}
use Rattle.journal.specs.declared.call.Call.TheVariants as call
use Rattle.journal.specs.declared.call.Standing.TheVariants as standing
use Rattle.journal.specs.Folders.{has_stamp}
use Rattle.journal.specs.Replay.{stamp_of, waiting, dated, entered, struck, first_unserved}
use Rattle.journal.specs.Rows.{entry_of, entries, row_of}
use Rattle.journal.specs.Searches.{earlier}
use Rattle.journal.specs.Movers.{entry_at, arrival_mover, taking_mover}
use Rattle.journal.specs.Entering.{stamp_in_range, enter_rule}
use Rattle.journal.specs.Refusals.{later}
use Rattle.journal.specs.Calls.{joined, left, counted, waits_at, standing_is, and_so, if_served, moved, as_meant, sound_rule, revoke_moves, standing_of, defined_reply, later_journal}
use Rattle.bridges.specs.Racks.{Rising}
use Rattle.bridges.specs.Soundness.{unserved_entered}
use Rattle.bridges.specs.Rules.{arrival_rule, taking_rule, fetched_revoked_rule, Kept}
use Rattle.bridges.specs.Marks.{arrival_rows, taking_rows, fetched_revoked_rows, Carries}
use Rattle.bridges.specs.ByRows.{row_dated, unless_unserved, standing_by, revoke_reply, revoke_rows, reply_by_rows, rows_after, AnswersByRows}
use Rattle.journal.proofs.Ahead.{Lawful}
use Rattle.bridges.proofs.Members.{Among}
use Rattle.bridges.proofs.Journals.{striking, rising_journal, served_sound, sound_served}
use Rattle.bridges.proofs.Soundness.{soundness_by_stock}
use Rattle.bridges.proofs.FindMovers.{bridges_find_movers}
use Rattle.bridges.proofs.Marks.{marks_kept}
use Rattle.bridges.proofs.PlaceForms.{row_later, dated_row, row_at_place}
use Rattle.bridges.proofs.Calls.{Ruled, Enterable, enter_ruled}

waiting_mark : (b : Bool) → Waiting ≡ cond b Waiting Fetched → b ≡ true
waiting_mark true e = refl
waiting_mark false e = absurd (let z : ◌≡◌ {A = ℕ} 0 1 = cc in omega arith)

fetched_mark : (b : Bool) → Fetched ≡ cond b Waiting Fetched → b ≡ false
fetched_mark false e = refl
fetched_mark true e = absurd (let z : ◌≡◌ {A = ℕ} 0 1 = cc in omega arith)

module _ {P : Type 0} where
  -- the entry at a row's stamp is the row's
  entry_of_row : (n : ℕ) (rs : List (Row P)) (r : Row P) → Rising n (entries rs) → Among r rs → entry_at (stamp_of (entry_of r)) (entries rs) ≡ Some (entry_of r)
  entry_of_row n [] r h m = elim m [ ]
  entry_of_row n (x ∷ rs) r h (inl e) = rw (eq-eqb (stamp_of (entry_of x)) (stamp_of (entry_of r)) (ap (λ y. stamp_of (entry_of y)) (sym e))) (ap (λ y. Some (entry_of y)) (sym e))
  entry_of_row n (x ∷ rs) r h (inr m) =
      rw (ne_eqb (stamp_of (entry_of x)) (stamp_of (entry_of r)) (λ q. omega (arith, row_later (suc (stamp_of (entry_of x))) rs r h.1 m)))
      (entry_of_row (suc (stamp_of (entry_of x))) rs r h.1 m)

  entry_absent : (s : ℕ) (es : List (Entry P)) → dated s es ≡ false → entry_at s es ≡ None
  entry_absent s [] h = refl
  entry_absent s (e ∷ es) h =
      let parts = Rattle.std.proofs.lemmas.Bool.or_parts (eqb (stamp_of e) s) (dated s es) h in
      rw parts.0 (entry_absent s es parts.1)

  -- an arrival's mark is whether its stamp is on the waiting list
  mark_of_row : (ws : List (Folder P)) (es : List (Entry P)) (f : Folder P) (k : Mark) → Among (Arrival f k) (map (row_of ws) es) → k ≡ cond (has_stamp f.stamp ws) Waiting Fetched
  mark_of_row ws [] f k m = elim m [ ]
  mark_of_row ws (entry.Arrival g ∷ es) f k (inl e) =
      let same : f ≡ g = cc in
      let mark : k ≡ cond (has_stamp g.stamp ws) Waiting Fetched = cc in
      rw same mark
  mark_of_row ws (entry.Arrival g ∷ es) f k (inr m) = mark_of_row ws es f k m
  mark_of_row ws (entry.Taking s ∷ es) f k (inl e) = absurd (let z : ◌≡◌ {A = ℕ} 0 1 = cc in omega arith)
  mark_of_row ws (entry.Taking s ∷ es) f k (inr m) = mark_of_row ws es f k m

module _ {P : Type 0} (nb : P → P → Bool) (canonical : P → P) (L : Lawful nb) where
  -- the reply by rows is the defined one, and the rows after the call carry the later journal
  abbrev RightByRows : ℕ → ℕ → List (Row P) → List (Folder P) → Call P → Type 0
  RightByRows capacity spare rs ws c =
      (reply_by_rows nb canonical capacity spare rs ws c ≡ defined_reply nb canonical capacity spare (entries rs) c)
      × Carries nb (rows_after nb canonical capacity rs c) (later_journal nb canonical capacity (entries rs) c)

  unchanged : (rs : List (Row P)) → Kept nb rs → Carries nb rs (entries rs)
  unchanged rs k = record { journal = refl; kept = k }

  arrival_by_rows : (capacity spare : ℕ) (rs : List (Row P)) (ws : List (Folder P)) (f : Folder P) → Kept nb rs → RightByRows capacity spare rs ws (call.Arrival f)
  arrival_by_rows capacity spare rs ws f k = go (enter_rule capacity (entries rs) (entry.Arrival (as_meant nb canonical f))) (enter_ruled capacity (entries rs) (entry.Arrival (as_meant nb canonical f)))
    where
      Goal : Folder P → Told (List (Entry P)) → Type 0
      Goal g o = (and_so o (λ es. told (joined (arrival_rule nb rs g))) ≡ and_so (and_so o (sound_rule nb canonical)) (λ corrected. told (joined (arrival_mover nb (entries rs) g))))
          × Carries nb (later (and_so o (λ es. told (arrival_rows nb rs g))) rs) (later (and_so o (sound_rule nb canonical)) (entries rs))

      go : (o : Told (List (Entry P))) → Ruled o (entered (entry.Arrival (as_meant nb canonical f)) (entries rs)) (Enterable capacity (entries rs) (entry.Arrival (as_meant nb canonical f))) → Goal (as_meant nb canonical f) o
      go o (inl q) =
          let g = as_meant nb canonical f in
          let es' = entered (entry.Arrival g) (entries rs) in
          let served = served_sound _ ((soundness_by_stock nb L).arrival_entered (entries rs) g k.order k.served q.1.free) in
          subst (Goal g) (sym q.0)
          (subst (λ u. (told (joined (arrival_rule nb rs g)) ≡ and_so (if_served es' u) (λ corrected. told (joined (arrival_mover nb (entries rs) g)))) × Carries nb (arrival_rows nb rs g) (later (if_served es' u) (entries rs))) (sym served)
          (ap (λ m. told (joined m)) ((bridges_find_movers nb L).arrival rs g k q.1.free), (marks_kept nb L).arrival rs g k q.1.free))
      go o (inr q) = subst (Goal (as_meant nb canonical f)) (sym q.2) (refl, unchanged rs k)

  taking_by_rows : (capacity spare : ℕ) (rs : List (Row P)) (ws : List (Folder P)) (s : ℕ) → Kept nb rs → RightByRows capacity spare rs ws (call.Taking s)
  taking_by_rows capacity spare rs ws s k = go (enter_rule capacity (entries rs) (entry.Taking s)) (enter_ruled capacity (entries rs) (entry.Taking s))
    where
      Goal : Told (List (Entry P)) → Option ℕ → Type 0
      Goal o u = (and_so o (λ es. unless_unserved u (moved left s (taking_rule nb rs s))) ≡ and_so (and_so o (sound_rule nb canonical)) (λ corrected. moved left s (taking_mover nb corrected s)))
          × Carries nb (later (and_so o (λ es. unless_unserved u (told (taking_rows nb rs s)))) rs) (later (and_so o (sound_rule nb canonical)) (entries rs))

      Here : Option ℕ → Type 0
      Here u = (unless_unserved u (moved left s (taking_rule nb rs s)) ≡ and_so (if_served (entered (entry.Taking s) (entries rs)) u) (λ corrected. moved left s (taking_mover nb corrected s)))
          × Carries nb (later (unless_unserved u (told (taking_rows nb rs s))) rs) (later (if_served (entered (entry.Taking s) (entries rs)) u) (entries rs))

      by : dated s (entries rs) ≡ false → (u : Option ℕ) → first_unserved nb (entered (entry.Taking s) (entries rs)) ≡ u → Here u
      by d None e = let h = sound_served _ e in (ap (moved left s) ((bridges_find_movers nb L).taking rs s k d h), (marks_kept nb L).taking rs s k d h)
      by d (Some t) e = (refl, unchanged rs k)

      go : (o : Told (List (Entry P))) → Ruled o (entered (entry.Taking s) (entries rs)) (Enterable capacity (entries rs) (entry.Taking s)) → Goal o (unserved_entered rs s)
      go o (inl q) =
          let u = (soundness_by_stock nb L).taking_entered rs s k.order k.served q.1.free in
          let both = by q.1.free (first_unserved nb (entered (entry.Taking s) (entries rs))) refl in
          subst (λ x. Goal x (unserved_entered rs s)) (sym q.0) (subst (Goal (told (entered (entry.Taking s) (entries rs)))) u both)
      go o (inr q) = subst (λ x. Goal x (unserved_entered rs s)) (sym q.2) (refl, unchanged rs k)

  revoke_by_rows : (capacity spare : ℕ) (rs : List (Row P)) (ws : List (Folder P)) (s : ℕ) → Kept nb rs → RightByRows capacity spare rs ws (call.Revoke s)
  revoke_by_rows capacity spare rs ws s k = range (stamp_in_range s)
    where
      Goal : Bool → Bool → Option (Row P) → Option (Entry P) → Option ℕ → Type 0
      Goal a d ro eo u =
          (cond a (revoke_reply nb canonical rs s ro) (refused 1 []) ≡ and_so (cond a (cond d (if_served (struck s (entries rs)) u) (refused 5 [])) (refused 1 [])) (λ corrected. revoke_moves nb canonical (entries rs) corrected s eo))
          × Carries nb (later (cond a (revoke_rows nb canonical rs s ro) (refused 1 [])) rs) (later (cond a (cond d (if_served (struck s (entries rs)) u) (refused 5 [])) (refused 1 [])) (entries rs))

      stamp_is : (f : Folder P) → entry_at s (entries rs) ≡ Some (entry.Arrival f) → f.stamp ≡ s
      stamp_is f e = (striking 0 s (entry.Arrival f) (entries rs) (rising_journal (entries rs) k.order) e).0

      mark_is : (f : Folder P) (j : Mark) → Among (Arrival f j) rs → j ≡ cond (has_stamp f.stamp (waiting nb (entries rs))) Waiting Fetched
      mark_is f j m = mark_of_row (waiting nb (entries rs)) (entries rs) f j (subst (λ l. Among (Arrival f j) l) k.marks m)

      -- the row of a fetched arrival, by the stocks after it
      by_stock : (f : Folder P) → entry_at s (entries rs) ≡ Some (entry.Arrival f) → has_stamp s (waiting nb (entries rs)) ≡ false → (u : Option ℕ) → first_unserved nb (struck s (entries rs)) ≡ u
          → (unless_unserved u (moved left s (fetched_revoked_rule nb rs s)) ≡ and_so (if_served (struck s (entries rs)) u) (λ corrected. told (left (arrival_mover nb corrected f))))
          × Carries nb (later (unless_unserved u (told (fetched_revoked_rows nb rs s))) rs) (later (if_served (struck s (entries rs)) u) (entries rs))
      by_stock f e w None q = let h = sound_served _ q in (ap (moved left s) ((bridges_find_movers nb L).fetched_revoked rs s f k e w h), (marks_kept nb L).fetched_revoked rs s f k e w h)
      by_stock f e w (Some t) q = (refl, unchanged rs k)

      by_row : (r : Row P) → Among r rs → entry_at s (entries rs) ≡ Some (entry_of r) → Goal true true (Some r) (Some (entry_of r)) (first_unserved nb (struck s (entries rs)))
      by_row (Arrival f Waiting) m e =
          let w : has_stamp s (waiting nb (entries rs)) ≡ true = rw (stamp_is f e) at (waiting_mark _ (mark_is f Waiting m)) in
          let served = served_sound _ ((soundness_by_stock nb L).waiting_struck (entries rs) s f k.order k.served e w) in
          subst (Goal true true (Some (Arrival f Waiting)) (Some (entry.Arrival f))) (sym served)
          (ap (λ x. told (left x)) ((bridges_find_movers nb L).waiting_revoked rs s f k e w), (marks_kept nb L).waiting_revoked rs s f k e w)
      by_row (Arrival f Fetched) m e =
          let w : has_stamp s (waiting nb (entries rs)) ≡ false = rw (stamp_is f e) at (fetched_mark _ (mark_is f Fetched m)) in
          let o = first_unserved nb (struck s (entries rs)) in
          subst (λ u. (unless_unserved u (moved left s (fetched_revoked_rule nb rs s)) ≡ and_so (if_served (struck s (entries rs)) o) (λ corrected. told (left (arrival_mover nb corrected f))))
          × Carries nb (later (unless_unserved u (told (fetched_revoked_rows nb rs s))) rs) (later (if_served (struck s (entries rs)) o) (entries rs)))
          ((soundness_by_stock nb L).arrival_struck rs s f k.order k.served e) (by_stock f e w o refl)
      by_row (Taking t) m e =
          let served = served_sound _ ((soundness_by_stock nb L).taking_struck (entries rs) s t k.order k.served e) in
          subst (Goal true true (Some (Taking t)) (Some (entry.Taking t))) (sym served)
          (ap (moved joined s) ((bridges_find_movers nb L).taking_revoked rs s t k e), (marks_kept nb L).taking_revoked rs s t k e)

      found : (d : Bool) → dated s (entries rs) ≡ d → Goal true d (cond d (slice_get rs (earlier rs s)) None) (entry_at s (entries rs)) (first_unserved nb (struck s (entries rs)))
      found false q = (refl, unchanged rs k)
      found true q =
          let r = rising_journal (entries rs) k.order in
          let got = dated_row s rs q in
          let at : slice_get rs (earlier rs s) ≡ Some got.0 = subst (λ n. slice_get rs (earlier rs n) ≡ Some got.0) got.2 (row_at_place 0 rs got.0 r got.1) in
          let entered_is : entry_at s (entries rs) ≡ Some (entry_of got.0) = subst (λ n. entry_at n (entries rs) ≡ Some (entry_of got.0)) got.2 (entry_of_row 0 rs got.0 r got.1) in
          subst₂ (λ ro eo. Goal true true ro eo (first_unserved nb (struck s (entries rs)))) (sym at) (sym entered_is) (by_row got.0 got.1 entered_is)

      range : (a : Bool) → Goal a (dated s (entries rs)) (row_dated rs s) (entry_at s (entries rs)) (first_unserved nb (struck s (entries rs)))
      range false = (refl, unchanged rs k)
      range true = found (dated s (entries rs)) refl

  -- what stands at a stamp, by its row
  standing_by_rows : (rs : List (Row P)) (s : ℕ) → Kept nb rs → standing_by (row_dated rs s) ≡ standing_of nb canonical (entries rs) s (entry_at s (entries rs))
  standing_by_rows rs s k = found (dated s (entries rs)) refl
    where
      by_row : (r : Row P) → Among r rs → stamp_of (entry_of r) ≡ s → standing_by (Some r) ≡ standing_of nb canonical (entries rs) s (Some (entry_of r))
      by_row (Arrival f j) m q = go j (mark_of_row (waiting nb (entries rs)) (entries rs) f j (subst (λ l. Among (Arrival f j) l) k.marks m))
        where
          go : (j : Mark) → j ≡ cond (has_stamp f.stamp (waiting nb (entries rs))) Waiting Fetched → standing_by (Some (Arrival f j)) ≡ cond (has_stamp s (waiting nb (entries rs))) standing.Waiting standing.Fetched
          go Waiting e = sym (cond-true _ _ _ (rw q at (waiting_mark _ e)))
          go Fetched e = sym (cond-false _ _ _ (rw q at (fetched_mark _ e)))
      by_row (Taking t) m q = refl

      found : (d : Bool) → dated s (entries rs) ≡ d → standing_by (cond d (slice_get rs (earlier rs s)) None) ≡ standing_of nb canonical (entries rs) s (entry_at s (entries rs))
      found false q = rw (entry_absent s (entries rs) q) refl
      found true q =
          let r = rising_journal (entries rs) k.order in
          let got = dated_row s rs q in
          let at : slice_get rs (earlier rs s) ≡ Some got.0 = subst (λ n. slice_get rs (earlier rs n) ≡ Some got.0) got.2 (row_at_place 0 rs got.0 r got.1) in
          let entered_is : entry_at s (entries rs) ≡ Some (entry_of got.0) = subst (λ n. entry_at n (entries rs) ≡ Some (entry_of got.0)) got.2 (entry_of_row 0 rs got.0 r got.1) in
          subst₂ (λ ro eo. standing_by ro ≡ standing_of nb canonical (entries rs) s eo) (sym at) (sym entered_is) (by_row got.0 got.1 got.2)

  by_rows : (capacity spare : ℕ) (rs : List (Row P)) (ws : List (Folder P)) (c : Call P) → Kept nb rs → ws ≡ waiting nb (entries rs) → RightByRows capacity spare rs ws c
  by_rows capacity spare rs ws (call.Arrival f) k e = arrival_by_rows capacity spare rs ws f k
  by_rows capacity spare rs ws (call.Taking s) k e = taking_by_rows capacity spare rs ws s k
  by_rows capacity spare rs ws (call.Revoke s) k e = revoke_by_rows capacity spare rs ws s k
  by_rows capacity spare rs ws call.WaitingCount k e = (ap (λ l. told (counted (length l))) e, unchanged rs k)
  by_rows capacity spare rs ws (call.WaitingAt n) k e = (ap (λ l. told (waits_at (slice_get l n))) e, unchanged rs k)
  by_rows capacity spare rs ws (call.Standing s) k e = (ap (λ x. told (standing_is x)) (standing_by_rows rs s k), unchanged rs k)
  by_rows capacity spare rs ws (call.LookBack s) k e = (refl, unchanged rs k)

  pub answers_by_rows : AnswersByRows nb canonical
  answers_by_rows = record {
    replied = λ capacity spare rs ws c k e. (by_rows capacity spare rs ws c k e).0;
    carried = λ capacity rs c k. (by_rows capacity 0 rs (waiting nb (entries rs)) c k refl).1;
  }
