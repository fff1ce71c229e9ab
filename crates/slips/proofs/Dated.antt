-- Searches among entries: whether a stamp is there, and where an entry goes.
use Rattle.std.proofs.Common.{◌≡◌, ℕ, zero, suc, ◌+◌, ◌<◌, ◌≤◌, Bool, true, false, cond, ◌&&◌, ltb, List, [], ◌∷◌, length, get_or, drop, Ok, Err, Result, sym, refl, ap, ◌∙◌, add-one, one-add, arith, drop-cons}
use Rattle.std.specs.List.{prefix_len, insert}
use Rattle.std.specs.List.Sorted.{IsSearchInRange, IsBinarySearchResult, IsNonDecreasingBy}
use Rattle.std.specs.Ordering.{nat_cmp, ordering_index}
use Rattle.std.proofs.lemmas.Bool.Decides.{nat_tests}
use Rattle.std.proofs.lemmas.Cmp.{ranked}
use Rattle.std.proofs.lemmas.List.Sorted.{IsNonDecreasingBy-from_default}
use Rattle.std.proofs.lemmas.List.Sums.{prefix_len_is}
use Rattle.journal.specs.declared.entry.Entry.{Entry}
use Rattle.orders.specs.Refusal.{told}
use Rattle.journal.specs.Entering.{enter_rule, stamp_in_range, number_in_range}
use Rattle.journal.specs.Racks.{most_entries}
use Rattle.slips.specs.Enter.{Admitted}
use Rattle.journal.specs.Replay.{stamp_of, dated, entered, by_stamp}

pub drop_next : {X : Type 0} (xs : List X) (i : ℕ) (x : X) → i < length xs → x ≡ get_or xs i x → drop i xs ≡ x ∷ drop (i + 1) xs
drop_next xs i x lt is = rw (add-one i) (drop-cons xs i x lt ∙ ap (λ y. y ∷ drop (suc i) xs) (sym is))

module _ {P : Type 0} where
  -- an entry of this stamp is there
  pub dated_at : (s : ℕ) (es : List (Entry P)) (i : ℕ) (d : Entry P) → i < length es → stamp_of (get_or es i d) ≡ s → dated s es ≡ true
  dated_at s [] i d lt h = absurd (let o : ⊥ = omega arith in o)
  dated_at s (e ∷ es) zero d lt h = grind (arith, nat_tests)
  dated_at s (e ∷ es) (suc i) d lt h = let ih = dated_at s es i d (omega arith) h in grind (arith, nat_tests)

  -- no entry of this stamp is there
  pub not_dated : (s : ℕ) (es : List (Entry P)) (d : Entry P) → ((i : ℕ) → i < length es → stamp_of (get_or es i d) ≡ s → ⊥) → dated s es ≡ false
  not_dated s [] d h = refl
  not_dated s (e ∷ es) d h = let ih = not_dated s es d (λ i lt. h (suc i) (omega arith)) in let here = h 0 (omega arith) in grind (arith, nat_tests)

  -- the first stamp is below each later one
  first_below : (e : Entry P) (es : List (Entry P)) (j : ℕ) (d : Entry P) → by_stamp (e ∷ es) ≡ true → j < length es → stamp_of e < stamp_of (get_or es j d)
  first_below e [] j d h lt = absurd (let o : ⊥ = omega arith in o)
  first_below e (c ∷ cs) zero d h lt = grind (arith, nat_tests)
  first_below e (c ∷ cs) (suc j) d h lt = let later = first_below c cs j d (grind (arith, nat_tests)) (omega arith) in grind (arith, nat_tests)

  stamps_rise : (es : List (Entry P)) (i j : ℕ) (d : Entry P) → by_stamp es ≡ true → i < j → j < length es → stamp_of (get_or es i d) < stamp_of (get_or es j d)
  stamps_rise [] i j d h lt within = absurd (let o : ⊥ = omega arith in o)
  stamps_rise (e ∷ es) i zero d h lt within = absurd (let o : ⊥ = omega arith in o)
  stamps_rise (e ∷ es) zero (suc j) d h lt within = first_below e es j d h (omega arith)
  stamps_rise (e ∷ []) (suc i) (suc j) d h lt within = absurd (let o : ⊥ = omega arith in o)
  stamps_rise (e ∷ (c ∷ cs)) (suc i) (suc j) d h lt within = stamps_rise (c ∷ cs) i j d (grind (arith, nat_tests)) (omega arith) (omega arith)

module _ {P : Type 0} where
  -- the first of these, if any, has a greater stamp
  abbrev pub first_above : ℕ → List (Entry P) → Bool
  first_above s [] = true
  first_above s (d ∷ ds) = ltb s (stamp_of d)

  pub rising_parts : (d : Entry P) (ds : List (Entry P)) → by_stamp (d ∷ ds) ≡ (first_above (stamp_of d) ds && by_stamp ds)
  rising_parts d [] = refl
  rising_parts d (c ∷ cs) = refl

module _ {P : Type 0} (e : Entry P) where
  -- the entries before an entry's place
  abbrev pub before_entry : List (Entry P) → ℕ
  before_entry es = prefix_len (λ d. ltb (stamp_of d) (stamp_of e)) es

  -- where the stamp is free, the entry goes before the first of a greater stamp
  pub entered_at : (es : List (Entry P)) → dated (stamp_of e) es ≡ false → entered e es ≡ insert es (before_entry es) e
  entered_at [] free = refl
  entered_at (d ∷ ds) free = go (ltb (stamp_of d) (stamp_of e)) (before_entry ds) refl (entered_at ds)
    where
      go : (b : Bool) (k : ℕ) → ltb (stamp_of d) (stamp_of e) ≡ b → (dated (stamp_of e) ds ≡ false → entered e ds ≡ insert ds k e)
          → entered e (d ∷ ds) ≡ insert (d ∷ ds) (cond b (1 + k) 0) e
      go true k lt ih =
          let later : entered e (d ∷ ds) ≡ d ∷ entered e ds = grind (arith, nat_tests) in
          rw (one-add k) (later ∙ ap (λ es. d ∷ es) (ih (grind (arith, nat_tests))))
      go false k lt ih = grind (arith, nat_tests)

  first_above_entered : (s : ℕ) (ds : List (Entry P)) → ltb s (stamp_of e) ≡ true → first_above s ds ≡ true → first_above s (entered e ds) ≡ true
  first_above_entered s [] lt h = lt
  first_above_entered s (d ∷ ds) lt h = grind (arith, nat_tests)

  pub entered_rising : (es : List (Entry P)) → by_stamp es ≡ true → dated (stamp_of e) es ≡ false → by_stamp (entered e es) ≡ true
  entered_rising [] h free = refl
  entered_rising (d ∷ ds) h free =
      let ih = entered_rising ds in
      let parts = rising_parts d ds in
      let parts_after = rising_parts d (entered e ds) in
      let before_all = rising_parts e (d ∷ ds) in
      let first = first_above_entered (stamp_of d) ds in
      grind (arith, nat_tests)

  before_entry_within : (es : List (Entry P)) → before_entry es ≤ length es
  before_entry_within [] = omega arith
  before_entry_within (d ∷ ds) = let ih = before_entry_within ds in grind arith

  -- what a search for the entry's stamp tells: the stamp is there, or it is free, and where the entry goes
  abbrev pub Found : List (Entry P) → Result ℕ ℕ → Type 0
  Found es (Ok at) = dated (stamp_of e) es ≡ true
  Found es (Err at) = (dated (stamp_of e) es ≡ false) × (at ≡ before_entry es)

  comparisons_rise : (es : List (Entry P)) → by_stamp es ≡ true → IsNonDecreasingBy (λ d. ordering_index (nat_cmp (stamp_of d) (stamp_of e))) es
  comparisons_rise es h = IsNonDecreasingBy-from_default (λ d. ordering_index (nat_cmp (stamp_of d) (stamp_of e))) es e (λ i j le within.
      let rise = stamps_rise es i j e h in
      let same = λ (same : i ≡ j). ap (λ k. stamp_of (get_or es k e)) same in
      grind (arith, nat_tests))

  pub searched : (es : List (Entry P)) (r : Result ℕ ℕ) → by_stamp es ≡ true → IsSearchInRange r (length es) → IsBinarySearchResult (λ d. nat_cmp (stamp_of d) (stamp_of e)) es r → Found es r
  searched es (Ok at) h within found = dated_at (stamp_of e) es at e within (ranked _ (stamp_of e) _ (sym (found e)))
  searched es (Err at) h within parted =
      let parts = parted (comparisons_rise es h) in
      let less : (i : ℕ) → i < at → stamp_of (get_or es i e) < stamp_of e = λ i lt. ranked _ (stamp_of e) _ (sym (parts.0 i e (omega arith) lt)) in
      let greater : (i : ℕ) → at ≤ i → i < length es → stamp_of e < stamp_of (get_or es i e) = λ i le lt. ranked _ (stamp_of e) _ (sym (parts.1 i e le lt)) in (
        not_dated (stamp_of e) es e (λ i lt same. grind (arith, less i, greater i)),
        sym (prefix_len_is (λ d. ltb (stamp_of d) (stamp_of e)) es at e within (λ i lt. grind (arith, nat_tests, less i lt)) (λ lt. grind (arith, nat_tests, greater at (omega arith) lt))),
      )

  -- a slip that passes every question goes before the first of a greater stamp
  pub admitted : (es : List (Entry P)) → stamp_in_range (stamp_of e) ≡ true → number_in_range e ≡ true → dated (stamp_of e) es ≡ false → length es < most_entries
      → Admitted es e (before_entry es)
  admitted es stamp number free room =
      let at = entered_at es free in
      let accepted : enter_rule most_entries es e ≡ told (entered e es) = grind (arith, nat_tests) in
      record {
        rule = accepted ∙ ap told at;
        within = before_entry_within es;
        room = room;
        rising = λ h. ap by_stamp (sym at) ∙ entered_rising es h free;
      }
