-- The probe for a stamp is lawful, and by rising stamps its first hit is where the stamp belongs.
use Rattle.std.proofs.Common.{◌≡◌, ℕ, suc, ◌+◌, ◌≤◌, max, Bool, true, false, cond, ◌||◌, ltb, leb, List, [], ◌∷◌, map, length, Some, None, Option, sym, refl, ap, ◌∙◌, arith}
use Rattle.std.proofs.lemmas.Bool.{and_parts, ltb-true, leb-true, leb-false, lt-ltb, le-ltb}
use Rattle.std.proofs.lemmas.Bool.Decides.{nat_tests}
use Rattle.std.specs.List.{slice_get}
use Rattle.std.specs.Option.{unwrap_or}
use Rattle.nodes.specs.Tree.{Tree, leaf, branch, items, summary}
use Rattle.nodes.specs.Hits.{passed, any_hit, first_in, rank_in, Lawful}
use Rattle.nodes.proofs.Hunts.{any_append, ranked}
use Rattle.journal.specs.Replay.{stamp_of, rising, by_stamp, dated}
use Rattle.journal.specs.Rows.{entry_of, entries}
use Rattle.journal.specs.Searches.{earlier, place_and_whether}
use Rattle.rows.specs.declared.not_before.NotBefore.{NotBefore}
use Rattle.rows.specs.declared.row_item.RowItem.{RowItem}
use Rattle.rows.specs.Tallies.{chosen}
use Rattle.rows.specs.Sums.{no_rows, sum_whole, rows_of}
use Rattle.rows.specs.Probes.{passes, dated_at, not_before}

-- one of two passes where the chosen one does
pub passes_chosen : {A : Type 0} (test : A → Bool) (choose : A → A → A) → ((x y : A) → test (choose x y) ≡ (test x || test y)) → (a b : Option A) → passes test (chosen choose a b) ≡ (passes test a || passes test b)
passes_chosen test choose either None b = refl
passes_chosen test choose either (Some x) None = grind arith
passes_chosen test choose either (Some x) (Some y) = either x y

leb_max : (s x y : ℕ) → leb s (max x y) ≡ (leb s x || leb s y)
leb_max s x y = grind (arith, nat_tests)

module _ {P : Type 0} (nb : P → P → Bool) where
  same_probe : (p : NotBefore) (xs : List (RowItem P)) → passed not_before p xs ≡ p
  same_probe p [] = refl
  same_probe p (x ∷ xs) = same_probe p xs

  reaches_is : (p : NotBefore) (t : Tree (RowItem P)) → passes (leb p.stamp) (summary no_rows (sum_whole nb) t).latest ≡ any_hit not_before p (items t)
  reaches_is p leaf = refl
  reaches_is p (branch slot item before after) =
      let test = leb p.stamp in
      let b = (summary no_rows (sum_whole nb) before).latest in
      let a = (summary no_rows (sum_whole nb) after).latest in
      let here = Some (stamp_of (entry_of item.row)) in
      let split = passes_chosen test max (leb_max p.stamp) in
      let whole = split (chosen max b here) a in
      let front = split b here in
      let all = any_append not_before p (items before) (item ∷ items after) in
      let same : any_hit not_before (passed not_before p (items before)) (item ∷ items after) ≡ any_hit not_before p (item ∷ items after) = ap (λ q. any_hit not_before q (item ∷ items after)) (same_probe p (items before)) in
      let ihb = reaches_is p before in
      let iha = reaches_is p after in
      grind arith

  pub lawful_not_before : (p : NotBefore) (xs : List (RowItem P)) → Lawful no_rows (sum_whole nb) not_before p xs
  lawful_not_before p xs = record {
    passes = λ fs t bs e. sym (same_probe (passed not_before p fs) (items t));
    finds = λ fs t bs e. reaches_is (passed not_before p fs) t;
  }

rising_rest : (n : ℕ) (ns : List ℕ) → rising (n ∷ ns) ≡ true → rising ns ≡ true
rising_rest n [] r = refl
rising_rest n (m ∷ ms) r = (and_parts (ltb n m) (rising (m ∷ ms)) r).1

module _ {P : Type 0} (s : ℕ) where
  -- past a stamp that is not below, no stamp is lesser and none is this one
  none_later : (n : ℕ) (xs : List (RowItem P)) → s ≤ n → rising (n ∷ map stamp_of (entries (rows_of xs))) ≡ true → (earlier (rows_of xs) s ≡ 0) × (dated s (entries (rows_of xs)) ≡ false)
  none_later n [] le r = (refl, refl)
  none_later n (x ∷ xs) le r =
      let m = stamp_of (entry_of x.row) in
      let parts = and_parts (ltb n m) (rising (m ∷ map stamp_of (entries (rows_of xs)))) r in
      let more = ltb-true n m parts.0 in
      let ih = none_later m xs (omega arith) parts.1 in
      (grind (arith, nat_tests, ih.0), grind (arith, nat_tests, ih.1))

  -- k is j from b, and the row at j has the stamp if any row has
  abbrev Stands : ℕ → ℕ → ℕ → List (RowItem P) → Type 0
  Stands k b j xs = (k ≡ b + j) × (dated s (entries (rows_of xs)) ≡ passes (dated_at s) (slice_get xs j))

  -- the first hit stands after the lesser stamps, which are all where there is no hit
  found_at : (b : ℕ) (xs : List (RowItem P)) → by_stamp (entries (rows_of xs)) ≡ true → Stands (unwrap_or (first_in not_before (record { stamp = s }) b xs) (b + length xs)) b (earlier (rows_of xs) s) xs
  found_at b [] r = (refl, refl)
  found_at b (x ∷ xs) r = go (leb s (stamp_of (entry_of x.row))) refl (found_at (suc b) xs (rising_rest (stamp_of (entry_of x.row)) (map stamp_of (entries (rows_of xs))) r))
    where
      go : (h : Bool) → leb s (stamp_of (entry_of x.row)) ≡ h → Stands (unwrap_or (first_in not_before (record { stamp = s }) (suc b) xs) (suc b + length xs)) (suc b) (earlier (rows_of xs) s) xs
          → Stands (unwrap_or (cond h (Some b) (first_in not_before (record { stamp = s }) (suc b) xs)) (b + suc (length xs))) b (earlier (rows_of (x ∷ xs)) s) (x ∷ xs)
      go true h told =
          let m = stamp_of (entry_of x.row) in
          let none = none_later m xs (leb-true s m h) r in
          let at : earlier (rows_of (x ∷ xs)) s ≡ 0 = rw (le-ltb m s (leb-true s m h)) none.0 in
          let last = none.1 in
          rw at (omega arith, grind arith)
      go false h told =
          let m = stamp_of (entry_of x.row) in
          let less = leb-false s m h in
          let at : earlier (rows_of (x ∷ xs)) s ≡ suc (earlier (rows_of xs) s) = rw (lt-ltb m s less) (omega arith) in
          let all : b + suc (length xs) ≡ suc b + length xs = omega arith in
          let later = told.1 in
          rw (at, all) (omega (arith, told.0), grind (arith, nat_tests))

  -- what a search by this probe answers tells the place of the stamp and whether a row has it
  pub ranked_place : (xs : List (RowItem P)) (answer : ℕ × Option (RowItem P)) (b : Bool) → by_stamp (entries (rows_of xs)) ≡ true → answer ≡ rank_in not_before (record { stamp = s }) xs → b ≡ passes (dated_at s) answer.1 → (answer.0, b) ≡ place_and_whether (rows_of xs) s
  ranked_place xs answer b r is told =
      let found = found_at 0 xs r in
      let at = ranked not_before (record { stamp = s }) xs (earlier (rows_of xs) s) is found.0 in
      let alike = told ∙ ap (λ (a : ℕ × Option (RowItem P)). passes (dated_at s) a.1) at ∙ sym found.1 in
      ap (λ (a : ℕ × Option (RowItem P)). (a.0, b)) at ∙ ap (λ (c : Bool). (earlier (rows_of xs) s, c)) alike
