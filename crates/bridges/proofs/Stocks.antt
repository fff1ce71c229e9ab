-- Soundness by stock: a run with one folder fewer finds the rack empty just before the first low stock.
use Rattle.std.proofs.Common.{◌≡◌, ℕ, zero, suc, ◌+◌, ◌-◌, ◌<◌, ◌≤◌, Bool, true, false, cond, eqb, ltb, List, [], ◌∷◌, ◌++◌, length, drop, Some, None, Option, sym, refl, ap, ◌∙◌, arith, length-append}
use lib.ListN.{length-map}
use Rattle.std.specs.Option.{option_map}
use Rattle.std.specs.List.{slice_get}
use Rattle.std.proofs.lemmas.Bool.{eqb-false, lt-leb, lt-ltb, le-ltb, eq-eqb, ne_eqb}
use Rattle.journal.specs.declared.folder.Folder.{Folder}
use Rattle.journal.specs.declared.entry.Entry.{Entry}
use Rattle.journal.specs.declared.entry.Entry.TheVariants.{Arrival, Taking}
use Rattle.journal.specs.declared.row.Row.{Row}
use Rattle.journal.specs.Folders.{placed}
use Rattle.journal.specs.Replay.{stamp_of, replay, rack_after, fetches, first_empty, first_unserved}
use Rattle.journal.specs.Rows.{entry_of, entries, stock}
use Rattle.journal.specs.Searches.{earlier, place_in, least_from, low, first_low_stock}
use Rattle.bridges.specs.Racks.{Rising, Served}
use Rattle.bridges.specs.Counting.{rack_at}
use Rattle.bridges.specs.Soundness.{stamp_before, before_low, new_or_before_low, unserved_entered, unserved_struck}
use Rattle.bridges.proofs.Racks.{rising_earlier}
use Rattle.bridges.proofs.OneMore.{never_served}
use Rattle.bridges.proofs.Journals.{Older, served_parts}
use Rattle.bridges.proofs.Places.{step_at, rack_seam, drop_seam, rack_next, drop_next}
use Rattle.bridges.proofs.Sums.{stock_at}
use Rattle.journal.proofs.Placed.{length_placed}

-- the stamp of the first taking that finds no folder, where n folders are there at the beginning
abbrev pub unserved : {P : Type 0} → ℕ → List (Entry P) → Option ℕ
unserved n [] = None
unserved n (Arrival f ∷ es) = unserved (suc n) es
unserved zero (Taking s ∷ es) = Some s
unserved (suc n) (Taking s ∷ es) = unserved n es

module _ {P : Type 0} where
  -- how many entries have a lesser stamp: those before, of a journal in two parts
  pub earlier_none : (s : ℕ) (rs : List (Row P)) → Rising s (entries rs) → earlier rs s ≡ 0
  earlier_none s [] r = refl
  earlier_none s (x ∷ rs) r = rw (le-ltb (stamp_of (entry_of x)) s r.0) (earlier_none s rs (rising_earlier s _ (entries rs) (omega (arith, r.0)) r.1))

  pub earlier_parts : (s : ℕ) (xs ys : List (Entry P)) (rs : List (Row P)) → entries rs ≡ xs ++ ys → Older s xs → Rising s ys → earlier rs s ≡ length xs
  earlier_parts s [] ys rs e o r = earlier_none s rs (rw e r)
  earlier_parts s (x ∷ xs) ys [] e o r = absurd (let z : ◌≡◌ {A = ℕ} 0 1 = cc in omega arith)
  earlier_parts s (x ∷ xs) ys (a ∷ rs) e o r =
      let h : entry_of a ≡ x = cc in
      let t : entries rs ≡ xs ++ ys = cc in
      rw (lt-ltb (stamp_of (entry_of a)) s (omega (arith, ap stamp_of h, o.0))) (let ih = earlier_parts s xs ys rs t o.1 r in omega arith)

  pub earlier_within : (rs : List (Row P)) (s : ℕ) → earlier rs s ≤ length rs
  earlier_within [] s = omega arith
  earlier_within (x ∷ rs) s = go (ltb (stamp_of (entry_of x)) s) (earlier_within rs s)
    where
      go : (b : Bool) → earlier rs s ≤ length rs → cond b (1 + earlier rs s) (earlier rs s) ≤ suc (length rs)
      go true ih = omega arith
      go false ih = omega arith

  -- the stamp of the row at a place, from the entries that follow the place
  pub stamp_at : (i : ℕ) (rs : List (Row P)) (e : Entry P) (es : List (Entry P)) → drop i (entries rs) ≡ e ∷ es → stamp_before rs (suc i) ≡ Some (stamp_of e)
  stamp_at i [] e es h = absurd (let z : ◌≡◌ {A = ℕ} 0 1 = cc (lib.Seq.drop-nil {A = Entry P} i) in omega arith)
  stamp_at zero (a ∷ rs) e es h = let k : entry_of a ≡ e = cc in ap (λ x. Some (stamp_of x)) k
  stamp_at (suc i) (a ∷ rs) e es h = stamp_at i rs e es h

-- the least number found is not below where the search began
pub least_after : (test : ℕ → Bool) (n j k : ℕ) → least_from test j n ≡ Some k → j ≤ k
least_after test zero j k h = absurd (let z : ◌≡◌ {A = ℕ} 0 1 = cc in omega arith)
least_after test (suc n) j k h = go (test j) h (least_after test n (suc j) k)
  where
    go : (b : Bool) → cond b (Some j) (least_from test (suc j) n) ≡ Some k → (least_from test (suc j) n ≡ Some k → suc j ≤ k) → j ≤ k
    go true e ih = let same : j ≡ k = cc in omega arith
    go false e ih = omega (arith, ih e)

-- nor is it beyond where the search ended
least_before : (test : ℕ → Bool) (n j k : ℕ) → least_from test j n ≡ Some k → k < j + n
least_before test zero j k h = absurd (let z : ◌≡◌ {A = ℕ} 0 1 = cc in omega arith)
least_before test (suc n) j k h = go (test j) h (least_before test n (suc j) k)
  where
    go : (b : Bool) → cond b (Some j) (least_from test (suc j) n) ≡ Some k → (least_from test (suc j) n ≡ Some k → k < suc j + n) → k < j + suc n
    go true e ih = let same : j ≡ k = cc in omega arith
    go false e ih = omega (arith, ih e)

at_place : {A : Type 0} (i : ℕ) (xs : List A) → i < length xs → (x : A) × (slice_get xs i ≡ Some x)
at_place i [] lt = absurd (omega arith)
at_place zero (x ∷ xs) lt = (x, refl)
at_place (suc i) (x ∷ xs) lt = at_place i xs (omega arith)

module _ {P : Type 0} where
  -- a low place that is found, after the first, has a row before it
  low_has_row : (rs : List (Row P)) (p j : ℕ) → first_low_stock rs p ≡ Some j → 1 ≤ j → stamp_before rs j ≡ None → ⊥
  low_has_row rs p zero e le h = omega arith
  low_has_row rs p (suc i) e le h =
      let q = place_in rs p in
      let lt : suc i < q + suc (length rs - q) = least_before (low (stock rs)) (suc (length rs - q)) q (suc i) e in
      let got = at_place i rs (omega arith) in
      never_served (stamp_of (entry_of got.0)) (ap (option_map (λ (r : Row P). stamp_of (entry_of r))) (sym got.1) ∙ h)

  pub entered_by_low : (rs : List (Row P)) (s : ℕ) → unserved_entered rs s ≡ None → first_low_stock rs (earlier rs s) ≡ None
  entered_by_low rs s h = go (first_low_stock rs (earlier rs s)) refl h
    where
      go : (o : Option ℕ) → first_low_stock rs (earlier rs s) ≡ o → new_or_before_low rs (earlier rs s) s o ≡ None → o ≡ None
      go None e k = refl
      go (Some j) e k = here (eqb j (earlier rs s)) refl k
        where
          here : (b : Bool) → eqb j (earlier rs s) ≡ b → cond b (Some s) (stamp_before rs j) ≡ None → Some j ≡ None
          here true q z = absurd (never_served s z)
          here false q z =
              let after : place_in rs (earlier rs s) ≤ j = least_after (low (stock rs)) (suc (length rs - place_in rs (earlier rs s))) (place_in rs (earlier rs s)) j e in
              absurd (low_has_row rs (earlier rs s) j e (positive after (eqb-false j (earlier rs s) q)) z)
            where
              positive : place_in rs (earlier rs s) ≤ j → (j ≡ earlier rs s → ⊥) → 1 ≤ j
              positive le ne = omega (arith, earlier_within rs s)

  pub struck_by_low : (rs : List (Row P)) (s : ℕ) → 1 ≤ length rs → unserved_struck rs s ≡ None → first_low_stock rs (suc (earlier rs s)) ≡ None
  struck_by_low rs s some h = go (first_low_stock rs (suc (earlier rs s))) refl h
    where
      go : (o : Option ℕ) → first_low_stock rs (suc (earlier rs s)) ≡ o → before_low rs o ≡ None → o ≡ None
      go None e k = refl
      go (Some j) e k =
          let after : place_in rs (suc (earlier rs s)) ≤ j = least_after (low (stock rs)) (suc (length rs - place_in rs (suc (earlier rs s)))) (place_in rs (suc (earlier rs s))) j e in
          absurd (low_has_row rs (suc (earlier rs s)) j e (omega arith) k)

module _ {P : Type 0} (nb : P → P → Bool) where
  first_empty_counted : (es : List (Entry P)) (rack : List (Folder P)) → first_empty (fetches nb rack es) ≡ unserved (length rack) es
  first_empty_counted [] rack = refl
  first_empty_counted (Arrival f ∷ es) rack = first_empty_counted es (placed nb f rack) ∙ ap (λ n. unserved n es) (length_placed nb f rack)
  first_empty_counted (Taking s ∷ es) [] = refl
  first_empty_counted (Taking s ∷ es) (y ∷ rack) = first_empty_counted es rack

  first_empty_append : (xs ys : List (Entry P)) (rack : List (Folder P)) → Served nb rack xs → first_empty (fetches nb rack (xs ++ ys)) ≡ first_empty (fetches nb (replay nb rack xs) ys)
  first_empty_append [] ys rack s = refl
  first_empty_append (Arrival f ∷ xs) ys rack s = first_empty_append xs ys (placed nb f rack) s
  first_empty_append (Taking t ∷ xs) ys [] s = absurd (never_served t s)
  first_empty_append (Taking t ∷ xs) ys (y ∷ rack) s = first_empty_append xs ys rack s

  module _ (rs : List (Row P)) (served : Served nb [] (entries rs)) where
    low_empty : (j : ℕ) → length (rack_at nb (entries rs) j) ≡ 0 → low (stock rs) j ≡ true
    low_empty j h = rw (stock_at nb rs served j, h) refl

    low_filled : (j n : ℕ) → length (rack_at nb (entries rs) j) ≡ suc n → low (stock rs) j ≡ false
    low_filled j n h = rw (stock_at nb rs served j, h) (lt-leb (suc n) 0 (omega arith))

    -- from a place with suc n folders in the old journal, the run with n folders
    fewer : (d i n : ℕ) → i + d ≡ length rs → length (rack_at nb (entries rs) i) ≡ suc n → unserved n (drop i (entries rs)) ≡ before_low rs (least_from (low (stock rs)) (suc i) d)
    fewer zero i n e h = rw (lib.ListN.drop_of_length-le (entries rs) {i = i} (omega (arith, length-map rs entry_of))) refl
    fewer (suc d) i n e h =
        let st = step_at nb i (entries rs) [] (omega (arith, length-map rs entry_of)) in
        rw st.1 (go st.0 st.1 st.2 n h (rack_at nb (entries rs) i) refl (λ m k. fewer d (suc i) m (omega arith) k))
      where
        go : (a : Entry P) → drop i (entries rs) ≡ a ∷ drop (suc i) (entries rs) → rack_at nb (entries rs) (suc i) ≡ rack_after nb (rack_at nb (entries rs) i) a
            → (n : ℕ) → length (rack_at nb (entries rs) i) ≡ suc n
            → (rack : List (Folder P)) → rack_at nb (entries rs) i ≡ rack
            → ((m : ℕ) → length (rack_at nb (entries rs) (suc i)) ≡ suc m → unserved m (drop (suc i) (entries rs)) ≡ before_low rs (least_from (low (stock rs)) (suc (suc i)) d))
            → unserved n (a ∷ drop (suc i) (entries rs)) ≡ before_low rs (cond (low (stock rs) (suc i)) (Some (suc i)) (least_from (low (stock rs)) (suc (suc i)) d))
        go a d' s n h [] q ih = absurd (omega (arith, ap length q))
        go (Arrival f) d' s n h (y ∷ rack) q ih =
            let l : length (rack_at nb (entries rs) (suc i)) ≡ suc (suc n) = ap length s ∙ length_placed nb f (rack_at nb (entries rs) i) ∙ ap suc h in
            rw (low_filled (suc i) (suc n) l) (ih (suc n) l)
        go (Taking t) d' s zero h (y ∷ rack) q ih =
            let l : length (rack_at nb (entries rs) (suc i)) ≡ 0 = ap length s ∙ ap (λ r. length (Rattle.journal.specs.Folders.rest r)) q ∙ (let z = ap length q in omega arith) in
            rw (low_empty (suc i) l) (sym (stamp_at i rs (Taking t) (drop (suc i) (entries rs)) d'))
        go (Taking t) d' s (suc n) h (y ∷ rack) q ih =
            let l : length (rack_at nb (entries rs) (suc i)) ≡ suc n = ap length s ∙ ap (λ r. length (Rattle.journal.specs.Folders.rest r)) q ∙ (let z = ap length q in omega arith) in
            rw (low_filled (suc i) n l) (ih n l)

    -- the first low stock from a place with folders, and from a place without
    from_filled : (p n : ℕ) → p ≤ length rs → length (rack_at nb (entries rs) p) ≡ suc n → first_low_stock rs p ≡ least_from (low (stock rs)) (suc p) (length rs - p)
    from_filled p n le h =
        let at : place_in rs p ≡ p = omega arith in
        rw (at, low_filled p n h)

    from_empty : (p : ℕ) → p ≤ length rs → length (rack_at nb (entries rs) p) ≡ 0 → first_low_stock rs p ≡ Some p
    from_empty p le h =
        let at : place_in rs p ≡ p = omega arith in
        rw (at, low_empty p h)

  -- what is found after a place is not the place itself
  not_here : (rs : List (Row P)) (p s : ℕ) (o : Option ℕ) → ((k : ℕ) → o ≡ Some k → suc p ≤ k) → new_or_before_low rs p s o ≡ before_low rs o
  not_here rs p s None h = refl
  not_here rs p s (Some k) h = rw (ne_eqb k p (λ e. omega (arith, h k refl)))

  -- a taking between the first entries and the others
  pub taking_between_unserved : (rs : List (Row P)) (xs ys : List (Entry P)) (s : ℕ) → entries rs ≡ xs ++ ys → Older s xs → Rising (suc s) ys → Served nb [] (entries rs)
      → first_unserved nb (xs ++ Taking s ∷ ys) ≡ unserved_entered rs s
  taking_between_unserved rs xs ys s e o r v = go (replay nb [] xs) refl
    where
      place : earlier rs s ≡ length xs
      place = earlier_parts s xs ys rs e o (rising_earlier s (suc s) ys (omega arith) r)

      size : length rs ≡ length xs + length ys
      size = sym (length-map rs entry_of) ∙ ap length e ∙ length-append xs ys

      served_front : Served nb [] xs
      served_front = (served_parts nb xs ys [] (rw e at v)).0

      unserved_is : first_unserved nb (xs ++ Taking s ∷ ys) ≡ unserved (length (replay nb [] xs)) (Taking s ∷ ys)
      unserved_is = first_empty_append xs (Taking s ∷ ys) [] served_front ∙ first_empty_counted (Taking s ∷ ys) (replay nb [] xs)

      go : (rack : List (Folder P)) → replay nb [] xs ≡ rack → first_unserved nb (xs ++ Taking s ∷ ys) ≡ unserved_entered rs s
      go [] q =
          let l : length (rack_at nb (entries rs) (length xs)) ≡ 0 = ap length (rack_seam nb (entries rs) xs ys e ∙ q) in
          unserved_is ∙ ap (λ n. unserved n (Taking s ∷ ys)) (ap length q)
          ∙ sym (ap (λ p. new_or_before_low rs p s (first_low_stock rs p)) place ∙ ap (new_or_before_low rs (length xs) s) (from_empty rs v (length xs) (omega (arith, size)) l) ∙ (rw (eq-eqb (length xs) (length xs) refl)))
      go (y ∷ rack) q =
          let n = length rack in
          let l : length (rack_at nb (entries rs) (length xs)) ≡ suc n = ap length (rack_seam nb (entries rs) xs ys e ∙ q) in
          let rest-is : drop (length xs) (entries rs) ≡ ys = drop_seam (entries rs) xs ys e in
          let found = from_filled rs v (length xs) n (omega (arith, size)) l in
          unserved_is ∙ ap (λ k. unserved k (Taking s ∷ ys)) (ap length q)
          ∙ ap (unserved n) (sym rest-is) ∙ fewer rs v (length rs - length xs) (length xs) n (omega (arith, size)) l
          ∙ sym (ap (λ p. new_or_before_low rs p s (first_low_stock rs p)) place ∙ ap (new_or_before_low rs (length xs) s) found
          ∙ not_here rs (length xs) s _ (λ k h. least_after (low (stock rs)) (length rs - length xs) (suc (length xs)) k h))

  -- an arrival between the first entries and the others, struck out
  pub arrival_between_unserved : (rs : List (Row P)) (xs ys : List (Entry P)) (f : Folder P) → entries rs ≡ xs ++ Arrival f ∷ ys → Older f.stamp xs → Rising (suc f.stamp) ys → Served nb [] (entries rs)
      → first_unserved nb (xs ++ ys) ≡ unserved_struck rs f.stamp
  arrival_between_unserved rs xs ys f e o r v =
      first_empty_append xs ys [] served_front ∙ first_empty_counted ys (replay nb [] xs)
      ∙ ap (unserved (length (replay nb [] xs))) (sym (drop_next (entries rs) xs ys (Arrival f) e)) ∙ fewer rs v (length rs - suc (length xs)) (suc (length xs)) (length (replay nb [] xs)) (omega (arith, size)) size_after
      ∙ ap (before_low rs) (sym (ap (λ p. first_low_stock rs (suc p)) place ∙ from_filled rs v (suc (length xs)) (length (replay nb [] xs)) (omega (arith, size)) size_after))
    where
      place : earlier rs f.stamp ≡ length xs
      place = earlier_parts f.stamp xs (Arrival f ∷ ys) rs e o (omega arith, r)

      size : length rs ≡ length xs + suc (length ys)
      size = sym (length-map rs entry_of) ∙ ap length e ∙ length-append xs (Arrival f ∷ ys)

      served_front : Served nb [] xs
      served_front = (served_parts nb xs (Arrival f ∷ ys) [] (rw e at v)).0

      size_after : length (rack_at nb (entries rs) (suc (length xs))) ≡ suc (length (replay nb [] xs))
      size_after = ap length (rack_next nb (entries rs) xs ys (Arrival f) e) ∙ length_placed nb f (replay nb [] xs)
