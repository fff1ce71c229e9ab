-- What the places found stand for.
use Rattle.std.proofs.Common.{◌≡◌, ℕ, zero, suc, ◌+◌, ◌-◌, ◌≤◌, Bool, true, false, eqb, ◌⊎◌, List, [], ◌∷◌, length, take, drop, pos, Some, None, sym, refl, ap, ◌∙◌, subst, ap₂, inl, inr, arith}
use lib.ListN.{length-map}
use lib.Signed.{le_z}
use Rattle.std.specs.Option.{option_map}
use Rattle.std.specs.List.{slice_get}
use Rattle.std.proofs.lemmas.Bool.{both_ways, and_parts, or_cases, lt-ltb, le-ltb, eqb-true}
use Rattle.std.proofs.lemmas.Int.{ints}
use Rattle.journal.specs.declared.folder.Folder.{Folder}
use Rattle.journal.specs.declared.row.Row.{Row}
use Rattle.journal.specs.declared.row.Row.TheVariants.{Arrival, Taking}
use Rattle.journal.specs.declared.row.Mark.{Mark}
use Rattle.journal.specs.declared.row.Mark.TheVariants.{Waiting, Fetched}
use Rattle.journal.specs.Folders.{ahead, ahead_of_all, in_order, Foremost, hindmost_of, hindmost, foremost_of, foremost}
use Rattle.journal.specs.Replay.{stamp_of, dated, waiting}
use Rattle.journal.specs.Rows.{entry_of, entries, balance, Bridge}
use Rattle.journal.specs.Searches.{earlier, place_in, low, least_from, greatest_to, folders_marked}
use Rattle.bridges.specs.Racks.{Rising}
use Rattle.bridges.specs.Counting.{count, rack_at, will_be_fetched}
use Rattle.bridges.specs.Rules.{Kept}
use Rattle.bridges.specs.Places.{PlacesTold}
use Rattle.journal.proofs.Ahead.{Lawful, ahead_asymmetric, ahead_irreflexive}
use Rattle.bridges.proofs.Racks.{rising_earlier}
use Rattle.bridges.proofs.Counts.{arrivals}
use Rattle.bridges.proofs.Members.{Among, none_counted, same_stamp}
use Rattle.bridges.proofs.Journals.{rising_journal, served_sound, order_replay}
use Rattle.bridges.proofs.Bridges.{member, among, counting}
use Rattle.bridges.proofs.Extremes.{Apart, Last, First, ahead_of_each, neither_ahead, hindmost_last, foremost_first}
use Rattle.bridges.proofs.Found.{least_found, greatest_found}
use Rattle.bridges.proofs.Stocks.{earlier_none, earlier_within}
use Rattle.bridges.proofs.Rules.{low_at_end}

module _ {A : Type 0} where
  among_drop : (j : ℕ) (x : A) (xs : List A) → Among x (drop j xs) → Among x xs
  among_drop zero x xs m = m
  among_drop (suc j) x [] m = m
  among_drop (suc j) x (y ∷ xs) m = inr (among_drop j x xs m)

  among_take : (j : ℕ) (x : A) (xs : List A) → Among x (take j xs) → Among x xs
  among_take zero x xs m = elim m [ ]
  among_take (suc j) x [] m = m
  among_take (suc j) x (y ∷ xs) (inl e) = inl e
  among_take (suc j) x (y ∷ xs) (inr m) = inr (among_take j x xs m)

  at_among : (k : ℕ) (x : A) (xs : List A) → slice_get xs k ≡ Some x → Among x xs
  at_among k x [] h = absurd (let z : ◌≡◌ {A = ℕ} 0 1 = cc in omega arith)
  at_among zero x (y ∷ xs) h = inl (let e : x ≡ y = cc in e)
  at_among (suc k) x (y ∷ xs) h = inr (at_among k x xs h)

  among_at : (x : A) (xs : List A) → Among x xs → (k : ℕ) × (slice_get xs k ≡ Some x)
  among_at x [] m = elim m [ ]
  among_at x (y ∷ xs) (inl e) = (0, ap Some (sym e))
  among_at x (y ∷ xs) (inr m) = let got = among_at x xs m in (suc got.0, got.1)

module _ {P : Type 0} where
  pub row_later : (n : ℕ) (rs : List (Row P)) (r : Row P) → Rising n (entries rs) → Among r rs → n ≤ stamp_of (entry_of r)
  row_later n [] r h m = elim m [ ]
  row_later n (x ∷ rs) r h (inl e) = omega (arith, h.0, ap (λ y. stamp_of (entry_of y)) e)
  row_later n (x ∷ rs) r h (inr m) = omega (arith, h.0, row_later (suc (stamp_of (entry_of x))) rs r h.1 m)

  pub row_at_place : (n : ℕ) (rs : List (Row P)) (r : Row P) → Rising n (entries rs) → Among r rs → slice_get rs (earlier rs (stamp_of (entry_of r))) ≡ Some r
  row_at_place n [] r h m = elim m [ ]
  row_at_place n (x ∷ rs) r h (inl e) =
      let s = stamp_of (entry_of r) in
      let q : s ≡ stamp_of (entry_of x) = ap (λ y. stamp_of (entry_of y)) e in
      rw (le-ltb (stamp_of (entry_of x)) s (omega arith), earlier_none s rs (rising_earlier s (suc (stamp_of (entry_of x))) (entries rs) (omega arith) h.1)) (ap Some (sym e))
  row_at_place n (x ∷ rs) r h (inr m) =
      let s = stamp_of (entry_of r) in
      let q : 1 + earlier rs s ≡ suc (earlier rs s) = omega arith in
      rw (lt-ltb (stamp_of (entry_of x)) s (row_later (suc (stamp_of (entry_of x))) rs r h.1 m)) (rw q (row_at_place (suc (stamp_of (entry_of x))) rs r h.1 m))

  place_of_row : (n : ℕ) (rs : List (Row P)) (k : ℕ) (r : Row P) → Rising n (entries rs) → slice_get rs k ≡ Some r → earlier rs (stamp_of (entry_of r)) ≡ k
  place_of_row n [] k r h e = absurd (let z : ◌≡◌ {A = ℕ} 0 1 = cc in omega arith)
  place_of_row n (x ∷ rs) zero r h e =
      let s = stamp_of (entry_of r) in
      let same : x ≡ r = cc in
      let q : stamp_of (entry_of x) ≡ s = ap (λ y. stamp_of (entry_of y)) same in
      rw (le-ltb (stamp_of (entry_of x)) s (omega arith)) (earlier_none s rs (rising_earlier s (suc (stamp_of (entry_of x))) (entries rs) (omega arith) h.1))
  place_of_row n (x ∷ rs) (suc k) r h e =
      let s = stamp_of (entry_of r) in
      let ih = place_of_row (suc (stamp_of (entry_of x))) rs k r h.1 e in
      rw (lt-ltb (stamp_of (entry_of x)) s (row_later (suc (stamp_of (entry_of x))) rs r h.1 (at_among k r rs e))) (omega arith)

  pub dated_row : (s : ℕ) (rs : List (Row P)) → dated s (entries rs) ≡ true → (r : Row P) × Among r rs × (stamp_of (entry_of r) ≡ s)
  dated_row s [] h = absurd (both_ways _ refl h)
  dated_row s (x ∷ rs) h = go (or_cases (eqb (stamp_of (entry_of x)) s) (dated s (entries rs)) h) (dated_row s rs)
    where
      go : (eqb (stamp_of (entry_of x)) s ≡ true) ⊎ (dated s (entries rs) ≡ true) → (dated s (entries rs) ≡ true → (r : Row P) × Among r rs × (stamp_of (entry_of r) ≡ s)) → (r : Row P) × Among r (x ∷ rs) × (stamp_of (entry_of r) ≡ s)
      go (inl e) ih = (x, inl refl, eqb-true _ _ e)
      go (inr k) ih = let got = ih k in (got.0, inr got.1, got.2)

  -- a folder with a mark is of an arrival's row with that mark
  fetched_row : (f : Folder P) (rs : List (Row P)) → Among f (folders_marked Fetched rs) → Among (Arrival f Fetched) rs
  fetched_row f [] m = elim m [ ]
  fetched_row f (Arrival g Fetched ∷ rs) (inl e) = inl (ap (λ x. Arrival x Fetched) e)
  fetched_row f (Arrival g Fetched ∷ rs) (inr m) = inr (fetched_row f rs m)
  fetched_row f (Arrival g Waiting ∷ rs) m = inr (fetched_row f rs m)
  fetched_row f (Taking s ∷ rs) m = inr (fetched_row f rs m)

  waiting_row : (f : Folder P) (rs : List (Row P)) → Among f (folders_marked Waiting rs) → Among (Arrival f Waiting) rs
  waiting_row f [] m = elim m [ ]
  waiting_row f (Arrival g Waiting ∷ rs) (inl e) = inl (ap (λ x. Arrival x Waiting) e)
  waiting_row f (Arrival g Waiting ∷ rs) (inr m) = inr (waiting_row f rs m)
  waiting_row f (Arrival g Fetched ∷ rs) m = inr (waiting_row f rs m)
  waiting_row f (Taking s ∷ rs) m = inr (waiting_row f rs m)

  row_arrived : (f : Folder P) (k : Mark) (rs : List (Row P)) → Among (Arrival f k) rs → Among f (arrivals (entries rs))
  row_arrived f k [] m = elim m [ ]
  row_arrived f k (Arrival g j ∷ rs) (inl e) = inl (let q : f ≡ g = cc in q)
  row_arrived f k (Arrival g j ∷ rs) (inr m) = inr (row_arrived f k rs m)
  row_arrived f k (Taking s ∷ rs) (inl e) = absurd (let z : ◌≡◌ {A = ℕ} 0 1 = cc in omega arith)
  row_arrived f k (Taking s ∷ rs) (inr m) = row_arrived f k rs m

module _ {P : Type 0} (nb : P → P → Bool) (L : Lawful nb) where
  -- in a list in order, as many are ahead of a folder as stand before it
  ahead_at : (k : ℕ) (f : Folder P) (ws : List (Folder P)) → in_order nb ws ≡ true → slice_get ws k ≡ Some f → count (λ g. ahead nb g f) ws ≡ k
  ahead_at k f [] o h = absurd (let z : ◌≡◌ {A = ℕ} 0 1 = cc in omega arith)
  ahead_at zero f (w ∷ ws) o h =
      let e : f ≡ w = cc in
      none_counted (λ g. ahead nb g f) (w ∷ ws) (λ g m. none g m e)
    where
      none : (g : Folder P) → Among g (w ∷ ws) → f ≡ w → ahead nb g f ≡ false
      none g (inl q) e = rw (q, e) (ahead_irreflexive nb L w)
      none g (inr m) e = rw e (ahead_asymmetric nb L w g (ahead_of_each nb w g ws (and_parts (ahead_of_all nb w ws) (in_order nb ws) o).0 m))
  ahead_at (suc k) f (w ∷ ws) o h =
      let both = and_parts (ahead_of_all nb w ws) (in_order nb ws) o in
      let first = ahead_of_each nb w f ws both.0 (at_among k f ws h) in
      rw first (ap suc (ahead_at k f ws both.1 h))

  hindmost_at : (fs : List (Folder P)) (rs : List (Row P)) (k : ℕ) → option_map (λ (f : Folder P). earlier rs f.stamp) (hindmost nb fs) ≡ Some k → (m : Folder P) × (earlier rs m.stamp ≡ k) × Last nb m fs
  hindmost_at [] rs k e = absurd (let z : ◌≡◌ {A = ℕ} 0 1 = cc in omega arith)
  hindmost_at (f ∷ fs) rs k e = (hindmost_of nb f fs, (let q : earlier rs (hindmost_of nb f fs).stamp ≡ k = cc in q), hindmost_last nb L f fs)

  foremost_at : (fs : List (Folder P)) (rs : List (Row P)) (k : ℕ) → option_map (λ (f : Folder P). earlier rs f.stamp) (foremost nb fs) ≡ Some k → (m : Folder P) × (earlier rs m.stamp ≡ k) × First nb m fs
  foremost_at [] rs k e = absurd (let z : ◌≡◌ {A = ℕ} 0 1 = cc in omega arith)
  foremost_at (f ∷ fs) rs k e = (foremost_of nb f fs, (let q : earlier rs (foremost_of nb f fs).stamp ≡ k = cc in q), foremost_first nb L f fs)

  hindmost_absent : (fs : List (Folder P)) (rs : List (Row P)) → option_map (λ (f : Folder P). earlier rs f.stamp) (hindmost nb fs) ≡ None → fs ≡ []
  hindmost_absent [] rs e = refl
  hindmost_absent (f ∷ fs) rs e = absurd (let z : ◌≡◌ {A = ℕ} 0 1 = cc in omega arith)

  foremost_absent : (fs : List (Folder P)) (rs : List (Row P)) → option_map (λ (f : Folder P). earlier rs f.stamp) (foremost nb fs) ≡ None → fs ≡ []
  foremost_absent [] rs e = refl
  foremost_absent (f ∷ fs) rs e = absurd (let z : ◌≡◌ {A = ℕ} 0 1 = cc in omega arith)

  -- none ahead of it means that it is ahead of the others
  pub first_foremost : (m : Folder P) (fs : List (Folder P)) → Apart fs → First nb m fs → Foremost nb m fs
  first_foremost m fs one a = record { among = member m fs a.0; ahead_of_others = λ g k. other g (among g fs k) (ahead nb m g) refl }
    where
      other : (g : Folder P) → Among g fs → (b : Bool) → ahead nb m g ≡ b → (g ≡ m) ⊎ (ahead nb m g ≡ true)
      other g k true e = inr e
      other g k false e = inl (one g m k a.0 (neither_ahead nb L g m (a.1 g k) e))

  low_bridge : (rs : List (Row P)) (b : ℕ) → Kept nb rs → b ≤ length rs → low (balance rs) b ≡ true → Bridge rs b
  low_bridge rs b k le h =
      let n = count (will_be_fetched nb (entries rs) b) (rack_at nb (entries rs) b) in
      let e : balance rs b ≡ pos n = (counting nb L).balance_counts rs k.order k.served k.marks b in
      let h' : le_z (pos n) (pos 0) ≡ true = rw e at h in
      let z : n ≡ 0 = grind (arith, ints) in
      record { place = le; even = e ∙ ap pos z }

  low_last : (rs : List (Row P)) → Kept nb rs → low (balance rs) (length rs) ≡ true
  low_last rs k =
      let end = low_at_end nb L (entries rs) (rising_journal (entries rs) k.order) (served_sound _ k.served) in
      ap₂ (λ l n. low (balance l) n) k.marks (sym (length-map rs entry_of)) ∙ end

  pub places_told : PlacesTold nb
  places_told = record {
    stamp_found = λ rs s b d. let got = dated_row s rs d in (got.0, subst (λ n. slice_get rs (earlier rs n) ≡ Some got.0) got.2 (row_at_place 0 rs got.0 (rising_journal (entries rs) b) got.1), got.2);
    row_found = λ rs k r b e. place_of_row 0 rs k r (rising_journal (entries rs) b) e;
    within = earlier_within;
    above_count = λ rs p le. let e : place_in rs p ≡ place_in rs (length rs) = omega arith in record {
      stock_from = ap (λ q. least_from (low (Rattle.journal.specs.Rows.stock rs)) q (suc (length rs - q))) e;
      balance_from = ap (λ q. least_from (low (balance rs)) q (suc (length rs - q))) e;
      balance_to = ap (greatest_to (low (balance rs))) e;
      hindmost_from = ap (λ q. option_map (λ (f : Folder P). earlier rs f.stamp) (hindmost nb (folders_marked Fetched (drop q rs)))) e;
      foremost_before = ap (λ q. option_map (λ (f : Folder P). earlier rs f.stamp) (foremost nb (folders_marked Waiting (take q rs)))) e;
    };
    hindmost_place = λ rs q k b e.
        let fs = folders_marked Fetched (drop (place_in rs q) rs) in
        let got = hindmost_at fs rs k e in
        let m = got.0 in
        let at = row_at_place 0 rs (Arrival m Fetched) (rising_journal (entries rs) b) (among_drop (place_in rs q) (Arrival m Fetched) rs (fetched_row m (drop (place_in rs q) rs) got.2.0)) in
        (m, subst (λ n. slice_get rs n ≡ Some (Arrival m Fetched)) got.1 at, record { among = member m fs got.2.0; ahead_of_none = λ g i. got.2.1 g (among g fs i) });
    hindmost_none = λ rs q e. hindmost_absent (folders_marked Fetched (drop (place_in rs q) rs)) rs e;
    foremost_place = λ rs q k b e.
        let r = rising_journal (entries rs) b in
        let fs = folders_marked Waiting (take (place_in rs q) rs) in
        let got = foremost_at fs rs k e in
        let m = got.0 in
        let there : (f : Folder P) → Among f fs → Among (Arrival f Waiting) rs = λ f i. among_take (place_in rs q) (Arrival f Waiting) rs (waiting_row f (take (place_in rs q) rs) i) in
        let at = row_at_place 0 rs (Arrival m Waiting) r (there m got.2.0) in (
          m,
          subst (λ n. slice_get rs n ≡ Some (Arrival m Waiting)) got.1 at,
          first_foremost m fs (λ f g i j s. same_stamp 0 (entries rs) f g r s (row_arrived f Waiting rs (there f i)) (row_arrived g Waiting rs (there g j))) got.2,
        );
    foremost_none = λ rs q e. foremost_absent (folders_marked Waiting (take (place_in rs q) rs)) rs e;
    last_bridge = λ rs p k. let got = greatest_found (low (balance rs)) (place_in rs p) refl in (got.0, got.1, low_bridge rs got.0 k (omega (arith, got.2.before)) got.2.passes);
    first_bridge = λ rs p k.
        let q = place_in rs p in
        let end : q + (length rs - q) ≡ length rs = omega arith in
        let got = least_found (low (balance rs)) (length rs - q) q (rw end (low_last rs k)) in
        (got.0, got.1, low_bridge rs got.0 k (omega (arith, got.3)) got.2.passes);
    waiting_at = λ es k f b e. (member f (waiting nb es) (at_among k f (waiting nb es) e), ahead_at k f (waiting nb es) (order_replay nb L 0 es [] tt (rising_journal es b) refl) e);
    waiting_with = λ es k f b m c.
        let got = among_at f (waiting nb es) (among f (waiting nb es) m) in
        let e : got.0 ≡ k = sym (ahead_at got.0 f (waiting nb es) (order_replay nb L 0 es [] tt (rising_journal es b) refl) got.1) ∙ c in
        subst (λ n. slice_get (waiting nb es) n ≡ Some f) e got.1;
  }
