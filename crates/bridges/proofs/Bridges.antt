-- Bridges: the places where nobody on the rack will still be fetched.
use Rattle.std.proofs.Common.{◌≡◌, ℕ, ◌≤◌, Bool, true, false, not, ◌⊎◌, List, [], ◌∷◌, drop, pos, refl, ap, ◌∙◌, inl, inr, arith}
use mathlib.Core.List.Memᴰ
use mathlib.Core.List.{Memᴰ}
use lib.Signed.{le_z}
use Rattle.std.proofs.lemmas.Bool.{both_ways, not-true, not-false, not_from_true}
use Rattle.std.proofs.lemmas.Int.{ints}
use Rattle.journal.specs.declared.folder.Folder.{Folder}
use Rattle.journal.specs.declared.entry.Entry.{Entry}
use Rattle.journal.specs.declared.row.Row.{Row}
use Rattle.journal.specs.Folders.{has_stamp}
use Rattle.journal.specs.Replay.{replay, waiting, sound, by_stamp}
use Rattle.journal.specs.Rows.{entries, balance, marked, MarksAgree}
use Rattle.journal.specs.Searches.{low}
use Rattle.bridges.specs.Racks.{Rising, Served, gone}
use Rattle.bridges.specs.Counting.{count, rack_at, will_be_fetched, Counting}
use Rattle.journal.proofs.Ahead.{Lawful}
use Rattle.bridges.proofs.Journals.{rising_journal, served_sound}
use Rattle.bridges.proofs.Members.{Among, among_end, among_has_stamp, has_stamp_among, fetched_not_waiting, count_alike, none_counted, counted_none, counted_some}
use Rattle.bridges.proofs.Places.{waiting_at, fetched_later}
use Rattle.bridges.proofs.Sums.{missing, stock_at, balance_at}

module _ {A : Type 0} where
  pub member : (f : A) (fs : List A) → Among f fs → Memᴰ f fs
  member f [] m = elim m [ ]
  member f (g ∷ gs) (inl e) = Memᴰ.head e
  member f (g ∷ gs) (inr m) = Memᴰ.tail (member f gs m)

  pub among : (f : A) (fs : List A) → Memᴰ f fs → Among f fs
  among f [] m = Memᴰ.not-nil m
  among f (g ∷ gs) m = go (Memᴰ.cases_cons m) (among f gs)
    where
      go : (f ≡ g) ⊎ Memᴰ f gs → (Memᴰ f gs → Among f gs) → (f ≡ g) ⊎ Among f gs
      go (inl e) ih = inl e
      go (inr k) ih = inr (ih k)

module _ {P : Type 0} (nb : P → P → Bool) where
  -- nobody on the rack at place j will still be fetched
  abbrev pub SafeAt : List (Entry P) → ℕ → Type 0
  SafeAt es j = (f : Folder P) → Among f (rack_at nb es j) → Among f (gone nb (rack_at nb es j) (drop j es)) → ⊥

  -- somebody on the rack at place j will still be fetched
  abbrev pub DoomedAt : List (Entry P) → ℕ → Type 0
  DoomedAt es j = (f : Folder P) × Among f (rack_at nb es j) × Among f (gone nb (rack_at nb es j) (drop j es))

  -- a folder waits at the end, or will still be fetched after place j, and not both
  abbrev pub Settled : List (Entry P) → ℕ → Folder P → Type 0
  Settled es j f = ((has_stamp f.stamp (waiting nb es) ≡ true) × Among f (waiting nb es) × (has_stamp f.stamp (gone nb (rack_at nb es j) (drop j es)) ≡ false))
      ⊎ ((has_stamp f.stamp (waiting nb es) ≡ false) × Among f (gone nb (rack_at nb es j) (drop j es)) × (has_stamp f.stamp (gone nb (rack_at nb es j) (drop j es)) ≡ true))

  -- who stands on the rack at a place is settled
  pub settled : (es : List (Entry P)) (j : ℕ) (f : Folder P) → Rising 0 es → Among f (rack_at nb es j)
      → Settled es j f
  settled es j f r m = go (among_end nb f (drop j es) (rack_at nb es j) (inl m))
    where
      apart : Among f (waiting nb es) → (b : Bool) → has_stamp f.stamp (gone nb (rack_at nb es j) (drop j es)) ≡ b → has_stamp f.stamp (gone nb (rack_at nb es j) (drop j es)) ≡ false
      apart w true e =
          let g = has_stamp_among f.stamp (gone nb (rack_at nb es j) (drop j es)) e in
          absurd (both_ways _ (fetched_not_waiting nb 0 es g.0 r (fetched_later nb es j g.0 g.1)) (rw g.2 at (among_has_stamp f (waiting nb es) w)))
      apart w false e = e

      go : Among f (replay nb (rack_at nb es j) (drop j es)) ⊎ Among f (gone nb (rack_at nb es j) (drop j es))
          → Settled es j f
      go (inl k) = let w : Among f (waiting nb es) = rw (waiting_at nb es j) k in inl (among_has_stamp f (waiting nb es) w, w, apart w _ refl)
      go (inr k) = inr (fetched_not_waiting nb 0 es f r (fetched_later nb es j f k), k, among_has_stamp f _ k)

  missing_fetched : (es : List (Entry P)) (j : ℕ) (f : Folder P) → Rising 0 es → Among f (rack_at nb es j) → missing nb (waiting nb es) f ≡ will_be_fetched nb es j f
  missing_fetched es j f r m = go (settled es j f r m)
    where
      go : Settled es j f → missing nb (waiting nb es) f ≡ will_be_fetched nb es j f
      go (inl k) = rw (k.0, k.2)
      go (inr k) = rw (k.0, k.2)

  pub safe_from_none : (es : List (Entry P)) (j : ℕ) → Rising 0 es → count (missing nb (waiting nb es)) (rack_at nb es j) ≡ 0 → SafeAt es j
  safe_from_none es j r z f m k =
      both_ways _ (fetched_not_waiting nb 0 es f r (fetched_later nb es j f k)) (not-false _ (counted_none (missing nb (waiting nb es)) f (rack_at nb es j) z m))

  pub doomed_from_some : (es : List (Entry P)) (j : ℕ) → Rising 0 es → 1 ≤ count (missing nb (waiting nb es)) (rack_at nb es j) → DoomedAt es j
  doomed_from_some es j r h = go (counted_some (missing nb (waiting nb es)) (rack_at nb es j) h)
    where
      at : (f : Folder P) → Among f (rack_at nb es j) → not (has_stamp f.stamp (waiting nb es)) ≡ true
          → Settled es j f → DoomedAt es j
      at f m n (inl k) = absurd (both_ways _ (not-true _ n) k.0)
      at f m n (inr k) = (f, m, k.1)

      go : (f : Folder P) × Among f (rack_at nb es j) × (missing nb (waiting nb es) f ≡ true) → DoomedAt es j
      go got = at got.0 got.1 got.2 (settled es j got.0 r got.1)

  -- a low balance is a bridge, and at a balance that is not low somebody will still be fetched
  pub low_safe : (es : List (Entry P)) (j : ℕ) → Rising 0 es → Served nb [] es → low (balance (marked nb es)) j ≡ true → SafeAt es j
  low_safe es j r s h = safe_from_none es j r (let e = balance_at nb es r s j in let h' : le_z (pos (count (missing nb (waiting nb es)) (rack_at nb es j))) (pos 0) ≡ true = rw e at h in grind (arith, ints))

  pub high_doomed : (es : List (Entry P)) (j : ℕ) → Rising 0 es → Served nb [] es → low (balance (marked nb es)) j ≡ false → DoomedAt es j
  high_doomed es j r s h = doomed_from_some es j r (let e = balance_at nb es r s j in let h' : le_z (pos (count (missing nb (waiting nb es)) (rack_at nb es j))) (pos 0) ≡ false = rw e at h in grind (arith, ints))

module _ {P : Type 0} (nb : P → P → Bool) (L : Lawful nb) where
  balance_agrees : (rs : List (Row P)) → by_stamp (entries rs) ≡ true → sound nb (entries rs) ≡ true → MarksAgree nb rs
      → (j : ℕ) → balance rs j ≡ pos (count (missing nb (waiting nb (entries rs))) (rack_at nb (entries rs) j))
  balance_agrees rs b s a j = ap (λ l. balance l j) a ∙ balance_at nb (entries rs) (rising_journal (entries rs) b) (served_sound _ s) j

  pub counting : Counting nb
  counting = record {
    stock_counts = λ rs s j. stock_at nb rs (served_sound _ s) j;
    balance_counts = λ rs b s a j. balance_agrees rs b s a j ∙ ap pos (count_alike _ _ (rack_at nb (entries rs) j) (λ f m. missing_fetched nb (entries rs) j f (rising_journal (entries rs) b) m));
    never_negative = λ rs b s a j. let e = balance_agrees rs b s a j in omega (arith, ints);
    bridge_where_none = λ rs b s a j le. (
      (λ br f m. let es = entries rs in let r = rising_journal es b in let e = balance_agrees rs b s a j in
          safe_waits es j f r (safe_from_none nb es j r (let z = br.even in omega (arith, ints))) (among f _ m)),
      (λ h. record { place = le; even = balance_agrees rs b s a j ∙ ap pos (none_counted (missing nb (waiting nb (entries rs))) (rack_at nb (entries rs) j) (λ f m. not_from_true _ (among_has_stamp f (waiting nb (entries rs)) (among f _ (h f (member f _ m)))))) }),
    );
  }
    where
      safe_waits : (es : List (Entry P)) (j : ℕ) (f : Folder P) → Rising 0 es → SafeAt nb es j → Among f (rack_at nb es j) → Memᴰ f (waiting nb es)
      safe_waits es j f r safe m = go (settled nb es j f r m)
        where
          go : Settled nb es j f → Memᴰ f (waiting nb es)
          go (inl k) = member f _ k.1
          go (inr k) = absurd (safe f m k.1)
