-- Who is among some folders: on a rack, among the fetched, among the arrivals.
use Rattle.std.proofs.Common.{◌≡◌, ℕ, suc, ◌≤◌, Bool, true, false, cond, eqb, ◌⊎◌, List, [], ◌∷◌, ◌++◌, sym, refl, ap, ◌∙◌, inl, inr, arith}
use Rattle.std.proofs.lemmas.Bool.{eq-eqb, eqb-true, or_left, or_right, or_cases, both_ways}
use Rattle.journal.specs.declared.folder.Folder.{Folder}
use Rattle.journal.specs.declared.entry.Entry.{Entry}
use Rattle.journal.specs.declared.entry.Entry.TheVariants.{Arrival, Taking}
use Rattle.journal.specs.Folders.{ahead, placed, has_stamp}
use Rattle.journal.specs.Replay.{replay, waiting, fetched}
use Rattle.bridges.specs.Racks.{Rising, gone}
use Rattle.bridges.specs.Counting.{count}
use Rattle.bridges.proofs.Counts.{arrivals, stamped, stamp_old, once, counted_has_stamp}

-- f is one of these
abbrev pub Among : {A : Type 0} → A → List A → Type 0
Among f [] = ⊥
Among f (g ∷ gs) = (f ≡ g) ⊎ Among f gs

module _ {A : Type 0} where
  pub among_left : (f : A) (fs gs : List A) → Among f fs → Among f (fs ++ gs)
  among_left f [] gs m = elim m [ ]
  among_left f (x ∷ fs) gs (inl e) = inl e
  among_left f (x ∷ fs) gs (inr m) = inr (among_left f fs gs m)

  pub among_right : (f : A) (fs gs : List A) → Among f gs → Among f (fs ++ gs)
  among_right f [] gs m = m
  among_right f (x ∷ fs) gs m = inr (among_right f fs gs m)

module _ {P : Type 0} where
  pub among_counted : (t : Folder P → Bool) (f : Folder P) (fs : List (Folder P)) → t f ≡ true → Among f fs → 1 ≤ count t fs
  among_counted t f [] h m = elim m [ ]
  among_counted t f (g ∷ gs) h (inl e) = let k : t g ≡ true = ap t (sym e) ∙ h in grind arith
  among_counted t f (g ∷ gs) h (inr m) = let ih = among_counted t f gs h m in grind arith

  pub none_counted : (t : Folder P → Bool) (fs : List (Folder P)) → ((f : Folder P) → Among f fs → t f ≡ false) → count t fs ≡ 0
  none_counted t [] h = refl
  none_counted t (g ∷ gs) h = rw (h g (inl refl)) (none_counted t gs (λ f m. h f (inr m)))

  pub counted_none : (t : Folder P → Bool) (f : Folder P) (fs : List (Folder P)) → count t fs ≡ 0 → Among f fs → t f ≡ false
  counted_none t f fs z m = go (t f) refl
    where
      go : (b : Bool) → t f ≡ b → t f ≡ false
      go true e = absurd (omega (arith, among_counted t f fs e m))
      go false e = e

  pub counted_some : (t : Folder P → Bool) (fs : List (Folder P)) → 1 ≤ count t fs → (f : Folder P) × Among f fs × (t f ≡ true)
  counted_some t [] h = absurd (omega arith)
  counted_some t (g ∷ gs) h = go (t g) refl h (counted_some t gs)
    where
      go : (b : Bool) → t g ≡ b → 1 ≤ cond b (suc (count t gs)) (count t gs) → (1 ≤ count t gs → (f : Folder P) × Among f gs × (t f ≡ true)) → (f : Folder P) × Among f (g ∷ gs) × (t f ≡ true)
      go true e k ih = (g, inl refl, e)
      go false e k ih = let r = ih k in (r.0, inr r.1, r.2)

  pub count_alike : (t u : Folder P → Bool) (fs : List (Folder P)) → ((f : Folder P) → Among f fs → t f ≡ u f) → count t fs ≡ count u fs
  count_alike t u [] h = refl
  count_alike t u (g ∷ gs) h = let e = h g (inl refl) in let ih = count_alike t u gs (λ f m. h f (inr m)) in grind arith

  pub among_has_stamp : (f : Folder P) (fs : List (Folder P)) → Among f fs → has_stamp f.stamp fs ≡ true
  among_has_stamp f [] m = elim m [ ]
  among_has_stamp f (g ∷ gs) (inl e) = or_left _ _ (eq-eqb _ _ (ap (λ x. x.stamp) e))
  among_has_stamp f (g ∷ gs) (inr m) = or_right _ _ (among_has_stamp f gs m)

  pub has_stamp_among : (s : ℕ) (fs : List (Folder P)) → has_stamp s fs ≡ true → (f : Folder P) × Among f fs × (s ≡ f.stamp)
  has_stamp_among s [] h = absurd (both_ways false refl h)
  has_stamp_among s (g ∷ gs) h = go (or_cases (eqb s g.stamp) (has_stamp s gs) h) (has_stamp_among s gs)
    where
      go : (eqb s g.stamp ≡ true) ⊎ (has_stamp s gs ≡ true) → (has_stamp s gs ≡ true → (f : Folder P) × Among f gs × (s ≡ f.stamp)) → (f : Folder P) × Among f (g ∷ gs) × (s ≡ f.stamp)
      go (inl e) ih = (g, inl refl, eqb-true _ _ e)
      go (inr k) ih = let r = ih k in (r.0, inr r.1, r.2)

  -- two arrivals of one journal that share a stamp are one
  pub same_stamp : (n : ℕ) (es : List (Entry P)) (f g : Folder P) → Rising n es → f.stamp ≡ g.stamp → Among f (arrivals es) → Among g (arrivals es) → f ≡ g
  same_stamp n [] f g r e p q = elim p [ ]
  same_stamp n (Arrival d ∷ es) f g r e (inl p) (inl q) = p ∙ sym q
  same_stamp n (Arrival d ∷ es) f g r e (inl p) (inr q) =
      absurd (omega (arith, ap (λ x. x.stamp) p, stamp_old g.stamp (suc d.stamp) es r.1 (omega (arith, ap (λ x. x.stamp) p)), among_counted (stamped g.stamp) g (arrivals es) (eq-eqb _ _ refl) q))
  same_stamp n (Arrival d ∷ es) f g r e (inr p) (inl q) =
      absurd (omega (arith, ap (λ x. x.stamp) q, stamp_old f.stamp (suc d.stamp) es r.1 (omega (arith, ap (λ x. x.stamp) q)), among_counted (stamped f.stamp) f (arrivals es) (eq-eqb _ _ refl) p))
  same_stamp n (Arrival d ∷ es) f g r e (inr p) (inr q) = same_stamp (suc d.stamp) es f g r.1 e p q
  same_stamp n (Taking s ∷ es) f g r e p q = same_stamp (suc s) es f g r.1 e p q

module _ {P : Type 0} (nb : P → P → Bool) where
  pub among_placed : (g f : Folder P) (fs : List (Folder P)) → Among g (f ∷ fs) → Among g (placed nb f fs)
  among_placed g f [] m = m
  among_placed g f (d ∷ ds) m = go (ahead nb f d) m (among_placed g f ds)
    where
      go : (b : Bool) → Among g (f ∷ d ∷ ds) → (Among g (f ∷ ds) → Among g (placed nb f ds)) → Among g (cond b (f ∷ d ∷ ds) (d ∷ placed nb f ds))
      go true k ih = k
      go false (inl e) ih = inr (ih (inl e))
      go false (inr (inl e)) ih = inl e
      go false (inr (inr k)) ih = inr (ih (inr k))

  pub placed_among : (g f : Folder P) (fs : List (Folder P)) → Among g (placed nb f fs) → Among g (f ∷ fs)
  placed_among g f [] m = m
  placed_among g f (d ∷ ds) m = go (ahead nb f d) m (placed_among g f ds)
    where
      swap : Among g (f ∷ ds) → Among g (f ∷ d ∷ ds)
      swap (inl e) = inl e
      swap (inr k) = inr (inr k)

      go : (b : Bool) → Among g (cond b (f ∷ d ∷ ds) (d ∷ placed nb f ds)) → (Among g (placed nb f ds) → Among g (f ∷ ds)) → Among g (f ∷ d ∷ ds)
      go true k ih = k
      go false (inl e) ih = inr (inl e)
      go false (inr k) ih = swap (ih k)

  -- who stands on the rack or arrives is at the end on the rack or fetched
  pub among_end : (g : Folder P) (es : List (Entry P)) (rack : List (Folder P)) → Among g rack ⊎ Among g (arrivals es) → Among g (replay nb rack es) ⊎ Among g (gone nb rack es)
  among_end g [] rack (inl m) = inl m
  among_end g [] rack (inr m) = absurd m
  among_end g (Arrival f ∷ es) rack (inl m) = among_end g es (placed nb f rack) (inl (among_placed g f rack (inr m)))
  among_end g (Arrival f ∷ es) rack (inr (inl e)) = among_end g es (placed nb f rack) (inl (among_placed g f rack (inl e)))
  among_end g (Arrival f ∷ es) rack (inr (inr m)) = among_end g es (placed nb f rack) (inr m)
  among_end g (Taking s ∷ es) [] m = among_end g es [] m
  among_end g (Taking s ∷ es) (y ∷ rack) (inl (inl e)) = inr (inl e)
  among_end g (Taking s ∷ es) (y ∷ rack) (inl (inr m)) = later (among_end g es rack (inl m))
    where
      later : Among g (replay nb rack es) ⊎ Among g (gone nb rack es) → Among g (replay nb rack es) ⊎ Among g (y ∷ gone nb rack es)
      later (inl k) = inl k
      later (inr k) = inr (inr k)
  among_end g (Taking s ∷ es) (y ∷ rack) (inr m) = later (among_end g es rack (inr m))
    where
      later : Among g (replay nb rack es) ⊎ Among g (gone nb rack es) → Among g (replay nb rack es) ⊎ Among g (y ∷ gone nb rack es)
      later (inl k) = inl k
      later (inr k) = inr (inr k)

  -- and who is at the end on the rack or fetched stood on the rack or arrived
  pub among_start : (g : Folder P) (es : List (Entry P)) (rack : List (Folder P)) → Among g (replay nb rack es) ⊎ Among g (gone nb rack es) → Among g rack ⊎ Among g (arrivals es)
  among_start g [] rack (inl m) = inl m
  among_start g [] rack (inr m) = absurd m
  among_start g (Arrival f ∷ es) rack m = back (among_start g es (placed nb f rack) m)
    where
      sort : Among g (f ∷ rack) → Among g rack ⊎ Among g (f ∷ arrivals es)
      sort (inl e) = inr (inl e)
      sort (inr k) = inl k

      back : Among g (placed nb f rack) ⊎ Among g (arrivals es) → Among g rack ⊎ Among g (f ∷ arrivals es)
      back (inl k) = sort (placed_among g f rack k)
      back (inr k) = inr (inr k)
  among_start g (Taking s ∷ es) [] m = among_start g es [] m
  among_start g (Taking s ∷ es) (y ∷ rack) (inl m) = up (among_start g es rack (inl m))
    where
      up : Among g rack ⊎ Among g (arrivals es) → Among g (y ∷ rack) ⊎ Among g (arrivals es)
      up (inl k) = inl (inr k)
      up (inr k) = inr k
  among_start g (Taking s ∷ es) (y ∷ rack) (inr (inl e)) = inl (inl e)
  among_start g (Taking s ∷ es) (y ∷ rack) (inr (inr m)) = up (among_start g es rack (inr m))
    where
      up : Among g rack ⊎ Among g (arrivals es) → Among g (y ∷ rack) ⊎ Among g (arrivals es)
      up (inl k) = inl (inr k)
      up (inr k) = inr k

  -- who was fetched is not waiting
  pub fetched_not_waiting : (n : ℕ) (es : List (Entry P)) (g : Folder P) → Rising n es → Among g (fetched nb es) → has_stamp g.stamp (waiting nb es) ≡ false
  fetched_not_waiting n es g r m = counted_has_stamp g.stamp (waiting nb es) (omega (arith, once nb g.stamp n es r, among_counted (stamped g.stamp) g (fetched nb es) (eq-eqb _ _ refl) m))

  -- who waits, and who was fetched, arrived
  pub waiting_arrived : (es : List (Entry P)) (f : Folder P) → Among f (waiting nb es) → Among f (arrivals es)
  waiting_arrived es f m = go (among_start f es [] (inl m))
    where
      go : Among f [] ⊎ Among f (arrivals es) → Among f (arrivals es)
      go (inl k) = elim k [ ]
      go (inr k) = k

  pub fetched_arrived : (es : List (Entry P)) (f : Folder P) → Among f (fetched nb es) → Among f (arrivals es)
  fetched_arrived es f m = go (among_start f es [] (inr m))
    where
      go : Among f [] ⊎ Among f (arrivals es) → Among f (arrivals es)
      go (inl k) = elim k [ ]
      go (inr k) = k
