-- Up to the first bridge: which folder a run with one folder fewer lacks there, and lacks from there on.
use Rattle.std.proofs.Common.{◌≡◌, ℕ, zero, suc, ◌+◌, ◌<◌, ◌≤◌, Bool, true, false, cond, ◌⊎◌, List, [], ◌∷◌, length, drop, sym, refl, ap, ◌∙◌, subst, inl, inr, arith}
use Rattle.std.proofs.lemmas.Bool.{and_parts, both_ways}
use Rattle.journal.specs.declared.folder.Folder.{Folder}
use Rattle.journal.specs.declared.entry.Entry.{Entry}
use Rattle.journal.specs.declared.entry.Entry.TheVariants.{Arrival, Taking}
use Rattle.journal.specs.Folders.{ahead, ahead_of_all, in_order, placed, rest}
use Rattle.journal.specs.Replay.{replay, rack_after, waiting}
use Rattle.bridges.specs.Racks.{Rising, Stands, Served, gone}
use Rattle.bridges.specs.Counting.{rack_at}
use Rattle.journal.proofs.Ahead.{Lawful, ahead_asymmetric, ahead_irreflexive}
use Rattle.bridges.proofs.Racks.{stands_arrival, stands_taking, placed_front, placed_swap}
use Rattle.bridges.proofs.OneMore.{never_served}
use Rattle.bridges.proofs.Members.{Among, among_placed}
use Rattle.bridges.proofs.Places.{step_at, stands_at, served_at, waiting_at}
use Rattle.bridges.proofs.Bridges.{SafeAt, DoomedAt}
use Rattle.bridges.proofs.Extremes.{ahead_of_each}
use Rattle.bridges.proofs.Soundness.{never_fetched}
use Rattle.bridges.proofs.LastBridge.{later}

module _ {P : Type 0} (nb : P → P → Bool) (L : Lawful nb) where
  -- who stands ahead of one that will be fetched will be fetched
  pub fetched_first : (es : List (Entry P)) (rack : List (Folder P)) (e y : Folder P) → Stands nb rack es → Among e rack → Among y rack → ahead nb e y ≡ true → Among y (gone nb rack es) → Among e (gone nb rack es)
  fetched_first [] rack e y st me my h g = elim g [ ]
  fetched_first (Arrival f ∷ es) rack e y st me my h g =
      fetched_first es (placed nb f rack) e y (stands_arrival nb L f rack es st) (among_placed nb e f rack (inr me)) (among_placed nb y f rack (inr my)) h g
  fetched_first (Taking s ∷ es) [] e y st me my h g = elim me [ ]
  fetched_first (Taking s ∷ es) (z ∷ rack) e y st me my h g =
      go me my g (λ a b c. fetched_first es rack e y (stands_taking nb L z s rack es st) a b h c)
    where
      behind : Among e rack → y ≡ z → ⊥
      behind m q =
          let k : ahead nb z e ≡ true = ahead_of_each nb z e rack (and_parts (ahead_of_all nb z rack) (in_order nb rack) st.order).0 m in
          let k' : ahead nb y e ≡ true = rw q k in
          both_ways _ (ahead_asymmetric nb L y e k') h

      go : Among e (z ∷ rack) → Among y (z ∷ rack) → Among y (z ∷ gone nb rack es) → (Among e rack → Among y rack → Among y (gone nb rack es) → Among e (gone nb rack es)) → Among e (z ∷ gone nb rack es)
      go (inl a) b c ih = inl a
      go (inr a) (inl b) c ih = absurd (behind a b)
      go (inr a) (inr b) (inl c) ih = absurd (behind a c)
      go (inr a) (inr b) (inr c) ih = inr (ih a b c)

  -- the first on a rack will be fetched if anybody on it will
  front_fetched : (es : List (Entry P)) (e : Folder P) (rack : List (Folder P)) (y : Folder P) → Stands nb (e ∷ rack) es → Among y (e ∷ rack) → Among y (gone nb (e ∷ rack) es) → Among e (gone nb (e ∷ rack) es)
  front_fetched es e rack y st (inl q) g = subst (λ x. Among x (gone nb (e ∷ rack) es)) q g
  front_fetched es e rack y st (inr m) g =
      fetched_first es (e ∷ rack) e y st (inl refl) (inr m) (ahead_of_each nb e y rack (and_parts (ahead_of_all nb e rack) (in_order nb rack) st.order).0 m) g

  -- a rack that lacks one folder of another: that one will be fetched, or it stands first on the other
  pub record Trails (rack fewer : List (Folder P)) (es : List (Entry P)) : Type 0 where
    pub lacking : Folder P
    pub more : rack ≡ placed nb lacking fewer
    pub stands : Stands nb fewer es
    pub old : lacking.stamp < stands.bound
    pub served : Served nb fewer es
    pub fetched_or_first : Among lacking (gone nb rack es) ⊎ (rack ≡ lacking ∷ fewer)

  -- where it will be fetched, the racks after the next entry are so too
  trails_on : (e : Folder P) (a : Entry P) (next : List (Entry P)) (fewer : List (Folder P)) → in_order nb (placed nb e fewer) ≡ true → (st : Stands nb fewer (a ∷ next)) → e.stamp < st.bound
      → Served nb fewer (a ∷ next) → Among e (gone nb (placed nb e fewer) (a ∷ next)) → Trails (rack_after nb (placed nb e fewer) a) (rack_after nb fewer a) next
  trails_on e (Arrival f) next fewer o st lt s m = record {
    lacking = e;
    more = placed_swap nb L f e fewer (λ q. omega (arith, st.rising.0));
    stands = stands_arrival nb L f fewer next st;
    old = omega (arith, st.rising.0);
    served = s;
    fetched_or_first = inl m;
  }
  trails_on e (Taking t) next [] o st lt s m = absurd (never_served t s)
  trails_on e (Taking t) next (y ∷ fewer) o st lt s m = go (ahead nb e y) o m
    where
      go : (b : Bool) → in_order nb (cond b (e ∷ y ∷ fewer) (y ∷ placed nb e fewer)) ≡ true → Among e (gone nb (cond b (e ∷ y ∷ fewer) (y ∷ placed nb e fewer)) (Taking t ∷ next))
          → Trails (rest (cond b (e ∷ y ∷ fewer) (y ∷ placed nb e fewer))) fewer next
      go true k n = record {
        lacking = y;
        more = sym (placed_front nb y fewer (and_parts (ahead_of_all nb y fewer) (in_order nb fewer) st.order).0);
        stands = stands_taking nb L y t fewer next st;
        old = omega (arith, st.below.0, st.rising.0);
        served = s;
        fetched_or_first = inr refl;
      }
      go false k n = record {
        lacking = e;
        more = refl;
        stands = stands_taking nb L y t fewer next st;
        old = omega (arith, st.rising.0);
        served = s;
        fetched_or_first = inl (pass n);
      }
        where
          first : ahead nb y e ≡ true
          first = ahead_of_each nb y e (placed nb e fewer) (and_parts (ahead_of_all nb y (placed nb e fewer)) (in_order nb (placed nb e fewer)) k).0 (among_placed nb e e fewer (inl refl))

          pass : Among e (y ∷ gone nb (placed nb e fewer) next) → Among e (gone nb (placed nb e fewer) next)
          pass (inl q) = absurd (both_ways _ (ahead_irreflexive nb L y) (rw q at first))
          pass (inr n') = n'

  module _ (es : List (Entry P)) (r : Rising 0 es) (v : Served nb [] es) where
    -- the folder that stands first at the place b is the one by which the waiting list exceeds the end of the run from the smaller rack at q
    abbrev pub Lacks : ℕ → ℕ → List (Folder P) → Type 0
    Lacks b q fewer = (h : Folder P) × (others : List (Folder P)) × (rack_at nb es b ≡ h ∷ others) × (waiting nb es ≡ placed nb h (replay nb fewer (drop q es)))

    pub lacks : (d q b : ℕ) → q + d ≡ b → b ≤ length es → SafeAt nb es b → ((i : ℕ) → q ≤ i → i < b → DoomedAt nb es i)
        → (fewer : List (Folder P)) → Trails (rack_at nb es q) fewer (drop q es) → Lacks b q fewer
    lacks zero q b i le safe doomed fewer tr = go tr.fetched_or_first
      where
        same : b ≡ q
        same = omega arith

        stays : Among tr.lacking (later nb es q) → ⊥
        stays m = (rw same at safe) tr.lacking (rw tr.more (among_placed nb tr.lacking tr.lacking fewer (inl refl))) m

        go : Among tr.lacking (later nb es q) ⊎ (rack_at nb es q ≡ tr.lacking ∷ fewer) → Lacks b q fewer
        go (inl m) = absurd (stays m)
        go (inr k) =
            let got = never_fetched nb L (drop q es) fewer tr.lacking tr.stands tr.old (rw tr.more at (served_at nb es q v).1) (λ m. stays (rw tr.more m)) in
            (tr.lacking, fewer, rw same k, waiting_at nb es q ∙ ap (λ l. replay nb l (drop q es)) tr.more ∙ got.0)
    lacks (suc d) q b i le safe doomed fewer tr =
        go (step_at nb q es [] (omega arith)) (λ fewer' tr'. lacks d (suc q) b (omega arith) le safe (λ j x y. doomed j (omega arith) y) fewer' tr')
      where
        will : Among tr.lacking (later nb es q) ⊎ (rack_at nb es q ≡ tr.lacking ∷ fewer) → DoomedAt nb es q → Among tr.lacking (later nb es q)
        will (inl m) y = m
        will (inr k) y =
            rw k (front_fetched (drop q es) tr.lacking fewer y.0 (rw k at (stands_at nb L es q r)) (rw k at y.1) (rw k at y.2))

        fetched : Among tr.lacking (gone nb (placed nb tr.lacking fewer) (drop q es))
        fetched = rw tr.more at (will tr.fetched_or_first (doomed q (omega arith) (omega arith)))

        order : in_order nb (placed nb tr.lacking fewer) ≡ true
        order = rw tr.more at (stands_at nb L es q r).order

        go : (a : Entry P) × (drop q es ≡ a ∷ drop (suc q) es) × (rack_at nb es (suc q) ≡ rack_after nb (rack_at nb es q) a)
            → ((fewer' : List (Folder P)) → Trails (rack_at nb es (suc q)) fewer' (drop (suc q) es) → Lacks b (suc q) fewer') → Lacks b q fewer
        go step ih =
            let a = step.0 in
            let next = drop (suc q) es in
            let st : Stands nb fewer (a ∷ next) = record { bound = tr.stands.bound; below = tr.stands.below; order = tr.stands.order; rising = rw step.1 at tr.stands.rising } in
            let on = trails_on tr.lacking a next fewer order st tr.old (rw step.1 at tr.served) (rw step.1 at fetched) in
            let at : rack_at nb es (suc q) ≡ rack_after nb (placed nb tr.lacking fewer) a = step.2 ∙ ap (λ l. rack_after nb l a) tr.more in
            let got = ih (rack_after nb fewer a) (subst (λ l. Trails l (rack_after nb fewer a) next) (sym at) on) in
            (got.0, got.1, got.2, got.3 ∙ ap (λ l. placed nb got.0 (replay nb fewer l)) (sym step.1))
