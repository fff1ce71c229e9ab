-- Counting: what arrives stays on the rack or is fetched, and no two folders of a journal share a stamp.
use Rattle.std.proofs.Common.{◌≡◌, ℕ, suc, ◌+◌, ◌<◌, ◌≤◌, Bool, true, false, cond, ◌||◌, eqb, ltb, List, [], ◌∷◌, length, sym, refl, ap, ◌∙◌, arith}
use Rattle.std.proofs.lemmas.Bool.{true≢false, ne_eqb, eqb-true, eq-eqb, lt-ltb, or_parts, or_from, or_left, or_right, and_right, cond-true, cond-false}
use Rattle.journal.specs.declared.folder.Folder.{Folder}
use Rattle.journal.specs.declared.entry.Entry.{Entry}
use Rattle.journal.specs.declared.entry.Entry.TheVariants.{Arrival, Taking}
use Rattle.journal.specs.Folders.{ahead, placed, has_stamp}
use Rattle.journal.specs.Replay.{replay, waiting, fetched}
use Rattle.orders.specs.Order.{tie}
use Rattle.orders.specs.Refusal.{told}
use Rattle.journal.specs.Racks.{same_key, holds, taken_out}
use Rattle.bridges.specs.Racks.{Rising, gone}
use Rattle.bridges.specs.Movers.{OneApart, RackFollows}
use Rattle.bridges.specs.Counting.{count}
use Rattle.journal.proofs.Ahead.{Lawful}
use Rattle.bridges.proofs.Journals.{order_replay}

-- the folders of a journal's arrivals
abbrev pub arrivals : {P : Type 0} → List (Entry P) → List (Folder P)
arrivals [] = []
arrivals (Arrival f ∷ es) = f ∷ arrivals es
arrivals (Taking s ∷ es) = arrivals es

-- a folder has this stamp
abbrev pub stamped : {P : Type 0} → ℕ → Folder P → Bool
stamped s f = eqb s f.stamp

module _ {P : Type 0} where
  pub has_stamp_counted : (s : ℕ) (fs : List (Folder P)) → has_stamp s fs ≡ true → 1 ≤ count (stamped s) fs
  has_stamp_counted s [] h = absurd (true≢false (sym h))
  has_stamp_counted s (f ∷ fs) h = go (eqb s f.stamp) h (has_stamp_counted s fs)
    where
      go : (b : Bool) → (b || has_stamp s fs) ≡ true → (has_stamp s fs ≡ true → 1 ≤ count (stamped s) fs) → 1 ≤ cond b (suc (count (stamped s) fs)) (count (stamped s) fs)
      go true k ih = omega arith
      go false k ih = ih k

  pub counted_has_stamp : (s : ℕ) (fs : List (Folder P)) → count (stamped s) fs ≡ 0 → has_stamp s fs ≡ false
  counted_has_stamp s [] h = refl
  counted_has_stamp s (f ∷ fs) h = go (eqb s f.stamp) h (counted_has_stamp s fs)
    where
      go : (b : Bool) → cond b (suc (count (stamped s) fs)) (count (stamped s) fs) ≡ 0 → (count (stamped s) fs ≡ 0 → has_stamp s fs ≡ false) → (b || has_stamp s fs) ≡ false
      go true k ih = absurd (omega arith)
      go false k ih = ih k

  pub stamp_old : (s n : ℕ) (es : List (Entry P)) → Rising n es → s < n → count (stamped s) (arrivals es) ≡ 0
  stamp_old s n [] r lt = refl
  stamp_old s n (Arrival f ∷ es) r lt =
      rw (ne_eqb s f.stamp (λ e. omega (arith, r.0))) (stamp_old s (suc f.stamp) es r.1 (omega (arith, r.0)))
  stamp_old s n (Taking t ∷ es) r lt = stamp_old s (suc t) es r.1 (omega (arith, r.0))

  pub stamp_once : (s n : ℕ) (es : List (Entry P)) → Rising n es → count (stamped s) (arrivals es) ≤ 1
  stamp_once s n [] r = omega arith
  stamp_once s n (Arrival f ∷ es) r = go (eqb s f.stamp) refl (stamp_once s (suc f.stamp) es r.1)
    where
      go : (b : Bool) → eqb s f.stamp ≡ b → count (stamped s) (arrivals es) ≤ 1 → cond b (suc (count (stamped s) (arrivals es))) (count (stamped s) (arrivals es)) ≤ 1
      go true e ih = let at : s ≡ f.stamp = eqb-true s f.stamp e in omega (arith, stamp_old s (suc f.stamp) es r.1 (omega arith))
      go false e ih = ih
  stamp_once s n (Taking t ∷ es) r = stamp_once s (suc t) es r.1

module _ {P : Type 0} (nb : P → P → Bool) where
  pub count_placed : (t : Folder P → Bool) (f : Folder P) (fs : List (Folder P)) → count t (placed nb f fs) ≡ count t (f ∷ fs)
  count_placed t f [] = refl
  count_placed t f (g ∷ gs) = let ih = count_placed t f gs in grind arith

  -- what arrives is at the end on the rack or fetched
  pub conserved : (t : Folder P → Bool) (es : List (Entry P)) (rack : List (Folder P)) → count t (arrivals es) + count t rack ≡ count t (replay nb rack es) + count t (gone nb rack es)
  conserved t [] rack = omega arith
  conserved t (Arrival f ∷ es) rack = let ih = conserved t es (placed nb f rack) in let p = count_placed t f rack in grind arith
  conserved t (Taking s ∷ es) [] = conserved t es []
  conserved t (Taking s ∷ es) (y ∷ rack) = let ih = conserved t es rack in grind arith

  -- no folder of a journal is both waiting and fetched, nor either of them twice
  pub once : (s n : ℕ) (es : List (Entry P)) → Rising n es → count (stamped s) (waiting nb es) + count (stamped s) (fetched nb es) ≤ 1
  once s n es r = omega (arith, conserved (stamped s) es [], stamp_once s n es r)

module _ {P : Type 0} (nb : P → P → Bool) (L : Lawful nb) where
  -- a folder is of its own priority and stamp
  own_key : (m : Folder P) → same_key nb m.priority m.stamp m ≡ true
  own_key m = let t = L.total m.priority m.priority in let e = eq-eqb m.stamp m.stamp refl in grind arith

  -- a list without a folder's stamp does not hold it, and with it in place does
  holds_none : (m : Folder P) (fs : List (Folder P)) → has_stamp m.stamp fs ≡ false → holds nb m.priority m.stamp fs ≡ false
  holds_none m [] h = refl
  holds_none m (g ∷ gs) h =
      let parts = or_parts (eqb m.stamp g.stamp) (has_stamp m.stamp gs) h in
      or_from _ _ (and_right _ _ parts.0) (holds_none m gs parts.1)

  holds_placed : (m : Folder P) (fs : List (Folder P)) → holds nb m.priority m.stamp (placed nb m fs) ≡ true
  holds_placed m [] = or_left _ _ (own_key m)
  holds_placed m (g ∷ gs) = go (ahead nb m g) (holds_placed m gs)
    where
      go : (b : Bool) → holds nb m.priority m.stamp (placed nb m gs) ≡ true → holds nb m.priority m.stamp (cond b (m ∷ g ∷ gs) (g ∷ placed nb m gs)) ≡ true
      go true ih = or_left _ _ (own_key m)
      go false ih = or_right _ _ ih

  taken_out_placed : (m : Folder P) (fs : List (Folder P)) → has_stamp m.stamp fs ≡ false → taken_out nb m.priority m.stamp (placed nb m fs) ≡ fs
  taken_out_placed m [] h = cond-true _ _ _ (own_key m)
  taken_out_placed m (g ∷ gs) h =
      let parts = or_parts (eqb m.stamp g.stamp) (has_stamp m.stamp gs) h in
      go (ahead nb m g) (and_right (tie nb m.priority g.priority) _ parts.0) (taken_out_placed m gs parts.1)
    where
      go : (b : Bool) → same_key nb m.priority m.stamp g ≡ false → taken_out nb m.priority m.stamp (placed nb m gs) ≡ gs
          → taken_out nb m.priority m.stamp (cond b (m ∷ g ∷ gs) (g ∷ placed nb m gs)) ≡ g ∷ gs
      go true k ih = cond-true _ _ _ (own_key m)
      go false k ih = cond-false (same_key nb m.priority m.stamp g) _ _ k ∙ ap (λ l. g ∷ l) ih

  pub rack_follows : RackFollows nb
  rack_follows m fewer more a = (
    cond-true _ _ _ (ap (holds nb m.priority m.stamp) a.joined ∙ holds_placed m fewer) ∙ ap told (sym a.left),
    λ capacity lt. cond-false (holds nb m.priority m.stamp fewer) _ _ (holds_none m fewer a.new) ∙ cond-true (ltb (length fewer) capacity) _ _ (lt-ltb _ _ lt) ∙ ap told (sym a.joined),
  )

  -- a waiting list with one folder set in place differs by that one
  pub one_apart : (m : Folder P) (fewer : List (Folder P)) (es : List (Entry P)) → Rising 0 es → waiting nb es ≡ placed nb m fewer → OneApart nb m fewer (waiting nb es)
  one_apart m fewer es r e =
      let counted : count (stamped m.stamp) (placed nb m fewer) ≤ 1 = rw e at (let z : count (stamped m.stamp) (waiting nb es) ≤ 1 = omega (arith, once nb m.stamp 0 es r) in z) in
      let more = count_placed nb (stamped m.stamp) m fewer in
      let here : eqb m.stamp m.stamp ≡ true = eq-eqb m.stamp m.stamp refl in
      let none : count (stamped m.stamp) fewer ≡ 0 = grind arith in
      let new : has_stamp m.stamp fewer ≡ false = counted_has_stamp m.stamp fewer none in
      record { joined = e; left = sym (ap (taken_out nb m.priority m.stamp) e ∙ taken_out_placed m fewer new); new = new; order = order_replay nb L 0 es [] tt r refl }
