-- Journals in two parts, and a journal beside the journal with one entry more.
use Rattle.std.proofs.Common.{◌≡◌, ℕ, suc, ◌<◌, ◌≤◌, Bool, true, false, cond, not, eqb, ltb, List, [], ◌∷◌, ◌++◌, map, is_some, Some, None, Option, sym, refl, ap, ◌∙◌, arith}
use Rattle.std.proofs.lemmas.Bool.{and_parts, and_from, or_parts, ltb-true, ltb-false, eqb-true, eqb-false, le-leb, lt-leb, lt-ltb, both_ways}
use Rattle.journal.specs.declared.folder.Folder.{Folder}
use Rattle.journal.specs.declared.entry.Entry.{Entry}
use Rattle.journal.specs.declared.entry.Entry.TheVariants.{Arrival, Taking}
use Rattle.journal.specs.Folders.{placed, in_order, ahead_of_all}
use Rattle.journal.specs.Replay.{stamp_of, rising, by_stamp, dated, entered, struck, replay, fetches, fetches_from}
use Rattle.journal.specs.Movers.{entry_at}
use Rattle.bridges.specs.Racks.{Below, Rising, Stands, Served}
use Rattle.journal.proofs.Ahead.{Lawful}
use Rattle.bridges.proofs.Racks.{below_later, below_placed, in_order_placed, rising_earlier}
use Rattle.bridges.proofs.OneMore.{never_served}

-- all of these entries have lesser stamps
abbrev pub Older : {P : Type 0} → ℕ → List (Entry P) → Type 0
Older n [] = Unit {0}
Older n (e ∷ es) = (stamp_of e < n) × Older n es

-- a journal that lacks an entry, and the journal that has it: the entries before it and after it
pub record Corrected {P : Type 0} (n : ℕ) (e : Entry P) (lacking having : List (Entry P)) : Type 0 where
  pub before : List (Entry P)
  pub after : List (Entry P)
  pub lacking_is : lacking ≡ before ++ after
  pub having_is : having ≡ before ++ e ∷ after
  pub older : Older (stamp_of e) before
  pub rising_before : Rising n before
  pub rising_after : Rising (suc (stamp_of e)) after

module _ {P : Type 0} where
  pub rising_by_stamp : (n : ℕ) (e : Entry P) (es : List (Entry P)) → n ≤ stamp_of e → rising (map stamp_of (e ∷ es)) ≡ true → Rising n (e ∷ es)
  rising_by_stamp n e [] le h = (le, tt)
  rising_by_stamp n e (d ∷ es) le h =
      let both = and_parts (ltb (stamp_of e) (stamp_of d)) (rising (map stamp_of (d ∷ es))) h in
      (le, rising_by_stamp (suc (stamp_of e)) d es (ltb-true _ _ both.0) both.1)

  pub rising_journal : (es : List (Entry P)) → by_stamp es ≡ true → Rising 0 es
  rising_journal [] h = tt
  rising_journal (e ∷ es) h = rising_by_stamp 0 e es (omega arith) h

  pub by_stamp_rising : (n : ℕ) (es : List (Entry P)) → Rising n es → by_stamp es ≡ true
  by_stamp_rising n [] r = refl
  by_stamp_rising n (e ∷ []) r = refl
  by_stamp_rising n (e ∷ (d ∷ es)) r = and_from _ _ (lt-ltb _ _ r.1.0) (by_stamp_rising (suc (stamp_of e)) (d ∷ es) r.1)

  pub entering : (n : ℕ) (e : Entry P) (es : List (Entry P)) → n ≤ stamp_of e → Rising n es → dated (stamp_of e) es ≡ false → Corrected n e es (entered e es)
  entering n e [] le r h = record { before = []; after = []; lacking_is = refl; having_is = refl; older = tt; rising_before = tt; rising_after = tt }
  entering n e (d ∷ ds) le r h =
      let parts = or_parts (eqb (stamp_of d) (stamp_of e)) (dated (stamp_of e) ds) h in
      go (ltb (stamp_of e) (stamp_of d)) refl (λ k. entering (suc (stamp_of d)) e ds k r.1 parts.1) (eqb-false (stamp_of d) (stamp_of e) parts.0)
    where
      go : (b : Bool) → ltb (stamp_of e) (stamp_of d) ≡ b → (suc (stamp_of d) ≤ stamp_of e → Corrected (suc (stamp_of d)) e ds (entered e ds)) → (stamp_of d ≡ stamp_of e → ⊥) → Corrected n e (d ∷ ds) (cond b (e ∷ (d ∷ ds)) (d ∷ entered e ds))
      go true t ih ne = record { before = []; after = d ∷ ds; lacking_is = refl; having_is = refl; older = tt; rising_before = tt; rising_after = (ltb-true _ _ t, r.1) }
      go false t ih ne =
          let lt : stamp_of d < stamp_of e = omega (arith, ltb-false _ _ t) in
          let c = ih lt in
          record {
            before = d ∷ c.before;
            after = c.after;
            lacking_is = ap (λ l. d ∷ l) c.lacking_is;
            having_is = ap (λ l. d ∷ l) c.having_is;
            older = (lt, c.older);
            rising_before = (r.0, c.rising_before);
            rising_after = c.rising_after;
          }

  pub striking : (n : ℕ) (s : ℕ) (e : Entry P) (es : List (Entry P)) → Rising n es → entry_at s es ≡ Some e → (stamp_of e ≡ s) × (n ≤ s) × Corrected n e (struck s es) es
  striking n s e [] r h = absurd (let z : ◌≡◌ {A = ℕ} 0 1 = cc in omega arith)
  striking n s e (d ∷ ds) r h = go (eqb (stamp_of d) s) refl h (striking (suc (stamp_of d)) s e ds r.1)
    where
      go : (b : Bool) → eqb (stamp_of d) s ≡ b → cond b (Some d) (entry_at s ds) ≡ Some e → (entry_at s ds ≡ Some e → (stamp_of e ≡ s) × (suc (stamp_of d) ≤ s) × Corrected (suc (stamp_of d)) e (struck s ds) ds)
          → (stamp_of e ≡ s) × (n ≤ s) × Corrected n e (cond b ds (d ∷ struck s ds)) (d ∷ ds)
      go true t k ih =
          let same : d ≡ e = cc in
          let at : stamp_of d ≡ s = eqb-true _ _ t in
          (ap stamp_of (sym same) ∙ at, omega (arith, r.0), record { before = []; after = ds; lacking_is = refl; having_is = ap (λ x. x ∷ ds) same; older = tt; rising_before = tt; rising_after = rw same at r.1 })
      go false t k ih =
          let got = ih k in
          let c = got.2 in (
            got.0,
            omega (arith, r.0, got.1),
            record {
              before = d ∷ c.before;
              after = c.after;
              lacking_is = ap (λ l. d ∷ l) c.lacking_is;
              having_is = ap (λ l. d ∷ l) c.having_is;
              older = (omega (arith, got.0, got.1), c.older);
              rising_before = (r.0, c.rising_before);
              rising_after = c.rising_after;
            },
          )

  pub older_later : (n : ℕ) (es : List (Entry P)) → Older n es → Older (suc n) es
  older_later n [] o = tt
  older_later n (e ∷ es) o = (omega (arith, o.0), older_later n es o.1)

  pub rising_append : (n s : ℕ) (xs ys : List (Entry P)) → Rising n xs → Older s xs → n ≤ s → Rising s ys → Rising n (xs ++ ys)
  rising_append n s [] ys r o le k = rising_earlier n s ys le k
  rising_append n s (a ∷ xs) ys r o le k = (r.0, rising_append (suc (stamp_of a)) s xs ys r.1 o.1 o.0 k)

pub served_sound : (o : Option ℕ) → not (is_some o) ≡ true → o ≡ None
served_sound None h = refl
served_sound (Some s) h = absurd (both_ways false refl h)

pub sound_served : (o : Option ℕ) → o ≡ None → not (is_some o) ≡ true
sound_served None h = refl
sound_served (Some s) h = absurd (never_served s h)

module _ {P : Type 0} (nb : P → P → Bool) where
  pub replay_append : (xs ys : List (Entry P)) (rack : List (Folder P)) → replay nb rack (xs ++ ys) ≡ replay nb (replay nb rack xs) ys
  replay_append [] ys rack = refl
  replay_append (Arrival f ∷ xs) ys rack = replay_append xs ys (placed nb f rack)
  replay_append (Taking s ∷ xs) ys [] = replay_append xs ys []
  replay_append (Taking s ∷ xs) ys (y ∷ rack) = replay_append xs ys rack

  pub served_parts : (xs ys : List (Entry P)) (rack : List (Folder P)) → Served nb rack (xs ++ ys) → Served nb rack xs × Served nb (replay nb rack xs) ys
  served_parts [] ys rack h = (refl, h)
  served_parts (Arrival f ∷ xs) ys rack h = served_parts xs ys (placed nb f rack) h
  served_parts (Taking s ∷ xs) ys [] h = absurd (never_served s h)
  served_parts (Taking s ∷ xs) ys (y ∷ rack) h = served_parts xs ys rack h

  pub served_join : (xs ys : List (Entry P)) (rack : List (Folder P)) → Served nb rack xs → Served nb (replay nb rack xs) ys → Served nb rack (xs ++ ys)
  served_join [] ys rack h k = k
  served_join (Arrival f ∷ xs) ys rack h k = served_join xs ys (placed nb f rack) h k
  served_join (Taking s ∷ xs) ys [] h k = absurd (never_served s h)
  served_join (Taking s ∷ xs) ys (y ∷ rack) h k = served_join xs ys rack h k

  fetches_from_all : (s : ℕ) (es : List (Entry P)) (rack : List (Folder P)) → Rising s es → fetches_from s (fetches nb rack es) ≡ fetches nb rack es
  fetches_from_all s [] rack r = refl
  fetches_from_all s (Arrival f ∷ es) rack r = fetches_from_all s es (placed nb f rack) (rising_earlier s (suc f.stamp) es (omega (arith, r.0)) r.1)
  fetches_from_all s (Taking t ∷ es) [] r = rw (le-leb s t r.0) (ap (λ l. record { stamp = t; folder = None } ∷ l) (fetches_from_all s es [] (rising_earlier s (suc t) es (omega (arith, r.0)) r.1)))
  fetches_from_all s (Taking t ∷ es) (y ∷ rack) r = rw (le-leb s t r.0) (ap (λ l. record { stamp = t; folder = Some y } ∷ l) (fetches_from_all s es rack (rising_earlier s (suc t) es (omega (arith, r.0)) r.1)))

  -- the takings at a stamp or later, of a journal in two parts at that stamp
  pub fetches_from_append : (s : ℕ) (xs ys : List (Entry P)) (rack : List (Folder P)) → Older s xs → Rising s ys → fetches_from s (fetches nb rack (xs ++ ys)) ≡ fetches nb (replay nb rack xs) ys
  fetches_from_append s [] ys rack o r = fetches_from_all s ys rack r
  fetches_from_append s (Arrival f ∷ xs) ys rack o r = fetches_from_append s xs ys (placed nb f rack) o.1 r
  fetches_from_append s (Taking t ∷ xs) ys [] o r = rw (lt-leb s t o.0) (fetches_from_append s xs ys [] o.1 r)
  fetches_from_append s (Taking t ∷ xs) ys (y ∷ rack) o r = rw (lt-leb s t o.0) (fetches_from_append s xs ys rack o.1 r)

  pub below_replay : (n : ℕ) (xs : List (Entry P)) (rack : List (Folder P)) → Below n rack → Older n xs → Below n (replay nb rack xs)
  below_replay n [] rack b o = b
  below_replay n (Arrival f ∷ xs) rack b o = below_replay n xs (placed nb f rack) (below_placed nb n f rack o.0 b) o.1
  below_replay n (Taking s ∷ xs) [] b o = below_replay n xs [] tt o.1
  below_replay n (Taking s ∷ xs) (y ∷ rack) b o = below_replay n xs rack b.1 o.1

module _ {P : Type 0} (nb : P → P → Bool) (L : Lawful nb) where
  pub order_replay : (n : ℕ) (xs : List (Entry P)) (rack : List (Folder P)) → Below n rack → Rising n xs → in_order nb rack ≡ true → in_order nb (replay nb rack xs) ≡ true
  order_replay n [] rack b r o = o
  order_replay n (Arrival f ∷ xs) rack b r o =
      order_replay (suc f.stamp) xs (placed nb f rack) (below_placed nb _ f rack (omega arith) (below_later n _ rack (omega (arith, r.0)) b)) r.1 (in_order_placed nb L n f rack b r.0 o)
  order_replay n (Taking s ∷ xs) [] b r o = order_replay (suc s) xs [] tt r.1 refl
  order_replay n (Taking s ∷ xs) (y ∷ rack) b r o =
      order_replay (suc s) xs rack (below_later n (suc s) rack (omega (arith, r.0)) b.1) r.1 (and_parts (ahead_of_all nb y rack) (in_order nb rack) o).1

  -- the rack that the first entries of a journal leave stands before the others
  abbrev pub stands_after : (s : ℕ) (xs ys : List (Entry P)) → Rising 0 xs → Older s xs → Rising s ys → Stands nb (replay nb [] xs) ys
  stands_after s xs ys r o k = record { bound = s; below = below_replay nb s xs [] tt o; order = order_replay 0 xs [] tt r refl; rising = k }
