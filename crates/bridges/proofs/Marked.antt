-- Marked rows: which folders have a mark, and where an arrival stands.
use Rattle.std.proofs.Common.{◌≡◌, ℕ, suc, ◌+◌, ◌≤◌, Bool, true, false, cond, List, [], ◌∷◌, map, Some, sym, refl, ap, ◌∙◌, inl, inr, arith}
use Rattle.std.proofs.lemmas.Bool.{both_ways, lt-ltb, le-ltb, or_parts, eqb-false}
use Rattle.journal.specs.declared.folder.Folder.{Folder}
use Rattle.journal.specs.declared.entry.Entry.{Entry}
use Rattle.journal.specs.declared.entry.Entry.TheVariants.{Arrival, Taking}
use Rattle.journal.specs.declared.row.Row.{Row}
use Rattle.journal.specs.declared.row.Row.TheVariants as row
use Rattle.journal.specs.declared.row.Mark.TheVariants.{Waiting, Fetched}
use Rattle.journal.specs.Folders.{has_stamp}
use Rattle.journal.specs.Replay.{dated}
use Rattle.journal.specs.Rows.{entries, row_of}
use Rattle.journal.specs.Searches.{earlier, folders_marked, with_marked}
use Rattle.bridges.specs.Racks.{Rising}
use Rattle.bridges.specs.Rules.{folder_at}
use Rattle.bridges.proofs.Racks.{rising_earlier}
use Rattle.bridges.proofs.Stocks.{earlier_none}
use Rattle.bridges.proofs.Counts.{arrivals}
use Rattle.bridges.proofs.Members.{Among}

module _ {P : Type 0} where
  pub entries_of_rows : (ws : List (Folder P)) (es : List (Entry P)) → entries (map (row_of ws) es) ≡ es
  entries_of_rows ws [] = refl
  entries_of_rows ws (Arrival f ∷ es) = ap (λ l. Arrival f ∷ l) (entries_of_rows ws es)
  entries_of_rows ws (Taking s ∷ es) = ap (λ l. Taking s ∷ l) (entries_of_rows ws es)

  -- the arrivals marked waiting are those whose stamp is on the waiting list
  pub waiting_marked : (ws : List (Folder P)) (es : List (Entry P)) (f : Folder P) → Among f (arrivals es) → has_stamp f.stamp ws ≡ true → Among f (folders_marked Waiting (map (row_of ws) es))
  waiting_marked ws [] f m h = elim m [ ]
  waiting_marked ws (Arrival g ∷ es) f m h = go (has_stamp g.stamp ws) refl m (λ k. waiting_marked ws es f k h)
    where
      go : (b : Bool) → has_stamp g.stamp ws ≡ b → Among f (g ∷ arrivals es) → (Among f (arrivals es) → Among f (folders_marked Waiting (map (row_of ws) es)))
          → Among f (with_marked Waiting (row.Arrival g (cond b Waiting Fetched)) (folders_marked Waiting (map (row_of ws) es)))
      go true e (inl q) ih = inl q
      go true e (inr k) ih = inr (ih k)
      go false e (inl q) ih = absurd (both_ways _ e (rw q at h))
      go false e (inr k) ih = ih k
  waiting_marked ws (Taking s ∷ es) f m h = waiting_marked ws es f m h

  pub marked_waiting : (ws : List (Folder P)) (es : List (Entry P)) (f : Folder P) → Among f (folders_marked Waiting (map (row_of ws) es)) → Among f (arrivals es) × (has_stamp f.stamp ws ≡ true)
  marked_waiting ws [] f m = elim m [ ]
  marked_waiting ws (Arrival g ∷ es) f m = go (has_stamp g.stamp ws) refl m (marked_waiting ws es f)
    where
      go : (b : Bool) → has_stamp g.stamp ws ≡ b → Among f (with_marked Waiting (row.Arrival g (cond b Waiting Fetched)) (folders_marked Waiting (map (row_of ws) es)))
          → (Among f (folders_marked Waiting (map (row_of ws) es)) → Among f (arrivals es) × (has_stamp f.stamp ws ≡ true)) → Among f (g ∷ arrivals es) × (has_stamp f.stamp ws ≡ true)
      go true e (inl q) ih = (inl q, rw q e)
      go true e (inr k) ih = let got = ih k in (inr got.0, got.1)
      go false e k ih = let got = ih k in (inr got.0, got.1)
  marked_waiting ws (Taking s ∷ es) f m = marked_waiting ws es f m

  -- the others are marked fetched
  pub fetched_marked : (ws : List (Folder P)) (es : List (Entry P)) (f : Folder P) → Among f (arrivals es) → has_stamp f.stamp ws ≡ false → Among f (folders_marked Fetched (map (row_of ws) es))
  fetched_marked ws [] f m h = elim m [ ]
  fetched_marked ws (Arrival g ∷ es) f m h = go (has_stamp g.stamp ws) refl m (λ k. fetched_marked ws es f k h)
    where
      go : (b : Bool) → has_stamp g.stamp ws ≡ b → Among f (g ∷ arrivals es) → (Among f (arrivals es) → Among f (folders_marked Fetched (map (row_of ws) es)))
          → Among f (with_marked Fetched (row.Arrival g (cond b Waiting Fetched)) (folders_marked Fetched (map (row_of ws) es)))
      go false e (inl q) ih = inl q
      go false e (inr k) ih = inr (ih k)
      go true e (inl q) ih = absurd (both_ways _ (rw q at h) e)
      go true e (inr k) ih = ih k
  fetched_marked ws (Taking s ∷ es) f m h = fetched_marked ws es f m h

  pub marked_fetched : (ws : List (Folder P)) (es : List (Entry P)) (f : Folder P) → Among f (folders_marked Fetched (map (row_of ws) es)) → Among f (arrivals es) × (has_stamp f.stamp ws ≡ false)
  marked_fetched ws [] f m = elim m [ ]
  marked_fetched ws (Arrival g ∷ es) f m = go (has_stamp g.stamp ws) refl m (marked_fetched ws es f)
    where
      go : (b : Bool) → has_stamp g.stamp ws ≡ b → Among f (with_marked Fetched (row.Arrival g (cond b Waiting Fetched)) (folders_marked Fetched (map (row_of ws) es)))
          → (Among f (folders_marked Fetched (map (row_of ws) es)) → Among f (arrivals es) × (has_stamp f.stamp ws ≡ false)) → Among f (g ∷ arrivals es) × (has_stamp f.stamp ws ≡ false)
      go false e (inl q) ih = (inl q, rw q e)
      go false e (inr k) ih = let got = ih k in (inr got.0, got.1)
      go true e k ih = let got = ih k in (inr got.0, got.1)
  marked_fetched ws (Taking s ∷ es) f m = marked_fetched ws es f m

  -- an arrival later than n is of a stamp not below n
  pub arrival_later : (n : ℕ) (es : List (Entry P)) (f : Folder P) → Rising n es → Among f (arrivals es) → n ≤ f.stamp
  arrival_later n [] f r m = elim m [ ]
  arrival_later n (Arrival g ∷ es) f r (inl q) = omega (arith, r.0, ap (λ x. x.stamp) q)
  arrival_later n (Arrival g ∷ es) f r (inr m) = omega (arith, r.0, arrival_later (suc g.stamp) es f r.1 m)
  arrival_later n (Taking s ∷ es) f r m = omega (arith, r.0, arrival_later (suc s) es f r.1 m)

  -- the place of an arrival is where as many rows are earlier
  pub arrival_place : (n : ℕ) (rs : List (Row P)) (f : Folder P) → Rising n (entries rs) → Among f (arrivals (entries rs)) → folder_at rs (earlier rs f.stamp) ≡ Some f
  arrival_place n [] f r m = elim m [ ]
  arrival_place n (row.Arrival g k ∷ rs) f r (inl q) =
      rw (le-ltb g.stamp f.stamp (omega (arith, ap (λ x. x.stamp) q)), earlier_none f.stamp rs (rising_earlier f.stamp (suc g.stamp) (entries rs) (omega (arith, ap (λ x. x.stamp) q)) r.1)) (ap Some (sym q))
  arrival_place n (row.Arrival g k ∷ rs) f r (inr m) =
      let e : 1 + earlier rs f.stamp ≡ suc (earlier rs f.stamp) = omega arith in
      rw (lt-ltb g.stamp f.stamp (arrival_later (suc g.stamp) (entries rs) f r.1 m)) (rw e (arrival_place (suc g.stamp) rs f r.1 m))
  arrival_place n (row.Taking s ∷ rs) f r m =
      let e : 1 + earlier rs f.stamp ≡ suc (earlier rs f.stamp) = omega arith in
      rw (lt-ltb s f.stamp (arrival_later (suc s) (entries rs) f r.1 m)) (rw e (arrival_place (suc s) rs f r.1 m))

  -- an arrival is an entry at its stamp
  pub arrival_dated : (es : List (Entry P)) (f : Folder P) (s : ℕ) → dated s es ≡ false → Among f (arrivals es) → f.stamp ≡ s → ⊥
  arrival_dated [] f s h m e = elim m [ ]
  arrival_dated (Arrival g ∷ es) f s h (inl q) e = eqb-false g.stamp s (or_parts _ (dated s es) h).0 (ap (λ x. x.stamp) (sym q) ∙ e)
  arrival_dated (Arrival g ∷ es) f s h (inr m) e = arrival_dated es f s (or_parts _ (dated s es) h).1 m e
  arrival_dated (Taking t ∷ es) f s h m e = arrival_dated es f s (or_parts _ (dated s es) h).1 m e
