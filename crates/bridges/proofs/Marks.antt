-- The marks after a change of rows.
use Rattle.std.proofs.Common.{◌≡◌, ℕ, suc, ◌+◌, ◌<◌, Bool, true, false, cond, ◌||◌, eqb, ◌⊎◌, List, [], ◌∷◌, ◌++◌, map, length, Some, None, Option, sym, refl, ap, ◌∙◌, ap₂, inl, inr, arith}
use lib.ListN.{length-map}
use lib.Seq.{take-append_seam, drop-append_seam}
use Rattle.std.specs.List.{insert, remove}
use Rattle.std.proofs.lemmas.Bool.{both_ways, or_parts, or_from, lt-ltb, le-ltb, eq-eqb, ne_eqb, eqb-true}
use Rattle.std.proofs.lemmas.List.{map-append}
use Rattle.journal.specs.declared.folder.Folder.{Folder}
use Rattle.journal.specs.declared.entry.Entry.{Entry}
use Rattle.journal.specs.declared.entry.Entry.TheVariants.{Arrival, Taking}
use Rattle.journal.specs.declared.row.Row.{Row}
use Rattle.journal.specs.declared.row.Row.TheVariants as row
use Rattle.journal.specs.declared.row.Mark.{Mark}
use Rattle.journal.specs.declared.row.Mark.TheVariants.{Waiting, Fetched}
use Rattle.journal.specs.Folders.{ahead, placed, has_stamp}
use Rattle.journal.specs.Replay.{stamp_of, waiting, sound, dated, entered, struck}
use Rattle.journal.specs.Rows.{entry_of, entries, row_of, marked}
use Rattle.journal.specs.Searches.{earlier}
use Rattle.journal.specs.Changes.{put_row, removed_at, marked_as, mark_at}
use Rattle.journal.specs.Movers.{arrival_mover, taking_mover}
use Rattle.bridges.specs.Racks.{Rising}
use Rattle.bridges.specs.Movers.{OneApart}
use Rattle.bridges.specs.Rules.{hindmost_since_bridge, hinder, arrival_rule, taking_rule, fetched_revoked_rule, taking_revoked_rule, Kept}
use Rattle.bridges.specs.Marks.{mover_marked, arrival_change, arrival_rows, taking_rows, waiting_revoked_rows, fetched_revoked_rows, taking_revoked_rows, Carries, MarksKept}
use Rattle.journal.proofs.Ahead.{Lawful, ahead_irreflexive}
use Rattle.bridges.proofs.Racks.{rising_earlier}
use Rattle.bridges.proofs.Counts.{arrivals}
use Rattle.bridges.proofs.Members.{Among, among_has_stamp, has_stamp_among, among_placed, waiting_arrived}
use Rattle.bridges.proofs.Journals.{Older, Corrected, entering, striking, rising_journal, rising_append, by_stamp_rising}
use Rattle.bridges.proofs.Stocks.{earlier_none, earlier_parts}
use Rattle.bridges.proofs.Marked.{entries_of_rows, arrival_later, arrival_dated}
use Rattle.bridges.proofs.Movers.{arrival_corrected, taking_corrected}
use Rattle.bridges.proofs.Soundness.{soundness_by_stock}
use Rattle.bridges.proofs.FindMovers.{bridges_find_movers}

-- inserting and removing at the seam of two lists
module _ {A : Type 0} where
  insert_seam : (x : A) (xs ys : List A) → insert (xs ++ ys) (length xs) x ≡ xs ++ x ∷ ys
  insert_seam x xs ys = ap₂ (λ a b. a ++ x ∷ b) (take-append_seam xs ys) (drop-append_seam xs ys)

  remove_seam : (x : A) (xs ys : List A) → remove (xs ++ x ∷ ys) (length xs) ≡ xs ++ ys
  remove_seam x [] ys = refl
  remove_seam x (y ∷ xs) ys = ap (λ l. y ∷ l) (remove_seam x xs ys)

  either_way : (b : Bool) (x : A) → x ≡ cond b x x
  either_way true x = refl
  either_way false x = refl

module _ {P : Type 0} where
  -- a row with this mark if it has this stamp
  abbrev mark_if : Mark → ℕ → Row P → Row P
  mark_if k s r = cond (eqb (stamp_of (entry_of r)) s) (marked_as k r) r

  mark_none : (k : Mark) (s n : ℕ) (rs : List (Row P)) → Rising n (entries rs) → s < n → map (mark_if k s) rs ≡ rs
  mark_none k s n [] r lt = refl
  mark_none k s n (x ∷ rs) r lt =
      rw (ne_eqb (stamp_of (entry_of x)) s (λ e. omega (arith, r.0))) (ap (λ l. x ∷ l) (mark_none k s (suc (stamp_of (entry_of x))) rs r.1 (omega (arith, r.0))))

  -- marking the place of an arrival marks the row of its stamp
  mark_place : (k : Mark) (n : ℕ) (rs : List (Row P)) (f : Folder P) → Rising n (entries rs) → Among f (arrivals (entries rs)) → mark_at k (earlier rs f.stamp) rs ≡ map (mark_if k f.stamp) rs
  mark_place k n [] f r m = elim m [ ]
  mark_place k n (row.Arrival g j ∷ rs) f r (inl q) =
      let e : f.stamp ≡ g.stamp = ap (λ x. x.stamp) q in
      rw (le-ltb g.stamp f.stamp (omega arith), earlier_none f.stamp rs (rising_earlier f.stamp (suc g.stamp) (entries rs) (omega arith) r.1), eq-eqb g.stamp f.stamp (sym e))
      (ap (λ l. row.Arrival g k ∷ l) (sym (mark_none k f.stamp (suc g.stamp) rs r.1 (omega arith))))
  mark_place k n (row.Arrival g j ∷ rs) f r (inr m) =
      let e : 1 + earlier rs f.stamp ≡ suc (earlier rs f.stamp) = omega arith in
      let lt = arrival_later (suc g.stamp) (entries rs) f r.1 m in
      rw (lt-ltb g.stamp f.stamp lt, ne_eqb g.stamp f.stamp (λ z. omega arith)) (rw e (ap (λ l. row.Arrival g j ∷ l) (mark_place k (suc g.stamp) rs f r.1 m)))
  mark_place k n (row.Taking s ∷ rs) f r m =
      let e : 1 + earlier rs f.stamp ≡ suc (earlier rs f.stamp) = omega arith in
      let lt = arrival_later (suc s) (entries rs) f r.1 m in
      rw (lt-ltb s f.stamp lt, ne_eqb s f.stamp (λ z. omega arith)) (rw e (ap (λ l. row.Taking s ∷ l) (mark_place k (suc s) rs f r.1 m)))

  row_stamp : (ws : List (Folder P)) (e : Entry P) → stamp_of (entry_of (row_of ws e)) ≡ stamp_of e
  row_stamp ws (Arrival f) = refl
  row_stamp ws (Taking s) = refl

  -- the rows of a journal with one entry more, and with that entry removed
  put_marked : (ws : List (Folder P)) (a : Entry P) (lacking having : List (Entry P)) → Corrected 0 a lacking having → put_row (row_of ws a) (map (row_of ws) lacking) ≡ map (row_of ws) having
  put_marked ws a lacking having c =
      let xs = c.before in
      let ys = c.after in
      let rows : map (row_of ws) lacking ≡ map (row_of ws) xs ++ map (row_of ws) ys = ap (map (row_of ws)) c.lacking_is ∙ map-append (row_of ws) xs ys in
      let place : earlier (map (row_of ws) lacking) (stamp_of (entry_of (row_of ws a))) ≡ length (map (row_of ws) xs)
      = ap (earlier (map (row_of ws) lacking)) (row_stamp ws a)
      ∙ earlier_parts (stamp_of a) xs ys (map (row_of ws) lacking) (entries_of_rows ws lacking ∙ c.lacking_is) c.older (rising_earlier (stamp_of a) (suc (stamp_of a)) ys (omega arith) c.rising_after)
      ∙ sym (length-map xs (row_of ws)) in
      ap₂ (λ l n. insert l n (row_of ws a)) rows place ∙ insert_seam (row_of ws a) (map (row_of ws) xs) (map (row_of ws) ys)
      ∙ sym (ap (map (row_of ws)) c.having_is ∙ map-append (row_of ws) xs (a ∷ ys))

  removed_marked : (ws : List (Folder P)) (a : Entry P) (lacking having : List (Entry P)) (c : Corrected 0 a lacking having) (p : ℕ) → p ≡ length c.before → removed_at p (map (row_of ws) having) ≡ map (row_of ws) lacking
  removed_marked ws a lacking having c p e =
      let xs = c.before in
      let ys = c.after in
      let rows : map (row_of ws) having ≡ map (row_of ws) xs ++ row_of ws a ∷ map (row_of ws) ys = ap (map (row_of ws)) c.having_is ∙ map-append (row_of ws) xs (a ∷ ys) in
      ap₂ remove rows (e ∙ sym (length-map xs (row_of ws))) ∙ remove_seam (row_of ws a) (map (row_of ws) xs) (map (row_of ws) ys)
      ∙ sym (ap (map (row_of ws)) c.lacking_is ∙ map-append (row_of ws) xs ys)

  place_having : (ws : List (Folder P)) (a : Entry P) (lacking having : List (Entry P)) (c : Corrected 0 a lacking having) → earlier (map (row_of ws) having) (stamp_of a) ≡ length c.before
  place_having ws a lacking having c = earlier_parts (stamp_of a) c.before (a ∷ c.after) (map (row_of ws) having) (entries_of_rows ws having ∙ c.having_is) c.older (omega arith, c.rising_after)

  arrivals_append : (g : Folder P) (xs ys : List (Entry P)) → Among g (arrivals (xs ++ ys)) → Among g (arrivals xs) ⊎ Among g (arrivals ys)
  arrivals_append g [] ys m = inr m
  arrivals_append g (Arrival f ∷ xs) ys (inl q) = inl (inl q)
  arrivals_append g (Arrival f ∷ xs) ys (inr m) = go (arrivals_append g xs ys m)
    where
      go : Among g (arrivals xs) ⊎ Among g (arrivals ys) → Among g (f ∷ arrivals xs) ⊎ Among g (arrivals ys)
      go (inl k) = inl (inr k)
      go (inr k) = inr k
  arrivals_append g (Taking s ∷ xs) ys m = arrivals_append g xs ys m

  arrivals_join : (g : Folder P) (xs ys : List (Entry P)) → Among g (arrivals xs) ⊎ Among g (arrivals ys) → Among g (arrivals (xs ++ ys))
  arrivals_join g [] ys (inl m) = elim m [ ]
  arrivals_join g [] ys (inr m) = m
  arrivals_join g (Arrival f ∷ xs) ys (inl (inl q)) = inl q
  arrivals_join g (Arrival f ∷ xs) ys (inl (inr m)) = inr (arrivals_join g xs ys (inl m))
  arrivals_join g (Arrival f ∷ xs) ys (inr m) = inr (arrivals_join g xs ys (inr m))
  arrivals_join g (Taking s ∷ xs) ys m = arrivals_join g xs ys m

  -- who arrives in the journal that lacks an entry arrives in the one that has it
  arrived_more : (a : Entry P) (lacking having : List (Entry P)) → Corrected 0 a lacking having → (g : Folder P) → Among g (arrivals lacking) → Among g (arrivals having)
  arrived_more a lacking having c g m = rw c.having_is (arrivals_join g c.before (a ∷ c.after) (go (arrivals_append g c.before c.after (rw c.lacking_is at m))))
    where
      more : (a : Entry P) → Among g (arrivals c.after) → Among g (arrivals (a ∷ c.after))
      more (Arrival f) k = inr k
      more (Taking s) k = k

      go : Among g (arrivals c.before) ⊎ Among g (arrivals c.after) → Among g (arrivals c.before) ⊎ Among g (arrivals (a ∷ c.after))
      go (inl k) = inl k
      go (inr k) = inr (more a k)

  -- who arrives in the journal that has an arrival is that one, or arrives in the one that lacks it
  arrived_fewer : (f : Folder P) (lacking having : List (Entry P)) → Corrected 0 (Arrival f) lacking having → (g : Folder P) → Among g (arrivals having) → (g ≡ f) ⊎ Among g (arrivals lacking)
  arrived_fewer f lacking having c g m = go (arrivals_append g c.before (Arrival f ∷ c.after) (rw c.having_is at m))
    where
      go : Among g (arrivals c.before) ⊎ Among g (arrivals (Arrival f ∷ c.after)) → (g ≡ f) ⊎ Among g (arrivals lacking)
      go (inl k) = inr (rw c.lacking_is (arrivals_join g c.before c.after (inl k)))
      go (inr (inl q)) = inl q
      go (inr (inr k)) = inr (rw c.lacking_is (arrivals_join g c.before c.after (inr k)))

  dated_older : (s : ℕ) (xs ys : List (Entry P)) → Older s xs → Rising (suc s) ys → dated s (xs ++ ys) ≡ false
  dated_older s [] [] o r = refl
  dated_older s [] (y ∷ ys) o r = or_from _ _ (ne_eqb (stamp_of y) s (λ e. omega (arith, r.0))) (dated_older s [] ys tt (rising_earlier (suc s) (suc (stamp_of y)) ys (omega (arith, r.0)) r.1))
  dated_older s (x ∷ xs) ys o r = or_from _ _ (ne_eqb (stamp_of x) s (λ e. omega (arith, o.0))) (dated_older s xs ys o.1 r)

module _ {P : Type 0} (nb : P → P → Bool) where
  has_stamp_placed : (s : ℕ) (m : Folder P) (ws : List (Folder P)) → has_stamp s (placed nb m ws) ≡ (eqb s m.stamp || has_stamp s ws)
  has_stamp_placed s m [] = refl
  has_stamp_placed s m (w ∷ ws) = let ih = has_stamp_placed s m ws in grind arith

  -- where one joins, its row is marked waiting, and no other row's mark changes
  rows_joined : (m : Folder P) (ws : List (Folder P)) (es : List (Entry P)) → map (row_of (placed nb m ws)) es ≡ map (mark_if Waiting m.stamp) (map (row_of ws) es)
  rows_joined m ws [] = refl
  rows_joined m ws (Arrival f ∷ es) = ap₂ ◌∷◌ (one (eqb f.stamp m.stamp) refl) (rows_joined m ws es)
    where
      one : (b : Bool) → eqb f.stamp m.stamp ≡ b → row.Arrival f (cond (has_stamp f.stamp (placed nb m ws)) Waiting Fetched) ≡ mark_if Waiting m.stamp (row.Arrival f (cond (has_stamp f.stamp ws) Waiting Fetched))
      one true e = rw (has_stamp_placed f.stamp m ws, e) refl
      one false e = rw (has_stamp_placed f.stamp m ws, e) refl
  rows_joined m ws (Taking s ∷ es) = ap₂ ◌∷◌ (either_way (eqb s m.stamp) (row.Taking s)) (rows_joined m ws es)

  -- where one leaves, its row is marked fetched, and no other row's mark changes
  rows_left : (m : Folder P) (ws : List (Folder P)) (es : List (Entry P)) → has_stamp m.stamp ws ≡ false → map (row_of ws) es ≡ map (mark_if Fetched m.stamp) (map (row_of (placed nb m ws)) es)
  rows_left m ws [] h = refl
  rows_left m ws (Arrival f ∷ es) h = ap₂ ◌∷◌ (one (eqb f.stamp m.stamp) refl) (rows_left m ws es h)
    where
      one : (b : Bool) → eqb f.stamp m.stamp ≡ b → row.Arrival f (cond (has_stamp f.stamp ws) Waiting Fetched) ≡ mark_if Fetched m.stamp (row.Arrival f (cond (has_stamp f.stamp (placed nb m ws)) Waiting Fetched))
      one true e = let h' : has_stamp f.stamp ws ≡ false = rw (eqb-true _ _ e) h in rw (has_stamp_placed f.stamp m ws, e, h') refl
      one false e = rw (has_stamp_placed f.stamp m ws, e) refl
  rows_left m ws (Taking s ∷ es) h = ap₂ ◌∷◌ (either_way (eqb s m.stamp) (row.Taking s)) (rows_left m ws es h)

  -- a folder of no entry changes no mark
  rows_same : (m : Folder P) (ws : List (Folder P)) (es : List (Entry P)) → dated m.stamp es ≡ false → map (row_of (placed nb m ws)) es ≡ map (row_of ws) es
  rows_same m ws [] h = refl
  rows_same m ws (Arrival f ∷ es) h =
      let parts = or_parts (eqb f.stamp m.stamp) (dated m.stamp es) h in
      ap₂ ◌∷◌ (rw (has_stamp_placed f.stamp m ws, parts.0) refl) (rows_same m ws es parts.1)
  rows_same m ws (Taking s ∷ es) h = ap (λ l. row.Taking s ∷ l) (rows_same m ws es (or_parts (eqb s m.stamp) (dated m.stamp es) h).1)

  -- the mark of one who joins, and of one who leaves, at its place
  join_marks : (m : Folder P) (ws : List (Folder P)) (es : List (Entry P)) → Rising 0 es → Among m (arrivals es)
      → mark_at Waiting (earlier (map (row_of ws) es) m.stamp) (map (row_of ws) es) ≡ map (row_of (placed nb m ws)) es
  join_marks m ws es r k =
      let e = entries_of_rows ws es in
      mark_place Waiting 0 (map (row_of ws) es) m (rw e r) (rw e k) ∙ sym (rows_joined m ws es)

  leave_marks : (m : Folder P) (ws more : List (Folder P)) (es : List (Entry P)) → Rising 0 es → Among m (arrivals es) → has_stamp m.stamp ws ≡ false → more ≡ placed nb m ws
      → mark_at Fetched (earlier (map (row_of more) es) m.stamp) (map (row_of more) es) ≡ map (row_of ws) es
  leave_marks m ws more es r k h q =
      let e = entries_of_rows more es in
      mark_place Fetched 0 (map (row_of more) es) m (rw e r) (rw e k) ∙ ap (λ l. map (mark_if Fetched m.stamp) (map (row_of l) es)) q ∙ sym (rows_left m ws es h)

  pub rising_lacking : (a : Entry P) (lacking having : List (Entry P)) → Corrected 0 a lacking having → Rising 0 lacking
  rising_lacking a lacking having c = rw c.lacking_is (rising_append 0 (stamp_of a) c.before c.after c.rising_before c.older (omega arith) (rising_earlier (stamp_of a) (suc (stamp_of a)) c.after (omega arith) c.rising_after))

  pub rising_having : (a : Entry P) (lacking having : List (Entry P)) → Corrected 0 a lacking having → Rising 0 having
  rising_having a lacking having c = rw c.having_is (rising_append 0 (stamp_of a) c.before (a ∷ c.after) c.rising_before c.older (omega arith) (omega arith, c.rising_after))

  -- who makes two waiting lists differ is an arrival of the journal of the longer one
  mover_arrived : (m : Folder P) (fewer : List (Folder P)) (es : List (Entry P)) → OneApart nb m fewer (waiting nb es) → Among m (arrivals es)
  mover_arrived m fewer es a = waiting_arrived nb es m (rw a.joined (among_placed nb m m fewer (inl refl)))

  -- rows with the marks of the replay carry their journal
  carries : (rs : List (Row P)) (es : List (Entry P)) → rs ≡ marked nb es → Rising 0 es → sound nb es ≡ true → Carries nb rs es
  carries rs es e r s =
      let j : entries rs ≡ es = ap entries e ∙ entries_of_rows (waiting nb es) es in
      record { journal = j; kept = record { order = rw j (by_stamp_rising 0 es r); served = rw j s; marks = e ∙ ap (marked nb) (sym j) } }

module _ {P : Type 0} (nb : P → P → Bool) (L : Lawful nb) where
  kept_marked : (es : List (Entry P)) → Rising 0 es → sound nb es ≡ true → Kept nb (marked nb es)
  kept_marked es r s = (carries nb (marked nb es) es refl r s).kept

  arrival_kept : (f : Folder P) (es having : List (Entry P)) → sound nb es ≡ true → sound nb having ≡ true → Corrected 0 (Arrival f) es having → dated f.stamp es ≡ false
      → (o : Option (Folder P)) → hinder nb f o ≡ arrival_mover nb es f → arrival_change nb (marked nb es) f o ≡ marked nb having
  arrival_kept f es having s s' c d o e = go o e
    where
      moved : OneApart nb (arrival_mover nb es f) (waiting nb es) (waiting nb having)
      moved = arrival_corrected nb L f es having c s

      own : f ≡ arrival_mover nb es f → put_row (row.Arrival f Waiting) (marked nb es) ≡ marked nb having
      own q =
          let w : waiting nb having ≡ placed nb f (waiting nb es) = moved.joined ∙ ap (λ m. placed nb m (waiting nb es)) (sym q) in
          let h : has_stamp f.stamp (waiting nb having) ≡ true = rw w (among_has_stamp f (placed nb f (waiting nb es)) (among_placed nb f f (waiting nb es) (inl refl))) in
          let row_is : row_of (waiting nb having) (Arrival f) ≡ row.Arrival f Waiting = rw h refl in
          let rows_are : map (row_of (waiting nb having)) es ≡ marked nb es = ap (λ l. map (row_of l) es) w ∙ rows_same nb f (waiting nb es) es d in
          sym (ap₂ put_row row_is rows_are) ∙ put_marked (waiting nb having) (Arrival f) es having c

      other : (g : Folder P) → ahead nb f g ≡ true → g ≡ arrival_mover nb es f → put_row (row.Arrival f Fetched) (mark_at Waiting (earlier (marked nb es) g.stamp) (marked nb es)) ≡ marked nb having
      other g a q =
          let w : waiting nb having ≡ placed nb g (waiting nb es) = moved.joined ∙ ap (λ m. placed nb m (waiting nb es)) (sym q) in
          let arrived = old (arrived_fewer f es having c g (mover_arrived nb g (waiting nb es) having (rw (← q) at moved))) in
          let apart : eqb f.stamp g.stamp ≡ false = ne_eqb f.stamp g.stamp (λ z. arrival_dated es g f.stamp d arrived (sym z)) in
          let h : has_stamp f.stamp (waiting nb having) ≡ false = rw (w, has_stamp_placed nb f.stamp g (waiting nb es)) (or_from _ _ apart (absent (has_stamp f.stamp (waiting nb es)) refl)) in
          let row_is : row_of (waiting nb having) (Arrival f) ≡ row.Arrival f Fetched = rw h refl in
          let rows_are : map (row_of (waiting nb having)) es ≡ mark_at Waiting (earlier (marked nb es) g.stamp) (marked nb es)
          = ap (λ l. map (row_of l) es) w ∙ sym (join_marks nb g (waiting nb es) es (rising_lacking nb (Arrival f) es having c) arrived) in
          sym (ap₂ put_row row_is rows_are) ∙ put_marked (waiting nb having) (Arrival f) es having c
        where
          old : (g ≡ f) ⊎ Among g (arrivals es) → Among g (arrivals es)
          old (inl z) = absurd (both_ways _ (ahead_irreflexive nb L f) (rw z at a))
          old (inr k) = k

          absent : (b : Bool) → has_stamp f.stamp (waiting nb es) ≡ b → has_stamp f.stamp (waiting nb es) ≡ false
          absent true h = let got = has_stamp_among f.stamp (waiting nb es) h in absurd (arrival_dated es got.0 f.stamp d (waiting_arrived nb es got.0 got.1) (sym got.2))
          absent false h = h

      go : (o : Option (Folder P)) → hinder nb f o ≡ arrival_mover nb es f → arrival_change nb (marked nb es) f o ≡ marked nb having
      go None q = own q
      go (Some g) q = by (ahead nb f g) refl q
        where
          by : (b : Bool) → ahead nb f g ≡ b → cond b g f ≡ arrival_mover nb es f
              → cond b (put_row (row.Arrival f Fetched) (mark_at Waiting (earlier (marked nb es) g.stamp) (marked nb es))) (put_row (row.Arrival f Waiting) (marked nb es)) ≡ marked nb having
          by true a z = other g a z
          by false a z = own z

  taking_kept : (s : ℕ) (es having : List (Entry P)) → sound nb having ≡ true → Corrected 0 (Taking s) es having → (o : Option (Folder P)) → o ≡ taking_mover nb having s
      → put_row (row.Taking s) (mover_marked Fetched (marked nb es) o) ≡ marked nb having
  taking_kept s es having h c o e =
      let moved = taking_corrected nb L s es having c h in
      let m = moved.0 in
      let a = moved.2 in
      let rows_are : mover_marked Fetched (marked nb es) o ≡ map (row_of (waiting nb having)) es
      = ap (mover_marked Fetched (marked nb es)) (e ∙ moved.1)
      ∙ leave_marks nb m (waiting nb having) (waiting nb es) es (rising_lacking nb (Taking s) es having c) (mover_arrived nb m (waiting nb having) es a) a.new a.joined in
      ap (put_row (row.Taking s)) rows_are ∙ put_marked (waiting nb having) (Taking s) es having c

  waiting_revoked_kept : (f : Folder P) (lacking es : List (Entry P)) → sound nb lacking ≡ true → (c : Corrected 0 (Arrival f) lacking es) → f ≡ arrival_mover nb lacking f
      → removed_at (earlier (marked nb es) f.stamp) (marked nb es) ≡ marked nb lacking
  waiting_revoked_kept f lacking es h c e =
      let a = arrival_corrected nb L f lacking es c h in
      let w : waiting nb es ≡ placed nb f (waiting nb lacking) = a.joined ∙ ap (λ m. placed nb m (waiting nb lacking)) (sym e) in
      removed_marked (waiting nb es) (Arrival f) lacking es c (earlier (marked nb es) f.stamp) (place_having (waiting nb es) (Arrival f) lacking es c)
      ∙ ap (λ l. map (row_of l) lacking) w
      ∙ rows_same nb f (waiting nb lacking) lacking (rw c.lacking_is (dated_older f.stamp c.before c.after c.older c.rising_after))

  fetched_revoked_kept : (f : Folder P) (lacking es : List (Entry P)) → sound nb lacking ≡ true → (c : Corrected 0 (Arrival f) lacking es) → (o : Option (Folder P)) → o ≡ Some (arrival_mover nb lacking f)
      → removed_at (earlier (marked nb es) f.stamp) (mover_marked Fetched (marked nb es) o) ≡ marked nb lacking
  fetched_revoked_kept f lacking es h c o e =
      let m = arrival_mover nb lacking f in
      let a = arrival_corrected nb L f lacking es c h in
      let rows_are : mover_marked Fetched (marked nb es) o ≡ map (row_of (waiting nb lacking)) es
      = ap (mover_marked Fetched (marked nb es)) e
      ∙ leave_marks nb m (waiting nb lacking) (waiting nb es) es (rising_having nb (Arrival f) lacking es c) (mover_arrived nb m (waiting nb lacking) es a) a.new a.joined in
      ap (removed_at (earlier (marked nb es) f.stamp)) rows_are
      ∙ removed_marked (waiting nb lacking) (Arrival f) lacking es c (earlier (marked nb es) f.stamp) (place_having (waiting nb es) (Arrival f) lacking es c)

  taking_revoked_kept : (s : ℕ) (lacking es : List (Entry P)) → sound nb es ≡ true → (c : Corrected 0 (Taking s) lacking es) → (o : Option (Folder P)) → o ≡ taking_mover nb es s
      → removed_at (earlier (marked nb es) s) (mover_marked Waiting (marked nb es) o) ≡ marked nb lacking
  taking_revoked_kept s lacking es h c o e =
      let moved = taking_corrected nb L s lacking es c h in
      let m = moved.0 in
      let a = moved.2 in
      let rows_are : mover_marked Waiting (marked nb es) o ≡ map (row_of (waiting nb lacking)) es
      = ap (mover_marked Waiting (marked nb es)) (e ∙ moved.1)
      ∙ join_marks nb m (waiting nb es) es (rising_having nb (Taking s) lacking es c) (arrived_more (Taking s) lacking es c m (mover_arrived nb m (waiting nb es) lacking a))
      ∙ ap (λ l. map (row_of l) es) (sym a.joined) in
      ap (removed_at (earlier (marked nb es) s)) rows_are
      ∙ removed_marked (waiting nb lacking) (Taking s) lacking es c (earlier (marked nb es) s) (place_having (waiting nb es) (Taking s) lacking es c)

  pub marks_kept : MarksKept nb
  marks_kept = record {
    arrival = λ rs f k d.
        let es = entries rs in
        let c = entering 0 (Arrival f) es (omega arith) (rising_journal es k.order) d in
        let s = (soundness_by_stock nb L).arrival_entered es f k.order k.served d in
        carries nb (arrival_rows nb rs f) (entered (Arrival f) es)
        (ap (λ l. arrival_rows nb l f) k.marks
        ∙ arrival_kept f es (entered (Arrival f) es) k.served s c d (hindmost_since_bridge nb (marked nb es) (earlier (marked nb es) f.stamp))
        (sym (ap (λ l. arrival_rule nb l f) k.marks) ∙ (bridges_find_movers nb L).arrival rs f k d))
        (rising_having nb (Arrival f) es (entered (Arrival f) es) c) s;
    taking = λ rs s k d h.
        let es = entries rs in
        let c = entering 0 (Taking s) es (omega arith) (rising_journal es k.order) d in
        carries nb (taking_rows nb rs s) (entered (Taking s) es)
        (ap (λ l. taking_rows nb l s) k.marks
        ∙ taking_kept s es (entered (Taking s) es) h c (taking_rule nb (marked nb es) s) (sym (ap (λ l. taking_rule nb l s) k.marks) ∙ (bridges_find_movers nb L).taking rs s k d h))
        (rising_having nb (Taking s) es (entered (Taking s) es) c) h;
    waiting_revoked = λ rs s f k at w.
        let es = entries rs in
        let got = striking 0 s (Arrival f) es (rising_journal es k.order) at in
        let v = (soundness_by_stock nb L).waiting_struck es s f k.order k.served at w in
        carries nb (waiting_revoked_rows nb rs s) (struck s es)
        (ap (λ l. waiting_revoked_rows nb l s) k.marks ∙ ap (waiting_revoked_rows nb (marked nb es)) (sym got.0)
        ∙ waiting_revoked_kept f (struck s es) es v got.2 ((bridges_find_movers nb L).waiting_revoked rs s f k at w))
        (rising_lacking nb (Arrival f) (struck s es) es got.2) v;
    fetched_revoked = λ rs s f k at w h.
        let es = entries rs in
        let got = striking 0 s (Arrival f) es (rising_journal es k.order) at in
        carries nb (fetched_revoked_rows nb rs s) (struck s es)
        (ap (λ l. fetched_revoked_rows nb l s) k.marks ∙ ap (λ n. removed_at (earlier (marked nb es) n) (mover_marked Fetched (marked nb es) (fetched_revoked_rule nb (marked nb es) s))) (sym got.0)
        ∙ fetched_revoked_kept f (struck s es) es h got.2 (fetched_revoked_rule nb (marked nb es) s) (sym (ap (λ l. fetched_revoked_rule nb l s) k.marks) ∙ (bridges_find_movers nb L).fetched_revoked rs s f k at w h))
        (rising_lacking nb (Arrival f) (struck s es) es got.2) h;
    taking_revoked = λ rs s t k at.
        let es = entries rs in
        let got = striking 0 s (Taking t) es (rising_journal es k.order) at in
        carries nb (taking_revoked_rows nb rs s) (struck s es)
        (ap (λ l. taking_revoked_rows nb l s) k.marks ∙ ap (λ n. removed_at (earlier (marked nb es) n) (mover_marked Waiting (marked nb es) (taking_revoked_rule nb (marked nb es) s))) (sym got.0)
        ∙ taking_revoked_kept t (struck s es) es k.served got.2 (taking_revoked_rule nb (marked nb es) s)
        (sym (ap (λ l. taking_revoked_rule nb l s) k.marks) ∙ (bridges_find_movers nb L).taking_revoked rs s t k at ∙ ap (λ n. taking_mover nb es n) (sym got.0)))
        (rising_lacking nb (Taking t) (struck s es) es got.2) ((soundness_by_stock nb L).taking_struck es s t k.order k.served at);
  }
