-- The running sums of rows, as counts of folders on the rack.
use Rattle.std.proofs.Common.{◌≡◌, ℕ, suc, Bool, true, false, cond, not, List, [], ◌∷◌, map, length, take, pos, ◌+ℤ◌, sym, refl, ap, ◌∙◌, inl, inr, arith}
use Rattle.std.proofs.lemmas.Int.{ints}
use Rattle.std.proofs.lemmas.List.{take-map}
use Rattle.journal.specs.declared.folder.Folder.{Folder}
use Rattle.journal.specs.declared.entry.Entry.{Entry}
use Rattle.journal.specs.declared.entry.Entry.TheVariants.{Arrival, Taking}
use Rattle.journal.specs.declared.row.Row.{Row}
use Rattle.journal.specs.declared.row.Row.TheVariants as row
use Rattle.journal.specs.declared.row.Mark.TheVariants.{Waiting, Fetched}
use Rattle.journal.specs.Folders.{placed, has_stamp}
use Rattle.journal.specs.Replay.{replay, waiting}
use Rattle.journal.specs.Rows.{entry_of, entries, stock_step, balance_step, sum_of, stock, balance, row_of, marked}
use Rattle.journal.proofs.Placed.{length_placed}
use Rattle.bridges.specs.Racks.{Rising, Served, gone}
use Rattle.bridges.specs.Counting.{count, rack_at}
use Rattle.bridges.proofs.OneMore.{never_served}
use Rattle.bridges.proofs.Counts.{count_placed}
use Rattle.bridges.proofs.Members.{Among, fetched_not_waiting}
use Rattle.bridges.proofs.Places.{served_at, fetched_earlier}

module _ {P : Type 0} (nb : P → P → Bool) where
  stock_tally : (rs : List (Row P)) (rack : List (Folder P)) → Served nb rack (entries rs) → pos (length rack) +ℤ sum_of stock_step rs ≡ pos (length (replay nb rack (entries rs)))
  stock_tally [] rack s = omega (arith, ints)
  stock_tally (row.Arrival f m ∷ rs) rack s = let ih = stock_tally rs (placed nb f rack) s in let p = length_placed nb f rack in omega (arith, ints)
  stock_tally (row.Taking t ∷ rs) [] s = absurd (never_served t s)
  stock_tally (row.Taking t ∷ rs) (y ∷ rack) s = let ih = stock_tally rs rack s in omega (arith, ints)

  -- a folder is not on a waiting list
  abbrev pub missing : List (Folder P) → Folder P → Bool
  missing ws f = not (has_stamp f.stamp ws)

  balance_tally : (ws : List (Folder P)) (es : List (Entry P)) (rack : List (Folder P)) → Served nb rack es → ((f : Folder P) → Among f (gone nb rack es) → has_stamp f.stamp ws ≡ false)
      → pos (count (missing ws) rack) +ℤ sum_of balance_step (map (row_of ws) es) ≡ pos (count (missing ws) (replay nb rack es))
  balance_tally ws [] rack s h = omega (arith, ints)
  balance_tally ws (Arrival f ∷ es) rack s h = go (has_stamp f.stamp ws) refl (balance_tally ws es (placed nb f rack) s h) (count_placed nb (missing ws) f rack)
    where
      go : (b : Bool) → has_stamp f.stamp ws ≡ b → pos (count (missing ws) (placed nb f rack)) +ℤ sum_of balance_step (map (row_of ws) es) ≡ pos (count (missing ws) (replay nb (placed nb f rack) es))
          → count (missing ws) (placed nb f rack) ≡ cond (not (has_stamp f.stamp ws)) (suc (count (missing ws) rack)) (count (missing ws) rack)
          → pos (count (missing ws) rack) +ℤ (balance_step (row.Arrival f (cond b Waiting Fetched)) +ℤ sum_of balance_step (map (row_of ws) es)) ≡ pos (count (missing ws) (replay nb (placed nb f rack) es))
      go true e ih c = let c' : count (missing ws) (placed nb f rack) ≡ count (missing ws) rack = rw e at c in omega (arith, ints)
      go false e ih c = let c' : count (missing ws) (placed nb f rack) ≡ suc (count (missing ws) rack) = rw e at c in omega (arith, ints)
  balance_tally ws (Taking t ∷ es) [] s h = absurd (never_served t s)
  balance_tally ws (Taking t ∷ es) (y ∷ rack) s h =
      let ih = balance_tally ws es rack s (λ f m. h f (inr m)) in
      let out = h y (inl refl) in
      let c : count (missing ws) (y ∷ rack) ≡ suc (count (missing ws) rack) = rw out refl in
      omega (arith, ints)

  -- the stock at a place is the number of folders on the rack
  pub stock_at : (rs : List (Row P)) → Served nb [] (entries rs) → (j : ℕ) → stock rs j ≡ pos (length (rack_at nb (entries rs) j))
  stock_at rs s j =
      let e : entries (take j rs) ≡ take j (entries rs) = sym (take-map entry_of j rs) in
      let s' : Served nb [] (entries (take j rs)) = rw e (served_at nb (entries rs) j s).0 in
      let t = stock_tally (take j rs) [] s' in
      let u : length (replay nb [] (entries (take j rs))) ≡ length (rack_at nb (entries rs) j) = ap (λ l. length (waiting nb l)) e in
      omega (arith, ints)

  -- the balance at a place is the number of folders on the rack that are not waiting at the end
  pub balance_at : (es : List (Entry P)) → Rising 0 es → Served nb [] es → (j : ℕ) → balance (marked nb es) j ≡ pos (count (missing (waiting nb es)) (rack_at nb es j))
  balance_at es r s j =
      ap (sum_of balance_step) (take-map (row_of (waiting nb es)) j es)
      ∙ (let t = balance_tally (waiting nb es) (take j es) [] (served_at nb es j s).0 (λ f m. fetched_not_waiting nb 0 es f r (fetched_earlier nb es j f m)) in omega (arith, ints))
