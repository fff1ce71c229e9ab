-- The sums of few rows: 32 bits hold them, so no sum is cut short, and the summary of a tree has them right.
use Rattle.std.proofs.Common.{◌≡◌, ℕ, ◌+◌, ◌^◌, ◌<◌, ◌≤◌, Bool, ◌||◌, List, [], ◌∷◌, ◌++◌, length, take, ℤ, pos, negsuc, ◌+ℤ◌, ◌≤ℤ◌, None, sym, refl, ap, ◌∙◌, arith, length-take}
use lib.Signed.{le_z}
use Rattle.std.specs.Int.{saturate_to_bits, int_min}
use Rattle.std.proofs.lemmas.List.{take-map}
use Rattle.std.proofs.lemmas.Int.{ints}
use Rattle.nodes.specs.Tree.{Tree, leaf, branch, items, size, summary}
use Rattle.nodes.specs.Summaries.{Summarizes}
use Rattle.nodes.proofs.Held.{size_is_length}
use Rattle.journal.specs.declared.row.Row.{Row}
use Rattle.journal.specs.declared.row.Row.TheVariants.{Arrival, Taking}
use Rattle.journal.specs.declared.row.Mark.TheVariants.{Waiting, Fetched}
use Rattle.journal.specs.Racks.{most_entries}
use Rattle.journal.specs.Rows.{sum_of}
use Rattle.rows.specs.declared.low_sum.Sum.{Sum}
use Rattle.rows.specs.declared.low_sum.Sum.TheVariants.{Stock, Balance}
use Rattle.rows.specs.declared.row_item.RowItem.{RowItem}
use Rattle.rows.specs.declared.row_sum.RowSum.{RowSum}
use Rattle.rows.specs.declared.tally.Tally.{Tally}
use Rattle.rows.specs.Tallies.{plus, tally_of, tally_then}
use Rattle.rows.specs.Sums.{no_rows, sum_whole, rows_of, rows_in}
use Rattle.rows.specs.Probes.{step_of, running, tally_in}

-- z is at most n above or below 0
pub record Within (n : ℕ) (z : ℤ) : Type 0 where
  pub low : pos 0 ≤ℤ (z +ℤ pos n)
  pub high : z ≤ℤ pos n

pub step_within : {P : Type 0} (sum : Sum) (r : Row P) → Within 1 (step_of sum r)
step_within Stock (Arrival f m) = record { low = omega (arith, ints); high = omega (arith, ints) }
step_within Stock (Taking s) = record { low = omega (arith, ints); high = omega (arith, ints) }
step_within Balance (Arrival f Waiting) = record { low = omega (arith, ints); high = omega (arith, ints) }
step_within Balance (Arrival f Fetched) = record { low = omega (arith, ints); high = omega (arith, ints) }
step_within Balance (Taking s) = record { low = omega (arith, ints); high = omega (arith, ints) }

pub within_sum : (m n : ℕ) (y z : ℤ) → Within m y → Within n z → Within (m + n) (y +ℤ z)
within_sum m n y z a b = record { low = omega (arith, ints); high = omega (arith, ints) }

pub within_more : (m n : ℕ) (z : ℤ) → m ≤ n → Within m z → Within n z
within_more m n z h w = record { low = omega (arith, ints); high = omega (arith, ints) }

-- a sum that 32 bits hold is exact
held : (n : ℕ) (z : ℤ) → Within n z → n < 2 ^ 31 → saturate_to_bits 31 z ≡ z
held n (pos k) w h = ap pos (omega (arith, ints, w.high))
held n (negsuc k) w h = ap negsuc (omega (arith, ints, w.low))

pub plus_exact : (m n : ℕ) (y z : ℤ) → Within m y → Within n z → m + n < 2 ^ 31 → plus y z ≡ y +ℤ z
plus_exact m n y z a b h = held (m + n) (y +ℤ z) (within_sum m n y z a b) h

-- cutting a sum short does not change whether it is low
low_held : (c z : ℤ) → Within most_entries c → le_z (c +ℤ saturate_to_bits 31 z) (pos 0) ≡ le_z (c +ℤ z) (pos 0)
low_held c (pos k) w = grind (arith, ints)
low_held c (negsuc k) w = grind (arith, ints)

-- after a sum that is cut short, too
pub low_later : (c y z : ℤ) → Within most_entries c → le_z (c +ℤ plus y z) (pos 0) ≡ le_z ((c +ℤ y) +ℤ z) (pos 0)
low_later c y z w = let assoc : c +ℤ (y +ℤ z) ≡ (c +ℤ y) +ℤ z = omega (arith, ints) in low_held c (y +ℤ z) w ∙ ap (λ x. le_z x (pos 0)) assoc

pub low_plus : (c z : ℤ) → le_z (plus c z) (pos 0) ≡ le_z (c +ℤ z) (pos 0)
low_plus c z = go (c +ℤ z)
  where
    go : (z : ℤ) → le_z (saturate_to_bits 31 z) (pos 0) ≡ le_z z (pos 0)
    go (pos k) = grind arith
    go (negsuc k) = refl

-- one of two is low where the lesser is
pub low_lesser : (c x y : ℤ) → le_z (c +ℤ int_min x y) (pos 0) ≡ (le_z (c +ℤ x) (pos 0) || le_z (c +ℤ y) (pos 0))
low_lesser c x y = grind (arith, ints)

module _ {P : Type 0} (sum : Sum) where
  -- what items add to the sum
  abbrev pub shares : List (RowItem P) → ℤ
  shares xs = sum_of (step_of sum) (rows_of xs)

  pub shares_append : (xs ys : List (RowItem P)) → shares (xs ++ ys) ≡ shares xs +ℤ shares ys
  shares_append [] ys = omega (arith, ints)
  shares_append (x ∷ xs) ys = let ih = shares_append xs ys in omega (arith, ints)

  pub shares_within : (xs : List (RowItem P)) → Within (length xs) (shares xs)
  shares_within [] = record { low = omega (arith, ints); high = omega (arith, ints) }
  shares_within (x ∷ xs) = let s = step_within sum x.row in let ih = shares_within xs in record { low = omega (arith, ints); high = omega (arith, ints) }

module _ {P : Type 0} (nb : P → P → Bool) (sum : Sum) where
  -- the sum's tally in the summary of a tree
  abbrev pub tally : Tree (RowItem P) → Tally
  tally t = tally_in sum (summary no_rows (sum_whole nb) t)

  pub tally_none : tally_in sum (no_rows {P = P}) ≡ record { total = pos 0; least = None }
  tally_none = elim sum as (λ s. tally_in s (no_rows {P = P}) ≡ record { total = pos 0; least = None }) [ Stock ↦ refl | Balance ↦ refl ]

  pub tally_whole : (slot : ℕ) (item : RowItem P) (before after : Tree (RowItem P)) → tally (branch slot item before after) ≡ tally_then (tally_then (tally before) (tally_of (step_of sum item.row))) (tally after)
  tally_whole slot item before after = go sum
    where
      go : (s : Sum) → tally_in s (summary no_rows (sum_whole nb) (branch slot item before after)) ≡ tally_then (tally_then (tally_in s (summary no_rows (sum_whole nb) before)) (tally_of (step_of s item.row))) (tally_in s (summary no_rows (sum_whole nb) after))
      go Stock = refl
      go Balance = refl

  -- few rows: the total of the summary is their sum
  pub total_is : (t : Tree (RowItem P)) → size t ≤ most_entries → (tally t).total ≡ shares sum (items t)
  total_is leaf h = ap (λ y. y.total) tally_none
  total_is (branch slot item before after) h =
      let B = items before in
      let A = items after in
      let st = step_of sum item.row in
      let wb = shares_within sum B in
      let ws = step_within sum item.row in
      let wa = shares_within sum A in
      let lb = size_is_length before in
      let la = size_is_length after in
      let front : plus (shares sum B) st ≡ shares sum B +ℤ st = plus_exact (length B) 1 (shares sum B) st wb ws (omega arith) in
      let wf = within_sum (length B) 1 (shares sum B) st wb ws in
      let both : plus (shares sum B +ℤ st) (shares sum A) ≡ (shares sum B +ℤ st) +ℤ shares sum A = plus_exact (length B + 1) (length A) (shares sum B +ℤ st) (shares sum A) wf wa (omega arith) in
      let all = shares_append sum B (item ∷ A) in
      ap (λ y. y.total) (tally_whole slot item before after)
      ∙ ap (λ y. plus (plus y st) (tally after).total) (total_is before (omega arith))
      ∙ ap (λ y. plus (plus (shares sum B) st) y) (total_is after (omega arith))
      ∙ ap (λ y. plus y (shares sum A)) front
      ∙ both
      ∙ omega (arith, ints)

  -- the total in a summary of the first k of few rows is the sum at place k
  pub total_at : (k : ℕ) (t : Tree (RowItem P)) (r : RowSum P) → size t ≤ most_entries → Summarizes no_rows (sum_whole nb) (take k (items t)) r → (tally_in sum r).total ≡ running sum (rows_in t) k
  total_at k t r few s =
      let l = size_is_length t in
      let n : size s.tree ≡ length (take k (items t)) = sym (size_is_length s.tree) ∙ ap length s.lists in
      let m = length-take k (items t) in
      ap (λ y. (tally_in sum y).total) (sym s.sums) ∙ total_is s.tree (omega arith) ∙ ap (shares sum) s.lists ∙ ap (sum_of (step_of sum)) (sym (take-map (λ item. item.row) k (items t)))
