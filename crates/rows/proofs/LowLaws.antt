-- The probe for a low sum is lawful on few rows.
use Rattle.std.proofs.Common.{◌≡◌, ℕ, ◌+◌, ◌≤◌, Bool, ◌||◌, List, [], ◌∷◌, ◌++◌, length, ℤ, pos, ◌+ℤ◌, Some, None, Option, sym, refl, ap, ◌∙◌, subst, arith, length-append}
use lib.Signed.{le_z}
use Rattle.std.specs.Int.{int_min}
use Rattle.std.specs.Option.{option_map}
use Rattle.std.proofs.lemmas.Int.{ints}
use Rattle.nodes.specs.Tree.{Tree, leaf, branch, items, size, summary}
use Rattle.nodes.specs.Hits.{passed, any_hit, Lawful}
use Rattle.nodes.proofs.Held.{size_is_length}
use Rattle.nodes.proofs.Hunts.{any_append}
use Rattle.journal.specs.Racks.{most_entries}
use Rattle.rows.specs.declared.low_sum.LowSum.{LowSum}
use Rattle.rows.specs.declared.low_sum.Sum.{Sum}
use Rattle.rows.specs.declared.row_item.RowItem.{RowItem}
use Rattle.rows.specs.declared.tally.Tally.{Tally}
use Rattle.rows.specs.Tallies.{plus, tally_of, tally_then}
use Rattle.rows.specs.Sums.{no_rows, sum_whole}
use Rattle.rows.specs.Probes.{passes, step_of, start_of, low_sum}
use Rattle.rows.proofs.Stamps.{passes_chosen}
use Rattle.rows.proofs.Shares.{Within, step_within, within_sum, within_more, plus_exact, low_later, low_plus, low_lesser, shares, shares_within, tally, tally_none, tally_whole, total_is}

passes_same : {A : Type 0} (test other : A → Bool) → ((x : A) → test x ≡ other x) → (o : Option A) → passes test o ≡ passes other o
passes_same test other same None = refl
passes_same test other same (Some x) = same x

passes_mapped : {A B : Type 0} (test : B → Bool) (f : A → B) (o : Option A) → passes test (option_map f o) ≡ passes (λ x. test (f x)) o
passes_mapped test f None = refl
passes_mapped test f (Some x) = refl

-- the probe that has passed rows with this sum
abbrev pub probe : Sum → ℤ → LowSum
probe sum c = record { sum = sum; passed = c }

module _ {P : Type 0} (sum : Sum) where
  pub past_exact : (n : ℕ) (c : ℤ) (x : RowItem P) → Within n c → n + 1 ≤ most_entries → plus c (step_of sum x.row) ≡ c +ℤ step_of sum x.row
  past_exact n c x w h = plus_exact n 1 c (step_of sum x.row) w (step_within sum x.row) (omega arith)

  pub past_within : (n : ℕ) (c : ℤ) (x : RowItem P) → Within n c → Within (n + 1) (c +ℤ step_of sum x.row)
  past_within n c x w = within_sum n 1 c (step_of sum x.row) w (step_within sum x.row)

  pub passed_low : (n : ℕ) (c : ℤ) (xs : List (RowItem P)) → Within n c → n + length xs ≤ most_entries → passed low_sum (probe sum c) xs ≡ probe sum (c +ℤ shares sum xs)
  passed_low n c [] w h = ap (probe sum) (omega (arith, ints))
  passed_low n c (x ∷ xs) w h =
      let st = step_of sum x.row in
      ap (λ y. passed low_sum (probe sum y) xs) (past_exact n c x w (omega arith)) ∙ passed_low (n + 1) (c +ℤ st) xs (past_within n c x w) (omega arith) ∙ ap (probe sum) (omega (arith, ints))

-- a sum is low after one of some rows, by their least running sum, where those before them have the sum c
abbrev lows : ℤ → Option ℤ → Bool
lows c o = passes (λ l. le_z (c +ℤ l) (pos 0)) o

lows_then : (c : ℤ) (a b : Tally) → Within most_entries c → lows c (tally_then a b).least ≡ (lows c a.least || lows (c +ℤ a.total) b.least)
lows_then c a b w =
    passes_chosen (λ l. le_z (c +ℤ l) (pos 0)) int_min (low_lesser c) a.least (option_map (plus a.total) b.least)
    ∙ ap (λ k. lows c a.least || k) (passes_mapped (λ l. le_z (c +ℤ l) (pos 0)) (plus a.total) b.least ∙ passes_same (λ l. le_z (c +ℤ plus a.total l) (pos 0)) (λ l. le_z ((c +ℤ a.total) +ℤ l) (pos 0)) (λ l. low_later c a.total l w) b.least)

or_parted : {a b c x y z : Bool} → a ≡ x → b ≡ y → c ≡ z → ((a || b) || c) ≡ (x || (y || z))
or_parted p q r = grind arith

module _ {P : Type 0} (nb : P → P → Bool) (sum : Sum) where
  reaches_is : (n : ℕ) (c : ℤ) (t : Tree (RowItem P)) → Within n c → n + size t ≤ most_entries → lows c (tally nb sum t).least ≡ any_hit low_sum (probe sum c) (items t)
  reaches_is n c leaf w h = ap (λ y. lows c y.least) (tally_none nb sum)
  reaches_is n c (branch slot item before after) w h =
      let B = items before in
      let A = items after in
      let st = step_of sum item.row in
      let Y = tally nb sum before in
      let Z = tally nb sum after in
      let d = c +ℤ shares sum B in
      let few = within_more n most_entries c (omega arith) w in
      let lb = size_is_length before in
      let wd : Within (n + length B) d = within_sum n (length B) c (shares sum B) w (shares_within sum B) in
      let front : c +ℤ Y.total ≡ d = ap (λ y. c +ℤ y) (total_is nb sum before (omega arith)) in
      let exact : plus Y.total st ≡ shares sum B +ℤ st = ap (λ y. plus y st) (total_is nb sum before (omega arith)) ∙ plus_exact (length B) 1 (shares sum B) st (shares_within sum B) (step_within sum item.row) (omega arith) in
      let assoc : c +ℤ (shares sum B +ℤ st) ≡ d +ℤ st = omega (arith, ints) in
      let past : plus d st ≡ d +ℤ st = past_exact sum (n + length B) d item wd (omega arith) in
      let here : le_z ((c +ℤ Y.total) +ℤ st) (pos 0) ≡ le_z (plus d st) (pos 0) = ap (λ y. le_z (y +ℤ st) (pos 0)) front ∙ sym (low_plus d st) in
      let later : lows (c +ℤ plus Y.total st) Z.least ≡ any_hit low_sum (probe sum (plus d st)) A = ap (λ y. lows (c +ℤ y) Z.least) exact ∙ ap (λ y. lows y Z.least) assoc ∙ reaches_is (n + length B + 1) (d +ℤ st) after (past_within sum (n + length B) d item wd) (omega arith) ∙ ap (λ y. any_hit low_sum (probe sum y) A) (sym past) in
      ap (λ y. lows c y.least) (tally_whole nb sum slot item before after)
      ∙ lows_then c (tally_then Y (tally_of st)) Z few
      ∙ ap (λ k. k || lows (c +ℤ plus Y.total st) Z.least) (lows_then c Y (tally_of st) few)
      ∙ or_parted (reaches_is n c before w (omega arith)) here later
      ∙ sym (ap (λ q. any_hit low_sum (probe sum c) B || any_hit low_sum q (item ∷ A)) (passed_low sum n c B w (omega arith)))
      ∙ sym (any_append low_sum (probe sum c) B (item ∷ A))

  passing : (n : ℕ) (c : ℤ) (t : Tree (RowItem P)) → Within n c → n + size t ≤ most_entries → low_sum.beyond (probe sum c) (summary no_rows (sum_whole nb) t) ≡ passed low_sum (probe sum c) (items t)
  passing n c t w h =
      let l = size_is_length t in
      ap (λ y. probe sum (plus c y)) (total_is nb sum t (omega arith)) ∙ ap (probe sum) (plus_exact n (length (items t)) c (shares sum (items t)) w (shares_within sum (items t)) (omega arith)) ∙ sym (passed_low sum n c (items t) w (omega arith))

  finding : (n : ℕ) (c : ℤ) (t : Tree (RowItem P)) → Within n c → n + size t ≤ most_entries → low_sum.reaches (probe sum c) (summary no_rows (sum_whole nb) t) ≡ any_hit low_sum (probe sum c) (items t)
  finding n c t w h = passes_same (λ l. le_z (plus c l) (pos 0)) (λ l. le_z (c +ℤ l) (pos 0)) (low_plus c) (tally nb sum t).least ∙ reaches_is n c t w h

  -- the probe past the first of few rows
  module _ (fs bs : List (RowItem P)) (t : Tree (RowItem P)) (few : length (fs ++ (items t ++ bs)) ≤ most_entries) where
    room : length fs + size t ≤ most_entries
    room = let l = size_is_length t in omega (arith, length-append fs (items t ++ bs), length-append (items t) bs)

    start_within : Within (length fs) (pos 0 +ℤ shares sum fs)
    start_within = let w = shares_within sum fs in record { low = omega (arith, ints); high = omega (arith, ints) }

    started : probe sum (pos 0 +ℤ shares sum fs) ≡ passed low_sum (start_of sum) fs
    started = sym (passed_low sum 0 (pos 0) fs (record { low = omega (arith, ints); high = omega (arith, ints) }) (omega (arith, room)))

  pub lawful_low_sum : (p : LowSum) (xs : List (RowItem P)) → p ≡ start_of sum → length xs ≤ most_entries → Lawful no_rows (sum_whole nb) low_sum p xs
  lawful_low_sum p xs new h = subst (λ q. Lawful no_rows (sum_whole nb) low_sum q xs) (sym new) (record {
    passes = λ fs t bs e.
        let few = subst (λ l. length l ≤ most_entries) e h in
        subst (λ q. low_sum.beyond q (summary no_rows (sum_whole nb) t) ≡ passed low_sum q (items t)) (started fs bs t few) (passing (length fs) (pos 0 +ℤ shares sum fs) t (start_within fs bs t few) (room fs bs t few));
    finds = λ fs t bs e.
        let few = subst (λ l. length l ≤ most_entries) e h in
        subst (λ q. low_sum.reaches q (summary no_rows (sum_whole nb) t) ≡ any_hit low_sum q (items t)) (started fs bs t few) (finding (length fs) (pos 0 +ℤ shares sum fs) t (start_within fs bs t few) (room fs bs t few));
  })
