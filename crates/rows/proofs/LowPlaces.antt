-- The hits of the probe for a low sum are the places asked for.
use Rattle.std.proofs.Common.{◌≡◌, ℕ, suc, ◌+◌, ◌-◌, ◌<◌, ◌≤◌, min, Bool, true, false, cond, List, [], ◌∷◌, ◌++◌, length, take, drop, ℤ, pos, ◌+ℤ◌, Some, None, Option, sym, refl, ap, ◌∙◌, add-zero, arith, length-drop, length-take, take-take, take-add}
use lib.ListN.{length-map}
use lib.Signed.{le_z}
use Rattle.std.specs.Option.{option_map, option_or}
use Rattle.std.proofs.lemmas.List.{take-map}
use Rattle.std.proofs.lemmas.Int.{ints}
use Rattle.nodes.specs.Tree.{Tree, items, size}
use Rattle.nodes.specs.Hits.{passed, first_in, last_in}
use Rattle.nodes.proofs.Held.{size_is_length}
use Rattle.nodes.proofs.Hunts.{or_assoc}
use Rattle.journal.specs.Racks.{most_entries}
use Rattle.journal.specs.Rows.{sum_of}
use Rattle.journal.specs.Searches.{place_in, low, least_from, greatest_to, first_low_from}
use Rattle.rows.specs.declared.low_sum.Sum.{Sum}
use Rattle.rows.specs.declared.row_item.RowItem.{RowItem}
use Rattle.rows.specs.Tallies.{plus}
use Rattle.rows.specs.Sums.{rows_of, rows_in}
use Rattle.rows.specs.Probes.{step_of, running, place_after, start_of, low_sum}
use Rattle.rows.proofs.Shares.{Within, low_plus, shares, shares_append, shares_within}
use Rattle.rows.proofs.LowLaws.{probe, past_exact, past_within, passed_low}

next : (i : ℕ) → i < most_entries → place_after i ≡ suc i
next i h = omega arith

mapped_or : {A B : Type 0} (f : A → B) (a b : Option A) → option_map f (option_or a b) ≡ option_or (option_map f a) (option_map f b)
mapped_or f None b = refl
mapped_or f (Some x) b = refl

chosen_first : (j : ℕ) (o : Option ℕ) {p : Option ℕ} {a b : Bool} → place_after j ≡ suc j → a ≡ b → option_map place_after o ≡ p → option_map place_after (cond a (Some j) o) ≡ cond b (Some (suc j)) p
chosen_first j o {p} {a} {b} up e ih = ap (λ k. option_map place_after (cond k (Some j) o)) e ∙ go b
  where
    go : (k : Bool) → option_map place_after (cond k (Some j) o) ≡ cond k (Some (suc j)) p
    go true = ap Some up
    go false = ih

chosen_last : (j : ℕ) (o : Option ℕ) {a b : Bool} → place_after j ≡ suc j → a ≡ b → option_or (option_map place_after (cond a (Some j) None)) o ≡ cond b (Some (suc j)) o
chosen_last j o {a} {b} up e = ap (λ k. option_or (option_map place_after (cond k (Some j) None)) o) e ∙ go b
  where
    go : (k : Bool) → option_or (option_map place_after (cond k (Some j) None)) o ≡ cond k (Some (suc j)) o
    go true = ap Some up
    go false = refl

module _ {P : Type 0} (sum : Sum) where
  -- the test tells at each place from j on whether the sum is low, where the sum at j is c
  abbrev Told : (ℕ → Bool) → ℕ → ℤ → List (RowItem P) → Type 0
  Told test j c ys = (k : ℕ) → k ≤ length ys → test (j + k) ≡ le_z (c +ℤ shares sum (take k ys)) (pos 0)

  module _ (test : ℕ → Bool) (j : ℕ) (c : ℤ) (y : RowItem P) (ys : List (RowItem P)) (w : Within j c) (h : j + length (y ∷ ys) ≤ most_entries) (told : Told test j c (y ∷ ys)) where
    told_here : le_z (plus c (step_of sum y.row)) (pos 0) ≡ test (suc j)
    told_here =
        let d = step_of sum y.row in
        let one : c +ℤ d ≡ c +ℤ (d +ℤ pos 0) = omega (arith, ints) in
        let at : j + 1 ≡ suc j = omega arith in
        low_plus c d ∙ ap (λ z. le_z z (pos 0)) one ∙ sym (told 1 (omega arith)) ∙ ap test at

    told_later : Told test (suc j) (plus c (step_of sum y.row)) ys
    told_later k le =
        let d = step_of sum y.row in
        let at : suc j + k ≡ j + suc k = omega arith in
        let exact = past_exact sum j c y w (omega arith) in
        let assoc : c +ℤ (d +ℤ shares sum (take k ys)) ≡ plus c d +ℤ shares sum (take k ys) = omega (arith, ints) in
        ap test at ∙ told (suc k) (omega arith) ∙ ap (λ z. le_z z (pos 0)) assoc

    within_later : Within (suc j) (plus c (step_of sum y.row))
    within_later =
        let exact = past_exact sum j c y w (omega arith) in
        let past = past_within sum j c y w in
        record { low = omega (arith, ints); high = omega (arith, ints) }

  pub first_after : (test : ℕ → Bool) (j : ℕ) (c : ℤ) (ys : List (RowItem P)) → Within j c → j + length ys ≤ most_entries → Told test j c ys → option_map place_after (first_in low_sum (probe sum c) j ys) ≡ least_from test (suc j) (length ys)
  first_after test j c [] w h told = refl
  first_after test j c (y ∷ ys) w h told =
      let later = first_in low_sum (probe sum (plus c (step_of sum y.row))) (suc j) ys in
      let ih : option_map place_after later ≡ least_from test (suc (suc j)) (length ys) = first_after test (suc j) (plus c (step_of sum y.row)) ys (within_later test j c y ys w h told) (omega arith) (told_later test j c y ys w h told) in
      chosen_first j later (next j (omega arith)) (told_here test j c y ys w h told) ih

  pub last_after : (test : ℕ → Bool) (j : ℕ) (c : ℤ) (ys : List (RowItem P)) → Within j c → j + length ys ≤ most_entries → Told test j c ys → option_or (option_map place_after (last_in low_sum (probe sum c) j ys)) (greatest_to test j) ≡ greatest_to test (j + length ys)
  last_after test j c [] w h told = ap (greatest_to test) (sym (add-zero j))
  last_after test j c (y ∷ ys) w h told =
      let later = last_in low_sum (probe sum (plus c (step_of sum y.row))) (suc j) ys in
      let ih : option_or (option_map place_after later) (greatest_to test (suc j)) ≡ greatest_to test (suc j + length ys) = last_after test (suc j) (plus c (step_of sum y.row)) ys (within_later test j c y ys w h told) (omega arith) (told_later test j c y ys w h told) in
      let at : suc j + length ys ≡ j + suc (length ys) = omega arith in
      let hit = le_z (plus c (step_of sum y.row)) (pos 0) in
      ap (λ o. option_or o (greatest_to test j)) (mapped_or place_after later (cond hit (Some j) None))
      ∙ or_assoc (option_map place_after later) (option_map place_after (cond hit (Some j) None)) (greatest_to test j)
      ∙ ap (option_or (option_map place_after later)) (chosen_last j (greatest_to test j) (next j (omega arith)) (told_here test j c y ys w h told))
      ∙ ih
      ∙ ap (greatest_to test) at

  -- the sum at a place, by items
  running_is : (xs : List (RowItem P)) (k : ℕ) → running sum (rows_of xs) k ≡ shares sum (take k xs)
  running_is xs k = ap (sum_of (step_of sum)) (take-map (λ item. item.row) k xs)

  module _ (xs : List (RowItem P)) (few : length xs ≤ most_entries) where
    abbrev test : ℕ → Bool
    test = low (running sum (rows_of xs))

    rows_long : length (rows_of xs) ≡ length xs
    rows_long = length-map xs (λ item. item.row)

    told_from : (q : ℕ) → Told test q (pos 0 +ℤ shares sum (take q xs)) (drop q xs)
    told_from q k le =
        let a = shares_append sum (take q xs) (take k (drop q xs)) in
        let parts : shares sum (take q xs ++ take k (drop q xs)) ≡ (pos 0 +ℤ shares sum (take q xs)) +ℤ shares sum (take k (drop q xs)) = omega (arith, ints) in
        ap (λ z. le_z z (pos 0)) (running_is xs (q + k) ∙ ap (shares sum) (take-add q k xs) ∙ parts)

    told_to : (p : ℕ) → Told test 0 (pos 0) (take p xs)
    told_to p k le =
        let n = length-take p xs in
        let same : take k (take p xs) ≡ take k xs = take-take k p xs (omega arith) in
        let at : 0 + k ≡ k = omega arith in
        let from_none : shares sum (take k (take p xs)) ≡ pos 0 +ℤ shares sum (take k (take p xs)) = omega (arith, ints) in
        ap test at ∙ ap (λ z. le_z z (pos 0)) (running_is xs k ∙ ap (shares sum) (sym same) ∙ from_none)

    module _ (q p : ℕ) (at : q ≡ place_in (rows_of xs) p) where
      -- the answer from place q on
      abbrev from_place : ℕ → Option ℕ
      from_place j = least_from test j (suc (length (rows_of xs) - j))

      pub first_here : true ≡ test q → Some q ≡ first_low_from (running sum) (rows_of xs) p
      first_here hit = ap (λ b. cond b (Some q) (least_from test (suc q) (length (rows_of xs) - q))) hit ∙ ap from_place at

      pub first_beyond : false ≡ test q → option_map place_after (first_in low_sum (passed low_sum (start_of sum) (take q xs)) q (drop q xs)) ≡ first_low_from (running sum) (rows_of xs) p
      first_beyond miss =
          let c = pos 0 +ℤ shares sum (take q xs) in
          let n = length-take q xs in
          let m = length-drop q xs in
          let long = rows_long in
          let start : passed low_sum (start_of sum) (take q xs) ≡ probe sum c = passed_low sum 0 (pos 0) (take q xs) (record { low = omega (arith, ints); high = omega (arith, ints) }) (omega arith) in
          let w = shares_within sum (take q xs) in
          let within : Within q c = record { low = omega (arith, ints); high = omega (arith, ints) } in
          let end : length (drop q xs) ≡ length (rows_of xs) - q = omega arith in
          ap (λ s. option_map place_after (first_in low_sum s q (drop q xs))) start
          ∙ first_after test q c (drop q xs) within (omega arith) (told_from q)
          ∙ ap (least_from test (suc q)) end
          ∙ ap (λ b. cond b (Some q) (least_from test (suc q) (length (rows_of xs) - q))) miss
          ∙ ap from_place at

    pub last_at : (p : ℕ) → option_or (option_map place_after (last_in low_sum (start_of sum) 0 (take p xs))) (Some 0) ≡ greatest_to test (place_in (rows_of xs) p)
    last_at p =
        let n = length-take p xs in
        let long = rows_long in
        let end : 0 + length (take p xs) ≡ place_in (rows_of xs) p = omega arith in
        last_after test 0 (pos 0) (take p xs) (record { low = omega (arith, ints); high = omega (arith, ints) }) (omega arith) (told_to p) ∙ ap (greatest_to test) end

pub few_items : {E : Type 0} (t : Tree E) → size t ≤ most_entries → length (items t) ≤ most_entries
few_items t few = let l = size_is_length t in omega arith

-- a place that is not above the size
pub place_is : {P : Type 0} (t : Tree (RowItem P)) (n p q : ℕ) → n ≡ size t → q ≡ min p n → q ≡ place_in (rows_in t) p
place_is t n p q sized least = let l = size_is_length t in let m = length-map (items t) (λ item. item.row) in omega arith
