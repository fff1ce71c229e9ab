-- Ranges of places, and the slots and items in them.
use Rattle.std.proofs.Common.{◌≡◌, ℕ, zero, suc, ◌+◌, ◌/◌, ◌<◌, ◌≤◌, cond, eqb, List, [], ◌∷◌, ◌++◌, length, take, drop, Some, refl, ap, ◌∙◌, arith}
use Rattle.std.proofs.lemmas.Bool.Decides.{nat_tests}
use Rattle.nodes.specs.Tree.{Tree, leaf, branch, slots, uses}
use Rattle.std.specs.List.{slice_get}
use Rattle.changes.specs.Chains.{count}
use Rattle.rebuild.specs.Shapes.{root_of}

pub root_some : (order : List ℕ) (lo n : ℕ) → (n ≡ 0 → ⊥) → root_of order lo n ≡ slice_get order (lo + n / 2)
root_some order lo zero h = absurd (h refl)
root_some order lo (suc n) h = refl

-- the items of a list from a place on, so many
abbrev pub range : {X : Type 0} → ℕ → ℕ → List X → List X
range lo n xs = take n (drop lo xs)

module _ {X : Type 0} where
  range_nil : (lo n : ℕ) → range {X = X} lo n [] ≡ []
  range_nil zero zero = refl
  range_nil zero (suc n) = refl
  range_nil (suc lo) zero = refl
  range_nil (suc lo) (suc n) = refl

  -- a range is its first part, the item there, and the rest
  pub range_split : (xs : List X) (lo b a : ℕ) (x : X) → slice_get xs (lo + b) ≡ Some x → range lo (suc (b + a)) xs ≡ range lo b xs ++ (x ∷ range (suc (lo + b)) a xs)
  range_split [] lo b a x e = cc
  range_split (y ∷ ys) zero zero a x e =
      let same : y ≡ x = (let f : slice_get (y ∷ ys) 0 ≡ Some x = ap (slice_get (y ∷ ys)) (let z : 0 ≡ 0 + 0 = omega arith in z) ∙ e in cc) in
      ap (λ z. z ∷ take (0 + a) ys) same ∙ ap (λ n. x ∷ take n ys) (let z : 0 + a ≡ a = omega arith in z) ∙ ap (λ n. x ∷ take a (drop n (y ∷ ys))) (let z : 1 ≡ suc (0 + 0) = omega arith in z)
  range_split (y ∷ ys) zero (suc b) a x e =
      let f : slice_get ys (0 + b) ≡ Some x = ap (slice_get ys) (let z : 0 + b ≡ b = omega arith in z) ∙ ap (slice_get (y ∷ ys)) (let z : suc b ≡ 0 + suc b = omega arith in z) ∙ e in
      ap (λ n. y ∷ take n ys) (let z : suc b + a ≡ suc (b + a) = omega arith in z) ∙ ap (λ l. y ∷ l) (range_split ys zero b a x f) ∙ ap (λ n. y ∷ (take b ys ++ (x ∷ take a (drop n (y ∷ ys))))) (let z : suc (suc (0 + b)) ≡ suc (0 + suc b) = omega arith in z)
  range_split (y ∷ ys) (suc lo) b a x e =
      let f : slice_get ys (lo + b) ≡ Some x = ap (slice_get (y ∷ ys)) (let z : suc (lo + b) ≡ suc lo + b = omega arith in z) ∙ e in
      range_split ys lo b a x f ∙ ap (λ n. range lo b ys ++ (x ∷ take a (drop n (y ∷ ys)))) (let z : suc (suc (lo + b)) ≡ suc (suc lo + b) = omega arith in z)

-- a slot that stands once stands in no range beside its place
pub count_range : (k lo n : ℕ) (xs : List ℕ) → count k (range lo n xs) ≤ count k xs
count_range k lo n [] = (let e = ap (count k) (range_nil {X = ℕ} lo n) in omega arith)
count_range k zero zero (x ∷ xs) = omega arith
count_range k zero (suc n) (x ∷ xs) = let r = count_range k zero n xs in omega arith
count_range k (suc lo) n (x ∷ xs) = let r = count_range k lo n xs in omega arith

one_here : (k x r : ℕ) → x ≡ k → 1 ≤ cond (eqb k x) 1 0 + r
one_here k x r e = grind (arith, nat_tests)

pub count_nth : (k j : ℕ) (xs : List ℕ) → slice_get xs j ≡ Some k → 1 ≤ count k xs
count_nth k j [] e = let z : ◌≡◌ {A = ℕ} 0 1 = cc in omega arith
count_nth k zero (x ∷ xs) e = one_here k x (count k xs) (let s : x ≡ k = cc in s)
count_nth k (suc j) (x ∷ xs) e = let r = count_nth k j xs e in omega arith

-- with a slot at j, a range before j or after it has one fewer of them than the list
pub count_before : (k j lo n : ℕ) (xs : List ℕ) → slice_get xs j ≡ Some k → lo + n ≤ j → suc (count k (range lo n xs)) ≤ count k xs
count_before k j lo n [] e h = let z : ◌≡◌ {A = ℕ} 0 1 = cc in absurd (omega arith)
count_before k zero zero zero (x ∷ xs) e h = one_here k x (count k xs) (let s : x ≡ k = cc in s)
count_before k zero zero (suc n) (x ∷ xs) e h = absurd (omega arith)
count_before k zero (suc lo) n (x ∷ xs) e h = absurd (omega arith)
count_before k (suc j) zero zero (x ∷ xs) e h = let r = count_nth k j xs e in omega arith
count_before k (suc j) zero (suc n) (x ∷ xs) e h = let r = count_before k j zero n xs e (omega arith) in omega arith
count_before k (suc j) (suc lo) n (x ∷ xs) e h = let r = count_before k j lo n xs e (omega arith) in omega arith

pub count_after : (k j lo n : ℕ) (xs : List ℕ) → slice_get xs j ≡ Some k → j < lo → suc (count k (range lo n xs)) ≤ count k xs
count_after k j lo n [] e h = let z : ◌≡◌ {A = ℕ} 0 1 = cc in absurd (omega arith)
count_after k j zero n (x ∷ xs) e h = absurd (omega arith)
count_after k zero (suc lo) n (x ∷ xs) e h = let r = count_range k lo n xs in let o = one_here k x 0 (let s : x ≡ k = cc in s) in omega arith
count_after k (suc j) (suc lo) n (x ∷ xs) e h = let r = count_after k j lo n xs e (omega arith) in omega arith

pub count_append : (k : ℕ) (xs ys : List ℕ) → count k (xs ++ ys) ≡ count k xs + count k ys
count_append k [] ys = omega arith
count_append k (x ∷ xs) ys = let r = count_append k xs ys in omega arith

pub uses_count : {E : Type 0} (k : ℕ) (t : Tree E) → uses k t ≡ count k (slots t)
uses_count k leaf = refl
uses_count k (branch slot item before after) =
    let a = uses_count k before in
    let b = uses_count k after in
    let c = count_append k (slots before) (slot ∷ slots after) in
    omega arith

module _ {X : Type 0} where
  pub nth_there : (xs : List X) (j : ℕ) → j < length xs → (x : X) × (slice_get xs j ≡ Some x)
  nth_there [] j h = absurd (omega arith)
  nth_there (x ∷ xs) zero h = (x, refl)
  nth_there (x ∷ xs) (suc j) h = nth_there xs j (omega arith)
