-- What stands at a place of a list.
use Rattle.std.proofs.Common.{◌≡◌, ℕ, zero, suc, ◌+◌, ◌<◌, List, [], ◌∷◌, ◌++◌, length, Some, refl, ap, ◌∙◌, arith}
use Rattle.std.specs.List.{slice_get}
use Rattle.std.proofs.lemmas.Option.{slice_get_within}

module _ {X : Type 0} where
  pub nth_within : (xs : List X) (i : ℕ) (x : X) → slice_get xs i ≡ Some x → i < length xs
  nth_within = slice_get_within

  pub nth_same : (xs : List X) (i : ℕ) (x y : X) → slice_get xs i ≡ Some x → slice_get xs i ≡ Some y → x ≡ y
  nth_same xs i x y p q = cc

  -- in a list with a marked item: before it, at it, and past it
  pub nth_before : (xs : List X) (x : X) (ys : List X) (i : ℕ) → i < length xs → slice_get (xs ++ (x ∷ ys)) i ≡ slice_get xs i
  nth_before [] x ys i h = absurd (omega arith)
  nth_before (z ∷ zs) x ys zero h = refl
  nth_before (z ∷ zs) x ys (suc i) h = nth_before zs x ys i (omega arith)

  pub nth_here : (xs : List X) (x : X) (ys : List X) → slice_get (xs ++ (x ∷ ys)) (length xs) ≡ Some x
  nth_here [] x ys = refl
  nth_here (z ∷ zs) x ys = nth_here zs x ys

  pub nth_past : (xs : List X) (x : X) (ys : List X) (i : ℕ) → slice_get (xs ++ (x ∷ ys)) (suc (length xs + i)) ≡ slice_get ys i
  nth_past [] x ys i = ap (λ k. slice_get (x ∷ ys) (suc k)) (let e : 0 + i ≡ i = omega arith in e)
  nth_past (z ∷ zs) x ys i = ap (λ k. slice_get (zs ++ (x ∷ ys)) k) (let e : suc (length zs) + i ≡ suc (length zs + i) = omega arith in e) ∙ nth_past zs x ys i
