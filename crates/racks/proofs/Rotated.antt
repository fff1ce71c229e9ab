-- What a rotation by one of a part leaves of the first n items.
use Rattle.std.proofs.Common.{◌≡◌, ℕ, suc, ◌+◌, ◌-◌, ◌<◌, ◌≤◌, List, [], ◌∷◌, ◌++◌, length, take, drop, set, sym, refl, ap, ◌∙◌, append_assoc, arith, length-append, length-drop, length-set, length-take, take-take, drop-drop, take_at, drop_at}
use borrow.Rule.Slice.PartMut.{put_mid}
use lib.Seq.{drop-append-le, take-set-le}
use Rattle.std.proofs.lemmas.List.{take_more_set}
use Rattle.std.proofs.lemmas.Slice.{between_is, take-put_mid}

module _ {X : Type 0} (xs : List X) (n place : ℕ) where
  rotated_right : (x : X) (ys : List X) → place ≤ n → n < length xs
      → ys ≡ drop (length (take (n + 1 - place) (drop place (set xs n x))) - 1) (take (n + 1 - place) (drop place (set xs n x))) ++ take (length (take (n + 1 - place) (drop place (set xs n x))) - 1) (take (n + 1 - place) (drop place (set xs n x)))
      → ys ≡ x ∷ drop place (take n xs)
  rotated_right x ys le lt e =
      let front : length (take n xs) ≡ n = length-take n xs ∙ omega arith in
      let part : take (n + 1 - place) (drop place (set xs n x)) ≡ drop place (take n xs) ++ x ∷ [] =
      between_is (set xs n x) place (n + 1) ∙ ap (drop place) (take_more_set xs n x lt) ∙ drop-append-le place (take n xs) (x ∷ []) (omega arith) in
      let m : List X = drop place (take n xs) in
      let short : length (take (n + 1 - place) (drop place (set xs n x))) - 1 ≡ length (drop place (take n xs)) =
      ap (λ (l : List X). length l - 1) part ∙ ap (λ k. k - 1) (length-append (drop place (take n xs)) (x ∷ [])) ∙ omega arith in
      e
      ∙ ap (λ (k : ℕ). drop k (take (n + 1 - place) (drop place (set xs n x))) ++ take k (take (n + 1 - place) (drop place (set xs n x)))) short
      ∙ ap (λ (l : List X). drop (length (drop place (take n xs))) l ++ take (length (drop place (take n xs))) l) part
      ∙ ap (λ (l : List X). l ++ take (length (drop place (take n xs))) (drop place (take n xs) ++ x ∷ [])) (drop_at (drop place (take n xs)) (x ∷ []) _ refl)
      ∙ ap (λ (l : List X). x ∷ l) (take_at (drop place (take n xs)) (x ∷ []) _ refl)

  pub rotated_in : (x : X) (ys : List X) → place ≤ n → n < length xs
      → ys ≡ drop (length (take (n + 1 - place) (drop place (set xs n x))) - 1) (take (n + 1 - place) (drop place (set xs n x))) ++ take (length (take (n + 1 - place) (drop place (set xs n x))) - 1) (take (n + 1 - place) (drop place (set xs n x)))
      → take (n + 1) (put_mid place (n + 1 - place) (set xs n x) ys) ≡ take place (take n xs) ++ x ∷ drop place (take n xs)
  rotated_in x ys le lt e =
      let is : ys ≡ x ∷ drop place (take n xs) = rotated_right x ys le lt e in
      let front : length (take n xs) ≡ n = length-take n xs ∙ omega arith in
      let long : length ys ≡ suc (n - place) = ap length is ∙ ap suc (length-drop place (take n xs) ∙ ap (λ k. k - place) front) in
      take-put_mid place (n + 1 - place) (set xs n x) ys (n + 1) (omega arith) (omega (arith, length-set xs n x))
      ∙ ap (λ l. l ++ ys) (take-set-le place xs n x le ∙ sym (take-take place n xs le))
      ∙ ap (λ l. take place (take n xs) ++ l) is

  pub rotated_out : (ys : List X) → place < n → n ≤ length xs
      → ys ≡ drop 1 (take (n - place) (drop place xs)) ++ take 1 (take (n - place) (drop place xs))
      → take (n - 1) (put_mid place (n - place) xs ys) ≡ take place (take n xs) ++ drop (place + 1) (take n xs)
  rotated_out ys lt le e =
      let m : List X = drop place (take n xs) in
      let is : ys ≡ drop 1 (drop place (take n xs)) ++ take 1 (drop place (take n xs)) = e ∙ ap (λ (l : List X). drop 1 l ++ take 1 l) (between_is xs place n) in
      let front : length (take n xs) ≡ n = length-take n xs ∙ omega arith in
      let rest : length (drop place (take n xs)) ≡ n - place = length-drop place (take n xs) ∙ ap (λ k. k - place) front in
      let cut : length (drop 1 (drop place (take n xs))) ≡ n - place - 1 = length-drop 1 (drop place (take n xs)) ∙ ap (λ k. k - 1) rest in
      let one : length (take 1 (drop place (take n xs))) ≡ 1 = length-take 1 (drop place (take n xs)) ∙ omega arith in
      let long : length ys ≡ n - place = ap length is ∙ length-append (drop 1 (drop place (take n xs))) _ ∙ omega arith in
      let head : length (take place xs) ≡ place = length-take place xs ∙ omega arith in
      sym (take-take (n - 1) n (put_mid place (n - place) xs ys) (omega arith))
      ∙ ap (take (n - 1)) (take-put_mid place (n - place) xs ys n (omega arith) (omega arith) ∙ ap (λ l. take place xs ++ l) is ∙ sym (append_assoc (take place xs) (drop 1 (drop place (take n xs))) _))
      ∙ take_at (take place xs ++ drop 1 (drop place (take n xs))) (take 1 (drop place (take n xs))) (n - 1) (length-append (take place xs) _ ∙ omega arith)
      ∙ ap (λ l. l ++ drop 1 (drop place (take n xs))) (sym (take-take place n xs (omega arith)))
      ∙ ap (λ l. take place (take n xs) ++ l) (drop-drop 1 place (take n xs))
