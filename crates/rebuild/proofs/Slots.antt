-- One slot more in an order.
use Rattle.std.proofs.Common.{◌≡◌, ℕ, zero, suc, ◌+◌, ◌<◌, List, [], ◌∷◌, ◌++◌, length, take, set, Some, None, sym, ap, ◌∙◌, add-one}
use Rattle.std.proofs.lemmas.List.{take_more_set}
use Rattle.std.specs.List.{slice_get}
use Rattle.rebuild.proofs.Ranges.{nth_there}

take_nth : {X : Type 0} (xs : List X) (k : ℕ) (x : X) → slice_get xs k ≡ Some x → take (suc k) xs ≡ take k xs ++ (x ∷ [])
take_nth [] k x e = cc
take_nth (y ∷ ys) zero x e = let same : y ≡ x = cc in ap (λ z. z ∷ []) same
take_nth (y ∷ ys) (suc k) x e = ap (λ l. y ∷ l) (take_nth ys k x e)

pub nth_some : {X : Type 0} (xs : List X) (k : ℕ) → k < length xs → slice_get xs k ≡ None → ⊥
nth_some xs k h e = let there = nth_there xs k h in let other : Some there.0 ≡ None = sym there.1 ∙ e in cc

pub order_more : (order later : List ℕ) (k slot : ℕ) (all : List ℕ) → k < length order → take k order ≡ take k all → later ≡ set order k slot → slice_get all k ≡ Some slot → take (k + 1) later ≡ take (k + 1) all
order_more order later k slot all h same wrote at =
    ap (take (k + 1)) wrote ∙ take_more_set order k slot h ∙ ap (λ l. l ++ (slot ∷ [])) same ∙ sym (take_nth all k slot at) ∙ ap (λ n. take n all) (sym (add-one k))
