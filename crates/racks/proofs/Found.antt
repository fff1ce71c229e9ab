-- A rack's change, from the places that were looked for among its first n folders.
use Rattle.std.proofs.Common.{◌≡◌, ℕ, ◌+◌, ◌<◌, ◌≤◌, Bool, true, false, List, [], ◌∷◌, ◌++◌, length, take, drop, Option, Some, None, is_some, sym, refl, ap, ◌∙◌, arith, length-take}
use Rattle.std.proofs.lemmas.Bool.Decides.{nat_tests}
use Rattle.std.specs.List.{position}
use Rattle.orders.specs.Refusal.{Told, told, refused}
use Rattle.journal.specs.declared.folder.Folder.{Folder}
use Rattle.journal.specs.Folders.{placed}
use Rattle.journal.specs.Racks.{same_key, holds, taken_out, put_rule, remove_rule, Changed}
use Rattle.journal.specs.Refusals.{accepted, later}
use Rattle.journal.proofs.Ahead.{Lawful}
use Rattle.journal.proofs.Placed.{before_place, before_key, placed_at, holds_at, taken_out_at}
use Rattle.journal.proofs.RackRules.{follows, put_keeps, remove_keeps, Keeps}

module _ {P : Type 0} (nb : P → P → Bool) where
  -- the place of a priority and stamp
  abbrev pub key_place : P → ℕ → List (Folder P) → Option ℕ
  key_place p s fs = position (λ g. same_key nb p s g) fs

  -- the rule comes to this
  by_rule : (capacity : ℕ) (rule to : Told (List (Folder P))) (before after : List (Folder P)) → Keeps nb capacity rule before
      → rule ≡ to → after ≡ later to before → Changed nb capacity rule before after (accepted to)
  by_rule capacity rule to before after k e a = follows nb capacity rule before after (accepted to) k (sym (ap accepted e)) (a ∙ sym (ap (λ r. later r before) e))

module _ {P : Type 0} (nb : P → P → Bool) (slots : List (Folder P)) (n : ℕ) (fits : n ≤ length slots) where
  length_first : length (take n slots) ≡ n
  length_first = length-take n slots ∙ omega arith

  holds_told : (p : P) (s : ℕ) → holds nb p s (take n slots) ≡ is_some (key_place nb p s (take n slots))
  holds_told p s = let e = holds_at nb p s (take n slots) in grind (arith, nat_tests)

  place_told : (p : P) (s place : ℕ) → key_place nb p s (take n slots) ≡ Some place → (place ≡ before_key nb p s (take n slots)) × (place < n)
  place_told p s place h = let l = length_first in grind (arith, nat_tests)

  module _ (L : Lawful nb) (capacity : ℕ) (within : n ≤ capacity) (f : Folder P) where
    keeps : Keeps nb capacity (put_rule nb capacity (take n slots) f) (take n slots)
    keeps = put_keeps nb L capacity (take n slots) f (omega (arith, length_first))

    pub put_present : is_some (key_place nb f.priority f.stamp (take n slots)) ≡ true
        → Changed nb capacity (put_rule nb capacity (take n slots) f) (take n slots) (take n slots) (refused 4 [])
    put_present h =
        let e = holds_told f.priority f.stamp ∙ h in
        by_rule nb capacity (put_rule nb capacity (take n slots) f) (refused 4 []) (take n slots) (take n slots) keeps (grind (arith, nat_tests)) refl

    pub put_full : is_some (key_place nb f.priority f.stamp (take n slots)) ≡ false → capacity ≤ n
        → Changed nb capacity (put_rule nb capacity (take n slots) f) (take n slots) (take n slots) (refused 6 [])
    put_full h full =
        let e = holds_told f.priority f.stamp ∙ h in
        let l = length_first in
        by_rule nb capacity (put_rule nb capacity (take n slots) f) (refused 6 []) (take n slots) (take n slots) keeps (grind (arith, nat_tests)) refl

    pub put_done : (after : List (Folder P)) (place : ℕ) → is_some (key_place nb f.priority f.stamp (take n slots)) ≡ false → n < capacity
        → place ≡ before_place nb f (take n slots) → after ≡ take place (take n slots) ++ f ∷ drop place (take n slots)
        → Changed nb capacity (put_rule nb capacity (take n slots) f) (take n slots) after (told tt)
    put_done after place h room at is =
        let e = holds_told f.priority f.stamp ∙ h in
        let l = length_first in
        by_rule nb capacity (put_rule nb capacity (take n slots) f) (told (placed nb f (take n slots))) (take n slots) after keeps (grind (arith, nat_tests))
        (is ∙ ap (λ k. take k (take n slots) ++ f ∷ drop k (take n slots)) at ∙ sym (placed_at nb f (take n slots)))

  module _ (p : P) (s : ℕ) where
    pub remove_absent : key_place nb p s (take n slots) ≡ None
        → Changed nb n (remove_rule nb (take n slots) p s) (take n slots) (take n slots) (refused 5 [])
    remove_absent h =
        let e = holds_told p s ∙ ap is_some h in
        by_rule nb n (remove_rule nb (take n slots) p s) (refused 5 []) (take n slots) (take n slots) (remove_keeps nb n (take n slots) p s (omega (arith, length_first))) (grind (arith, nat_tests)) refl

    pub remove_done : (after : List (Folder P)) (place : ℕ) → key_place nb p s (take n slots) ≡ Some place
        → after ≡ take place (take n slots) ++ drop (place + 1) (take n slots)
        → Changed nb n (remove_rule nb (take n slots) p s) (take n slots) after (told tt)
    remove_done after place h is =
        let e = holds_told p s ∙ ap is_some h in
        let t = place_told p s place h in
        by_rule nb n (remove_rule nb (take n slots) p s) (told (taken_out nb p s (take n slots))) (take n slots) after (remove_keeps nb n (take n slots) p s (omega (arith, length_first))) (grind (arith, nat_tests))
        (is ∙ ap (λ k. take k (take n slots) ++ drop (k + 1) (take n slots)) t.0 ∙ sym (taken_out_at nb p s (take n slots) (omega (arith, length_first))))
