-- A folder set in its place or taken out: where that is, and that the order stays.
use Rattle.std.proofs.Common.{◌≡◌, ℕ, suc, ◌+◌, ◌<◌, ◌≤◌, Bool, true, false, cond, not, ltb, List, [], ◌∷◌, ◌++◌, length, take, drop, refl, ap, one-add, arith}
use Rattle.std.specs.List.{prefix_len}
use Rattle.std.proofs.lemmas.Bool.Decides.{nat_tests}
use Rattle.journal.specs.declared.folder.Folder.{Folder}
use Rattle.journal.specs.Folders.{ahead, ahead_of_all, in_order, placed}
use Rattle.journal.specs.Racks.{same_key, holds, taken_out}
use Rattle.journal.proofs.Ahead.{Lawful, ahead_transitive}

module _ {P : Type 0} (nb : P → P → Bool) where
  -- the folders before the first that f is ahead of
  abbrev pub before_place : Folder P → List (Folder P) → ℕ
  before_place f fs = prefix_len (λ g. not (ahead nb f g)) fs

  -- the folders before the first of a priority and stamp
  abbrev pub before_key : P → ℕ → List (Folder P) → ℕ
  before_key p s fs = prefix_len (λ g. not (same_key nb p s g)) fs

  pub placed_at : (f : Folder P) (fs : List (Folder P)) → placed nb f fs ≡ take (before_place f fs) fs ++ f ∷ drop (before_place f fs) fs
  placed_at f [] = refl
  placed_at f (g ∷ gs) = go (ahead nb f g) (before_place f gs) (placed_at f gs)
    where
      go : (b : Bool) (k : ℕ) → placed nb f gs ≡ take k gs ++ f ∷ drop k gs → cond b (f ∷ (g ∷ gs)) (g ∷ placed nb f gs) ≡ take (cond (not b) (1 + k) 0) (g ∷ gs) ++ f ∷ drop (cond (not b) (1 + k) 0) (g ∷ gs)
      go true k ih = refl
      go false k ih = rw (one-add k) (ap (λ hs. g ∷ hs) ih)

  pub holds_at : (p : P) (s : ℕ) (fs : List (Folder P)) → holds nb p s fs ≡ ltb (before_key p s fs) (length fs)
  holds_at p s [] = refl
  holds_at p s (g ∷ gs) = let ih = holds_at p s gs in grind (arith, nat_tests)

  pub taken_out_at : (p : P) (s : ℕ) (fs : List (Folder P)) → before_key p s fs < length fs → taken_out nb p s fs ≡ take (before_key p s fs) fs ++ drop (before_key p s fs + 1) fs
  taken_out_at p s [] h = absurd (let o : ⊥ = omega arith in o)
  taken_out_at p s (g ∷ gs) h = go (same_key nb p s g) (before_key p s gs) (taken_out_at p s gs) h
    where
      go : (b : Bool) (k : ℕ) → (k < length gs → taken_out nb p s gs ≡ take k gs ++ drop (k + 1) gs) → cond (not b) (1 + k) 0 < suc (length gs)
          → cond b gs (g ∷ taken_out nb p s gs) ≡ take (cond (not b) (1 + k) 0) (g ∷ gs) ++ drop (cond (not b) (1 + k) 0 + 1) (g ∷ gs)
      go true k ih h = refl
      go false k ih h =
          let up : 1 + k + 1 ≡ suc (k + 1) = omega arith in
          rw (up, one-add k) (ap (λ hs. g ∷ hs) (ih (omega arith)))

  pub length_placed : (f : Folder P) (fs : List (Folder P)) → length (placed nb f fs) ≡ suc (length fs)
  length_placed f [] = refl
  length_placed f (g ∷ gs) = let ih = length_placed f gs in grind arith

  pub length_taken_out : (p : P) (s : ℕ) (fs : List (Folder P)) → length (taken_out nb p s fs) ≤ length fs
  length_taken_out p s [] = omega arith
  length_taken_out p s (g ∷ gs) = let ih = length_taken_out p s gs in grind arith

  pub ahead_of_all_placed : (g f : Folder P) (fs : List (Folder P)) → ahead nb g f ≡ true → ahead_of_all nb g fs ≡ true → ahead_of_all nb g (placed nb f fs) ≡ true
  ahead_of_all_placed g f [] h k = grind arith
  ahead_of_all_placed g f (d ∷ ds) h k = let ih = ahead_of_all_placed g f ds h in grind arith

  ahead_of_all_taken_out : (g : Folder P) (p : P) (s : ℕ) (fs : List (Folder P)) → ahead_of_all nb g fs ≡ true → ahead_of_all nb g (taken_out nb p s fs) ≡ true
  ahead_of_all_taken_out g p s [] h = refl
  ahead_of_all_taken_out g p s (d ∷ ds) h = let ih = ahead_of_all_taken_out g p s ds in grind arith

  pub taken_out_ordered : (p : P) (s : ℕ) (fs : List (Folder P)) → in_order nb fs ≡ true → in_order nb (taken_out nb p s fs) ≡ true
  taken_out_ordered p s [] h = refl
  taken_out_ordered p s (g ∷ gs) h = let ih = taken_out_ordered p s gs in let a = ahead_of_all_taken_out g p s gs in grind arith

module _ {P : Type 0} (nb : P → P → Bool) (L : Lawful nb) where
  -- of two folders that are not alike one is ahead
  ahead_or_alike : (f g : Folder P) → same_key nb f.priority f.stamp g ≡ false → ahead nb f g ≡ false → ahead nb g f ≡ true
  ahead_or_alike f g a b = grind (arith, nat_tests, L.total)

  pub ahead_of_all_through : (f g : Folder P) (fs : List (Folder P)) → ahead nb f g ≡ true → ahead_of_all nb g fs ≡ true → ahead_of_all nb f fs ≡ true
  ahead_of_all_through f g [] h k = refl
  ahead_of_all_through f g (d ∷ ds) h k = let ih = ahead_of_all_through f g ds h in let t = ahead_transitive nb L f g d h in grind arith

  pub placed_ordered : (f : Folder P) (fs : List (Folder P)) → in_order nb fs ≡ true → holds nb f.priority f.stamp fs ≡ false → in_order nb (placed nb f fs) ≡ true
  placed_ordered f [] h n = refl
  placed_ordered f (g ∷ gs) h n =
      let ih = placed_ordered f gs in
      let t = ahead_of_all_through f g gs in
      let a = ahead_or_alike f g in
      let p = ahead_of_all_placed nb g f gs in
      grind arith
