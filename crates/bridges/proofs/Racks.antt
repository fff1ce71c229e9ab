-- Racks in order, and what an entry makes of them.
use Rattle.std.proofs.Common.{◌≡◌, ℕ, suc, ◌<◌, ◌≤◌, Bool, true, false, cond, List, [], ◌∷◌, refl, arith}
use Rattle.std.proofs.lemmas.Bool.{and_parts, and_from, cond-true}
use Rattle.journal.specs.declared.folder.Folder.{Folder}
use Rattle.journal.specs.declared.entry.Entry.{Entry}
use Rattle.journal.specs.declared.entry.Entry.TheVariants.{Arrival, Taking}
use Rattle.journal.specs.Folders.{ahead, ahead_of_all, in_order, placed}
use Rattle.bridges.specs.Racks.{Below, Rising, Stands}
use Rattle.journal.proofs.Ahead.{Lawful, ahead_asymmetric, ahead_transitive, ahead_total}
use Rattle.journal.proofs.Placed.{ahead_of_all_placed, ahead_of_all_through}

module _ {P : Type 0} where
  pub below_later : (m n : ℕ) (fs : List (Folder P)) → m ≤ n → Below m fs → Below n fs
  below_later m n [] le b = tt
  below_later m n (f ∷ fs) le b = (omega arith, below_later m n fs le b.1)

  pub rising_earlier : (m n : ℕ) (es : List (Entry P)) → m ≤ n → Rising n es → Rising m es
  rising_earlier m n [] le r = tt
  rising_earlier m n (e ∷ es) le r = (omega arith, r.1)

module _ {P : Type 0} (nb : P → P → Bool) where
  pub below_placed : (n : ℕ) (f : Folder P) (fs : List (Folder P)) → f.stamp < n → Below n fs → Below n (placed nb f fs)
  below_placed n f [] lt b = (lt, tt)
  below_placed n f (g ∷ gs) lt b = go (ahead nb f g) (below_placed n f gs lt b.1)
    where
      go : (t : Bool) → Below n (placed nb f gs) → Below n (cond t (f ∷ g ∷ gs) (g ∷ placed nb f gs))
      go true k = (lt, b)
      go false k = (b.0, k)

  -- who is ahead of all is set before them
  pub placed_front : (f : Folder P) (fs : List (Folder P)) → ahead_of_all nb f fs ≡ true → placed nb f fs ≡ f ∷ fs
  placed_front f [] h = refl
  placed_front f (g ∷ gs) h = cond-true (ahead nb f g) _ _ (and_parts (ahead nb f g) (ahead_of_all nb f gs) h).0

module _ {P : Type 0} (nb : P → P → Bool) (L : Lawful nb) where
  -- two folders of different stamps can be set in place in either order
  pub placed_swap : (f x : Folder P) (fs : List (Folder P)) → (f.stamp ≡ x.stamp → ⊥) → placed nb f (placed nb x fs) ≡ placed nb x (placed nb f fs)
  placed_swap f x [] d = let a = ahead_asymmetric nb L f x in let t = ahead_total nb L f x d in grind arith
  placed_swap f x (g ∷ gs) d =
      let ih = placed_swap f x gs d in
      let a = ahead_asymmetric nb L f x in
      let t = ahead_total nb L f x d in
      let p = ahead_transitive nb L f x g in
      let q = ahead_transitive nb L x f g in
      grind arith

  -- a later folder set in place leaves a rack in order
  pub in_order_placed : (n : ℕ) (f : Folder P) (fs : List (Folder P)) → Below n fs → n ≤ f.stamp → in_order nb fs ≡ true → in_order nb (placed nb f fs) ≡ true
  in_order_placed n f [] b le o = refl
  in_order_placed n f (g ∷ gs) b le o =
      let both = and_parts (ahead_of_all nb g gs) (in_order nb gs) o in
      let ih = in_order_placed n f gs b.1 le both.1 in
      let t : ahead nb f g ≡ false → ahead nb g f ≡ true = ahead_total nb L f g (λ e. omega (arith, b.0)) in
      go (ahead nb f g) refl both ih t
    where
      go : (t : Bool) → ahead nb f g ≡ t → (ahead_of_all nb g gs ≡ true) × (in_order nb gs ≡ true) → in_order nb (placed nb f gs) ≡ true → (ahead nb f g ≡ false → ahead nb g f ≡ true) → in_order nb (cond t (f ∷ g ∷ gs) (g ∷ placed nb f gs)) ≡ true
      go true e both ih t = and_from _ _ (and_from _ _ e (ahead_of_all_through nb L f g gs e both.0)) o
      go false e both ih t = and_from _ _ (ahead_of_all_placed nb g f gs (t e) both.0) ih

  abbrev pub stands_arrival : (f : Folder P) (rack : List (Folder P)) (es : List (Entry P)) → Stands nb rack (Arrival f ∷ es) → Stands nb (placed nb f rack) es
  stands_arrival f rack es st = record {
    bound = suc f.stamp;
    below = below_placed nb (suc f.stamp) f rack (omega arith) (below_later st.bound (suc f.stamp) rack (omega (arith, st.rising.0)) st.below);
    order = in_order_placed st.bound f rack st.below st.rising.0 st.order;
    rising = st.rising.1;
  }

  abbrev pub stands_taking : (y : Folder P) (s : ℕ) (rack : List (Folder P)) (es : List (Entry P)) → Stands nb (y ∷ rack) (Taking s ∷ es) → Stands nb rack es
  stands_taking y s rack es st = record {
    bound = suc s;
    below = below_later st.bound (suc s) rack (omega (arith, st.rising.0)) st.below.1;
    order = (and_parts (ahead_of_all nb y rack) (in_order nb rack) st.order).1;
    rising = st.rising.1;
  }
