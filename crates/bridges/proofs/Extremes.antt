-- The hindmost and the foremost of some folders, and that there is only one.
use Rattle.std.proofs.Common.{◌≡◌, Bool, true, false, cond, ◌⊎◌, List, [], ◌∷◌, Some, refl, ap, inl, inr}
use Rattle.std.proofs.lemmas.Bool.{both_ways, cases_eq}
use Rattle.journal.specs.declared.folder.Folder.{Folder}
use Rattle.journal.specs.Folders.{ahead, ahead_of_all, hindmost_of, hindmost, foremost_of, foremost}
use Rattle.journal.proofs.Ahead.{Lawful, ahead_asymmetric, ahead_total, ahead_cotransitive, ahead_irreflexive}
use Rattle.bridges.proofs.Members.{Among}

-- folders of one stamp among these are one
abbrev pub Apart : {P : Type 0} → List (Folder P) → Type 0
Apart {P} fs = (f g : Folder P) → Among f fs → Among g fs → f.stamp ≡ g.stamp → f ≡ g

module _ {P : Type 0} (nb : P → P → Bool) where
  -- m is one of these and ahead of none
  abbrev pub Last : Folder P → List (Folder P) → Type 0
  Last m fs = Among m fs × ((g : Folder P) → Among g fs → ahead nb m g ≡ false)

  -- m is one of these and none is ahead of it
  abbrev pub First : Folder P → List (Folder P) → Type 0
  First m fs = Among m fs × ((g : Folder P) → Among g fs → ahead nb g m ≡ false)

  pub ahead_of_each : (f g : Folder P) (fs : List (Folder P)) → ahead_of_all nb f fs ≡ true → Among g fs → ahead nb f g ≡ true
  ahead_of_each f g [] h m = elim m [ ]
  ahead_of_each f g (d ∷ ds) h (inl e) = let k = (Rattle.std.proofs.lemmas.Bool.and_parts (ahead nb f d) (ahead_of_all nb f ds) h).0 in rw e k
  ahead_of_each f g (d ∷ ds) h (inr m) = ahead_of_each f g ds (Rattle.std.proofs.lemmas.Bool.and_parts (ahead nb f d) (ahead_of_all nb f ds) h).1 m

module _ {P : Type 0} (nb : P → P → Bool) (L : Lawful nb) where
  pub hindmost_last : (f : Folder P) (fs : List (Folder P)) → Last nb (hindmost_of nb f fs) (f ∷ fs)
  hindmost_last f [] = (inl refl, λ g m. one g m)
    where
      one : (g : Folder P) → Among g (f ∷ []) → ahead nb f g ≡ false
      one g (inl e) = rw e (ahead_irreflexive nb L f)
      one g (inr m) = elim m [ ]
  hindmost_last f (d ∷ ds) = go (ahead nb f d) refl (λ c. hindmost_last c ds)
    where
      go : (b : Bool) → ahead nb f d ≡ b → ((c : Folder P) → Last nb (hindmost_of nb c ds) (c ∷ ds)) → Last nb (hindmost_of nb (cond b d f) ds) (f ∷ d ∷ ds)
      go true e ih = (inr (ih d).0, λ g m. each g m)
        where
          each : (g : Folder P) → Among g (f ∷ d ∷ ds) → ahead nb (hindmost_of nb d ds) g ≡ false
          each g (inl q) = rw q (ahead_cotransitive nb L (hindmost_of nb d ds) d f ((ih d).1 d (inl refl)) (ahead_asymmetric nb L f d e))
          each g (inr m) = (ih d).1 g m
      go false e ih = (widen (ih f).0, λ g m. each g m)
        where
          widen : Among (hindmost_of nb f ds) (f ∷ ds) → Among (hindmost_of nb f ds) (f ∷ d ∷ ds)
          widen (inl q) = inl q
          widen (inr m) = inr (inr m)

          each : (g : Folder P) → Among g (f ∷ d ∷ ds) → ahead nb (hindmost_of nb f ds) g ≡ false
          each g (inl q) = (ih f).1 g (inl q)
          each g (inr (inl q)) = rw q (ahead_cotransitive nb L (hindmost_of nb f ds) f d ((ih f).1 f (inl refl)) e)
          each g (inr (inr m)) = (ih f).1 g (inr m)

  pub foremost_first : (f : Folder P) (fs : List (Folder P)) → First nb (foremost_of nb f fs) (f ∷ fs)
  foremost_first f [] = (inl refl, λ g m. one g m)
    where
      one : (g : Folder P) → Among g (f ∷ []) → ahead nb g f ≡ false
      one g (inl e) = rw e (ahead_irreflexive nb L f)
      one g (inr m) = elim m [ ]
  foremost_first f (d ∷ ds) = go (ahead nb d f) refl (λ c. foremost_first c ds)
    where
      go : (b : Bool) → ahead nb d f ≡ b → ((c : Folder P) → First nb (foremost_of nb c ds) (c ∷ ds)) → First nb (foremost_of nb (cond b d f) ds) (f ∷ d ∷ ds)
      go true e ih = (inr (ih d).0, λ g m. each g m)
        where
          each : (g : Folder P) → Among g (f ∷ d ∷ ds) → ahead nb g (foremost_of nb d ds) ≡ false
          each g (inl q) = rw q (ahead_cotransitive nb L f d (foremost_of nb d ds) (ahead_asymmetric nb L d f e) ((ih d).1 d (inl refl)))
          each g (inr m) = (ih d).1 g m
      go false e ih = (widen (ih f).0, λ g m. each g m)
        where
          widen : Among (foremost_of nb f ds) (f ∷ ds) → Among (foremost_of nb f ds) (f ∷ d ∷ ds)
          widen (inl q) = inl q
          widen (inr m) = inr (inr m)

          each : (g : Folder P) → Among g (f ∷ d ∷ ds) → ahead nb g (foremost_of nb f ds) ≡ false
          each g (inl q) = (ih f).1 g (inl q)
          each g (inr (inl q)) = rw q (ahead_cotransitive nb L d f (foremost_of nb f ds) e ((ih f).1 f (inl refl)))
          each g (inr (inr m)) = (ih f).1 g (inr m)

  -- of two folders of different stamps one is ahead
  pub neither_ahead : (f g : Folder P) → ahead nb f g ≡ false → ahead nb g f ≡ false → f.stamp ≡ g.stamp
  neither_ahead f g h k = go (cases_eq f.stamp g.stamp)
    where
      go : (f.stamp ≡ g.stamp) ⊎ (f.stamp ≡ g.stamp → ⊥) → f.stamp ≡ g.stamp
      go (inl e) = e
      go (inr d) = absurd (both_ways _ k (ahead_total nb L f g d h))

  -- the hindmost of some folders is the hindmost of a part of them, if each of them is in the part or ahead of one in it
  pub last_same : (m n : Folder P) (fs gs : List (Folder P)) → Apart fs → Last nb m fs → Last nb n gs → ((g : Folder P) → Among g gs → Among g fs)
      → ((f : Folder P) → Among f fs → (g : Folder P) × Among g gs × ((f ≡ g) ⊎ (ahead nb f g ≡ true))) → m ≡ n
  last_same m n fs gs one a b sub dom =
      one m n a.0 (sub n b.0) (neither_ahead m n (a.1 n (sub n b.0)) (other (dom m a.0)))
    where
      under : (g : Folder P) → Among g gs → (m ≡ g) ⊎ (ahead nb m g ≡ true) → ahead nb n m ≡ false
      under g k (inl e) = rw e (b.1 g k)
      under g k (inr h) = absurd (both_ways _ (a.1 g (sub g k)) h)

      other : (g : Folder P) × Among g gs × ((m ≡ g) ⊎ (ahead nb m g ≡ true)) → ahead nb n m ≡ false
      other got = under got.0 got.1 got.2

  pub first_same : (m n : Folder P) (fs gs : List (Folder P)) → Apart fs → First nb m fs → First nb n gs → ((g : Folder P) → Among g gs → Among g fs) → ((f : Folder P) → Among f fs → Among f gs) → m ≡ n
  first_same m n fs gs one a b sub sup = one m n a.0 (sub n b.0) (neither_ahead m n (b.1 m (sup m a.0)) (a.1 n (sub n b.0)))

  pub hindmost_alike : (fs gs : List (Folder P)) → Apart fs → ((g : Folder P) → Among g gs → Among g fs)
      → ((f : Folder P) → Among f fs → (g : Folder P) × Among g gs × ((f ≡ g) ⊎ (ahead nb f g ≡ true))) → hindmost nb fs ≡ hindmost nb gs
  hindmost_alike [] [] one sub dom = refl
  hindmost_alike (f ∷ fs) [] one sub dom = absurd (dom f (inl refl)).1
  hindmost_alike [] (g ∷ gs) one sub dom = absurd (sub g (inl refl))
  hindmost_alike (f ∷ fs) (g ∷ gs) one sub dom = ap Some (last_same (hindmost_of nb f fs) (hindmost_of nb g gs) (f ∷ fs) (g ∷ gs) one (hindmost_last f fs) (hindmost_last g gs) sub dom)

  pub foremost_alike : (fs : List (Folder P)) (g : Folder P) (gs : List (Folder P)) → Apart fs → First nb g (g ∷ gs) → ((h : Folder P) → Among h (g ∷ gs) → Among h fs) → ((f : Folder P) → Among f fs → Among f (g ∷ gs)) → foremost nb fs ≡ Some g
  foremost_alike [] g gs one a sub sup = absurd (sub g (inl refl))
  foremost_alike (f ∷ fs) g gs one a sub sup = ap Some (first_same (foremost_of nb f fs) g (f ∷ fs) (g ∷ gs) one (foremost_first f fs) a sub sup)
