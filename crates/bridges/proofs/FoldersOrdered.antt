-- The strict total order of folders, in the subject's words.
use Rattle.std.proofs.Common.{◌≡◌, Bool, true, ◌⊎◌, List, ◌∷◌, sym, refl, inl, inr}
use Rattle.std.proofs.lemmas.Bool.{both_ways, and_parts}
use Rattle.journal.specs.declared.folder.Folder.{Folder}
use Rattle.journal.specs.Folders.{ahead, ahead_of_all, in_order, Foremost, foremost_of}
use Rattle.bridges.specs.Folders.{FoldersOrdered}
use Rattle.journal.proofs.Ahead.{Lawful, ahead_asymmetric, ahead_transitive, ahead_total}
use Rattle.bridges.proofs.Members.{Among}
use Rattle.bridges.proofs.Journals.{rising_journal}
use Rattle.bridges.proofs.Places.{stands_at}
use Rattle.bridges.proofs.Bridges.{member, among}
use Rattle.bridges.proofs.Extremes.{ahead_of_each, hindmost_last, foremost_first, neither_ahead}
use Rattle.bridges.proofs.PlaceForms.{first_foremost}

module _ {P : Type 0} (nb : P → P → Bool) (L : Lawful nb) where
  one_foremost : (f g : Folder P) (fs : List (Folder P)) → Foremost nb f fs → Foremost nb g fs → f ≡ g
  one_foremost f g fs a b = go (a.ahead_of_others g b.among) (b.ahead_of_others f a.among)
    where
      go : (g ≡ f) ⊎ (ahead nb f g ≡ true) → (f ≡ g) ⊎ (ahead nb g f ≡ true) → f ≡ g
      go (inl e) k = sym e
      go (inr h) (inl e) = e
      go (inr h) (inr k) = absurd (both_ways _ (ahead_asymmetric nb L f g h) k)

  front_foremost : (f : Folder P) (fs : List (Folder P)) → in_order nb (f ∷ fs) ≡ true → Foremost nb f (f ∷ fs)
  front_foremost f fs o = record { among = member f (f ∷ fs) (inl refl); ahead_of_others = λ g m. other g (among g (f ∷ fs) m) }
    where
      other : (g : Folder P) → Among g (f ∷ fs) → (g ≡ f) ⊎ (ahead nb f g ≡ true)
      other g (inl e) = inl e
      other g (inr k) = inr (ahead_of_each nb f g fs (and_parts (ahead_of_all nb f fs) (in_order nb fs) o).0 k)

  pub folders_ordered : FoldersOrdered nb
  folders_ordered = record {
    asymmetric = ahead_asymmetric nb L;
    transitive = ahead_transitive nb L;
    total = ahead_total nb L;
    hindmost_is = λ f fs. let got = hindmost_last nb L f fs in record { among = member _ (f ∷ fs) got.0; ahead_of_none = λ g m. got.1 g (among g (f ∷ fs) m) };
    hindmost_only = λ f g fs one a b. one f g a.among b.among (neither_ahead nb L f g (a.ahead_of_none g b.among) (b.ahead_of_none f a.among));
    foremost_is = λ f fs one. first_foremost nb L (foremost_of nb f fs) (f ∷ fs) (λ g h i j e. one g h (member g (f ∷ fs) i) (member h (f ∷ fs) j) e) (foremost_first nb L f fs);
    foremost_only = one_foremost;
    rack_in_order = λ es j b. (stands_at nb L es j (rising_journal es b)).order;
    front_is_foremost = front_foremost;
  }
