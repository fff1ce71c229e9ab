-- Folders of different stamps stand in a strict total order.
use Rattle.std.proofs.Common.{◌≡◌, Bool, true, false, arith}
use Rattle.std.proofs.lemmas.Bool.Decides.{nat_tests}
use Rattle.journal.specs.declared.folder.Folder.{Folder}
use Rattle.journal.specs.Folders.{ahead}

-- the two laws of an order
pub record Lawful {P : Type 0} (not_behind : P → P → Bool) : Type 0 where
  pub total : (a b : P) → not_behind a b ≡ false → not_behind b a ≡ true
  pub transitive : (a b c : P) → not_behind a b ≡ true → not_behind b c ≡ true → not_behind a c ≡ true

module _ {P : Type 0} (nb : P → P → Bool) (L : Lawful nb) where
  pub ahead_asymmetric : (f g : Folder P) → ahead nb f g ≡ true → ahead nb g f ≡ false
  ahead_asymmetric f g h = grind (arith, nat_tests, L.total)

  pub ahead_transitive : (f g h : Folder P) → ahead nb f g ≡ true → ahead nb g h ≡ true → ahead nb f h ≡ true
  ahead_transitive f g h p q = grind (arith, nat_tests, L.total, L.transitive)

  pub ahead_total : (f g : Folder P) → (f.stamp ≡ g.stamp → ⊥) → ahead nb f g ≡ false → ahead nb g f ≡ true
  ahead_total f g d h = grind (arith, nat_tests, L.total)

  -- who is not ahead of one that is not ahead of a third is not ahead of the third
  pub ahead_cotransitive : (f g h : Folder P) → ahead nb f g ≡ false → ahead nb g h ≡ false → ahead nb f h ≡ false
  ahead_cotransitive f g h p q = grind (arith, nat_tests, L.total, L.transitive)

  -- nobody is ahead of himself
  pub ahead_irreflexive : (f : Folder P) → ahead nb f f ≡ false
  ahead_irreflexive f = grind (arith, nat_tests, L.total)
