-- What a search among numbers finds: the least from a number on, the greatest up to a number.
use Rattle.std.proofs.Common.{◌≡◌, ℕ, zero, suc, ◌+◌, ◌<◌, ◌≤◌, Bool, true, false, cond, ◌⊎◌, Some, Option, refl, inl, inr, arith}
use Rattle.std.proofs.lemmas.Bool.{cases_eq}
use Rattle.journal.specs.Searches.{least_from, greatest_to}

-- k is the least number at or after j that passes
pub record Least (test : ℕ → Bool) (j k : ℕ) : Type 0 where
  pub after : j ≤ k
  pub passes : test k ≡ true
  pub none_before : (i : ℕ) → j ≤ i → i < k → test i ≡ false

-- k is the greatest number at or before j that passes
pub record Greatest (test : ℕ → Bool) (j k : ℕ) : Type 0 where
  pub before : k ≤ j
  pub passes : test k ≡ true
  pub none_after : (i : ℕ) → k < i → i ≤ j → test i ≡ false

found_here : (test : ℕ → Bool) (n j : ℕ) (o : Option ℕ) → test j ≡ true → (k : ℕ) × (cond (test j) (Some j) o ≡ Some k) × Least test j k × (k ≤ j + n)
found_here test n j o e = (j, rw e refl, record { after = omega arith; passes = e; none_before = λ i a b. absurd (omega arith) }, omega arith)

pub least_found : (test : ℕ → Bool) (n j : ℕ) → test (j + n) ≡ true → (k : ℕ) × (least_from test j (suc n) ≡ Some k) × Least test j k × (k ≤ j + n)
least_found test zero j h = found_here test zero j (least_from test (suc j) zero) (let e : j + 0 ≡ j = omega arith in rw e at h)
least_found test (suc n) j h = go (test j) refl (least_found test n (suc j) (let e : j + suc n ≡ suc j + n = omega arith in rw e at h))
  where
    go : (b : Bool) → test j ≡ b → (k : ℕ) × (least_from test (suc j) (suc n) ≡ Some k) × Least test (suc j) k × (k ≤ suc j + n)
        → (k : ℕ) × (cond (test j) (Some j) (least_from test (suc j) (suc n)) ≡ Some k) × Least test j k × (k ≤ j + suc n)
    go true e ih = found_here test (suc n) j (least_from test (suc j) (suc n)) e
    go false e ih = (ih.0, rw e ih.1, record { after = omega (arith, ih.2.after); passes = ih.2.passes; none_before = λ i a b. each i (cases_eq j i) a b }, omega (arith, ih.3))
      where
        each : (i : ℕ) → (j ≡ i) ⊎ (j ≡ i → ⊥) → j ≤ i → i < ih.0 → test i ≡ false
        each i (inl q) a b = rw (← q) e
        each i (inr d) a b = ih.2.none_before i (omega arith) b

pub greatest_found : (test : ℕ → Bool) (j : ℕ) → test 0 ≡ true → (k : ℕ) × (greatest_to test j ≡ Some k) × Greatest test j k
greatest_found test zero h = (0, rw h refl, record { before = omega arith; passes = h; none_after = λ i a b. absurd (omega arith) })
greatest_found test (suc j) h = go (test (suc j)) refl (greatest_found test j h)
  where
    go : (b : Bool) → test (suc j) ≡ b → (k : ℕ) × (greatest_to test j ≡ Some k) × Greatest test j k → (k : ℕ) × (cond (test (suc j)) (Some (suc j)) (greatest_to test j) ≡ Some k) × Greatest test (suc j) k
    go true e ih = (suc j, rw e refl, record { before = omega arith; passes = e; none_after = λ i a b. absurd (omega arith) })
    go false e ih = (ih.0, rw e ih.1, record { before = omega (arith, ih.2.before); passes = ih.2.passes; none_after = λ i a b. each i (cases_eq i (suc j)) a b })
      where
        each : (i : ℕ) → (i ≡ suc j) ⊎ (i ≡ suc j → ⊥) → ih.0 < i → i ≤ suc j → test i ≡ false
        each i (inl q) a b = rw q e
        each i (inr d) a b = ih.2.none_after i a (omega arith)
