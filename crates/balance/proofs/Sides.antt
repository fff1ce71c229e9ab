-- Once a depth is out of reach, every greater one is.
use Rattle.std.proofs.Common.{◌≡◌, ℕ, zero, suc, ◌*◌, ◌^◌, ◌<◌, ◌≤◌, max, sym, ap, ◌∙◌, subst, mul-le-mul_right, mul_assoc, mul_comm, mul-le-mul_left, pow-suc, mul_right_comm, arith}
use native.Mathlib.Nat.{pow-le-pow_left, pow-zero}
use native.Mathlib.Decide.{dec_lt, dec_le}
use Rattle.balance.specs.Allowances.{most_items, part, whole, Reaches, Allowance}
use Rattle.balance.proofs.Depths.{at_most_20}

-- more items are allowed no less
pub allowance_grows : (a b m n d e : ℕ) → Allowance a b m d → Allowance a b n e → m ≤ n → d ≤ e
allowance_grows a b m n d e low high few =
    let more : a ^ d * max 1 m ≤ a ^ d * max 1 n = mul-le-mul_left (a ^ d) (let l : max 1 m ≤ max 1 n = omega arith in l) in
    let r = low.reached in
    high.most d (omega arith)

pub allowance_one : (a b m d e : ℕ) → Allowance a b m d → Allowance a b m e → d ≡ e
allowance_one a b m d e x y =
    let l = allowance_grows a b m m d e x y (omega arith) in
    let r = allowance_grows a b m m e d y x (omega arith) in
    omega arith

pow_double : (a e : ℕ) → (2 * a) ^ e ≡ a ^ e * 2 ^ e
pow_double a zero = pow-zero (2 * a) ∙ sym (ap (λ n. n * 1) (pow-zero a))
pow_double a (suc e) =
    pow-suc (2 * a) e
    ∙ ap (λ n. n * (2 * a)) (pow_double a e)
    ∙ ap (λ n. a ^ e * 2 ^ e * n) (mul_comm 2 a)
    ∙ sym (mul_assoc (a ^ e * 2 ^ e) a 2)
    ∙ ap (λ n. n * 2) (mul_right_comm (a ^ e) (2 ^ e) a)
    ∙ mul_assoc (a ^ e * a) (2 ^ e) 2
    ∙ ap (λ n. n * (2 ^ e * 2)) (sym (pow-suc a e))
    ∙ ap (λ n. a ^ suc e * n) (sym (pow-suc 2 e))

-- where a ratio is at least a half, as many levels as halving gives are allowed
pub halves_allowed : (a b n d h : ℕ) → b ≤ 2 * a → 2 ^ h ≤ 2 * n → Allowance a b n d → h ≤ suc d
halves_allowed a b n d zero ratio low al = omega arith
halves_allowed a b n d (suc e) ratio low al =
    let p = pow-suc 2 e in
    let one : b ^ e ≤ (2 * a) ^ e = pow-le-pow_left ratio e in
    let two : (2 * a) ^ e ≡ a ^ e * 2 ^ e = pow_double a e in
    let three : a ^ e * 2 ^ e ≤ a ^ e * max 1 n = mul-le-mul_left (a ^ e) (let l : 2 ^ e ≤ max 1 n = omega arith in l) in
    let r = al.most e (omega arith) in
    omega arith

-- a child with more than its share has more than half of what its parent has
pub more_than_half : (a b s c : ℕ) → b ≤ 2 * a → s * a < c * b → s < 2 * c
more_than_half a b s c ratio heavy = go (dec_lt s (2 * c))
  where
    go : Dec (s < 2 * c) → s < 2 * c
    go (yes l) = l
    go (no far) =
        let one : 2 * c * a ≤ s * a = mul-le-mul_right a (let l : 2 * c ≤ s = omega arith in l) in
        let two : c * b ≤ c * (2 * a) = mul-le-mul_left c ratio in
        let three : c * (2 * a) ≡ 2 * c * a = sym (mul_assoc c 2 a) ∙ ap (λ n. n * a) (mul_comm c 2) in
        absurd (omega arith)

-- where what is reached is bounded there is a greatest
pub greatest : (a b m n : ℕ) → ((e : ℕ) → Reaches a b m e → e ≤ n) → (d : ℕ) × Allowance a b m d
greatest a b m zero most = (0, record { reached = rw (pow-zero b, pow-zero a) (omega arith); most = most })
greatest a b m (suc n) most = go (dec_le (b ^ suc n) (a ^ suc n * max 1 m)) (greatest a b m n)
  where
    go : Dec (b ^ suc n ≤ a ^ suc n * max 1 m) → (((e : ℕ) → Reaches a b m e → e ≤ n) → (d : ℕ) × Allowance a b m d) → (d : ℕ) × Allowance a b m d
    go (yes h) ih = (suc n, record { reached = h; most = most })
    go (no far) ih = ih (λ e r. let l = most e r in less e r l (dec_le e n))
      where
        less : (e : ℕ) → Reaches a b m e → e ≤ suc n → Dec (e ≤ n) → e ≤ n
        less e r l (yes h) = h
        less e r l (no h) = let same : e ≡ suc n = omega arith in absurd (far (subst (λ k. Reaches a b m k) same r))

pub allowance_there : (m : ℕ) → m ≤ most_items → (d : ℕ) × Allowance part whole m d × (d ≤ 20)
allowance_there m few =
    let g = greatest part whole m 20 (λ e r. at_most_20 (max 1 m) e (omega arith) r) in
    (g.0, g.1, at_most_20 (max 1 m) g.0 (omega arith) g.1.reached)
