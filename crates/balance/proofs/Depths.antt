-- Once a depth is out of reach, every greater one is.
use mathlib.Core.Path.{◌≡◌, ap, ◌∙◌}
use Prim.Native.Nat.{ℕ, zero, suc, ◌+◌, ◌-◌, ◌*◌, ◌^◌, ◌<◌, ◌≤◌}
use native.Mathlib.Omega.{arith}
use native.Mathlib.Nat.{pow-suc, mul_right_comm, mul-le-mul_left, mul-le-mul_right, suc-mul}
use native.Mathlib.Decide.{dec_lt}
use lib.Dec.{lit<}

-- one deeper, both sides of the test grow by the ratio
pub next_sides : (a m d : ℕ) → a ^ suc d * m ≡ a ^ d * m * a
next_sides a m d = ap (λ n. n * m) (pow-suc a d) ∙ mul_right_comm (a ^ d) a m

grows : (a b x y : ℕ) → a ≤ b → 1 ≤ b → x < y → x * a < y * b
grows a b x y h p l =
    let one : suc x * b ≤ y * b = mul-le-mul_right b l in
    let two = suc-mul x b in
    let three : x * a ≤ x * b = mul-le-mul_left x h in
    omega arith

module _ (a b m k : ℕ) (ratio : a ≤ b) (some : 1 ≤ b) (out : a ^ k * m < b ^ k) where
  out_by : (j : ℕ) → a ^ (j + k) * m < b ^ (j + k)
  out_by zero = rw (let e : 0 + k ≡ k = omega arith in e) out
  out_by (suc j) =
      let e : suc j + k ≡ suc (j + k) = omega arith in
      rw e (rw (next_sides a m (j + k), pow-suc b (j + k)) (grows a b (a ^ (j + k) * m) (b ^ (j + k)) ratio some (out_by j)))

  -- so what is reached is less deep
  pub out_of_reach : (e : ℕ) → b ^ e ≤ a ^ e * m → e < k
  out_of_reach e reached = go (dec_lt e k)
    where
      go : Dec (e < k) → e < k
      go (yes l) = l
      go (no far) =
          let j = e - k in
          let same : j + k ≡ e = omega arith in
          let o : a ^ e * m < b ^ e = rw same at (out_by j) in
          absurd (omega arith)

-- 4096 items reach no depth above 20 at two thirds
pub at_most_20 : (m e : ℕ) → m ≤ 4096 → 3 ^ e ≤ 2 ^ e * m → e ≤ 20
at_most_20 m e few reached =
    let more = mul-le-mul_left (2 ^ e) few in
    let l = out_of_reach 2 3 4096 21 (omega arith) (omega arith) (lit< tt) e (omega arith) in
    omega arith
