-- The balanced shape is as low as can be: a tree of one level more would have more items.
use Rattle.std.proofs.Common.{◌≡◌, ℕ, suc, ◌+◌, ◌*◌, ◌^◌, ◌≤◌, max, pow-suc, arith}
use native.Mathlib.Decide.{dec_le}
use Rattle.nodes.specs.Tree.{Tree, size, height}
use Rattle.nodes.proofs.Held.{height_size}
use Rattle.rebuild.specs.Shapes.{Even, even_leaf, even_branch}

pow_max : (x y z : ℕ) → 2 ^ x ≤ z → 2 ^ y ≤ z → 2 ^ max x y ≤ z
pow_max x y z a b = go (dec_le x y)
  where
    go : Dec (x ≤ y) → 2 ^ max x y ≤ z
    go (yes h) = rw (let e : max x y ≡ y = omega arith in e) b
    go (no h) = rw (let e : max x y ≡ x = omega arith in e) a

-- half a tree, or none of it
half_low : {E : Type 0} (t : Tree E) (s : ℕ) → 1 ≤ s → 2 * size t ≤ s → (1 ≤ size t → 2 ^ height t ≤ 2 * size t) → 2 ^ height t ≤ s
half_low t s some half low = go (dec_le 1 (size t))
  where
    go : Dec (1 ≤ size t) → 2 ^ height t ≤ s
    go (yes h) = let l = low h in omega arith
    go (no h) = let l = height_size t in rw (let e : height t ≡ 0 = omega arith in e) some

pub even_low : {E : Type 0} {t : Tree E} → Even t → 1 ≤ size t → 2 ^ height t ≤ 2 * size t
even_low even_leaf h = absurd (omega arith)
even_low (even_branch {before = before} {after = after} half eb ea) h =
    let s = suc (size before + size after) in
    let b : 2 ^ height before ≤ s = half_low before s (omega arith) (omega arith) (even_low eb) in
    let a : 2 ^ height after ≤ s = half_low after s (omega arith) (omega arith) (even_low ea) in
    let m : 2 ^ max (height before) (height after) ≤ s = pow_max (height before) (height after) s b a in
    let p = pow-suc 2 (max (height before) (height after)) in
    omega arith
