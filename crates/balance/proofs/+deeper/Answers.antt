use Rattle.std.proofs.Common.{◌≡◌, ℕ, suc, ◌+◌, ◌*◌, ◌^◌, ◌≤◌, max, sym, ap, ◌∙◌, mul-le-mul, pow-suc, add-one, arith}
use native.Mathlib.Nat.{pow-le-pow_right}
use Rattle.balance.proofs.Depths.{next_sides, out_of_reach, at_most_20}
use Rattle.balance.proofs.+deeper.Goals as goal

over_small : (d : ℕ) → d ≤ 20 → 3 ^ d ≤ 3486784401
over_small d h = pow-le-pow_right {n = 3} (omega arith) h

under_small : (d m : ℕ) → d ≤ 20 → m ≤ 4096 → 2 ^ d * m ≤ 4294967296
under_small d m h k = let p : 2 ^ d ≤ 1048576 = pow-le-pow_right {n = 2} (omega arith) h in mul-le-mul p k

pub overflow_mul-under : goal.overflow_mul-under
overflow_mul-under t c = let p = c.requires in let e = p.under in let s = under_small c.args.depth (max 1 c.args.m) p.shallow (omega (arith, p.few)) in omega arith

pub overflow_mul-over : goal.overflow_mul-over
overflow_mul-over t c = let p = c.requires in let e = p.over in let s = over_small c.args.depth p.shallow in omega arith

pub overflow_mul-under-2 : goal.overflow_mul-under-2
overflow_mul-under-2 t c = let p = c.requires in let e = p.under in let s = under_small c.args.depth (max 1 c.args.m) p.shallow (omega (arith, p.few)) in omega arith

pub overflow_mul-over-2 : goal.overflow_mul-over-2
overflow_mul-over-2 t c = let p = c.requires in let e = p.over in let s = over_small c.args.depth p.shallow in omega arith

pub returns-then-under-over : goal.returns-then-under-over
returns-then-under-over t c =
    let p = c.requires in
    let d = c.args.depth in
    let a : 2 ^ suc d * max 1 c.args.m ≡ c.args.under * 2 = next_sides 2 (max 1 c.args.m) d ∙ ap (λ n. n * 2) (sym p.under) in
    let b : 3 ^ suc d ≡ c.args.over * 3 = pow-suc 3 d ∙ ap (λ n. n * 3) (sym p.over) in
    let l = c.if-under-over.true in
    record { reached = p.reached; most = λ e h. let r = out_of_reach 2 3 (max 1 c.args.m) (suc d) (omega arith) (omega arith) (omega arith) e h in omega arith }

pub deeper-requires : goal.deeper-requires
deeper-requires t c =
    let p = c.requires in
    let d = c.args.depth in
    let a : 2 ^ (d + 1) * max 1 c.args.m ≡ c.args.under * 2 = ap (λ n. 2 ^ n * max 1 c.args.m) (add-one d) ∙ next_sides 2 (max 1 c.args.m) d ∙ ap (λ n. n * 2) (sym p.under) in
    let b : 3 ^ (d + 1) ≡ c.args.over * 3 = ap (λ n. 3 ^ n) (add-one d) ∙ pow-suc 3 d ∙ ap (λ n. n * 3) (sym p.over) in
    let l = c.if-under-over.false in
    let reached : 3 ^ (d + 1) ≤ 2 ^ (d + 1) * max 1 c.args.m = omega arith in
    let low = at_most_20 (max 1 c.args.m) (d + 1) (omega (arith, p.few)) reached in
    let measured = c.decreases in
    (omega arith, (p.few, (low, (sym b, (sym a, reached)))))
