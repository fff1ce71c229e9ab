use Rattle.std.proofs.Common.{◌≡◌, ℕ, suc, ◌<◌, ◌++◌, [], ◌∷◌, length, sym, ap, ◌∙◌, append_assoc, append-nil, arith, length-append}
use Rattle.nodes.proofs.Nths.{nth_same, nth_within}
use Rattle.changes.proofs.Framing.{steps_length}
use Rattle.scapegoat.specs.Heavy.{size_from}
use Rattle.scapegoat.proofs.Climbing.{frame_node, size_from_less, size_at_end, short, step_there, none_more}
use Rattle.scapegoat.proofs.nearest_heavy.Goals as goal

pub loop-step-init : goal.loop-step-init
loop-step-init g c = (
  ([], append-nil _),
  λ root frames part h traced one.
      let l = sym (ap length traced) ∙ steps_length frames in
      (sym (ap (λ n. size_from n frames part) l ∙ size_at_end frames part ∙ one), λ j a b heavy. omega arith),
)

pub read_at-own-requires : goal.read_at-own-requires
read_at-own-requires g c =
    let p = c.requires in
    let inv = c.loop-step.invariant in
    let n = frame_node p.frames p.part _ _ p.holds (step_there p.frames c.in-Some.above.now c.in-Some.step.now inv.0.0 p.traced inv.0.1 c.in-Some.ensures.cases.0) in
    nth_within _ _ _ n.1

pub overflow_mul-own : goal.overflow_mul-own
overflow_mul-own g c =
    let p = c.requires in
    let inv = c.loop-step.invariant in
    let n = frame_node p.frames p.part _ _ p.holds (step_there p.frames c.in-Some.above.now c.in-Some.step.now inv.0.0 p.traced inv.0.1 c.in-Some.ensures.cases.0) in
    let own = ap (λ v. v.size) (nth_same c.args.nodes.now _ _ _ c.read_at-own.ensures n.1) ∙ n.2 in
    let l = size_from_less (length c.in-Some.above.now) p.frames p.part in
    let s = p.small in
    omega arith

pub overflow_mul-child : goal.overflow_mul-child
overflow_mul-child g c =
    let p = c.requires in
    let i = c.loop-step.invariant.1 _ _ _ p.holds p.traced p.one in
    let e = i.0 in
    let l = size_from_less (length c.loop-step.rest.now) p.frames p.part in
    let s = p.small in
    omega arith

pub returns-then-own-child : goal.returns-then-own-child
returns-then-own-child g c = λ root frames part h traced one.
    let inv = c.loop-step.invariant in
    let last = c.in-Some.ensures.cases in
    let n = frame_node frames part _ _ h (step_there frames c.in-Some.above.now c.in-Some.step.now inv.0.0 traced inv.0.1 last.0) in
    let own = ap (λ v. v.size) (nth_same c.args.nodes.now _ _ _ c.read_at-own.ensures n.1) ∙ n.2 in
    let i = inv.1 root frames part h traced one in
    let f = ap length inv.0.1 in
    let a = length-append c.loop-step.rest.now inv.0.0 in
    let l = sym (ap length traced) ∙ steps_length frames in
    let long = last.1 in
    let here : suc (length c.in-Some.above.now) ≡ length c.loop-step.rest.now = omega arith in
    let child = i.0 ∙ ap (λ n. size_from n frames part) (sym here) in
    let t = c.if-own-child.true in
    (omega arith, omega arith, λ j a b heavy. i.1 j (omega arith) b heavy)

pub loop-step-preserved : goal.loop-step-preserved
loop-step-preserved g c =
    let inv = c.loop-step.invariant in
    let last = c.in-Some.ensures.cases in (
      (c.in-Some.step.now ∷ inv.0.0, sym (append_assoc c.in-Some.above.now (c.in-Some.step.now ∷ []) inv.0.0) ∙ ap (λ l. l ++ inv.0.0) (sym last.0) ∙ inv.0.1),
      λ root frames part h traced one.
          let n = frame_node frames part _ _ h (step_there frames c.in-Some.above.now c.in-Some.step.now inv.0.0 traced inv.0.1 last.0) in
          let own = ap (λ v. v.size) (nth_same c.args.nodes.now _ _ _ c.read_at-own.ensures n.1) ∙ n.2 in
          let i = inv.1 root frames part h traced one in
          let long = last.1 in
          let here : suc (length c.in-Some.above.now) ≡ length c.loop-step.rest.now = omega arith in
          (own, none_more frames part (length c.in-Some.above.now) _ _ own (i.0 ∙ ap (λ n. size_from n frames part) (sym here)) c.if-own-child.false (λ j a b heavy. i.1 j (omega arith) b heavy)),
    )

pub returns : goal.returns
returns g c = λ root frames part h traced one.
    let i = c.loop-step.invariant.1 root frames part h traced one in
    let e = c.in_default.ensures.cases in
    let none = λ (k : ℕ) (l : k < length frames). i.1 k (omega arith) l in
    (none, λ m d allowed few. short 2 3 m d frames part allowed few one none)
