-- What the loop that builds keeps.
use Rattle.std.proofs.Common.{◌≡◌, ℕ, zero, suc, ◌+◌, ◌-◌, ◌*◌, ◌/◌, ◌^◌, ◌<◌, ◌≤◌, true, List, [], ◌∷◌, ◌++◌, length, reverse, Option, sym, refl, ap, ◌∙◌, subst, pow-suc, arith, take_all}
use Rattle.std.proofs.lemmas.List.{reverse-append}
use Rattle.nodes.specs.declared.node.Node.{Node}
use Rattle.nodes.specs.Tree.{leaf}
use Rattle.std.specs.List.{slice_get}
use Rattle.nodes.specs.Holding.{Holds, nothing}
use Rattle.nodes.proofs.Held.{shaped, stored_right}
use Rattle.changes.specs.Chains.{count}
use Rattle.rebuild.specs.declared.task.Task.{Task}
use Rattle.rebuild.specs.declared.task.Task.TheVariants.{Build, Close}
use Rattle.rebuild.specs.Shapes.{even_leaf, root_of, Labelled, Rebuilt, Closable, Closed}
use Rattle.rebuild.proofs.Ranges.{nth_there}
use Rattle.rebuild.proofs.Plans.{Span, span, Built, AllBuilt, Plan, Roomy, plan_split}
use Rattle.rebuild.proofs.Heights.{even_low}
use Rattle.rebuild.proofs.Builds.{close_built, close_rest, close_kept, close_labelled}

-- the tasks are on a stack, the last on top; what is built and what is still planned make up the whole
pub record Building {E S : Type 0} (empty : S) (whole : S → E → S → S) (entry nodes : List (Node E S)) (order : List ℕ) (list : List E) (tasks : List Task) : Type 0 where
  pub spans : List Span
  pub plan : Plan (length order) (reverse tasks) spans
  pub built : AllBuilt empty whole nodes order list spans
  pub labelled : Labelled nodes order list
  pub kept : (k : ℕ) → count k order ≡ 0 → slice_get nodes k ≡ slice_get entry k
  pub roomy : Roomy (reverse tasks)

-- half of a number below a power of two is below the next lower one
halved : (n b l : ℕ) → 0 < n → n < 2 ^ b → l + 2 * b ≤ 26 → (d : ℕ) × (n / 2 < 2 ^ d) × (n - n / 2 - 1 < 2 ^ d) × (suc (suc l) + 2 * d ≤ 26)
halved n zero l some h w = absurd (omega arith)
halved n (suc b) l some h w = let p = pow-suc 2 b in (b, omega arith, omega arith, omega arith)

-- a task that is taken off was on top
on_top : {tasks : List Task} (rest : List Task) (task : Task) {top : Task} → tasks ≡ rest ++ (task ∷ []) → task ≡ top → reverse tasks ≡ top ∷ reverse rest
on_top rest task popped is = ap reverse popped ∙ reverse-append rest (task ∷ []) ∙ ap (λ t. t ∷ reverse rest) is

module _ {E S : Type 0} {empty : S} {whole : S → E → S → S} {entry nodes : List (Node E S)} {order : List ℕ} {list : List E} {tasks : List Task} (b : Building empty whole entry nodes order list tasks) (rest : List Task) (task : Task) (popped : tasks ≡ rest ++ (task ∷ [])) (lo n : ℕ) where
  -- a range to build
  module _ (is : task ≡ Build lo n) where
    build_plan : Plan (length order) (Build lo n ∷ reverse rest) b.spans
    build_plan = subst (λ ts. Plan (length order) ts b.spans) (on_top rest task popped is) b.plan

    build_roomy : Roomy (Build lo n ∷ reverse rest)
    build_roomy = subst Roomy (on_top rest task popped is) b.roomy

    -- an empty range is built at once
    pub build_none : n ≡ 0 → Building empty whole entry nodes order list rest
    build_none z = record {
      spans = span lo n ∷ b.spans;
      plan = build_plan.2;
      built = (subst (λ k. Built empty whole nodes order list lo k) (sym z) (record { tree = leaf; holds = nothing; even = even_leaf; slots_are = refl; items_are = refl; sized = refl }), b.built);
      labelled = b.labelled;
      kept = b.kept;
      roomy = build_roomy.1;
    }

    -- a range that is not empty is put off until its halves are built
    module _ {later : List Task} (some : 0 < n) (pushed : later ≡ rest ++ (Close lo n ∷ (Build (lo + n / 2 + 1) (n - n / 2 - 1) ∷ (Build lo (n / 2) ∷ [])))) where
      split_top : reverse later ≡ Build lo (n / 2) ∷ (Build (lo + n / 2 + 1) (n - n / 2 - 1) ∷ (Close lo n ∷ reverse rest))
      split_top = ap reverse pushed ∙ reverse-append rest (Close lo n ∷ (Build (lo + n / 2 + 1) (n - n / 2 - 1) ∷ (Build lo (n / 2) ∷ [])))

      pub build_split : Building empty whole entry nodes order list later
      build_split =
          let p = build_plan in
          let r = build_roomy in
          let h = halved n r.0.0 (length (reverse rest)) some r.0.1 r.0.2 in
          record {
            spans = b.spans;
            plan = subst (λ ts. Plan (length order) ts b.spans) (sym split_top) (plan_split (length order) lo n (reverse rest) b.spans some p.0 p.1 p.2);
            built = b.built;
            labelled = b.labelled;
            kept = b.kept;
            roomy = subst Roomy (sym split_top) ((h.0, h.1, h.3), ((h.0, h.2, (let z = h.3 in omega arith)), r.1));
          }

  -- a range whose halves are built
  module _ (is : task ≡ Close lo n) where
    closing : Plan (length order) (Close lo n ∷ reverse rest) b.spans
    closing = subst (λ ts. Plan (length order) ts b.spans) (on_top rest task popped is) b.plan

    halves : AllBuilt empty whole nodes order list (span (lo + n / 2 + 1) (n - n / 2 - 1) ∷ (span lo (n / 2) ∷ closing.0))
    halves = subst (AllBuilt empty whole nodes order list) closing.1 b.built

    pub closable : length list ≡ length order → length order < 2 ^ 13 → Closable empty whole nodes order lo n
    closable long small =
        let within = closing.2 in
        let some = closing.3 in
        let slot = nth_there order (lo + n / 2) (omega arith) in
        let x = nth_there list (lo + n / 2) (omega arith) in
        let node = b.labelled (lo + n / 2) slot.0 x.0 slot.1 x.1 in
        let l = stored_right halves.1.0.holds ∙ halves.1.0.sized in
        let r = stored_right halves.0.holds ∙ halves.0.sized in
        record {
          some = some;
          within = omega arith;
          slot = slot.0;
          node = node.0;
          here = slot.1;
          at = node.1;
          left = record { tree = halves.1.0.tree; holds = shaped halves.1.0.holds };
          right = record { tree = halves.0.tree; holds = shaped halves.0.holds };
          fits = omega arith;
        }

    pub build_close : {exit : List (Node E S)} → length list ≡ length order → ((k : ℕ) → count k order ≤ 1) → Closed empty whole nodes exit order lo n → Building empty whole entry exit order list rest
    build_close long once c =
        let within = closing.2 in
        let some = closing.3 in
        let left = halves.1.0 in
        let right = halves.0 in
        record {
          spans = span lo n ∷ closing.0;
          plan = closing.5;
          built = (close_built c list long once b.labelled some within left right, close_rest c list long once b.labelled some within closing.0 closing.4 halves.1.1);
          labelled = close_labelled c list long once b.labelled some within left right;
          kept = λ k none. close_kept c list long once b.labelled some within k none ∙ b.kept k none;
          roomy = subst Roomy (on_top rest task popped is) b.roomy;
        }

module _ {E S : Type 0} {empty : S} {whole : S → E → S → S} {nodes : List (Node E S)} {order : List ℕ} {list : List E} {tasks : List Task} where
  pub build_start : length order < 2 ^ 13 → Labelled nodes order list → tasks ≡ Build 0 (length order) ∷ [] → Building empty whole nodes nodes order list tasks
  build_start small labelled first = record {
    spans = [];
    plan = subst (λ ts. Plan (length order) (reverse ts) []) (sym first) (omega arith, tt, refl);
    built = tt;
    labelled = labelled;
    kept = λ k none. refl;
    roomy = subst (λ ts. Roomy (reverse ts)) (sym first) ((13, small, omega arith), tt);
  }

  pub build_end : {entry : List (Node E S)} {r : Option ℕ} → Building empty whole entry nodes order list tasks → tasks ≡ [] → length list ≡ length order → r ≡ root_of order 0 (length order) → Rebuilt empty whole entry nodes order list r
  build_end b none long e =
      let done : b.spans ≡ span 0 (length order) ∷ [] = subst (λ ts. Plan (length order) (reverse ts) b.spans) none b.plan in
      let t = (subst (AllBuilt empty whole nodes order list) done b.built).0 in
      record { tree = t.tree; holds = subst (λ o. Holds true empty whole nodes o t.tree) (sym e) t.holds; even = t.even; low = even_low t.even; slots_are = t.slots_are ∙ take_all (length order) order (omega arith); items_are = t.items_are ∙ take_all (length order) list (omega arith); kept = b.kept }
