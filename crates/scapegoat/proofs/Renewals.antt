-- A way cut at a place: what is above stays, what is below is a part of its own.
use Rattle.std.proofs.Common.{◌≡◌, ℕ, zero, suc, ◌+◌, ◌≤◌, Bool, true, false, cond, eqb, List, [], ◌∷◌, length, take, drop, Some, Option, sym, refl, ap, ◌∙◌, subst, arith}
use Rattle.std.proofs.lemmas.Bool.Decides.{nat_tests}
use Rattle.nodes.specs.declared.node.Node.{Node}
use Rattle.nodes.specs.Tree.{Tree, leaf, branch, items, slots, size, uses}
use Rattle.std.specs.List.{slice_get}
use Rattle.nodes.specs.Holding.{Holds, nothing, part}
use Rattle.nodes.proofs.Held.{shaped}
use Rattle.changes.specs.declared.path.Side.TheVariants.{Left, Right}
use Rattle.changes.specs.declared.path.Step.{Step}
use Rattle.changes.specs.Frames.{Frame, frame, step_of, steps_of, fill, plug, frame_uses, Around, here, inside, Apart}
use Rattle.changes.specs.Grafted.{Graft}
use Rattle.changes.specs.Chains.{count}
use Rattle.changes.proofs.Framing.{uses_plug}
use Rattle.changes.proofs.Chaining.{counted_here}
use Rattle.changes.proofs.Growths.{size_swap}
use Rattle.rebuild.proofs.Ranges.{uses_count}
use Rattle.nodes.proofs.Places.{slots_long}
use Rattle.rebuild.specs.Shapes.{Rebuilt}

pub steps_take : {E : Type 0} (k : ℕ) (frames : List (Frame E)) → steps_of (take k frames) ≡ take k (steps_of frames)
steps_take zero frames = refl
steps_take (suc k) [] = refl
steps_take (suc k) (f ∷ fs) = ap (λ l. step_of f ∷ l) (steps_take k fs)

pub plug_cut : {E : Type 0} (k : ℕ) (frames : List (Frame E)) (t : Tree E) → plug (take k frames) (plug (drop k frames) t) ≡ plug frames t
plug_cut zero frames t = refl
plug_cut (suc k) [] t = refl
plug_cut (suc k) (f ∷ fs) t = ap (fill f) (plug_cut k fs t)

-- the part at the place, under the link of the step there
pub held_cut : {E S : Type 0} {must : Bool} {empty : S} {whole : S → E → S → S} {nodes : List (Node E S)} (k : ℕ) (frames : List (Frame E)) (t : Tree E) (step : Step) {root : Option ℕ} → Holds must empty whole nodes root (plug frames t) → slice_get (steps_of frames) k ≡ Some step → Around must empty whole nodes root (take k frames) (Some step.slot) × Holds must empty whole nodes (Some step.slot) (plug (drop k frames) t)
held_cut k [] t step h e = let z : ◌≡◌ {A = ℕ} 0 1 = cc in absurd (omega arith)
held_cut {must = must} {empty = empty} {whole = whole} {nodes = nodes} zero (frame Left slot item other ∷ fs) t step (part node at left right sized summed) e =
    let s : record { slot = slot; side = Left } ≡ step = cc in
    subst (λ (u : Step). Around must empty whole nodes (Some slot) [] (Some u.slot) × Holds must empty whole nodes (Some u.slot) (plug (frame Left slot node.item other ∷ fs) t)) s (here, part node at left right sized summed)
held_cut {must = must} {empty = empty} {whole = whole} {nodes = nodes} zero (frame Right slot item other ∷ fs) t step (part node at left right sized summed) e =
    let s : record { slot = slot; side = Right } ≡ step = cc in
    subst (λ (u : Step). Around must empty whole nodes (Some slot) [] (Some u.slot) × Holds must empty whole nodes (Some u.slot) (plug (frame Right slot node.item other ∷ fs) t)) s (here, part node at left right sized summed)
held_cut (suc k) (frame Left slot item other ∷ fs) t step (part node at left right sized summed) e = let r = held_cut k fs t step left e in (inside {side = Left} node at right r.0, r.1)
held_cut (suc k) (frame Right slot item other ∷ fs) t step (part node at left right sized summed) e = let r = held_cut k fs t step right e in (inside {side = Right} node at left r.0, r.1)

-- what holds where its slots are as they were
pub held_same : {E S : Type 0} {must : Bool} {empty : S} {whole : S → E → S → S} {entry exit : List (Node E S)} {link : Option ℕ} {t : Tree E} → Holds must empty whole entry link t → ((k : ℕ) → (uses k t ≡ 0 → ⊥) → slice_get exit k ≡ slice_get entry k) → Holds must empty whole exit link t
held_same nothing same = nothing
held_same (part {slot} {before} {after} node at left right sized summed) same =
    part node (same slot (counted_here slot (uses slot before + uses slot after)) ∙ at) (held_same left (λ k h. same k (λ e. h (omega arith)))) (held_same right (λ k h. same k (λ e. h (omega arith)))) sized summed

pub around_same : {E S : Type 0} {must : Bool} {empty : S} {whole : S → E → S → S} {entry exit : List (Node E S)} {root hole : Option ℕ} {fs : List (Frame E)} → Around must empty whole entry root fs hole → ((k : ℕ) → (frame_uses k fs ≡ 0 → ⊥) → slice_get exit k ≡ slice_get entry k) → Around must empty whole exit root fs hole
around_same here same = here
around_same (inside {slot = slot} {other = other} {fs = fs} node at held more) same =
    inside node (same slot (counted_here slot (uses slot other + frame_uses slot fs)) ∙ at) (held_same held (λ k h. same k (λ e. h (omega arith)))) (around_same more (λ k h. same k (λ e. h (omega arith))))

pub any_must : {E S : Type 0} {empty : S} {whole : S → E → S → S} {nodes : List (Node E S)} {link : Option ℕ} {t : Tree E} (must : Bool) → Holds true empty whole nodes link t → Holds must empty whole nodes link t
any_must true h = h
any_must false h = shaped h

module _ {E S : Type 0} {must : Bool} {empty : S} {whole : S → E → S → S} {entry middle : List (Node E S)} (k : ℕ) (frames : List (Frame E)) (t : Tree E) {step : Step} {root link : Option ℕ} (h : Holds must empty whole entry root (plug frames t)) (on : slice_get (steps_of frames) k ≡ Some step) (apart : Apart (plug frames t)) (few : size (plug frames t) ≤ 4096) (r : Rebuilt empty whole entry middle (slots (plug (drop k frames) t)) (items (plug (drop k frames) t)) link) where
  pub new_uses : (j : ℕ) → uses j r.tree ≡ uses j (plug (drop k frames) t)
  new_uses j = uses_count j r.tree ∙ ap (count j) r.slots_are ∙ sym (uses_count j (plug (drop k frames) t))

  pub all_uses : (j : ℕ) → uses j (plug frames t) ≡ frame_uses j (take k frames) + uses j (plug (drop k frames) t)
  all_uses j = ap (uses j) (sym (plug_cut k frames t)) ∙ uses_plug j (take k frames) (plug (drop k frames) t)

  pub renew_graft : (steps : List Step) → steps_of frames ≡ steps → Graft must empty whole middle root (take k frames) (Some step.slot) link r.tree (take k steps)
  renew_graft steps traced =
      let cut = held_cut k frames t step h on in
      record {
        traced = steps_take k frames ∙ ap (take k) traced;
        around = around_same cut.0 (λ j used. r.kept j (sym (uses_count j (plug (drop k frames) t)) ∙ (let a = all_uses j in let b = apart j in lone (frame_uses j (take k frames)) (uses j (plug (drop k frames) t)) used (omega arith))));
        held = any_must must r.holds;
        apart = λ j. let a = all_uses j in let b = apart j in let c = new_uses j in let d = uses_plug j (take k frames) r.tree in omega arith;
        fits =
            let a = size_swap (take k frames) r.tree (plug (drop k frames) t) in
            let b = ap size (plug_cut k frames t) in
            let c = sym (slots_long r.tree) ∙ ap length r.slots_are ∙ slots_long (plug (drop k frames) t) in
            omega arith;
      }
    where
      lone : (a b : ℕ) → (a ≡ 0 → ⊥) → a + b ≤ 1 → b ≡ 0
      lone zero b used l = absurd (used refl)
      lone (suc a) b used l = omega arith

one_more : (j slot u : ℕ) → (j ≡ slot → u ≡ 0) → u ≤ 1 → u + (cond (eqb j slot) 1 0 + (0 + 0)) ≤ 1
one_more j slot u h l = grind (arith, nat_tests)

-- a tree with a leaf more
module _ {E : Type 0} (frames : List (Frame E)) (t : Tree E) (slot : ℕ) (item : E) (was : plug frames leaf ≡ t) where
  pub grown_apart : Apart t → uses slot t ≡ 0 → Apart (plug frames (branch slot item leaf leaf))
  grown_apart apart spare j =
      let a = uses_plug j frames (branch slot item leaf leaf) in
      let b = uses_plug j frames leaf in
      let c = ap (uses j) was in
      let d = one_more j slot (uses j t) (λ e. ap (λ k. uses k t) e ∙ spare) (apart j) in
      omega arith

  pub grown_size : size (plug frames (branch slot item leaf leaf)) ≡ size t + 1
  grown_size = let s = size_swap frames (branch slot item leaf leaf) leaf in let c = ap size was in omega arith
