-- What a new leaf at the end of a way makes of the tree and of its list.
use Rattle.std.proofs.Common.{◌≡◌, ℕ, suc, ◌+◌, ◌^◌, ◌<◌, ◌≤◌, Bool, List, [], ◌∷◌, ◌++◌, length, drop, Some, None, Option, sym, refl, ap, ◌∙◌, subst, arith, take_at, drop_at}
use Rattle.std.proofs.lemmas.Bool.Decides.{nat_tests}
use Rattle.nodes.specs.declared.node.Node.{Node}
use Rattle.nodes.specs.Tree.{Tree, leaf, branch, items, size, uses}
use Rattle.std.specs.List.{slice_get}
use Rattle.nodes.specs.Holding.{Holds, nothing}
use Rattle.changes.specs.declared.path.Step.{Step}
use Rattle.changes.specs.declared.path.Side.TheVariants.{Left, Right}
use Rattle.changes.specs.Frames.{Frame, frame, plug, ahead, behind, frame_uses, Around, Apart}
use Rattle.changes.specs.Placed.{Placed}
use Rattle.changes.specs.Grafted.{Graft, Grafted}
use Rattle.changes.specs.Ways.{Way}
use Rattle.changes.specs.Inserted.{inserted}
use Rattle.changes.proofs.Framing.{items_plug, uses_plug, nth_set_other, around_set}

module _ {E : Type 0} where
  -- a part in the hole brings its own uses and its own size
  frame_size : List (Frame E) → ℕ
  frame_size [] = 0
  frame_size (frame side slot item other ∷ fs) = suc (size other + frame_size fs)

  size_plugged : (fs : List (Frame E)) (t : Tree E) → size (plug fs t) ≡ frame_size fs + size t
  unfolding frame_size
  size_plugged [] t = omega arith
  size_plugged (frame Left slot item other ∷ fs) t = let r = size_plugged fs t in omega arith
  size_plugged (frame Right slot item other ∷ fs) t = let r = size_plugged fs t in omega arith

  pub size_swap : (fs : List (Frame E)) (t u : Tree E) → size (plug fs t) + size u ≡ size (plug fs u) + size t
  size_swap fs t u = let a = size_plugged fs t in let b = size_plugged fs u in omega arith

  pub uses_swap : (k : ℕ) (fs : List (Frame E)) (t u : Tree E) → uses k (plug fs t) + uses k u ≡ uses k (plug fs u) + uses k t
  uses_swap k fs t u = let a = uses_plug k fs t in let b = uses_plug k fs u in omega arith

  pub insert_lists : (fs : List (Frame E)) (slot place : ℕ) (item : E) → length (ahead fs) ≡ place → items (plug fs (branch slot item leaf leaf)) ≡ inserted place item (items (plug fs leaf))
  insert_lists fs slot place item long =
      let old : items (plug fs leaf) ≡ ahead fs ++ behind fs = items_plug fs leaf in
      let new : items (plug fs (branch slot item leaf leaf)) ≡ ahead fs ++ (item ∷ behind fs) = items_plug fs (branch slot item leaf leaf) in
      new ∙ sym (ap (inserted place item) old ∙ ap (λ l. l ++ (item ∷ drop place (ahead fs ++ behind fs))) (take_at (ahead fs) (behind fs) place long) ∙ ap (λ l. ahead fs ++ (item ∷ l)) (drop_at (ahead fs) (behind fs) place long))

one_leaf : {E : Type 0} (k slot : ℕ) (item : E) → (k ≡ slot → ⊥) → uses {E = E} k (branch slot item leaf leaf) ≡ 0
one_leaf k slot item h = grind (arith, nat_tests)

single : {E : Type 0} (k slot : ℕ) (item : E) (rest : ℕ) → (k ≡ slot → rest ≡ 0) → rest ≤ 1 → rest + uses {E = E} k (branch slot item leaf leaf) ≤ 1
single k slot item rest h l = grind (arith, nat_tests)

module _ {E S : Type 0} {must : Bool} {empty : S} {whole : S → E → S → S} {nodes after : List (Node E S)} {root : Option ℕ} {steps : List Step} {place slot : ℕ} {item : E} {t : Tree E} (w : Way empty whole nodes root None steps place t leaf) (p : Placed empty whole nodes after slot item None None) (h : Holds must empty whole nodes root t) (apart : Apart t) (spare : uses slot t ≡ 0) (fits : size t + 1 < 2 ^ 64) where
  grown_uses : (k : ℕ) → uses k (plug w.frames (branch slot item leaf leaf)) ≡ uses k t + uses {E = E} k (branch slot item leaf leaf)
  grown_uses k =
      let s = uses_swap k w.frames (branch slot item leaf leaf) leaf in
      let e = ap (uses k) w.plugs in
      omega arith

  pub new_graft : Graft must empty whole after root w.frames None (Some slot) (branch slot item leaf leaf) steps
  new_graft =
      let spared : frame_uses slot w.frames ≡ 0 = (let a = uses_plug slot w.frames leaf in let b = ap (uses slot) w.plugs in omega arith) in
      record {
        traced = w.traced;
        around = subst (λ ns. Around must empty whole ns root w.frames None) (sym p.wrote) (around_set slot p.node (w.around must h) spared);
        held = p.holds must leaf leaf nothing nothing refl refl;
        apart = λ k. let g = grown_uses k in let l = single k slot item (uses k t) (λ e. ap (λ j. uses j t) e ∙ spare) (apart k) in omega arith;
        fits = let s = size_swap w.frames (branch slot item leaf leaf) leaf in let e = ap size w.plugs in omega arith;
      }

  pub new_kept : {exit : List (Node E S)} {r : Option ℕ} → Grafted must empty whole after exit r w.frames (branch slot item leaf leaf) → (k : ℕ) → uses k t ≡ 0 → (k ≡ slot → ⊥) → slice_get exit k ≡ slice_get nodes k
  new_kept g k none other =
      let u = grown_uses k in
      let l = one_leaf {E = E} k slot item other in
      g.kept k (omega arith) ∙ ap (λ ns. slice_get ns k) p.wrote ∙ nth_set_other nodes slot k p.node other
