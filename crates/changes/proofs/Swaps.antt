-- What another item at the end of a way makes of the tree and of its list.
use Rattle.std.proofs.Common.{◌≡◌, ℕ, ◌+◌, ◌^◌, ◌<◌, ◌≤◌, Bool, cond, eqb, List, ◌∷◌, ◌++◌, length, set, Some, Option, sym, refl, ap, ◌∙◌, subst, append_assoc, arith, length-append}
use lib.Seq.{set_at}
use Rattle.nodes.specs.declared.node.Node.{Node}
use Rattle.nodes.specs.Tree.{Tree, branch, items, size, height, uses}
use Rattle.std.specs.List.{slice_get}
use Rattle.nodes.specs.Holding.{Holds, size_at}
use Rattle.nodes.proofs.Nths.{nth_here}
use Rattle.nodes.proofs.Held.{Opened, opened, size_is_length, stored_right, unique}
use Rattle.changes.specs.declared.path.Step.{Step}
use Rattle.changes.specs.Frames.{Frame, plug, ahead, behind, frame_uses, Around, Apart}
use Rattle.changes.specs.Placed.{Placed}
use Rattle.changes.specs.Grafted.{Graft, Grafted}
use Rattle.changes.specs.Replaced.{Sound}
use Rattle.changes.specs.Ways.{Way}
use Rattle.changes.proofs.Framing.{items_plug, uses_plug, size_plug, nth_set_other, around_set}
use Rattle.changes.proofs.Grafts.{own, apart_from}
use Rattle.changes.proofs.Growths.{size_swap}

-- the slice holds one tree, so what is known of one reading is known of any
pub sound_for : {E S : Type 0} {must : Bool} {empty : S} {whole : S → E → S → S} {nodes : List (Node E S)} {root : Option ℕ} {t : Tree E} → Sound empty whole nodes root → Holds must empty whole nodes root t → Apart t × (size t < 2 ^ 64) × (height t ≤ 32)
sound_for r h = let same = unique r.holds h in (subst Apart same r.apart, subst (λ u. size u < 2 ^ 64) same r.fits, subst (λ u. height u ≤ 32) same r.low)

module _ {E : Type 0} (fs : List (Frame E)) (slot place : ℕ) (old new : E) (before after : Tree E) (at : length (ahead fs) + size before ≡ place) where
  pub around_item : (x : E) → items (plug fs (branch slot x before after)) ≡ (ahead fs ++ items before) ++ (x ∷ (items after ++ behind fs))
  around_item x = items_plug fs (branch slot x before after) ∙ ap (λ l. ahead fs ++ l) (append_assoc (items before) (x ∷ items after) (behind fs)) ∙ sym (append_assoc (ahead fs) (items before) (x ∷ (items after ++ behind fs)))

  pub front_long : length (ahead fs ++ items before) ≡ place
  front_long = length-append (ahead fs) (items before) ∙ (let e = size_is_length before in omega arith)

  pub swap_lists : items (plug fs (branch slot new before after)) ≡ set (items (plug fs (branch slot old before after))) place new
  swap_lists = around_item new ∙ sym (ap (λ l. set l place new) (around_item old) ∙ set_at (ahead fs ++ items before) old (items after ++ behind fs) new place front_long)

  pub swap_found : slice_get (items (plug fs (branch slot old before after))) place ≡ Some old
  swap_found = ap (λ l. slice_get l place) (around_item old) ∙ ap (slice_get ((ahead fs ++ items before) ++ (old ∷ (items after ++ behind fs)))) (sym front_long) ∙ nth_here (ahead fs ++ items before) old (items after ++ behind fs)

module _ {E S : Type 0} {must : Bool} {empty : S} {whole : S → E → S → S} {nodes : List (Node E S)} {root : Option ℕ} {steps : List Step} {skipped slot : ℕ} {node : Node E S} {all t : Tree E} (w : Way empty whole nodes root (Some slot) steps skipped all t) (at : slice_get nodes slot ≡ Some node) (h : Holds must empty whole nodes root all) where
  -- the node at the end of the way, and its parts
  abbrev pub end : Opened must empty whole nodes slot node t
  end = opened (w.held must h) slot refl node at

  pub end_was : plug w.frames (branch slot node.item end.before end.after) ≡ all
  end_was = ap (plug w.frames) (sym end.is) ∙ w.plugs

  pub end_uses : (k : ℕ) → uses k all ≡ frame_uses k w.frames + (cond (eqb k slot) 1 0 + (uses k end.before + uses k end.after))
  end_uses k = ap (uses k) (sym end_was) ∙ uses_plug k w.frames (branch slot node.item end.before end.after)

  pub end_alone : Apart all → (frame_uses slot w.frames ≡ 0) × (uses slot end.before ≡ 0) × (uses slot end.after ≡ 0)
  end_alone apart =
      let u = end_uses slot in
      let a = apart slot in
      let o = own slot in
      (omega arith, omega arith, omega arith)

  pub end_fits : size all < 2 ^ 64 → size_at nodes node.left + size_at nodes node.right + 1 < 2 ^ 64
  end_fits f =
      let l = stored_right end.left in
      let r = stored_right end.right in
      let s = size_plug w.frames (branch slot node.item end.before end.after) in
      let e = ap size end_was in
      omega arith

  module _ {exit : List (Node E S)} {item : E} (p : Placed empty whole nodes exit slot item node.left node.right) (apart : Apart all) (fits : size all < 2 ^ 64) where
    pub swap_graft : Graft must empty whole exit root w.frames (Some slot) (Some slot) (branch slot item end.before end.after) steps
    swap_graft =
        let alone = end_alone apart in
        record {
          traced = w.traced;
          around = subst (λ ns. Around must empty whole ns root w.frames (Some slot)) (sym p.wrote) (around_set slot p.node (w.around must h) alone.0);
          held = p.holds must end.before end.after end.left end.right alone.1 alone.2;
          apart = λ k. let u = uses_plug k w.frames (branch slot item end.before end.after) in let v = end_uses k in let a = apart k in omega arith;
          fits = let s = size_swap w.frames (branch slot item end.before end.after) (branch slot node.item end.before end.after) in let e = ap size end_was in omega arith;
        }

    pub swap_kept : {last : List (Node E S)} {r : Option ℕ} → Grafted must empty whole exit last r w.frames (branch slot item end.before end.after) → (k : ℕ) → uses k all ≡ 0 → slice_get last k ≡ slice_get nodes k
    swap_kept g k none =
        let v = end_uses k in
        let u = uses_plug k w.frames (branch slot item end.before end.after) in
        g.kept k (omega arith) ∙ ap (λ ns. slice_get ns k) p.wrote ∙ nth_set_other nodes slot k p.node (apart_from k slot (frame_uses k w.frames) (uses k end.before + uses k end.after) (sym v ∙ none))
