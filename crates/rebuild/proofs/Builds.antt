-- One step of building, and what it keeps.
use Rattle.std.proofs.Common.{◌≡◌, ℕ, suc, ◌+◌, ◌-◌, ◌/◌, ◌<◌, ◌≤◌, Bool, true, List, [], ◌∷◌, ◌++◌, length, Some, sym, refl, ap, ◌∙◌, subst, arith}
use native.Mathlib.Decide.{ℕ_discrete}
use Rattle.nodes.specs.declared.node.Node.{Node}
use Rattle.nodes.specs.Tree.{Tree, branch, items, slots, uses}
use Rattle.std.specs.List.{slice_get}
use Rattle.nodes.specs.Holding.{Holds, part}
use Rattle.nodes.proofs.Nths.{nth_same}
use Rattle.changes.specs.Chains.{count}
use Rattle.changes.proofs.Framing.{held_set, nth_set_other}
use Rattle.rebuild.specs.Shapes.{even_branch, root_of, Labelled, Closed}
use Rattle.rebuild.proofs.Ranges.{root_some, range, range_split, nth_there, count_before, count_after, count_nth, uses_count}
use Rattle.rebuild.proofs.Plans.{Span, span, Built, AllBuilt, Below}

held_item : {E S : Type 0} {must : Bool} {empty : S} {whole : S → E → S → S} {nodes : List (Node E S)} {i j : ℕ} {t : Tree E} {x : E} {before after : Tree E} → Holds must empty whole nodes (Some i) t → t ≡ branch j x before after → (node : Node E S) × (slice_get nodes i ≡ Some node) × (node.item ≡ x)
held_item {x = x} (part node at left right sized summed) e = (node, at, (let s : node.item ≡ x = cc in s))

module _ (order : List ℕ) (lo n : ℕ) (once : (k : ℕ) → count k order ≤ 1) where
  -- no other span has the slot of the root
  apart_before : (slot l m : ℕ) → slice_get order (lo + n / 2) ≡ Some slot → l + m ≤ lo + n / 2 → count slot (range l m order) ≡ 0
  apart_before slot l m here h =
      let c = count_before slot (lo + n / 2) l m order here h in
      let o = once slot in
      omega arith

  apart_after : (slot l m : ℕ) → slice_get order (lo + n / 2) ≡ Some slot → lo + n / 2 < l → count slot (range l m order) ≡ 0
  apart_after slot l m here h =
      let c = count_after slot (lo + n / 2) l m order here h in
      let o = once slot in
      omega arith

module _ {E S : Type 0} {empty : S} {whole : S → E → S → S} {nodes exit : List (Node E S)} {order : List ℕ} {lo n : ℕ} (c : Closed empty whole nodes exit order lo n) (list : List E) (long : length list ≡ length order) (once : (k : ℕ) → count k order ≤ 1) (labelled : Labelled nodes order list) (some : 0 < n) (within : lo + n ≤ length order) where
  item_there : slice_get list (lo + n / 2) ≡ Some c.node.item
  item_there =
      let x = nth_there list (lo + n / 2) (omega arith) in
      let l = labelled (lo + n / 2) c.slot x.0 c.here x.1 in
      let same = nth_same nodes c.slot l.0 c.node l.1 c.at in
      x.1 ∙ ap Some (sym l.2 ∙ ap (λ (v : Node E S). v.item) same)

  module _ (l : Built empty whole nodes order list lo (n / 2)) (r : Built empty whole nodes order list (lo + n / 2 + 1) (n - n / 2 - 1)) where
    close_holds : Holds true empty whole exit (Some c.slot) (branch c.slot c.node.item l.tree r.tree)
    close_holds =
        let none : uses c.slot l.tree ≡ 0 = uses_count c.slot l.tree ∙ ap (count c.slot) l.slots_are ∙ apart_before order lo n once c.slot lo (n / 2) c.here (omega arith) in
        let none' : uses c.slot r.tree ≡ 0 = uses_count c.slot r.tree ∙ ap (count c.slot) r.slots_are ∙ apart_after order lo n once c.slot (lo + n / 2 + 1) (n - n / 2 - 1) c.here (omega arith) in
        c.placed.holds true l.tree r.tree l.holds r.holds none none'

  pub close_built : Built empty whole nodes order list lo (n / 2) → Built empty whole nodes order list (lo + n / 2 + 1) (n - n / 2 - 1) → Built empty whole exit order list lo n
  close_built l r =
      let b = n / 2 in
      let a = n - n / 2 - 1 in
      let whole_size : suc (b + a) ≡ n = omega arith in
      let next : suc (lo + b) ≡ lo + b + 1 = omega arith in
      let ls = l.sized in
      let rs = r.sized in
      record {
        tree = branch c.slot c.node.item l.tree r.tree;
        holds = subst (λ o. Holds true empty whole exit o (branch c.slot c.node.item l.tree r.tree)) (sym (root_some order lo n (λ e. omega arith) ∙ c.here)) (close_holds l r);
        even = even_branch (omega arith) l.even r.even;
        slots_are = ap (λ f. f ++ (c.slot ∷ slots r.tree)) l.slots_are ∙ ap (λ f. range lo b order ++ (c.slot ∷ f)) (r.slots_are ∙ ap (λ k. range k a order) (sym next)) ∙ sym (range_split order lo b a c.slot c.here) ∙ ap (λ k. range lo k order) whole_size;
        items_are = ap (λ f. f ++ (c.node.item ∷ items r.tree)) l.items_are ∙ ap (λ f. range lo b list ++ (c.node.item ∷ f)) (r.items_are ∙ ap (λ k. range k a list) (sym next)) ∙ sym (range_split list lo b a c.node.item item_there) ∙ ap (λ k. range lo k list) whole_size;
        sized = omega arith;
      }

  pub close_rest : (spans : List Span) → Below lo spans → AllBuilt empty whole nodes order list spans → AllBuilt empty whole exit order list spans
  close_rest [] below built = tt
  close_rest (span l m ∷ rest) below built =
      let t = built.0 in
      let w = below.0 in
      let none : uses c.slot t.tree ≡ 0 = uses_count c.slot t.tree ∙ ap (count c.slot) t.slots_are ∙ apart_before order lo n once c.slot l m c.here (omega arith) in
      (record { tree = t.tree; holds = subst (λ ns. Holds true empty whole ns (root_of order l m) t.tree) (sym c.placed.wrote) (held_set c.slot c.placed.node t.holds none); even = t.even; slots_are = t.slots_are; items_are = t.items_are; sized = t.sized }, close_rest rest below.1 built.1)

  pub close_kept : (k : ℕ) → count k order ≡ 0 → slice_get exit k ≡ slice_get nodes k
  close_kept k none = ap (λ ns. slice_get ns k) c.placed.wrote ∙ nth_set_other nodes c.slot k c.placed.node (λ e. let o = count_nth c.slot (lo + n / 2) order c.here in let f = ap (λ j. count j order) e in omega arith)

  pub close_labelled : Built empty whole nodes order list lo (n / 2) → Built empty whole nodes order list (lo + n / 2 + 1) (n - n / 2 - 1) → Labelled exit order list
  close_labelled before after j slot x there item = go (ℕ_discrete slot c.slot) (labelled j slot x there item) (held_item (close_holds before after) refl)
    where
      go : Dec (slot ≡ c.slot) → (node : Node E S) × (slice_get nodes slot ≡ Some node) × (node.item ≡ x) → (node : Node E S) × (slice_get exit c.slot ≡ Some node) × (node.item ≡ c.node.item) → (node : Node E S) × (slice_get exit slot ≡ Some node) × (node.item ≡ x)
      go (no other) l h = (l.0, ap (λ ns. slice_get ns slot) c.placed.wrote ∙ nth_set_other nodes c.slot slot c.placed.node other ∙ l.1, l.2)
      go (yes same) l h =
          let old = nth_same nodes c.slot l.0 c.node (ap (slice_get nodes) (sym same) ∙ l.1) c.at in
          (h.0, ap (slice_get exit) same ∙ h.1, h.2 ∙ ap (λ (v : Node E S). v.item) (sym old) ∙ l.2)
