-- An item more: the new tree lies in the slice again.
use Rattle.std.proofs.Common.{◌≡◌, ℕ, zero, suc, ◌+◌, ◌<◌, ◌≤◌, min, max, Bool, true, false, cond, eqb, List, ◌∷◌, length, Some, Ok, sym, refl, ap, ◌∙◌, subst, add-one, arith}
use Rattle.std.proofs.lemmas.List.Edits.{length-insert}
use Rattle.std.specs.List.{slice_get}
use Rattle.nodes.specs.declared.node.Node.{Node}
use Rattle.nodes.specs.Tree.{Tree, items, size, height, uses}
use Rattle.nodes.specs.Holding.{Holds}
use Rattle.nodes.proofs.Nths.{nth_within}
use Rattle.nodes.proofs.Held.{size_is_length, unique}
use Rattle.changes.specs.Chains.{Chain, count}
use Rattle.changes.proofs.Chaining.{chain_kept}
use Rattle.balance.specs.Allowances.{part as share, whole as all}
use Rattle.balance.specs.Allowances.{most_items}
use Rattle.balance.proofs.Sides.{allowance_there, allowance_grows}
use Rattle.changes.proofs.Grafts.{own}
use Rattle.scapegoat.specs.declared.balanced.Balanced.{Balanced}
use Rattle.upkeep.specs.Growth.{Within, Grows, Fitting, Growth}
use Rattle.trees.specs.declared.links.Links.{Links}
use Rattle.trees.specs.Structures.{tree_of, listed, capacity_of, Laid, Structured}
use Rattle.trees.specs.Operations.{done, later, Inserts}
use Rattle.trees.proofs.Reading.{chain_node, tree_read, laid, counted_by, any_sums}
use Rattle.trees.proofs.Rules.{rule_accepts}

-- a tree within its allowance is low enough for a path
pub low_enough : {E : Type 0} (m : ℕ) (t : Tree E) → m ≤ most_items → Within share all m t → height t ≤ 32
low_enough m t few low =
    let d = allowance_there m few in
    let l = low d.0 d.1 in
    let b = d.2 in
    omega arith

-- and within that of more items
pub more_within : {E : Type 0} (m n : ℕ) (t : Tree E) → m ≤ n → n ≤ most_items → Within share all m t → Within share all n t
more_within m n t more few low d al =
    let e = allowance_there m (omega arith) in
    let l = low e.0 e.1 in
    let g = allowance_grows share all m n e.0 d e.1 al more in
    omega arith

-- the first free slot, and the others
module _ {E S : Type 0} {nodes : List (Node E S)} {before : Links} {t : Tree E} {spare : List ℕ} (l : Laid nodes before t spare) (slot : ℕ) (free : before.free ≡ Some slot) (node : Node E S) (at : slice_get nodes slot ≡ Some node) where
  pub first_free : (rest : List ℕ) × (spare ≡ slot ∷ rest) × Chain nodes node.left rest
  first_free = chain_node (subst (λ o. Chain nodes o spare) free l.chain) node at

  pub slot_spare : uses slot t ≡ 0
  slot_spare =
      let o = l.once slot in
      let c = ap (count slot) first_free.1 in
      let h = own slot in
      omega arith

  pub slots_left : before.count + suc (length first_free.0) ≡ length nodes
  slots_left = let c = ap length first_free.1 in let n = l.slots in omega arith

module _ {E S : Type 0} (empty : S) (whole : S → E → S → S) (entry : List (Node E S)) (before : Links) (s : Structured entry before) (slot : ℕ) (free : before.free ≡ Some slot) (node : Node E S) (at : slice_get entry slot ≡ Some node) (place m : ℕ) (item : E) (within : place ≤ before.count) (room : before.count < most_items) (m_is : m ≡ max before.most (before.count + 1)) where
  pub fitting : Fitting empty whole entry before.root place slot m
  fitting =
      let l = laid empty whole s in
      let z = l.sized in
      let f = l.few in
      let g = l.grown in
      let low = more_within before.most m (tree_of entry before) (omega arith) (omega arith) l.low in
      record {
        room = record {
          tree = tree_of entry before;
          holds = l.holds empty whole;
          low = low_enough m (tree_of entry before) (omega arith) low;
          apart = λ k. let o = l.once k in omega arith;
          spare = slot_spare l slot free node at;
          slot_within = nth_within entry slot node at;
          place_within = omega arith;
          fits = omega arith;
        };
        more = omega arith;
        few = omega arith;
        low = low;
      }

  module _ (exit : List (Node E S)) (long : length exit ≡ length entry) (r : Balanced) (grown : (must : Bool) (t : Tree E) → Holds must empty whole entry before.root t → Growth must empty whole entry exit place slot m item t r) (most' : ℕ) (most_is : most' ≡ cond r.whole (before.count + 1) m) where
    abbrev pub after : Links
    after = record { root = r.root; free = node.left; count = before.count + 1; most = most' }

    new_growth : Growth false empty whole entry exit place slot m item (tree_of entry before) r
    new_growth = grown false (tree_of entry before) ((laid empty whole s).holds empty whole)

    new_sized : size new_growth.new ≡ before.count + 1
    new_sized =
        let l = laid empty whole s in
        let z = l.sized in
        let n = size_is_length (tree_of entry before) in
        sym (size_is_length new_growth.new) ∙ ap length new_growth.lists ∙ length-insert (listed entry before) place item (omega arith) ∙ omega arith

    most_right : most' ≡ cond r.whole (size new_growth.new) m
    most_right = most_is ∙ ap (λ n. cond r.whole n m) (sym new_sized)

    most_between : (before.count + 1 ≤ most') × (most' ≤ most_items)
    most_between = go r.whole most_is
      where
        go : (b : Bool) → most' ≡ cond b (before.count + 1) m → (before.count + 1 ≤ most') × (most' ≤ most_items)
        go true e = (omega arith, omega arith)
        go false e = let f = (laid empty whole s).few in (omega arith, omega arith)

    new_laid : Laid exit after new_growth.new (first_free (laid empty whole s) slot free node at).0
    new_laid =
        let l = laid empty whole s in
        let f = first_free l slot free node at in
        let b = most_between in
        let n = slots_left l slot free node at in
        record {
          holds = any_sums new_growth.holds;
          chain = chain_kept f.2 (λ k used. new_growth.kept k (let u = new_growth.used k in let o = l.once k in let c = ap (count k) f.1 in unused (cond (eqb k slot) 1 0) (uses k (tree_of entry before)) (count k f.0) used u (omega arith)));
          once = λ k. let u = new_growth.used k in let o = l.once k in let c = ap (count k) f.1 in omega arith;
          sized = new_sized;
          slots = omega arith;
          grown = b.0;
          few = b.1;
          low = subst (λ n. Within share all n new_growth.new) (sym most_right) new_growth.low;
        }
      where
        unused : {x : ℕ} (a t c : ℕ) → (c ≡ 0 → ⊥) → x ≡ a + t → t + (a + c) ≤ 1 → x ≡ 0
        unused a t zero used u o = absurd (used refl)
        unused a t (suc c) used u o = omega arith

    new_tree : tree_of exit after ≡ new_growth.new
    new_tree = tree_read empty whole new_laid

    pub insert_accepted : Inserts empty whole entry before exit after place item (Ok tt)
    insert_accepted =
        let l = laid empty whole s in
        let c = counted_by empty whole s in
        let n = slots_left l slot free node at in
        let rule = rule_accepts (capacity_of entry) (listed entry before) place item (omega arith) (omega arith) in
        record {
          replied = sym (ap done rule);
          changed = record {
            structured = ∣ record { tree = _; spare = _; laid = new_laid } ∣₁;
            capacity = ap (λ k. min k most_items) long;
            lists = ap items new_tree ∙ new_growth.lists ∙ sym (ap (λ x. later x (listed entry before)) rule);
            right = λ h. let g = grown true (tree_of entry before) h in let same = unique g.holds new_growth.holds in subst (Holds true empty whole exit r.root) (same ∙ sym new_tree) g.holds;
          };
          by_rule = λ is. record {
            slot = slot;
            rebuilt = r.whole;
            grows = subst (λ k. Grows share all k place slot item (tree_of entry before) r.whole (tree_of exit after)) (m_is ∙ ap (max before.most) (add-one before.count)) (subst (λ u. Grows share all m place slot item (tree_of entry before) r.whole u) (sym new_tree) new_growth.grows);
            counted = add-one before.count;
            most_is = most_is ∙ ap (cond r.whole (before.count + 1)) (m_is ∙ ap (max before.most) (add-one before.count));
          };
          refused = λ e is. let z : ◌≡◌ {A = ℕ} 0 1 = cc in absurd (omega arith);
        }
