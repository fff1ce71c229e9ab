-- An item fewer, or another item: the new tree lies in the slice again.
use Rattle.std.proofs.Common.{◌≡◌, ℕ, zero, suc, ◌+◌, ◌-◌, ◌<◌, ◌≤◌, min, Bool, true, false, cond, eqb, List, [], ◌∷◌, length, set, Some, None, Option, sym, refl, ap, ◌∙◌, subst, arith}
use native.Mathlib.Decide.{dec_lt}
use Rattle.std.proofs.lemmas.Bool.Decides.{nat_tests}
use Rattle.std.proofs.lemmas.List.Edits.{length-remove}
use Rattle.std.specs.List.{remove, slice_get}
use Rattle.nodes.specs.declared.node.Node.{Node}
use Rattle.nodes.specs.Tree.{Tree, branch, items, size, height, uses}
use Rattle.nodes.specs.Holding.{Holds, nothing, part}
use Rattle.nodes.proofs.Nths.{nth_within}
use Rattle.nodes.proofs.Held.{size_is_length, unique}
use Rattle.changes.specs.declared.changed.Changed.{Changed as Swap}
use Rattle.changes.specs.declared.path.Side.TheVariants.{Left, Right}
use Rattle.changes.specs.Frames.{Frame, frame, plug}
use Rattle.changes.specs.Chains.{Chain, count}
use Rattle.changes.specs.Replaced.{Sound, Swapped}
use Rattle.changes.proofs.Chaining.{chain_kept}
use Rattle.changes.proofs.Grafts.{own}
use Rattle.changes.proofs.Growths.{uses_swap, size_swap}
use Rattle.balance.specs.Allowances.{part as share, whole as all}
use Rattle.balance.specs.Allowances.{most_items}
use Rattle.upkeep.specs.declared.shrunk.Shrunk.{Shrunk}
use Rattle.upkeep.specs.Growth.{Within}
use Rattle.upkeep.specs.Loss.{Shrinks, Shrinkable, Loss}
use Rattle.scapegoat.proofs.Renewals.{held_same}
use Rattle.trees.specs.declared.links.Links.{Links}
use Rattle.trees.specs.Structures.{tree_of, listed, Laid, Structured}
use Rattle.trees.specs.Operations.{Removes, Replaces}
use Rattle.trees.proofs.Reading.{spare_of, tree_read, laid, any_sums}
use Rattle.trees.proofs.Rules.{unchanged}
use Rattle.trees.proofs.Growing.{low_enough}

-- past the end there is nothing to take out or to write over
pub nth_none : {A : Type 0} (xs : List A) (i : ℕ) → length xs ≤ i → slice_get xs i ≡ None
nth_none [] i h = refl
nth_none (x ∷ xs) zero h = absurd (omega arith)
nth_none (x ∷ xs) (suc i) h = nth_none xs i (omega arith)

removed_none : {A : Type 0} (xs : List A) (i : ℕ) → length xs ≤ i → remove xs i ≡ xs
removed_none [] zero h = refl
removed_none [] (suc i) h = refl
removed_none (x ∷ xs) zero h = absurd (omega arith)
removed_none (x ∷ xs) (suc i) h = ap (λ l. x ∷ l) (removed_none xs i (omega arith))

set_none : {A : Type 0} (xs : List A) (i : ℕ) (y : A) → length xs ≤ i → set xs i y ≡ xs
set_none [] i y h = refl
set_none (x ∷ xs) zero y h = absurd (omega arith)
set_none (x ∷ xs) (suc i) y h = ap (λ l. x ∷ l) (set_none xs i y (omega arith))

module _ {E S : Type 0} (empty : S) (whole : S → E → S → S) (entry : List (Node E S)) (before : Links) (s : Structured entry before) (place : ℕ) where
  pub sound : Sound empty whole entry before.root
  sound =
      let l = laid empty whole s in
      let z = l.sized in
      let f = l.few in
      let g = l.grown in
      record { tree = tree_of entry before; holds = l.holds empty whole; low = low_enough before.most (tree_of entry before) l.few l.low; apart = λ k. let o = l.once k in omega arith; fits = omega arith }

  pub shrinkable : Shrinkable empty whole entry before.root before.most
  unfolding sound
  shrinkable =
      let l = laid empty whole s in
      let z = l.sized in
      let g = l.grown in
      record { sound = sound; less = omega arith; few = l.few; low = l.low }

  past : size (tree_of entry before) ≤ place → length (listed entry before) ≤ place
  past h = let n = size_is_length (tree_of entry before) in omega arith

  pub remove_refused : size (tree_of entry before) ≤ place → Removes empty whole entry before entry before place None
  remove_refused h = record {
    told = sym (nth_none (listed entry before) place (past h));
    changed = unchanged empty whole entry before s _ (sym (removed_none (listed entry before) place (past h)));
    by_rule = λ x bad. let z : ◌≡◌ {A = ℕ} 0 1 = cc in absurd (omega arith);
    refused = λ is. (refl, refl);
  }

  pub replace_refused : (item : E) → size (tree_of entry before) ≤ place → Replaces empty whole entry before entry before place item None
  replace_refused item h = record {
    told = sym (nth_none (listed entry before) place (past h));
    changed = unchanged empty whole entry before s _ (sym (set_none (listed entry before) place item (past h)));
    most_is = refl;
    refused = λ is. (refl, refl);
  }

-- a slot beyond the slice is not used
beyond : {E S : Type 0} {must : Bool} {empty : S} {whole : S → E → S → S} {nodes : List (Node E S)} {link : Option ℕ} {t : Tree E} (k : ℕ) → Holds must empty whole nodes link t → length nodes ≤ k → uses k t ≡ 0
beyond k nothing h = refl
beyond {nodes = nodes} k (part {slot} {before} {after} node at left right sized summed) h =
    let w = nth_within nodes slot node at in
    let a = beyond k left h in
    let b = beyond k right h in
    let e : k ≡ slot → ⊥ = λ same. omega arith in
    let o = other k slot e in
    omega arith
  where
    other : (k slot : ℕ) → (k ≡ slot → ⊥) → ◌≡◌ {A = ℕ} (cond (eqb k slot) 1 0) 0
    other k slot e = grind (arith, nat_tests)

module _ {E S : Type 0} (empty : S) (whole : S → E → S → S) (entry : List (Node E S)) (before : Links) (s : Structured entry before) (place : ℕ) (middle : List (Node E S)) (long : length middle ≡ length entry) (r : Shrunk E) (lost : (must : Bool) (t : Tree E) → Holds must empty whole entry before.root t → Loss must empty whole entry middle place before.most t r) where
  new_loss : Loss false empty whole entry middle place before.most (tree_of entry before) r
  new_loss = lost false (tree_of entry before) ((laid empty whole s).holds empty whole)

  freed_used : uses r.slot (tree_of entry before) ≡ suc (uses r.slot new_loss.new)
  freed_used = let f = new_loss.freed r.slot in let o = own r.slot in omega arith

  pub freed_within : r.slot < length middle
  freed_within = go (dec_lt r.slot (length middle))
    where
      go : Dec (r.slot < length middle) → r.slot < length middle
      go (yes h) = h
      go (no h) = let b = beyond r.slot ((laid empty whole s).holds empty whole) (omega arith) in let u = freed_used in absurd (omega arith)

  some_left : (size new_loss.new + 1 ≡ before.count) × (1 ≤ before.count)
  some_left =
      let l = laid empty whole s in
      let w = nth_within (listed entry before) place r.item new_loss.found in
      let a = length-remove (listed entry before) place w in
      let b = ap length new_loss.lists in
      let c = size_is_length new_loss.new in
      let d = size_is_length (tree_of entry before) in
      let z = l.sized in
      (omega arith, omega arith)

  pub some_counted : 1 ≤ before.count
  some_counted = some_left.1

  module _ (exit : List (Node E S)) (longer : length exit ≡ length middle) (free' : Option ℕ) (released : (spare : List ℕ) → Chain middle before.free spare → count r.slot spare ≡ 0 → Chain exit free' (r.slot ∷ spare)) (others : (k : ℕ) → (k ≡ r.slot → ⊥) → slice_get exit k ≡ slice_get middle k) (most' : ℕ) (most_is : most' ≡ cond r.whole (before.count - 1) before.most) where
    abbrev pub fewer : Links
    fewer = record { root = r.root; free = free'; count = before.count - 1; most = most' }

    not_freed : (k : ℕ) → (uses k new_loss.new ≡ 0 → ⊥) → k ≡ r.slot → ⊥
    not_freed k used e =
        let u = freed_used in
        let o = (laid empty whole s).once r.slot in
        used (ap (λ j. uses j new_loss.new) e ∙ omega arith)

    moved : {must : Bool} → Holds must empty whole middle r.root new_loss.new → Holds must empty whole exit r.root new_loss.new
    moved h = held_same h (λ k used. others k (not_freed k used))

    fewer_most : (before.count - 1 ≤ most') × (most' ≤ most_items)
    fewer_most = go r.whole most_is
      where
        go : (b : Bool) → most' ≡ cond b (before.count - 1) before.most → (before.count - 1 ≤ most') × (most' ≤ most_items)
        go true e = let l = laid empty whole s in let f = l.few in let g = l.grown in (omega arith, omega arith)
        go false e = let l = laid empty whole s in let f = l.few in let g = l.grown in (omega arith, omega arith)

    fewer_laid : Laid exit fewer new_loss.new (r.slot ∷ spare_of entry before)
    fewer_laid =
        let l = laid empty whole s in
        let n = some_left in
        let sz = n.0 in
        let c = n.1 in
        let sl = l.slots in
        let b = fewer_most in
        let right_most : most' ≡ cond r.whole (size new_loss.new) before.most = most_is ∙ ap (λ k. cond r.whole k before.most) (let e : before.count - 1 ≡ size new_loss.new = omega arith in e) in
        record {
          holds = any_sums (moved new_loss.holds);
          chain = released (spare_of entry before) (chain_kept l.chain (λ k used. new_loss.kept k (let o = l.once k in let f = new_loss.freed k in free_one (uses k new_loss.new) (cond (eqb k r.slot) 1 0) (count k (spare_of entry before)) used f o))) (let u = freed_used in let o = l.once r.slot in omega arith);
          once = λ k. let o = l.once k in let f = new_loss.freed k in omega arith;
          sized = omega arith;
          slots = omega arith;
          grown = b.0;
          few = b.1;
          low = subst (λ k. Within share all k new_loss.new) (sym right_most) new_loss.low;
        }
      where
        free_one : {t : ℕ} (u a c : ℕ) → (c ≡ 0 → ⊥) → a + u ≡ t → t + c ≤ 1 → u ≡ 0
        free_one u a zero used f o = absurd (used refl)
        free_one u a (suc c) used f o = omega arith

    fewer_tree : tree_of exit fewer ≡ new_loss.new
    fewer_tree = tree_read empty whole fewer_laid

    pub remove_accepted : Removes empty whole entry before exit fewer place (Some r.item)
    remove_accepted = record {
      told = sym new_loss.found;
      changed = record {
        structured = ∣ record { tree = _; spare = _; laid = fewer_laid } ∣₁;
        capacity = ap (λ k. min k most_items) (longer ∙ long);
        lists = ap items fewer_tree ∙ new_loss.lists;
        right = λ h. let g = lost true (tree_of entry before) h in let same = unique g.holds new_loss.holds in subst (Holds true empty whole exit r.root) (sym fewer_tree) (moved (subst (Holds true empty whole middle r.root) same g.holds));
      };
      by_rule = λ x is. record {
        rebuilt = r.whole;
        shrinks = subst (λ u. Shrinks share all before.most (tree_of entry before) r.whole u) (sym fewer_tree) new_loss.shrinks;
        counted = let n = some_counted in omega arith;
        most_is = most_is;
      };
      refused = λ bad. let z : ◌≡◌ {A = ℕ} 0 1 = cc in absurd (omega arith);
    }

-- another item in a node leaves the tree as high as it was
height_same : {E : Type 0} (fs : List (Frame E)) (t u : Tree E) → height t ≡ height u → height (plug fs t) ≡ height (plug fs u)
height_same [] t u e = e
height_same (frame Left slot item other ∷ fs) t u e = let r = height_same fs t u e in omega arith
height_same (frame Right slot item other ∷ fs) t u e = let r = height_same fs t u e in omega arith

module _ {E S : Type 0} (empty : S) (whole : S → E → S → S) (entry : List (Node E S)) (before : Links) (s : Structured entry before) (place : ℕ) (item : E) (exit : List (Node E S)) (long : length exit ≡ length entry) (r : Swap E) (swapped : (must : Bool) (t : Tree E) → Holds must empty whole entry before.root t → Swapped must empty whole entry exit place item t r) where
  abbrev pub other_root : Links
  other_root = record { root = r.root; free = before.free; count = before.count; most = before.most }

  new_swap : Swapped false empty whole entry exit place item (tree_of entry before) r
  new_swap = swapped false (tree_of entry before) ((laid empty whole s).holds empty whole)

  abbrev swapped_tree : Tree E
  swapped_tree = plug new_swap.frames (branch new_swap.slot item new_swap.before new_swap.after)

  abbrev old_node : Tree E
  old_node = branch new_swap.slot r.item new_swap.before new_swap.after

  abbrev new_node : Tree E
  new_node = branch new_swap.slot item new_swap.before new_swap.after

  same_uses : (k : ℕ) → uses k swapped_tree ≡ uses k (tree_of entry before)
  same_uses k = let u = uses_swap k new_swap.frames new_node old_node in let e = ap (uses k) new_swap.was in omega arith

  swapped_laid : Laid exit other_root swapped_tree (spare_of entry before)
  swapped_laid =
      let l = laid empty whole s in
      let z = l.sized in
      let u = size_swap new_swap.frames new_node old_node in
      let e = ap size new_swap.was in
      let sl = l.slots in
      record {
        holds = any_sums new_swap.holds;
        chain = chain_kept l.chain (λ k used. new_swap.kept k (let o = l.once k in alone (uses k (tree_of entry before)) (count k (spare_of entry before)) used o));
        once = λ k. let o = l.once k in let x = same_uses k in omega arith;
        sized = omega arith;
        slots = omega arith;
        grown = l.grown;
        few = l.few;
        low = λ d al. let w = l.low d al in let h = height_same new_swap.frames new_node old_node refl in let x = ap height new_swap.was in omega arith;
      }
    where
      alone : (u c : ℕ) → (c ≡ 0 → ⊥) → u + c ≤ 1 → u ≡ 0
      alone u zero used o = absurd (used refl)
      alone u (suc c) used o = omega arith

  swapped_read : tree_of exit other_root ≡ swapped_tree
  swapped_read = tree_read empty whole swapped_laid

  pub replace_accepted : Replaces empty whole entry before exit other_root place item (Some r.item)
  replace_accepted = record {
    told = sym new_swap.found;
    changed = record {
      structured = ∣ record { tree = _; spare = _; laid = swapped_laid } ∣₁;
      capacity = ap (λ k. min k most_items) long;
      lists = ap items swapped_read ∙ new_swap.lists;
      right = λ h. let g = swapped true (tree_of entry before) h in let same = unique g.holds new_swap.holds in subst (Holds true empty whole exit r.root) (same ∙ sym swapped_read) g.holds;
    };
    most_is = refl;
    refused = λ bad. let z : ◌≡◌ {A = ℕ} 0 1 = cc in absurd (omega arith);
  }
