-- The first items of a branch and those from a place on, and summaries of lists that grow at one end.
use Rattle.std.proofs.Common.{◌≡◌, ℕ, suc, ◌+◌, ◌-◌, ◌<◌, ◌≤◌, Bool, true, false, List, [], ◌∷◌, ◌++◌, length, take, drop, Some, None, Option, sym, refl, ap, ◌∙◌, subst, append_assoc, arith, take_all}
use Rattle.std.proofs.Math.Seq.{take-append-add, drop-append-add}
use lib.Seq.{take-append-le, drop-append-le}
use Rattle.std.proofs.lemmas.List.{drop_all}
use Rattle.nodes.specs.declared.node.Node.{Node}
use Rattle.nodes.specs.declared.pending.Pending.{Pending}
use Rattle.nodes.specs.Tree.{Tree, leaf, branch, items, size, summary}
use Rattle.nodes.specs.Holding.{Holds, Opens}
use Rattle.nodes.specs.Summaries.{Summarizes, Ends, Begins}
use Rattle.nodes.proofs.Held.{Opened, size_is_length, held_leaf, shaped}
use Rattle.nodes.proofs.Parts.{fork_opened, fork_left, fork_right}

-- past a marked item, with one fewer for the item
module _ {X : Type 0} (xs : List X) (x : X) (ys : List X) (k : ℕ) where
  pub take_past : take (suc (length xs + k)) (xs ++ (x ∷ ys)) ≡ xs ++ (x ∷ take k ys)
  take_past = ap (λ j. take j (xs ++ (x ∷ ys))) (let e : suc (length xs + k) ≡ length xs + suc k = omega arith in e) ∙ take-append-add xs (x ∷ ys) (suc k)

  pub drop_past : drop (suc (length xs + k)) (xs ++ (x ∷ ys)) ≡ drop k ys
  drop_past = ap (λ j. drop j (xs ++ (x ∷ ys))) (let e : suc (length xs + k) ≡ length xs + suc k = omega arith in e) ∙ drop-append-add xs (x ∷ ys) (suc k)

module _ {E S : Type 0} {must : Bool} {empty : S} {whole : S → E → S → S} {nodes : List (Node E S)} {slot : ℕ} {node : Node E S} {t : Tree E} (o : Opened must empty whole nodes slot node t) (n k : ℕ) (sized : n ≡ size o.before) where
  pub front_left : k ≤ n → take k (items t) ≡ take k (items o.before)
  front_left h =
      let e = size_is_length o.before in
      ap (λ u. take k (items u)) o.is ∙ take-append-le k (items o.before) (node.item ∷ items o.after) (omega arith)

  pub front_right : n < k → take k (items t) ≡ items o.before ++ (node.item ∷ take (k - n - 1) (items o.after))
  front_right h =
      let e = size_is_length o.before in
      let j : k ≡ suc (length (items o.before) + (k - n - 1)) = omega arith in
      ap (λ u. take k (items u)) o.is ∙ ap (λ i. take i (items o.before ++ (node.item ∷ items o.after))) j ∙ take_past (items o.before) node.item (items o.after) (k - n - 1)

  pub back_left : k ≤ n → drop k (items t) ≡ drop k (items o.before) ++ (node.item ∷ items o.after)
  back_left h =
      let e = size_is_length o.before in
      ap (λ u. drop k (items u)) o.is ∙ drop-append-le k (items o.before) (node.item ∷ items o.after) (omega arith)

  pub back_right : n < k → drop k (items t) ≡ drop (k - n - 1) (items o.after)
  back_right h =
      let e = size_is_length o.before in
      let j : k ≡ suc (length (items o.before) + (k - n - 1)) = omega arith in
      ap (λ u. drop k (items u)) o.is ∙ ap (λ i. drop i (items o.before ++ (node.item ∷ items o.after))) j ∙ drop_past (items o.before) node.item (items o.after) (k - n - 1)

module _ {E S : Type 0} {empty : S} {whole : S → E → S → S} where
  pub joined_after : (done : List E) (t : Tree E) {o : Option (Pending E S)} (p : Pending E S) (part r : S) → o ≡ Some p → Ends empty whole done o → summary empty whole t ≡ part → r ≡ whole p.sum p.item part → Summarizes empty whole (done ++ items t) r
  joined_after done t {o} p part r e ends sum made =
      let s = subst (Ends empty whole done) e ends in
      record {
        tree = branch 0 p.item s.1.tree t;
        lists = ap (λ l. l ++ (p.item ∷ items t)) s.1.lists ∙ sym (append_assoc s.0 (p.item ∷ []) (items t)) ∙ ap (λ l. l ++ items t) (sym s.2);
        sums = ap (λ x. whole x p.item (summary empty whole t)) s.1.sums ∙ ap (whole p.sum p.item) sum ∙ sym made;
      }

  pub joined_before : (done : List E) (t : Tree E) {o : Option (Pending E S)} (p : Pending E S) (part r : S) → o ≡ Some p → Begins empty whole done o → summary empty whole t ≡ part → r ≡ whole part p.item p.sum → Summarizes empty whole (items t ++ done) r
  joined_before done t {o} p part r e begins sum made =
      let s = subst (Begins empty whole done) e begins in
      record {
        tree = branch 0 p.item t s.1.tree;
        lists = ap (λ l. items t ++ (p.item ∷ l)) s.1.lists ∙ ap (λ l. items t ++ l) (sym s.2);
        sums = ap (λ x. whole (summary empty whole t) p.item x) s.1.sums ∙ ap (λ x. whole x p.item p.sum) sum ∙ sym made;
      }

-- how far a walk for the first items has come: those passed, and the first of the part that are still to come
pub record Front {E S : Type 0} (empty : S) (whole : S → E → S → S) (nodes : List (Node E S)) (link : Option ℕ) (goal : List E) (passed : Option (Pending E S)) (rest : ℕ) : Type 0 where
  pub tree : Tree E
  pub held : Holds true empty whole nodes link tree
  pub done : List E
  pub ends : Ends empty whole done passed
  pub makes : goal ≡ done ++ take rest (items tree)

-- the same for the items from a place on
pub record Back {E S : Type 0} (empty : S) (whole : S → E → S → S) (nodes : List (Node E S)) (link : Option ℕ) (goal : List E) (passed : Option (Pending E S)) (rest : ℕ) : Type 0 where
  pub tree : Tree E
  pub held : Holds true empty whole nodes link tree
  pub done : List E
  pub begins : Begins empty whole done passed
  pub makes : goal ≡ drop rest (items tree) ++ done

module _ {E S : Type 0} {empty : S} {whole : S → E → S → S} {nodes : List (Node E S)} {link : Option ℕ} {goal : List E} {passed : Option (Pending E S)} {rest : ℕ} (f : Front empty whole nodes link goal passed rest) where
  pub front_end : link ≡ None → {part sum : S} → part ≡ empty → ((done : List E) (t : Tree E) → Ends empty whole done passed → summary empty whole t ≡ part → Summarizes empty whole (done ++ items t) sum) → Summarizes empty whole goal sum
  front_end e {sum = sum} none made =
      let g : goal ≡ f.done ++ [] = f.makes ∙ ap (λ u. f.done ++ take rest (items u)) (held_leaf f.held e) ∙ ap (λ l. f.done ++ l) (take_all rest [] (omega arith)) in
      subst (λ l. Summarizes empty whole l sum) (sym g) (made f.done leaf f.ends (sym none))

  module _ {lefts rights : List (Node E S)} {left right : Option ℕ} {at : ℕ} {node : Node E S} (opens : Opens nodes link at node lefts left rights right) {n : ℕ} (sized : (t : Tree E) → Holds false empty whole lefts left t → n ≡ size t) where
    pub front_to_left : rest ≤ n → Front empty whole lefts left goal passed rest
    front_to_left h =
        let o = fork_opened f.held opens in
        let l = fork_left f.held opens in
        record {
          tree = o.before;
          held = l;
          done = f.done;
          ends = f.ends;
          makes = f.makes ∙ ap (λ l. f.done ++ l) (front_left o n rest (sized _ (shaped l)) h);
        }

    -- the part before the item and the item are passed
    pub front_to_right : n < rest → {part sum : S} → ((t : Tree E) → Holds true empty whole lefts left t → part ≡ summary empty whole t) → ((done : List E) (t : Tree E) → Ends empty whole done passed → summary empty whole t ≡ part → Summarizes empty whole (done ++ items t) sum) → Front empty whole rights right goal (Some (record { sum = sum; item = node.item })) (rest - n - 1)
    front_to_right h summed made =
        let o = fork_opened f.held opens in
        let l = fork_left f.held opens in
        let B = items o.before in
        let later = take (rest - n - 1) (items o.after) in
        record {
          tree = o.after;
          held = fork_right f.held opens;
          done = f.done ++ (B ++ (node.item ∷ []));
          ends = (f.done ++ B, made f.done o.before f.ends (sym (summed _ l)), sym (append_assoc f.done B (node.item ∷ [])));
          makes = f.makes ∙ ap (λ l. f.done ++ l) (front_right o n rest (sized _ (shaped l)) h ∙ sym (append_assoc B (node.item ∷ []) later)) ∙ sym (append_assoc f.done (B ++ (node.item ∷ [])) later);
        }

module _ {E S : Type 0} {empty : S} {whole : S → E → S → S} {nodes : List (Node E S)} {link : Option ℕ} {goal : List E} {passed : Option (Pending E S)} {rest : ℕ} (f : Back empty whole nodes link goal passed rest) where
  pub back_end : link ≡ None → {part sum : S} → part ≡ empty → ((done : List E) (t : Tree E) → Begins empty whole done passed → summary empty whole t ≡ part → Summarizes empty whole (items t ++ done) sum) → Summarizes empty whole goal sum
  back_end e {sum = sum} none made =
      let g : goal ≡ f.done = f.makes ∙ ap (λ u. drop rest (items u) ++ f.done) (held_leaf f.held e) ∙ ap (λ l. l ++ f.done) (drop_all rest [] (omega arith)) in
      subst (λ l. Summarizes empty whole l sum) (sym g) (made f.done leaf f.begins (sym none))

  module _ {lefts rights : List (Node E S)} {left right : Option ℕ} {at : ℕ} {node : Node E S} (opens : Opens nodes link at node lefts left rights right) {n : ℕ} (sized : (t : Tree E) → Holds false empty whole lefts left t → n ≡ size t) where
    -- the item and the part after it are passed
    pub back_to_left : rest ≤ n → {part sum : S} → ((t : Tree E) → Holds true empty whole rights right t → part ≡ summary empty whole t) → ((done : List E) (t : Tree E) → Begins empty whole done passed → summary empty whole t ≡ part → Summarizes empty whole (items t ++ done) sum) → Back empty whole lefts left goal (Some (record { sum = sum; item = node.item })) rest
    back_to_left h summed made =
        let o = fork_opened f.held opens in
        let l = fork_left f.held opens in
        record {
          tree = o.before;
          held = l;
          done = node.item ∷ (items o.after ++ f.done);
          begins = (items o.after ++ f.done, made f.done o.after f.begins (sym (summed _ (fork_right f.held opens))), refl);
          makes = f.makes ∙ ap (λ l. l ++ f.done) (back_left o n rest (sized _ (shaped l)) h) ∙ append_assoc (drop rest (items o.before)) (node.item ∷ items o.after) f.done;
        }

    pub back_to_right : n < rest → Back empty whole rights right goal passed (rest - n - 1)
    back_to_right h =
        let o = fork_opened f.held opens in
        record {
          tree = o.after;
          held = fork_right f.held opens;
          done = f.done;
          begins = f.begins;
          makes = f.makes ∙ ap (λ l. l ++ f.done) (back_right o n rest (sized _ (shaped (fork_left f.held opens))) h);
        }
