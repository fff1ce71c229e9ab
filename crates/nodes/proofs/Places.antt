-- Where a walk to a place has come.
use Rattle.std.proofs.Common.{◌≡◌, ℕ, suc, ◌+◌, ◌-◌, ◌<◌, false, List, ◌∷◌, ◌++◌, length, Some, None, Option, refl, sym, ap, ◌∙◌, arith, length-append}
use Rattle.std.specs.List.{slice_get}
use Rattle.nodes.specs.declared.node.Node.{Node}
use Rattle.nodes.specs.Tree.{Tree, leaf, branch, items, slots, size}
use Rattle.nodes.specs.Holding.{Holds, Opens}
use Rattle.nodes.proofs.Nths.{nth_before, nth_here, nth_past}
use Rattle.nodes.proofs.Held.{size_is_length, held_leaf}
use Rattle.nodes.proofs.Parts.{fork_opened, fork_left, fork_right}

pub slots_long : {E : Type 0} (t : Tree E) → length (slots t) ≡ size t
slots_long leaf = refl
slots_long (branch slot item before after) =
    let b = slots_long before in
    let a = slots_long after in
    length-append (slots before) (slot ∷ slots after) ∙ omega arith

-- a list with a marked item, and what stands at a place before it, at it, and past it
module _ {X : Type 0} (xs : List X) (x : X) (ys : List X) (n i : ℕ) (long : length xs ≡ n) where
  at_before : i < n → slice_get (xs ++ (x ∷ ys)) i ≡ slice_get xs i
  at_before h = nth_before xs x ys i (omega arith)

  at_here : i ≡ n → slice_get (xs ++ (x ∷ ys)) i ≡ Some x
  at_here h = ap (slice_get (xs ++ (x ∷ ys))) (let k : i ≡ length xs = omega arith in k) ∙ nth_here xs x ys

  at_past : n < i → slice_get (xs ++ (x ∷ ys)) i ≡ slice_get ys (i - n - 1)
  at_past h = ap (slice_get (xs ++ (x ∷ ys))) (let k : i ≡ suc (length xs + (i - n - 1)) = omega arith in k) ∙ nth_past xs x ys (i - n - 1)

-- what is asked for stands at the place `rest` of the part
pub record Place {E S : Type 0} (empty : S) (whole : S → E → S → S) (nodes : List (Node E S)) (link : Option ℕ) (rest : ℕ) (item : Option E) (slot : Option ℕ) : Type 0 where
  pub tree : Tree E
  pub held : Holds false empty whole nodes link tree
  pub item_there : item ≡ slice_get (items tree) rest
  pub slot_there : slot ≡ slice_get (slots tree) rest

module _ {E S : Type 0} {empty : S} {whole : S → E → S → S} {nodes : List (Node E S)} {link : Option ℕ} {rest : ℕ} {item : Option E} {slot : Option ℕ} (p : Place empty whole nodes link rest item slot) where
  pub place_none : link ≡ None → (None ≡ item) × (None ≡ slot)
  place_none e =
      let none = held_leaf p.held e in
      (sym (p.item_there ∙ ap (λ u. slice_get (items u) rest) none), sym (p.slot_there ∙ ap (λ u. slice_get (slots u) rest) none))

  module _ {lefts rights : List (Node E S)} {left right : Option ℕ} {at : ℕ} {node : Node E S} (f : Opens nodes link at node lefts left rights right) {n : ℕ} (sized : (t : Tree E) → Holds false empty whole lefts left t → n ≡ size t) where
    pub place_left : rest < n → Place empty whole lefts left rest item slot
    place_left h =
        let o = fork_opened p.held f in
        let s = sized _ (fork_left p.held f) in
        record {
          tree = o.before;
          held = fork_left p.held f;
          item_there = p.item_there ∙ ap (λ u. slice_get (items u) rest) o.is ∙ at_before (items o.before) node.item (items o.after) n rest (size_is_length o.before ∙ sym s) h;
          slot_there = p.slot_there ∙ ap (λ u. slice_get (slots u) rest) o.is ∙ at_before (slots o.before) at (slots o.after) n rest (slots_long o.before ∙ sym s) h;
        }

    pub place_here : rest ≡ n → (Some node.item ≡ item) × (Some at ≡ slot)
    place_here h =
        let o = fork_opened p.held f in
        let s = sized _ (fork_left p.held f) in (
          sym (p.item_there ∙ ap (λ u. slice_get (items u) rest) o.is ∙ at_here (items o.before) node.item (items o.after) n rest (size_is_length o.before ∙ sym s) h),
          sym (p.slot_there ∙ ap (λ u. slice_get (slots u) rest) o.is ∙ at_here (slots o.before) at (slots o.after) n rest (slots_long o.before ∙ sym s) h),
        )

    pub place_right : n < rest → Place empty whole rights right (rest - n - 1) item slot
    place_right h =
        let o = fork_opened p.held f in
        let s = sized _ (fork_left p.held f) in
        record {
          tree = o.after;
          held = fork_right p.held f;
          item_there = p.item_there ∙ ap (λ u. slice_get (items u) rest) o.is ∙ at_past (items o.before) node.item (items o.after) n rest (size_is_length o.before ∙ sym s) h;
          slot_there = p.slot_there ∙ ap (λ u. slice_get (slots u) rest) o.is ∙ at_past (slots o.before) at (slots o.after) n rest (slots_long o.before ∙ sym s) h;
        }
