-- What is known of a tree that a slice holds.
use Rattle.std.proofs.Common.{◌≡◌, ℕ, zero, suc, ◌+◌, ◌<◌, ◌≤◌, Bool, true, false, List, ◌∷◌, length, Some, None, Option, sym, refl, ap, ◌∙◌, subst, arith, length-append}
use Rattle.nodes.specs.declared.node.Node.{Node}
use Rattle.nodes.specs.Tree.{Tree, leaf, branch, items, size, height, summary}
use Rattle.std.specs.List.{slice_get}
use Rattle.nodes.specs.Holding.{size_at, stored_size, tree_at, grown, Holds, nothing, part}
use Rattle.nodes.proofs.Nths.{nth_same, nth_within}

pub size_is_length : {E : Type 0} (t : Tree E) → length (items t) ≡ size t
size_is_length leaf = refl
size_is_length (branch slot item before after) =
    let b = size_is_length before in
    let a = size_is_length after in
    length-append (items before) (item ∷ items after) ∙ omega arith

-- the parts of a tree whose root node was read
pub record Opened {E S : Type 0} (must : Bool) (empty : S) (whole : S → E → S → S) (nodes : List (Node E S)) (slot : ℕ) (node : Node E S) (t : Tree E) : Type 0 where
  pub before : Tree E
  pub after : Tree E
  pub is : t ≡ branch slot node.item before after
  pub left : Holds must empty whole nodes node.left before
  pub right : Holds must empty whole nodes node.right after
  pub sized : node.size ≡ suc (size before + size after)
  pub summed : must ≡ true → node.sum ≡ whole (summary empty whole before) node.item (summary empty whole after)

module _ {E S : Type 0} {empty : S} {whole : S → E → S → S} {nodes : List (Node E S)} where
  held_none : {must : Bool} {t : Tree E} → Holds must empty whole nodes None t → t ≡ leaf
  held_none nothing = refl

  pub held_leaf : {must : Bool} {link : Option ℕ} {t : Tree E} → Holds must empty whole nodes link t → link ≡ None → t ≡ leaf
  held_leaf {must} {link} {t} h e = held_none (subst (λ o. Holds must empty whole nodes o t) e h)

  held_read : {must : Bool} {i : ℕ} {t : Tree E} → Holds must empty whole nodes (Some i) t → (node : Node E S) × (slice_get nodes i ≡ Some node)
  held_read (part node at left right sized summed) = (node, at)

  pub held_within : {must : Bool} {link : Option ℕ} {t : Tree E} → Holds must empty whole nodes link t → (i : ℕ) → link ≡ Some i → i < length nodes
  held_within {must} {link} {t} h i e =
      let r = held_read (subst (λ o. Holds must empty whole nodes o t) e h) in
      nth_within nodes i r.0 r.1

  open_some : {must : Bool} {i : ℕ} {t : Tree E} → Holds must empty whole nodes (Some i) t → (node : Node E S) → slice_get nodes i ≡ Some node → Opened must empty whole nodes i node t
  open_some {must} {i} (part {before} {after} node at left right sized summed) node' at' =
      subst (λ n. Opened must empty whole nodes i n (branch i node.item before after)) (nth_same nodes i node node' at at')
      (record { before = before; after = after; is = refl; left = left; right = right; sized = sized; summed = summed })

  pub opened : {must : Bool} {link : Option ℕ} {t : Tree E} → Holds must empty whole nodes link t → (i : ℕ) → link ≡ Some i → (node : Node E S) → slice_get nodes i ≡ Some node → Opened must empty whole nodes i node t
  opened {must} {link} {t} h i e node at = open_some (subst (λ o. Holds must empty whole nodes o t) e h) node at

  pub shaped : {must : Bool} {link : Option ℕ} {t : Tree E} → Holds must empty whole nodes link t → Holds false empty whole nodes link t
  shaped nothing = nothing
  shaped (part node at left right sized summed) = part node at (shaped left) (shaped right) sized (λ e. cc)

  -- a slice holds at most one tree at a link
  pub unique : {m n : Bool} {link : Option ℕ} {t u : Tree E} → Holds m empty whole nodes link t → Holds n empty whole nodes link u → t ≡ u
  unique nothing h = sym (held_none h)
  unique (part {slot} {before} {after} node at left right sized summed) h =
      let o = open_some h node at in
      ap (λ b. branch slot node.item b after) (unique left o.left) ∙ ap (λ a. branch slot node.item o.before a) (unique right o.right) ∙ sym o.is

  pub same_tree : {m n : Bool} {link : Option ℕ} {t u : Tree E} → Holds m empty whole nodes link t → Holds n empty whole nodes link u → Holds m empty whole nodes link u
  same_tree {m} {link = link} h k = subst (Holds m empty whole nodes link) (unique h k) h

  pub stored_right : {must : Bool} {link : Option ℕ} {t : Tree E} → Holds must empty whole nodes link t → size_at nodes link ≡ size t
  stored_right nothing = refl
  stored_right (part node at left right sized summed) = ap stored_size at ∙ sized

-- reading the slice to the depth of a held tree, or deeper, gives that tree
pub read_back : {E S : Type 0} {must : Bool} {empty : S} {whole : S → E → S → S} {nodes : List (Node E S)} {link : Option ℕ} {t : Tree E} (depth : ℕ) → Holds must empty whole nodes link t → height t ≤ depth → tree_at depth nodes link ≡ t
read_back zero nothing h = refl
read_back (suc depth) nothing h = refl
read_back zero (part node at left right sized summed) h = absurd (omega arith)
read_back {nodes = nodes} (suc depth) (part {slot} {before} {after} node at left right sized summed) h =
    ap (λ o. grown slot o (tree_at depth nodes)) at
    ∙ ap (λ b. branch slot node.item b (tree_at depth nodes node.right)) (read_back depth left (omega arith))
    ∙ ap (λ a. branch slot node.item before a) (read_back depth right (omega arith))

pub height_size : {E : Type 0} (t : Tree E) → height t ≤ size t
height_size leaf = omega arith
height_size (branch slot item before after) = let b = height_size before in let a = height_size after in omega arith
