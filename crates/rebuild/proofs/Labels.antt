-- The slots of a held tree have its items.
use Rattle.std.proofs.Common.{◌≡◌, ℕ, zero, suc, Bool, List, [], ◌∷◌, ◌++◌, length, Some, Option, sym, ap, ◌∙◌, arith}
use Rattle.nodes.specs.declared.node.Node.{Node}
use Rattle.nodes.specs.Tree.{Tree, items, slots}
use Rattle.std.specs.List.{slice_get}
use Rattle.nodes.specs.Holding.{Holds, nothing, part}
use Rattle.nodes.proofs.Held.{size_is_length}
use Rattle.nodes.proofs.Places.{slots_long}
use Rattle.rebuild.specs.Shapes.{Labelled}

module _ {E S : Type 0} (nodes : List (Node E S)) where
  label_append : (ss : List ℕ) (xs : List E) (ts : List ℕ) (ys : List E) → length ss ≡ length xs → Labelled nodes ss xs → Labelled nodes ts ys → Labelled nodes (ss ++ ts) (xs ++ ys)
  label_append [] [] ts ys e a b = b
  label_append [] (x ∷ xs) ts ys e a b = absurd (omega arith)
  label_append (s ∷ ss) [] ts ys e a b = absurd (omega arith)
  label_append (s ∷ ss) (x ∷ xs) ts ys e a b = λ j slot y there item. go j slot y there item (label_append ss xs ts ys (omega arith) (λ i slot y there item. a (suc i) slot y there item) b)
    where
      go : (j slot : ℕ) (y : E) → slice_get (s ∷ (ss ++ ts)) j ≡ Some slot → slice_get (x ∷ (xs ++ ys)) j ≡ Some y → Labelled nodes (ss ++ ts) (xs ++ ys) → (node : Node E S) × (slice_get nodes slot ≡ Some node) × (node.item ≡ y)
      go zero slot y there item rest = a zero slot y there item
      go (suc j) slot y there item rest = rest j slot y there item

  label_one : (slot : ℕ) (node : Node E S) → slice_get nodes slot ≡ Some node → (ts : List ℕ) (ys : List E) → Labelled nodes ts ys → Labelled nodes (slot ∷ ts) (node.item ∷ ys)
  label_one slot node at ts ys b zero s y there item =
      let e : slot ≡ s = cc in
      let f : node.item ≡ y = cc in
      (node, ap (slice_get nodes) (sym e) ∙ at, f)
  label_one slot node at ts ys b (suc j) s y there item = b j s y there item

pub labelled_tree : {E S : Type 0} {empty : S} {whole : S → E → S → S} {nodes : List (Node E S)} {must : Bool} {link : Option ℕ} {t : Tree E} → Holds must empty whole nodes link t → Labelled nodes (slots t) (items t)
labelled_tree nothing = λ j slot x there item. let z : ◌≡◌ {A = ℕ} 0 1 = cc in absurd (omega arith)
labelled_tree {nodes = nodes} (part {slot} {before} {after} node at left right sized summed) =
    label_append nodes (slots before) (items before) (slot ∷ slots after) (node.item ∷ items after) (slots_long before ∙ sym (size_is_length before)) (labelled_tree left) (label_one nodes slot node at (slots after) (items after) (labelled_tree right))
