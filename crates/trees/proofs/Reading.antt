-- The structure of a tree, as its slice tells it.
use Rattle.std.proofs.Common.{◌≡◌, ℕ, zero, suc, ◌+◌, ◌<◌, ◌≤◌, false, List, [], ◌∷◌, length, Some, None, Option, refl, ap, ◌∙◌, subst, arith}
use mathlib.Core.Logic.{∥∥₁_elim, ∥∥₁_map}
use native.Mathlib.Bridge.{le_prop}
use native.Mathlib.Nat.{ℕ_set}
use Rattle.std.specs.List.{slice_get}
use Rattle.nodes.specs.declared.node.Node.{Node}
use Rattle.nodes.specs.Tree.{Tree, size, height, uses}
use Rattle.nodes.specs.Holding.{Holds, nothing, part, Shaped, tree_at, grown}
use Rattle.nodes.proofs.Nths.{nth_within}
use Rattle.nodes.proofs.Held.{opened, read_back, height_size, size_is_length}
use Rattle.changes.specs.Chains.{Chain, ends, links as linked, count}
use Rattle.trees.specs.declared.links.Links.{Links}
use Rattle.trees.specs.Structures.{tree_of, listed, capacity_of, Laid, Structured}

-- some tree at a link, no higher than a depth
record SomeTree {E S : Type 0} (empty : S) (whole : S → E → S → S) (nodes : List (Node E S)) (link : Option ℕ) (depth : ℕ) : Type 0 where
  tree : Tree E
  holds : Holds false empty whole nodes link tree
  low : height tree ≤ depth

module _ {E S : Type 0} {empty : S} {whole : S → E → S → S} {nodes : List (Node E S)} where
  below : {slot depth : ℕ} {node : Node E S} → slice_get nodes slot ≡ Some node → SomeTree empty whole nodes (Some slot) (suc depth) → SomeTree empty whole nodes node.left depth × SomeTree empty whole nodes node.right depth × (node.size ≡ suc (size (tree_at depth nodes node.left) + size (tree_at depth nodes node.right)))
  below {slot} {depth} {node} at s =
      let o = opened s.holds slot refl node at in
      let h = ap height o.is in
      let l = s.low in
      let left : height o.before ≤ depth = omega arith in
      let right : height o.after ≤ depth = omega arith in
      let a = ap size (read_back depth o.left left) in
      let b = ap size (read_back depth o.right right) in
      let z = o.sized in
      (record { tree = o.before; holds = o.left; low = left }, record { tree = o.after; holds = o.right; low = right }, omega arith)

  no_tree : {slot : ℕ} → SomeTree empty whole nodes (Some slot) 0 → ⊥
  no_tree s = go s.holds s.low
    where
      go : {slot : ℕ} {t : Tree E} → Holds false empty whole nodes (Some slot) t → height t ≤ 0 → ⊥
      go (part node at left right sized summed) l = omega arith

  no_node : {slot depth : ℕ} → slice_get nodes slot ≡ None → SomeTree empty whole nodes (Some slot) depth → ⊥
  no_node {slot} none s = go s.holds
    where
      go : {t : Tree E} → Holds false empty whole nodes (Some slot) t → ⊥
      go (part node at left right sized summed) = let z : ◌≡◌ {A = ℕ} 0 1 = cc in omega arith

  -- what is read off to a depth is held
  held_again : (depth : ℕ) (link : Option ℕ) → ∥ SomeTree empty whole nodes link depth ∥₁ → Holds false empty whole nodes link (tree_at depth nodes link)
  held_again zero None s = nothing
  held_again (suc depth) None s = nothing
  held_again zero (Some slot) s = absurd (∥∥₁_elim s (λ x y. absurd x) no_tree)
  held_again (suc depth) (Some slot) s = go (slice_get nodes slot) refl (held_again depth)
    where
      go : (o : Option (Node E S)) → slice_get nodes slot ≡ o → ((link : Option ℕ) → ∥ SomeTree empty whole nodes link depth ∥₁ → Holds false empty whole nodes link (tree_at depth nodes link)) → Holds false empty whole nodes (Some slot) (grown slot o (tree_at depth nodes))
      go None none ih = absurd (∥∥₁_elim s (λ x y. absurd x) (no_node none))
      go (Some node) at ih =
          part node at
          (ih node.left (∥∥₁_map s (λ t. (below at t).0)))
          (ih node.right (∥∥₁_map s (λ t. (below at t).1)))
          (∥∥₁_elim s (ℕ_set _ _) (λ t. (below at t).2))
          (λ e. cc)

-- the chain of free slots, read off to a length
abbrev chained : {E S : Type 0} → ℕ → Option (Node E S) → (Option ℕ → List ℕ) → List ℕ
chained slot None at_link = []
chained slot (Some node) at_link = slot ∷ at_link node.left

abbrev pub chain_at : {E S : Type 0} → ℕ → List (Node E S) → Option ℕ → List ℕ
chain_at zero nodes link = []
chain_at (suc n) nodes None = []
chain_at (suc n) nodes (Some slot) = chained slot (slice_get nodes slot) (chain_at n nodes)

record SomeChain {E S : Type 0} (nodes : List (Node E S)) (link : Option ℕ) (n : ℕ) : Type 0 where
  list : List ℕ
  chain : Chain nodes link list
  short : length list ≤ n

module _ {E S : Type 0} {nodes : List (Node E S)} where
  chain_back : (n : ℕ) {link : Option ℕ} {list : List ℕ} → Chain nodes link list → length list ≤ n → chain_at n nodes link ≡ list
  chain_back zero ends h = refl
  chain_back (suc n) ends h = refl
  chain_back zero (linked node at more) h = absurd (omega arith)
  chain_back (suc n) (linked {slot} {rest} node at more) h = ap (λ o. chained slot o (chain_at n nodes)) at ∙ ap (λ l. slot ∷ l) (chain_back n more (omega arith))

  pub chain_node : {slot : ℕ} {list : List ℕ} → Chain nodes (Some slot) list → (node : Node E S) → slice_get nodes slot ≡ Some node → (rest : List ℕ) × (list ≡ slot ∷ rest) × Chain nodes node.left rest
  chain_node {slot} (linked {rest = rest} node at more) node' at' = let same : node ≡ node' = cc in (rest, refl, subst (λ n. Chain nodes n.left rest) same more)

  chain_there : {slot : ℕ} {list : List ℕ} → Chain nodes (Some slot) list → (node : Node E S) × (slice_get nodes slot ≡ Some node)
  chain_there (linked node at more) = (node, at)

  pub chain_within : {slot : ℕ} {list : List ℕ} {link : Option ℕ} → Chain nodes link list → link ≡ Some slot → slot < length nodes
  chain_within {slot} {list} c e = let t = chain_there (subst (λ o. Chain nodes o list) e c) in nth_within nodes slot t.0 t.1

  pub chain_none : {list : List ℕ} {link : Option ℕ} → Chain nodes link list → link ≡ None → list ≡ []
  chain_none ends e = refl
  chain_none (linked node at more) e = cc

  later_chain : {slot n : ℕ} {node : Node E S} → slice_get nodes slot ≡ Some node → SomeChain nodes (Some slot) (suc n) → SomeChain nodes node.left n
  later_chain {node = node} at s =
      let c = chain_node s.chain node at in
      let h = ap length c.1 in
      let l = s.short in
      record { list = c.0; chain = c.2; short = omega arith }

  no_chain : {slot : ℕ} → SomeChain nodes (Some slot) 0 → ⊥
  no_chain s =
      let t = chain_there s.chain in
      let c = chain_node s.chain t.0 t.1 in
      let h = ap length c.1 in
      let l = s.short in
      omega arith

  no_link : {slot n : ℕ} → slice_get nodes slot ≡ None → SomeChain nodes (Some slot) n → ⊥
  no_link none s = let t = chain_there s.chain in let e = t.1 in let z : ◌≡◌ {A = ℕ} 0 1 = cc in omega arith

  chain_again : (n : ℕ) (link : Option ℕ) → ∥ SomeChain nodes link n ∥₁ → Chain nodes link (chain_at n nodes link)
  chain_again zero None s = ends
  chain_again (suc n) None s = ends
  chain_again zero (Some slot) s = absurd (∥∥₁_elim s (λ x y. absurd x) no_chain)
  chain_again (suc n) (Some slot) s = go (slice_get nodes slot) refl (chain_again n)
    where
      go : (o : Option (Node E S)) → slice_get nodes slot ≡ o → ((link : Option ℕ) → ∥ SomeChain nodes link n ∥₁ → Chain nodes link (chain_at n nodes link)) → Chain nodes (Some slot) (chained slot o (chain_at n nodes))
      go None none ih = absurd (∥∥₁_elim s (λ x y. absurd x) (no_link none))
      go (Some node) at ih = linked node at (ih node.left (∥∥₁_map s (later_chain at)))

-- the free slots, as the slice tells them
abbrev pub spare_of : {E S : Type 0} → List (Node E S) → Links → List ℕ
spare_of nodes links = chain_at (length nodes) nodes links.free

spare_read : {E S : Type 0} {nodes : List (Node E S)} {links : Links} {t : Tree E} {spare : List ℕ} → Laid nodes links t spare → spare_of nodes links ≡ spare
spare_read {nodes = nodes} l = let n = l.slots in chain_back (length nodes) l.chain (omega arith)

module _ {E S : Type 0} (empty : S) (whole : S → E → S → S) {nodes : List (Node E S)} {links : Links} where
  -- the tree that the slice tells is the one that lies in it
  pub tree_read : {t : Tree E} {spare : List ℕ} → Laid nodes links t spare → tree_of nodes links ≡ t
  tree_read {t} l =
      let h = height_size t in
      let s = l.sized in
      let n = l.slots in
      read_back (length nodes) (l.holds empty whole) (omega arith)

  -- a structure that is somewhere there is the one that the slice tells
  pub laid : Structured nodes links → Laid nodes links (tree_of nodes links) (spare_of nodes links)
  laid s = record {
    holds = λ e w. held_again (length nodes) links.root (∥∥₁_map s (λ x. let h = height_size x.tree in let z = x.laid.sized in let n = x.laid.slots in record { tree = x.tree; holds = x.laid.holds e w; low = omega arith }));
    chain = chain_again (length nodes) links.free (∥∥₁_map s (λ x. let n = x.laid.slots in record { list = x.spare; chain = x.laid.chain; short = omega arith }));
    once = λ k. ∥∥₁_elim s le_prop (λ x. let o = x.laid.once k in let a = ap (uses k) (tree_read x.laid) in let b = ap (count k) (spare_read x.laid) in omega arith);
    sized = ∥∥₁_elim s (ℕ_set _ _) (λ x. ap size (tree_read x.laid) ∙ x.laid.sized);
    slots = ∥∥₁_elim s (ℕ_set _ _) (λ x. let n = x.laid.slots in let b = ap length (spare_read x.laid) in omega arith);
    grown = ∥∥₁_elim s le_prop (λ x. x.laid.grown);
    few = ∥∥₁_elim s le_prop (λ x. x.laid.few);
    low = λ d al. ∥∥₁_elim s le_prop (λ x. let l = x.laid.low d al in let a = ap height (tree_read x.laid) in omega arith);
  }

  pub shaped_by : Structured nodes links → Shaped empty whole nodes links.root
  shaped_by s = record { tree = tree_of nodes links; holds = (laid s).holds empty whole }

  pub counted_by : Structured nodes links → length (listed nodes links) ≡ links.count
  counted_by s = size_is_length (tree_of nodes links) ∙ (laid s).sized

  pub count_within : Structured nodes links → length (listed nodes links) ≤ capacity_of nodes
  count_within s =
      let l = laid s in
      let c = counted_by s in
      let n = l.slots in
      let a = l.grown in
      let b = l.few in
      omega arith

-- a tree of right sizes stands whatever summaries are asked for
pub any_sums : {E S : Type 0} {empty : S} {whole : S → E → S → S} {nodes : List (Node E S)} {link : Option ℕ} {t : Tree E} → Holds false empty whole nodes link t → (empty' : S) (whole' : S → E → S → S) → Holds false empty' whole' nodes link t
any_sums nothing e w = nothing
any_sums (part node at left right sized summed) e w = part node at (any_sums left e w) (any_sums right e w) sized (λ x. cc)
