-- Rebuilding at the nearest heavy ancestor brings the tree back to its depth.
use Rattle.std.proofs.Common.{◌≡◌, ℕ, zero, suc, ◌+◌, ◌*◌, ◌^◌, ◌<◌, ◌≤◌, cond, eqb, List, ◌++◌, length, take, drop, sym, ap, ◌∙◌, subst, arith}
use Rattle.std.proofs.lemmas.Bool.Decides.{nat_tests}
use native.Mathlib.Decide.{dec_le}
use Rattle.nodes.specs.Tree.{Tree, leaf, branch, items, slots, size, height, uses}
use Rattle.nodes.proofs.Held.{size_is_length, height_size}
use Rattle.changes.specs.Frames.{Frame, plug, ahead, behind}
use Rattle.changes.specs.Chains.{count}
use Rattle.changes.proofs.Framing.{height_plug, items_plug, uses_plug}
use Rattle.changes.proofs.Growths.{uses_swap}
use Rattle.rebuild.proofs.Ranges.{uses_count}
use Rattle.balance.specs.Allowances.{Allowance}
use Rattle.balance.proofs.Sides.{allowance_one, halves_allowed}
use Rattle.scapegoat.specs.Heavy.{size_from, Heavy}
use Rattle.upkeep.specs.Growth.{Within}
use Rattle.scapegoat.proofs.Depths.{height_bound, rebuilt_low}
use Rattle.scapegoat.proofs.Renewals.{plug_cut}

-- a tree as low as can be is within the allowance of its own count
pub flat_within : {E : Type 0} (a b : ℕ) → b ≤ 2 * a → (t : Tree E) → (1 ≤ size t → 2 ^ height t ≤ 2 * size t) → Within a b (size t) t
flat_within a b ratio t flat d al = go (dec_le 1 (size t))
  where
    go : Dec (1 ≤ size t) → height t ≤ suc d
    go (yes h) = halves_allowed a b (size t) d (height t) ratio (flat h) al
    go (no h) = let l = height_size t in omega arith

not_first : (k x y : ℕ) → cond (eqb (suc k) 0) x y ≡ y
not_first k x y = grind (arith, nat_tests)

-- a new leaf, and a part that is rebuilt around it
module _ {E : Type 0} (a b m d : ℕ) (al : Allowance a b m d) (frames : List (Frame E)) (slot : ℕ) (item : E) (t : Tree E) (was : plug frames leaf ≡ t) (low : Within a b m t) where
  pub leaf_within : length frames ≤ d → Within a b m (plug frames (branch slot item leaf leaf))
  leaf_within short e al' =
      let s = allowance_one a b m d e al al' in
      height_bound frames leaf (branch slot item leaf leaf) (suc e) (rw was (low e al')) (omega arith)

  pub part_within : b ≤ 2 * a → d < length frames → (k : ℕ) (new : Tree E) → k < length frames → Heavy a b k frames (branch slot item leaf leaf) → size new ≡ size_from k frames (branch slot item leaf leaf) → (1 ≤ size new → 2 ^ height new ≤ 2 * size new) → Within a b (cond (eqb k 0) (size (plug (take k frames) new)) m) (plug (take k frames) new)
  part_within ratio deep zero new on heavy sized flat e al' = flat_within a b ratio new flat e al'
  part_within ratio deep (suc k) new on heavy sized flat e al' =
      let same : Allowance a b m e = subst (λ n. Allowance a b n e) (not_first k (size (plug (take (suc k) frames) new)) m) al' in
      let s = allowance_one a b m d e al same in
      let p = height_plug frames leaf in
      let q = ap height was in
      let l = low e same in
      rebuilt_low a b ratio frames slot item new (suc k) (suc e) (rw was (low e same)) (omega arith) on heavy sized flat

-- a rebuilt part keeps the list and the slots of the whole
module _ {E : Type 0} (frames : List (Frame E)) (k : ℕ) (t new : Tree E) where
  pub part_lists : items new ≡ items (plug (drop k frames) t) → items (plug (take k frames) new) ≡ items (plug frames t)
  part_lists same =
      items_plug (take k frames) new
      ∙ ap (λ l. ahead (take k frames) ++ (l ++ behind (take k frames))) same
      ∙ sym (items_plug (take k frames) (plug (drop k frames) t))
      ∙ ap items (plug_cut k frames t)

  pub part_used : slots new ≡ slots (plug (drop k frames) t) → (j : ℕ) → uses j (plug (take k frames) new) ≡ uses j (plug frames t)
  part_used same j =
      let x = uses_plug j (take k frames) new in
      let y = uses_plug j (take k frames) (plug (drop k frames) t) in
      let z = ap (uses j) (plug_cut k frames t) in
      let u : uses j new ≡ uses j (plug (drop k frames) t) = uses_count j new ∙ ap (count j) same ∙ sym (uses_count j (plug (drop k frames) t)) in
      omega arith

  pub part_sized : items new ≡ items (plug (drop k frames) t) → size new ≡ size_from k frames t
  part_sized same = sym (size_is_length new) ∙ ap length same ∙ size_is_length (plug (drop k frames) t)

one_leaf : {E : Type 0} (j slot : ℕ) (item : E) → uses {E = E} j (branch slot item leaf leaf) ≡ cond (eqb j slot) 1 0
one_leaf j slot item = omega arith

pub leaf_used : {E : Type 0} (frames : List (Frame E)) (slot : ℕ) (item : E) (t : Tree E) → plug frames leaf ≡ t → (j : ℕ) → uses j (plug frames (branch slot item leaf leaf)) ≡ cond (eqb j slot) 1 0 + uses j t
leaf_used frames slot item t was j =
    let s = uses_swap j frames (branch slot item leaf leaf) leaf in
    let e = ap (uses j) was in
    let o = one_leaf j slot item in
    omega arith
