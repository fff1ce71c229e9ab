-- Rebuilding at the nearest heavy ancestor brings the tree back to its depth.
use Rattle.std.proofs.Common.{◌≡◌, ℕ, zero, suc, ◌+◌, ◌-◌, ◌*◌, ◌^◌, ◌<◌, ◌≤◌, max, Bool, List, [], ◌∷◌, ◌++◌, length, take, drop, Some, Option, sym, ap, ◌∙◌, pow-suc, arith, length-take, pow_mono}
use native.Mathlib.Decide.{dec_le}
use Rattle.nodes.specs.Tree.{Tree, leaf, branch, items, size, height}
use Rattle.nodes.specs.declared.node.Node.{Node}
use Rattle.nodes.specs.Holding.{Holds}
use Rattle.nodes.proofs.Held.{size_is_length}
use Rattle.changes.specs.Inserted.{inserted}
use Rattle.changes.specs.declared.path.Side.TheVariants.{Left, Right}
use Rattle.changes.specs.Frames.{Frame, frame, plug, ahead, behind}
use Rattle.changes.proofs.Framing.{height_plug, size_plug, items_plug}
use Rattle.changes.proofs.Growths.{size_swap}
use Rattle.balance.proofs.Sides.{more_than_half}
use Rattle.scapegoat.specs.Heavy.{size_from, Heavy, Nearest}
use Rattle.scapegoat.specs.Renewed.{Renewed}
use Rattle.scapegoat.specs.Growth.{Settled}
use Rattle.scapegoat.proofs.Renewals.{plug_cut}

pow_max_left : (x y : ℕ) → 2 ^ x ≤ 2 ^ max x y
pow_max_left x y = pow_mono {i = x} {j = max x y} (omega arith)

pow_max_right : (x y : ℕ) → 2 ^ y ≤ 2 ^ max x y
pow_max_right x y = pow_mono {i = y} {j = max x y} (omega arith)

-- a tree of so many levels has fewer items than that power of two
pub full : {E : Type 0} (t : Tree E) → size t + 1 ≤ 2 ^ height t
full leaf = omega arith
full (branch slot item before after) =
    let b = full before in
    let a = full after in
    let l = pow_max_left (height before) (height after) in
    let r = pow_max_right (height before) (height after) in
    let p = pow-suc 2 (max (height before) (height after)) in
    omega arith

-- with another part in the hole, a tree is no deeper than before or than that part makes it
pub height_bound : {E : Type 0} (fs : List (Frame E)) (t u : Tree E) (b : ℕ) → height (plug fs t) ≤ b → length fs + height u ≤ b → height (plug fs u) ≤ b
height_bound [] t u b h w = omega arith
height_bound (frame Left slot item other ∷ fs) t u zero h w = absurd (omega arith)
height_bound (frame Right slot item other ∷ fs) t u zero h w = absurd (omega arith)
height_bound (frame Left slot item other ∷ fs) t u (suc b) h w = let r = height_bound fs t u b (omega arith) (omega arith) in omega arith
height_bound (frame Right slot item other ∷ fs) t u (suc b) h w = let r = height_bound fs t u b (omega arith) (omega arith) in omega arith

pub low_by_pow : (a b : ℕ) → 2 ^ a < 2 ^ suc b → a ≤ b
low_by_pow a b h = go (dec_le a b)
  where
    go : Dec (a ≤ b) → a ≤ b
    go (yes l) = l
    go (no far) = let m : 2 ^ suc b ≤ 2 ^ a = pow_mono {i = suc b} {j = a} (omega arith) in absurd (omega arith)

-- a ratio of at least a half: the rebuilt part is low enough, since its child on the way was nearly full
pub rebuilt_low : {E : Type 0} (a b : ℕ) → b ≤ 2 * a → (frames : List (Frame E)) (slot : ℕ) (item : E) (new : Tree E) (k top : ℕ) → height (plug frames leaf) ≤ top → length frames ≡ top → k < length frames → Heavy a b k frames (branch slot item leaf leaf) → size new ≡ size_from k frames (branch slot item leaf leaf) → (1 ≤ size new → 2 ^ height new ≤ 2 * size new) → height (plug (take k frames) new) ≤ top
rebuilt_low a b ratio frames slot item new k top low long on heavy sized flat =
    let y = plug (drop (suc k) frames) leaf in
    let above = length-take (suc k) frames in
    let whole = height_plug (take (suc k) frames) y in
    let same = ap height (plug_cut (suc k) frames leaf) in
    let deep : suc k + height y ≤ top = omega arith in
    let few = full y in
    let swap = size_swap (drop (suc k) frames) (branch slot item leaf leaf) leaf in
    let half = more_than_half a b (size_from k frames (branch slot item leaf leaf)) (size_from (suc k) frames (branch slot item leaf leaf)) ratio heavy in
    let d = top - suc k in
    let power : 2 ^ height y ≤ 2 ^ d = pow_mono {i = height y} {j = d} (omega arith) in
    let p = pow-suc 2 d in
    let q = pow-suc 2 (suc d) in
    let more = size_plug (drop k frames) (branch slot item leaf leaf) in
    let some : 1 ≤ size new = omega arith in
    let h = flat some in
    let l : height new ≤ suc d = low_by_pow (height new) (suc d) (omega arith) in
    let cut = length-take k frames in
    height_bound (take k frames) (plug (drop k frames) leaf) new top (rw (plug_cut k frames leaf) low) (omega arith)

-- the three ways of the rule leave a tree with the item that is no deeper than allowed
module _ {E S : Type 0} {must : Bool} {empty : S} {whole : S → E → S → S} {exit : List (Node E S)} {root : Option ℕ} (frames : List (Frame E)) (slot place : ℕ) (item : E) (allowed : ℕ) (t : Tree E) (was : plug frames leaf ≡ t) (lists : items (plug frames (branch slot item leaf leaf)) ≡ inserted place item (items t)) where
  pub settle_leaf : length frames ≤ allowed → Holds must empty whole exit root (plug frames (branch slot item leaf leaf)) → height t ≤ suc allowed → Settled must empty whole exit place item allowed t root
  settle_leaf short h low = record { new = plug frames (branch slot item leaf leaf); holds = h; lists = lists; low = height_bound frames leaf (branch slot item leaf leaf) (suc allowed) (rw was low) (omega arith) }

  pub settle_rebuilt : {entry : List (Node E S)} (k : ℕ) → allowed < length frames → Nearest 2 3 frames (branch slot item leaf leaf) (Some k) → Renewed must empty whole entry exit frames (branch slot item leaf leaf) k root → height t ≤ suc allowed → Settled must empty whole exit place item allowed t root
  settle_rebuilt k deep near r low =
      let p = height_plug frames leaf in
      let q = ap height was in
      let sized : size r.new ≡ size_from k frames (branch slot item leaf leaf) = sym (size_is_length r.new) ∙ ap length r.items_are ∙ size_is_length (plug (drop k frames) (branch slot item leaf leaf)) in
      record {
        new = plug (take k frames) r.new;
        holds = r.holds;
        lists = items_plug (take k frames) r.new ∙ ap (λ l. ahead (take k frames) ++ (l ++ behind (take k frames))) r.items_are ∙ sym (items_plug (take k frames) (plug (drop k frames) (branch slot item leaf leaf))) ∙ ap items (plug_cut k frames (branch slot item leaf leaf)) ∙ lists;
        low = rebuilt_low 2 3 (omega arith) frames slot item r.new k (suc allowed) (rw was low) (omega arith) near.0 near.1 sized r.low;
      }
