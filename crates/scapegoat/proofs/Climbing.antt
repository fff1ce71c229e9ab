-- Sizes along a way.
use Rattle.std.proofs.Common.{◌≡◌, ℕ, zero, suc, ◌*◌, ◌++◌, ◌^◌, ◌<◌, ◌≤◌, max, false, List, [], ◌∷◌, length, Some, Option, sym, refl, ap, ◌∙◌, subst, mul-le-mul_right, mul_assoc, mul_comm, mul-le-mul_left, pow-suc, mul-one, mul_right_comm, arith}
use native.Mathlib.Nat.{pow-zero}
use native.Mathlib.Decide.{dec_lt}
use Rattle.nodes.specs.declared.node.Node.{Node}
use Rattle.nodes.specs.Tree.{Tree, size}
use Rattle.std.specs.List.{slice_get}
use Rattle.nodes.specs.Holding.{Holds, part}
use Rattle.changes.specs.declared.path.Side.TheVariants.{Left, Right}
use Rattle.changes.specs.declared.path.Step.{Step}
use Rattle.changes.specs.Frames.{Frame, frame, steps_of, plug}
use Rattle.changes.proofs.Descents.{not_less}
use Rattle.balance.specs.Allowances.{Allowance}
use Rattle.scapegoat.specs.Heavy.{size_from, Heavy}

-- the node that a step leads to stores the size of its part
pub frame_node : {E S : Type 0} {empty : S} {whole : S → E → S → S} {nodes : List (Node E S)} (frames : List (Frame E)) (t : Tree E) (k : ℕ) (step : Step) {link : Option ℕ} → Holds false empty whole nodes link (plug frames t) → slice_get (steps_of frames) k ≡ Some step → (node : Node E S) × (slice_get nodes step.slot ≡ Some node) × (node.size ≡ size_from k frames t)
frame_node [] t k step h e = let z : ◌≡◌ {A = ℕ} 0 1 = cc in absurd (omega arith)
frame_node {nodes = nodes} (frame Left slot item other ∷ fs) t zero step (part node at left right sized summed) e = let s : record { slot = slot; side = Left } ≡ step = cc in (node, ap (λ (u : Step). slice_get nodes u.slot) (sym s) ∙ at, sized)
frame_node {nodes = nodes} (frame Right slot item other ∷ fs) t zero step (part node at left right sized summed) e = let s : record { slot = slot; side = Right } ≡ step = cc in (node, ap (λ (u : Step). slice_get nodes u.slot) (sym s) ∙ at, sized)
frame_node (frame Left slot item other ∷ fs) t (suc k) step (part node at left right sized summed) e = frame_node fs t k step left e
frame_node (frame Right slot item other ∷ fs) t (suc k) step (part node at left right sized summed) e = frame_node fs t k step right e

pub size_from_less : {E : Type 0} (k : ℕ) (frames : List (Frame E)) (t : Tree E) → size_from k frames t ≤ size (plug frames t)
size_from_less zero frames t = omega arith
size_from_less (suc k) [] t = omega arith
size_from_less (suc k) (frame Left slot item other ∷ fs) t = let r = size_from_less k fs t in omega arith
size_from_less (suc k) (frame Right slot item other ∷ fs) t = let r = size_from_less k fs t in omega arith

pub size_at_end : {E : Type 0} (frames : List (Frame E)) (t : Tree E) → size_from (length frames) frames t ≡ size t
size_at_end [] t = refl
size_at_end (f ∷ fs) t = size_at_end fs t

-- where no child has more than its share, the way is as short as the ratio asks
pub light : {E : Type 0} (a b : ℕ) (frames : List (Frame E)) (t : Tree E) → ((k : ℕ) → k < length frames → Heavy a b k frames t → ⊥) → b ^ length frames * size t ≤ a ^ length frames * size (plug frames t)
light a b [] t none = rw (pow-zero b, pow-zero a) (omega arith)
light a b (f ∷ fs) t none =
    let n = length fs in
    let S = size (plug (f ∷ fs) t) in
    let s = size (plug fs t) in
    let ih : b ^ n * size t ≤ a ^ n * s = light a b fs t (λ k h. none (suc k) (omega arith)) in
    let here : s * b ≤ S * a = not_less (none 0 (omega arith)) in
    let one : b ^ suc n * size t ≡ b ^ n * size t * b = ap (λ x. x * size t) (pow-suc b n) ∙ mul_right_comm (b ^ n) b (size t) in
    let two : b ^ n * size t * b ≤ a ^ n * s * b = mul-le-mul_right b ih in
    let three : a ^ n * s * b ≡ a ^ n * (s * b) = mul_assoc (a ^ n) s b in
    let four : a ^ n * (s * b) ≤ a ^ n * (S * a) = mul-le-mul_left (a ^ n) here in
    let five : a ^ suc n * S ≡ a ^ n * (S * a) = ap (λ x. x * S) (pow-suc a n) ∙ mul_assoc (a ^ n) a S ∙ ap (λ x. a ^ n * x) (mul_comm a S) in
    omega arith

pub short : {E : Type 0} (a b m d : ℕ) (frames : List (Frame E)) (t : Tree E) → Allowance a b m d → size (plug frames t) ≤ m → size t ≡ 1 → ((k : ℕ) → k < length frames → Heavy a b k frames t → ⊥) → length frames ≤ d
short a b m d frames t allowed few one none =
    let l = light a b frames t none in
    let e : b ^ length frames * size t ≡ b ^ length frames = ap (λ n. b ^ length frames * n) one ∙ mul-one (b ^ length frames) in
    let r : a ^ length frames * size (plug frames t) ≤ a ^ length frames * max 1 m = mul-le-mul_left (a ^ length frames) (let l : size (plug frames t) ≤ max 1 m = omega arith in l) in
    allowed.most (length frames) (omega arith)

get_there : {A : Type 0} (above : List A) (x : A) (below : List A) → slice_get ((above ++ (x ∷ [])) ++ below) (length above) ≡ Some x
get_there [] x below = refl
get_there (a ∷ above) x below = get_there above x below

-- the last step of a front of the way
pub step_there : {E : Type 0} (frames : List (Frame E)) {steps rest : List Step} (above : List Step) (step : Step) (below : List Step) → steps_of frames ≡ steps → rest ++ below ≡ steps → rest ≡ above ++ (step ∷ []) → slice_get (steps_of frames) (length above) ≡ Some step
step_there frames above step below traced front last =
    ap (λ l. slice_get l (length above)) (traced ∙ sym front ∙ ap (λ l. l ++ below) last) ∙ get_there above step below

-- one place higher, where the child there has its share
pub none_more : {E : Type 0} (frames : List (Frame E)) (t : Tree E) (k own child : ℕ) → own ≡ size_from k frames t → child ≡ size_from (suc k) frames t → child * 3 ≤ own * 2 → ((j : ℕ) → suc k ≤ j → j < length frames → Heavy 2 3 j frames t → ⊥) → (j : ℕ) → k ≤ j → j < length frames → Heavy 2 3 j frames t → ⊥
none_more frames t k own child is was light none j a b heavy = go (dec_lt k j)
  where
    go : Dec (k < j) → ⊥
    go (yes far) = none j (omega arith) b heavy
    go (no near) =
        let e : j ≡ k = omega arith in
        let h : size_from k frames t * 2 < size_from (suc k) frames t * 3 = subst (λ i. Heavy 2 3 i frames t) e heavy in
        omega arith
