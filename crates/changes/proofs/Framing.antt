-- Frames that grow and shrink at their hole, and what a write to a slot leaves as it was.
use Rattle.std.proofs.Common.{◌≡◌, ℕ, zero, suc, ◌+◌, ◌<◌, ◌≤◌, Bool, true, cond, eqb, List, [], ◌∷◌, ◌++◌, length, set, Some, Option, sym, refl, ap, ◌∙◌, append_assoc, append-nil, arith}
use Rattle.std.proofs.lemmas.Bool.Decides.{nat_tests}
use Rattle.nodes.specs.declared.node.Node.{Node}
use Rattle.nodes.specs.Tree.{Tree, branch, items, size, height, summary, uses}
use Rattle.std.specs.List.{slice_get}
use Rattle.nodes.specs.Holding.{Holds, nothing, part}
use Rattle.changes.specs.declared.path.Side.{Side}
use Rattle.changes.specs.declared.path.Side.TheVariants.{Left, Right}
use Rattle.changes.specs.Frames.{Frame, frame, step_of, steps_of, fill, plug, ahead, behind, frame_uses, toward, beside, Around, here, inside}

-- writing to one place of a list
module _ {X : Type 0} where
  pub nth_set_same : (xs : List X) (i : ℕ) (x : X) → i < length xs → slice_get (set xs i x) i ≡ Some x
  nth_set_same [] i x h = absurd (omega arith)
  nth_set_same (y ∷ ys) zero x h = refl
  nth_set_same (y ∷ ys) (suc i) x h = nth_set_same ys i x (omega arith)

  pub nth_set_other : (xs : List X) (i j : ℕ) (x : X) → (j ≡ i → ⊥) → slice_get (set xs i x) j ≡ slice_get xs j
  nth_set_other [] i j x h = refl
  nth_set_other (y ∷ ys) zero zero x h = absurd (h refl)
  nth_set_other (y ∷ ys) zero (suc j) x h = refl
  nth_set_other (y ∷ ys) (suc i) zero x h = refl
  nth_set_other (y ∷ ys) (suc i) (suc j) x h = nth_set_other ys i j x (λ e. h (ap suc e))

module _ {E : Type 0} where
  pub plug_push : (fs : List (Frame E)) (f : Frame E) (t : Tree E) → plug (fs ++ (f ∷ [])) t ≡ plug fs (fill f t)
  plug_push [] f t = refl
  plug_push (g ∷ gs) f t = ap (fill g) (plug_push gs f t)

  pub steps_push : (fs : List (Frame E)) (f : Frame E) → steps_of (fs ++ (f ∷ [])) ≡ steps_of fs ++ (step_of f ∷ [])
  steps_push [] f = refl
  steps_push (g ∷ gs) f = ap (λ l. step_of g ∷ l) (steps_push gs f)

  pub steps_length : (fs : List (Frame E)) → length (steps_of fs) ≡ length fs
  steps_length [] = refl
  steps_length (f ∷ fs) = ap suc (steps_length fs)

  pub items_plug : (fs : List (Frame E)) (t : Tree E) → items (plug fs t) ≡ ahead fs ++ (items t ++ behind fs)
  items_plug [] t = sym (append-nil (items t))
  items_plug (frame Left slot item other ∷ fs) t = ap (λ l. l ++ (item ∷ items other)) (items_plug fs t) ∙ simp append_assoc
  items_plug (frame Right slot item other ∷ fs) t = ap (λ l. items other ++ (item ∷ l)) (items_plug fs t) ∙ sym (append_assoc (items other) (item ∷ ahead fs) (items t ++ behind fs))

  pub uses_plug : (k : ℕ) (fs : List (Frame E)) (t : Tree E) → uses k (plug fs t) ≡ frame_uses k fs + uses k t
  uses_plug k [] t = omega arith
  uses_plug k (frame Left slot item other ∷ fs) t = let r = uses_plug k fs t in omega arith
  uses_plug k (frame Right slot item other ∷ fs) t = let r = uses_plug k fs t in omega arith

  pub size_plug : (fs : List (Frame E)) (t : Tree E) → size t ≤ size (plug fs t)
  size_plug [] t = omega arith
  size_plug (frame Left slot item other ∷ fs) t = let r = size_plug fs t in omega arith
  size_plug (frame Right slot item other ∷ fs) t = let r = size_plug fs t in omega arith

  pub height_plug : (fs : List (Frame E)) (t : Tree E) → length fs + height t ≤ height (plug fs t)
  height_plug [] t = omega arith
  height_plug (frame Left slot item other ∷ fs) t = let r = height_plug fs t in omega arith
  height_plug (frame Right slot item other ∷ fs) t = let r = height_plug fs t in omega arith

  pub ahead_push : (fs : List (Frame E)) (slot : ℕ) (item : E) (other : Tree E) → ahead (fs ++ (frame Left slot item other ∷ [])) ≡ ahead fs
  ahead_push [] slot item other = refl
  ahead_push (frame Left s i o ∷ fs) slot item other = ahead_push fs slot item other
  ahead_push (frame Right s i o ∷ fs) slot item other = ap (λ l. items o ++ (i ∷ l)) (ahead_push fs slot item other)

  pub ahead_push_right : (fs : List (Frame E)) (slot : ℕ) (item : E) (other : Tree E) → ahead (fs ++ (frame Right slot item other ∷ [])) ≡ ahead fs ++ (items other ++ (item ∷ []))
  ahead_push_right [] slot item other = refl
  ahead_push_right (frame Left s i o ∷ fs) slot item other = ahead_push_right fs slot item other
  ahead_push_right (frame Right s i o ∷ fs) slot item other = ap (λ l. items o ++ (i ∷ l)) (ahead_push_right fs slot item other) ∙ sym (append_assoc (items o) (i ∷ ahead fs) (items other ++ (item ∷ [])))

-- a slot that a tree does not use is not its root's
pub one_or_none : (k slot : ℕ) (r : ℕ) → cond (eqb k slot) 1 0 + r ≡ 0 → (slot ≡ k → ⊥) × (r ≡ 0)
one_or_none k slot r e = ((λ d. not_root d), omega arith)
  where
    not_root : slot ≡ k → ⊥
    not_root d = grind (arith, nat_tests)

module _ {E S : Type 0} {must : Bool} {empty : S} {whole : S → E → S → S} {nodes : List (Node E S)} where
  -- a write to a slot that a tree does not use leaves the tree
  pub held_set : {link : Option ℕ} {t : Tree E} (i : ℕ) (n : Node E S) → Holds must empty whole nodes link t → uses i t ≡ 0 → Holds must empty whole (set nodes i n) link t
  held_set i n nothing h = nothing
  held_set i n (part {slot} {before} {after} node at left right sized summed) h =
      let o = one_or_none i slot (uses i before + uses i after) h in
      part node (nth_set_other nodes i slot n o.0 ∙ at) (held_set i n left (omega arith)) (held_set i n right (omega arith)) sized summed

  pub around_set : {root hole : Option ℕ} {fs : List (Frame E)} (i : ℕ) (n : Node E S) → Around must empty whole nodes root fs hole → frame_uses i fs ≡ 0 → Around must empty whole (set nodes i n) root fs hole
  around_set i n here h = here
  around_set i n (inside {slot = slot} {other = other} {fs = fs} node at held more) h =
      let o = one_or_none i slot (uses i other + frame_uses i fs) h in
      inside node (nth_set_other nodes i slot n o.0 ∙ at) (held_set i n held (omega arith)) (around_set i n more (omega arith))

  -- one frame more
  pub around_push : {root : Option ℕ} {fs : List (Frame E)} {slot : ℕ} (side : Side) {other : Tree E} (node : Node E S) → Around must empty whole nodes root fs (Some slot) → slice_get nodes slot ≡ Some node → Holds must empty whole nodes (beside side node) other → Around must empty whole nodes root (fs ++ (frame side slot node.item other ∷ [])) (toward side node)
  around_push side node here at held = inside node at held here
  around_push side node (inside node' at' held' more) at held = inside node' at' held' (around_push side node more at held)

-- a node over two parts that do not use its slot
pub placed : {E S : Type 0} {must : Bool} {empty : S} {whole : S → E → S → S} {nodes : List (Node E S)} (slot : ℕ) (node : Node E S) {before after : Tree E} → slot < length nodes → Holds must empty whole nodes node.left before → Holds must empty whole nodes node.right after → uses slot before ≡ 0 → uses slot after ≡ 0 → node.size ≡ suc (size before + size after) → (must ≡ true → node.sum ≡ whole (summary empty whole before) node.item (summary empty whole after)) → Holds must empty whole (set nodes slot node) (Some slot) (branch slot node.item before after)
placed {nodes = nodes} slot node h left right b a sized summed = part node (nth_set_same nodes slot node h) (held_set slot node left b) (held_set slot node right a) sized summed
