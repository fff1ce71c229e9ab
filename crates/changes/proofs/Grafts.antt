-- One step of mending the way up.
use Rattle.std.proofs.Common.{◌≡◌, ℕ, suc, ◌+◌, ◌^◌, ◌<◌, Bool, false, cond, eqb, List, [], ◌∷◌, ◌++◌, length, Some, Option, sym, refl, ap, ap₂, ◌∙◌, subst, append_assoc, append-nil, arith}
use Rattle.std.proofs.lemmas.List.{nil_from_length}
use Rattle.std.proofs.lemmas.Bool.Decides.{nat_tests}
use Rattle.nodes.specs.declared.node.Node.{Node}
use Rattle.nodes.specs.Tree.{Tree, branch, size, uses}
use Rattle.std.specs.List.{slice_get}
use Rattle.nodes.specs.Holding.{Holds}
use Rattle.nodes.proofs.Nths.{nth_same}
use Rattle.changes.specs.declared.path.Side.{Side}
use Rattle.changes.specs.declared.path.Side.TheVariants.{Left, Right}
use Rattle.changes.specs.declared.path.Step.{Step}
use Rattle.changes.specs.Frames.{Frame, frame, step_of, steps_of, fill, plug, frame_uses, beside, Around, here, inside, Apart}
use Rattle.changes.specs.Placed.{Placed}
use Rattle.changes.specs.Grafted.{Relinkable, Relinked, Graft, Grafted}
use Rattle.changes.proofs.Framing.{nth_set_other, steps_length, uses_plug, size_plug, around_set}

-- the frame of the last step, and those before it
pub record Last {E : Type 0} (fs : List (Frame E)) (rest : List Step) (step : Step) : Type 0 where
  pub first : List (Frame E)
  pub item : E
  pub other : Tree E
  pub is : fs ≡ first ++ (frame step.side step.slot item other ∷ [])
  pub traced : steps_of first ≡ rest

last_one : {E : Type 0} (f : Frame E) (step : Step) → step_of f ≡ step → Last (f ∷ []) [] step
last_one (frame side slot item other) step e = record { first = []; item = item; other = other; is = ap (λ (u : Step). frame u.side u.slot item other ∷ []) e; traced = refl }

last_more : {E : Type 0} {fs : List (Frame E)} {rest : List Step} {step : Step} (f : Frame E) (s : Step) → step_of f ≡ s → Last fs rest step → Last (f ∷ fs) (s ∷ rest) step
last_more f s e l = record { first = f ∷ l.first; item = l.item; other = l.other; is = ap (λ gs. f ∷ gs) l.is; traced = ap₂ ◌∷◌ e l.traced }

pub last_of : {E : Type 0} (fs : List (Frame E)) (rest : List Step) (step : Step) → steps_of fs ≡ rest ++ (step ∷ []) → Last fs rest step
last_of [] [] step e = cc
last_of [] (s ∷ rest) step e = cc
last_of (f ∷ []) [] step e = last_one f step (cc)
last_of (f ∷ (g ∷ gs)) [] step e = cc
last_of (f ∷ fs) (s ∷ rest) step e = last_more f s (cc) (last_of fs rest step (cc))

-- what the slice holds at the last frame
pub record Popped {E S : Type 0} (must : Bool) (empty : S) (whole : S → E → S → S) (nodes : List (Node E S)) (root : Option ℕ) (fs : List (Frame E)) (side : Side) (slot : ℕ) (item : E) (other : Tree E) : Type 0 where
  pub node : Node E S
  pub at : slice_get nodes slot ≡ Some node
  pub item_is : node.item ≡ item
  pub held : Holds must empty whole nodes (beside side node) other
  pub around : Around must empty whole nodes root fs (Some slot)

pub around_pop : {E S : Type 0} {must : Bool} {empty : S} {whole : S → E → S → S} {nodes : List (Node E S)} {side : Side} {slot : ℕ} {item : E} {other : Tree E} (fs : List (Frame E)) {root hole : Option ℕ} → Around must empty whole nodes root (fs ++ (frame side slot item other ∷ [])) hole → Popped must empty whole nodes root fs side slot item other
around_pop [] (inside node at held more) = record { node = node; at = at; item_is = refl; held = held; around = here }
around_pop (frame l s i o ∷ fs) (inside node at held more) = let r = around_pop fs more in record { node = r.node; at = r.at; item_is = r.item_is; held = r.held; around = inside node at held r.around }

pub plug_append : {E : Type 0} (fs gs : List (Frame E)) (t : Tree E) → plug (fs ++ gs) t ≡ plug fs (plug gs t)
plug_append [] gs t = refl
plug_append (f ∷ fs) gs t = ap (fill f) (plug_append fs gs t)

pub uses_fill : {E : Type 0} (i : ℕ) (side : Side) (slot : ℕ) (item : E) (other t : Tree E) → uses i (fill (frame side slot item other) t) ≡ cond (eqb i slot) 1 0 + (uses i other + uses i t)
uses_fill i Left slot item other t = omega arith
uses_fill i Right slot item other t = refl

pub size_fill : {E : Type 0} (side : Side) (slot : ℕ) (item : E) (other t : Tree E) → size (fill (frame side slot item other) t) ≡ suc (size other + size t)
size_fill Left slot item other t = omega arith
size_fill Right slot item other t = refl

-- where the mending has come to: the frames below are mended, those above, along the steps left, stand as they did
pub record Grafting {E S : Type 0} (must : Bool) (empty : S) (whole : S → E → S → S) (entry nodes : List (Node E S)) (root link : Option ℕ) (frames : List (Frame E)) (part : Tree E) (left : List Step) : Type 0 where
  pub above : List (Frame E)
  pub below : List (Frame E)
  pub split : frames ≡ above ++ below
  pub traced : steps_of above ≡ left
  pub hole : Option ℕ
  pub around : Around must empty whole nodes root above hole
  pub held : Holds must empty whole nodes link (plug below part)
  pub kept : (i : ℕ) → uses i (plug frames part) ≡ 0 → slice_get nodes i ≡ slice_get entry i

pub own : (k : ℕ) → ◌≡◌ {A = ℕ} (cond (eqb k k) 1 0) 1
own k = grind (arith, nat_tests)

pub apart_from : (i slot a b : ℕ) → a + (cond (eqb i slot) 1 0 + b) ≡ 0 → i ≡ slot → ⊥
apart_from i slot a b e d = grind (arith, nat_tests)

-- a node written over its old part and a new one
module _ {E S : Type 0} {empty : S} {whole : S → E → S → S} {entry exit : List (Node E S)} {slot : ℕ} {node : Node E S} {link : Option ℕ} (at : slice_get entry slot ≡ Some node) where
  pub relinked_left : {side : Side} → side ≡ Left → Placed empty whole entry exit slot node.item link node.right → Relinked empty whole entry exit side slot link
  relinked_left e p = subst (λ d. Relinked empty whole entry exit d slot link) (sym e) (record {
    new = p.node;
    wrote = p.wrote;
    holds = λ must node' other part at' ho hp uo up.
        let same = nth_same entry slot node' node at' at in
        subst (λ (n : Node E S). Holds must empty whole exit (Some slot) (branch slot n.item part other)) (sym same) (p.holds must part other hp (subst (λ (n : Node E S). Holds must empty whole entry n.right other) same ho) up uo);
  })

  pub relinked_right : {side : Side} → side ≡ Right → Placed empty whole entry exit slot node.item node.left link → Relinked empty whole entry exit side slot link
  relinked_right e p = subst (λ d. Relinked empty whole entry exit d slot link) (sym e) (record {
    new = p.node;
    wrote = p.wrote;
    holds = λ must node' other part at' ho hp uo up.
        let same = nth_same entry slot node' node at' at in
        subst (λ (n : Node E S). Holds must empty whole exit (Some slot) (branch slot n.item other part)) (sym same) (p.holds must other part (subst (λ (n : Node E S). Holds must empty whole entry n.left other) same ho) hp uo up);
  })

-- the other part, at the node that was read
pub other_held_at : {E S : Type 0} {empty : S} {whole : S → E → S → S} {nodes : List (Node E S)} {side : Side} {slot : ℕ} {link : Option ℕ} (r : Relinkable empty whole nodes side slot link) {node : Node E S} (b : Side) → side ≡ b → slice_get nodes slot ≡ Some node → Holds false empty whole nodes (beside b node) r.other
other_held_at {empty = empty} {whole = whole} {nodes = nodes} {slot = slot} r {node} b e at =
    let same = nth_same nodes slot r.node node r.at at in
    subst (λ n. Holds false empty whole nodes (beside b n) r.other) same (subst (λ d. Holds false empty whole nodes (beside d r.node) r.other) e r.other_held)

module _ {E S : Type 0} {must : Bool} {empty : S} {whole : S → E → S → S} {entry nodes : List (Node E S)} {root link : Option ℕ} {frames : List (Frame E)} {part : Tree E} {left : List Step} (g : Grafting must empty whole entry nodes root link frames part left) (rest : List Step) (step : Step) (next : left ≡ rest ++ (step ∷ [])) where
  abbrev pub top : Last g.above rest step
  top = last_of g.above rest step (g.traced ∙ next)

  pub popped : Popped must empty whole nodes root top.first step.side step.slot top.item top.other
  popped = around_pop top.first (subst (λ fs. Around must empty whole nodes root fs g.hole) top.is g.around)

  -- the frames, with the last of those above as the first of those below
  pub shifted : frames ≡ top.first ++ (frame step.side step.slot top.item top.other ∷ g.below)
  shifted = g.split ∙ ap (λ fs. fs ++ g.below) top.is ∙ append_assoc top.first (frame step.side step.slot top.item top.other ∷ []) g.below

  pub uses_split : (i : ℕ) → uses i (plug frames part) ≡ frame_uses i top.first + (cond (eqb i step.slot) 1 0 + (uses i top.other + uses i (plug g.below part)))
  uses_split i =
      ap (λ fs. uses i (plug fs part)) shifted ∙ ap (uses i) (plug_append top.first (frame step.side step.slot top.item top.other ∷ g.below) part) ∙ uses_plug i top.first (plug (frame step.side step.slot top.item top.other ∷ g.below) part) ∙ ap (λ n. frame_uses i top.first + n) (uses_fill i step.side step.slot top.item top.other (plug g.below part))

  pub top_fits : size (plug frames part) < 2 ^ 64 → size top.other + size (plug g.below part) + 1 < 2 ^ 64
  top_fits fits =
      let inner = plug (frame step.side step.slot top.item top.other ∷ g.below) part in
      let a : size (plug frames part) ≡ size (plug top.first inner) = ap (λ fs. size (plug fs part)) shifted ∙ ap size (plug_append top.first (frame step.side step.slot top.item top.other ∷ g.below) part) in
      let b = size_plug top.first inner in
      let c : size inner ≡ suc (size top.other + size (plug g.below part)) = size_fill step.side step.slot top.item top.other (plug g.below part) in
      omega arith

  pub graft_step : {exit : List (Node E S)} → Apart (plug frames part) → Relinked empty whole nodes exit step.side step.slot link → Grafting must empty whole entry exit root (Some step.slot) frames part rest
  graft_step {exit} apart r =
      let p = popped in
      let u = uses_split step.slot in
      let one = apart step.slot in
      let self = own step.slot in
      record {
        above = top.first;
        below = frame step.side step.slot top.item top.other ∷ g.below;
        split = shifted;
        traced = top.traced;
        hole = Some step.slot;
        around = subst (λ ns. Around must empty whole ns root top.first (Some step.slot)) (sym r.wrote) (around_set step.slot r.new p.around (omega arith));
        held = subst (λ x. Holds must empty whole exit (Some step.slot) (fill (frame step.side step.slot x top.other) (plug g.below part))) p.item_is (r.holds must p.node top.other (plug g.below part) p.at p.held g.held (omega arith) (omega arith));
        kept = λ i none.
            let v = uses_split i in
            ap (λ ns. slice_get ns i) r.wrote ∙ nth_set_other nodes step.slot i r.new (λ e. apart_from i step.slot (frame_uses i top.first) (uses i top.other + uses i (plug g.below part)) (sym v ∙ none) e) ∙ g.kept i none;
      }

-- the node of the last step may be linked to the part below
pub top_relinkable : {E S : Type 0} {empty : S} {whole : S → E → S → S} {entry nodes : List (Node E S)} {root link : Option ℕ} {frames : List (Frame E)} {part : Tree E} {left : List Step} (g : Grafting false empty whole entry nodes root link frames part left) (rest : List Step) (step : Step) → left ≡ rest ++ (step ∷ []) → size (plug frames part) < 2 ^ 64 → Relinkable empty whole nodes step.side step.slot link
top_relinkable {part = part} g rest step next fits =
    let p = popped g rest step next in
    record { node = p.node; at = p.at; other = (top g rest step next).other; part = plug g.below part; other_held = p.held; part_held = g.held; fits = top_fits g rest step next fits }

-- the same graft along steps that are the same
pub graft_along : {E S : Type 0} {must : Bool} {empty : S} {whole : S → E → S → S} {nodes : List (Node E S)} {root hole link : Option ℕ} {frames : List (Frame E)} {part : Tree E} {steps more : List Step} → more ≡ steps → Graft must empty whole nodes root frames hole link part steps → Graft must empty whole nodes root frames hole link part more
graft_along {must = must} {empty = empty} {whole = whole} {nodes = nodes} {root = root} {hole = hole} {link = link} {frames = frames} {part = part} e t = subst (Graft must empty whole nodes root frames hole link part) (sym e) t

pub graft_start : {E S : Type 0} {must : Bool} {empty : S} {whole : S → E → S → S} {entry : List (Node E S)} {root hole link : Option ℕ} {frames : List (Frame E)} {part : Tree E} {steps left : List Step} → Graft must empty whole entry root frames hole link part steps → steps ≡ left → Grafting must empty whole entry entry root link frames part left
graft_start {hole = hole} {frames = frames} t e = record {
  above = frames;
  below = [];
  split = sym (append-nil frames);
  traced = t.traced ∙ e;
  hole = hole;
  around = t.around;
  held = t.held;
  kept = λ i none. refl;
}

pub graft_end : {E S : Type 0} {must : Bool} {empty : S} {whole : S → E → S → S} {entry nodes : List (Node E S)} {root link : Option ℕ} {frames : List (Frame E)} {part : Tree E} {left : List Step} → Grafting must empty whole entry nodes root link frames part left → length left ≡ 0 → Grafted must empty whole entry nodes link frames part
graft_end {must = must} {empty = empty} {whole = whole} {nodes = nodes} {link = link} {part = part} g done =
    let none : g.above ≡ [] = nil_from_length g.above (sym (steps_length g.above) ∙ ap length g.traced ∙ done) in
    record { holds = subst (λ fs. Holds must empty whole nodes link (plug fs part)) (sym (g.split ∙ ap (λ fs. fs ++ g.below) none)) g.held; kept = g.kept }
