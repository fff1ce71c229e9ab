-- What a tree and its list lose with a node that has at most one part.
use Rattle.std.proofs.Common.{◌≡◌, ℕ, zero, suc, ◌+◌, ◌^◌, ◌<◌, ◌≤◌, max, Bool, false, cond, eqb, ◌⊎◌, List, [], ◌∷◌, ◌++◌, length, drop, set, Some, None, Option, sym, refl, ap, ◌∙◌, subst, inl, inr, append_assoc, append-nil, arith, take_at}
use Rattle.std.proofs.lemmas.Option.{slice_get_within}
use Rattle.nodes.specs.declared.node.Node.{Node}
use Rattle.nodes.specs.Tree.{Tree, leaf, branch, items, size, height, uses, before_of}
use Rattle.std.specs.List.{slice_get}
use Rattle.nodes.specs.Holding.{size_at, Holds, nothing, part}
use Rattle.nodes.proofs.Held.{size_is_length, held_leaf, held_within, stored_right}
use Rattle.nodes.proofs.Fronts.{drop_past}
use Rattle.changes.specs.declared.path.Side.TheVariants.{Left, Right}
use Rattle.changes.specs.declared.path.Step.{Step}
use Rattle.changes.specs.Stacks.{stacked}
use Rattle.changes.specs.declared.found.Found.{Found}
use Rattle.changes.specs.Frames.{Frame, frame, plug, ahead, behind, Apart}
use Rattle.changes.specs.Grafted.{Graft}
use Rattle.changes.specs.Ways.{Way, Leads}
use Rattle.changes.specs.declared.changed.Changed.{Changed}
use Rattle.changes.specs.declared.removed.Removed.{Removed}
use Rattle.changes.specs.Replaced.{Swapped}
use Rattle.changes.specs.Removed.{removed, Leftmost, TakenOut, TakesOut, Takes}
use Rattle.changes.proofs.Framing.{items_plug, uses_plug, height_plug, steps_length}
use Rattle.changes.proofs.Descents.{way_left, way_right, way_for, way_for_link}
use Rattle.changes.proofs.Growths.{size_swap}
use Rattle.changes.proofs.Swaps.{end, end_was, end_uses, around_item, front_long}

pub height_mono : {E : Type 0} (fs : List (Frame E)) (t u : Tree E) → height t ≤ height u → height (plug fs t) ≤ height (plug fs u)
height_mono [] t u h = h
height_mono (frame Left slot item other ∷ fs) t u h = let r = height_mono fs t u h in omega arith
height_mono (frame Right slot item other ∷ fs) t u h = let r = height_mono fs t u h in omega arith

-- what stays of a branch of which one side is empty
pub record Rest {E : Type 0} (before after rest : Tree E) : Type 0 where
  pub lists : items rest ≡ items before ++ items after
  pub used : (k : ℕ) → uses k rest ≡ uses k before + uses k after
  pub sized : size rest ≡ size before + size after
  pub low : height rest ≤ max (height before) (height after)

pub rest_right : {E : Type 0} {before : Tree E} (after : Tree E) → before ≡ leaf → Rest before after after
rest_right {before = before} after e = subst (λ b. Rest b after after) (sym e) (record { lists = refl; used = λ k. omega arith; sized = omega arith; low = omega arith })

pub rest_left : {E : Type 0} (before : Tree E) {after : Tree E} → after ≡ leaf → Rest before after before
rest_left before {after} e = subst (λ a. Rest before a before) (sym e) (record { lists = sym (append-nil (items before)); used = λ k. omega arith; sized = omega arith; low = omega arith })

module _ {E : Type 0} (fs : List (Frame E)) (slot place : ℕ) (item : E) (before after rest : Tree E) (r : Rest before after rest) (at : length (ahead fs) + size before ≡ place) where
  pub loss_lists : items (plug fs rest) ≡ removed place (items (plug fs (branch slot item before after)))
  loss_lists =
      let front = ahead fs ++ items before in
      let back = items after ++ behind fs in
      let long = front_long fs slot place item item before after at in
      let old = around_item fs slot place item item before after at item in
      let next : suc place ≡ suc (length front + 0) = omega arith in
      items_plug fs rest
      ∙ ap (λ l. ahead fs ++ (l ++ behind fs)) r.lists
      ∙ ap (λ l. ahead fs ++ l) (append_assoc (items before) (items after) (behind fs))
      ∙ sym (append_assoc (ahead fs) (items before) back)
      ∙ sym (ap (removed place) old ∙ ap (λ l. l ++ drop (suc place) (front ++ (item ∷ back))) (take_at front (item ∷ back) place long) ∙ ap (λ n. front ++ drop n (front ++ (item ∷ back))) next ∙ ap (λ l. front ++ l) (drop_past front item back 0))

  pub loss_size : size (plug fs rest) + 1 ≡ size (plug fs (branch slot item before after))
  loss_size = let s = size_swap fs rest (branch slot item before after) in let z = r.sized in omega arith

  pub loss_uses : (k : ℕ) → cond (eqb k slot) 1 0 + uses k (plug fs rest) ≡ uses k (plug fs (branch slot item before after))
  loss_uses k = let a = uses_plug k fs rest in let b = uses_plug k fs (branch slot item before after) in let u = r.used k in omega arith

  pub loss_low : height (plug fs rest) ≤ height (plug fs (branch slot item before after))
  loss_low = height_mono fs rest (branch slot item before after) (let l = r.low in omega arith)

module _ {E S : Type 0} {must : Bool} {empty : S} {whole : S → E → S → S} {nodes : List (Node E S)} {root : Option ℕ} {steps : List Step} {skipped slot : ℕ} {node : Node E S} {all t : Tree E} (w : Way empty whole nodes root (Some slot) steps skipped all t) (at : slice_get nodes slot ≡ Some node) (h : Holds must empty whole nodes root all) where
  -- what stays at the link of the only part
  pub only_part : {link : Option ℕ} → ((node.left ≡ None) × (node.right ≡ link)) ⊎ ((node.right ≡ None) × (node.left ≡ link)) → (rest : Tree E) × Holds must empty whole nodes link rest × Rest (end w at h).before (end w at h).after rest
  only_part (inl (none, is)) = ((end w at h).after, subst (λ l. Holds must empty whole nodes l (end w at h).after) is (end w at h).right, rest_right (end w at h).after (held_leaf (end w at h).left none))
  only_part (inr (none, is)) = ((end w at h).before, subst (λ l. Holds must empty whole nodes l (end w at h).before) is (end w at h).left, rest_left (end w at h).before (held_leaf (end w at h).right none))

  module _ {link : Option ℕ} {rest : Tree E} (held : Holds must empty whole nodes link rest) (r : Rest (end w at h).before (end w at h).after rest) (apart : Apart all) (fits : size all < 2 ^ 64) where
    pub loss_graft : Graft must empty whole nodes root w.frames (Some slot) link rest steps
    loss_graft =
        record {
          traced = w.traced;
          around = w.around must h;
          held = held;
          apart = λ k. let a = uses_plug k w.frames rest in let b = end_uses w at h k in let u = r.used k in let c = apart k in omega arith;
          fits = let s = size_swap w.frames rest (branch slot node.item (end w at h).before (end w at h).after) in let z = r.sized in let e = ap size (end_was w at h) in omega arith;
        }

pub place_of : {E S : Type 0} {must : Bool} {empty : S} {whole : S → E → S → S} {nodes : List (Node E S)} {root : Option ℕ} {steps : List Step} {skipped slot place : ℕ} {node : Node E S} {all t : Tree E} (w : Way empty whole nodes root (Some slot) steps skipped all t) (at : slice_get nodes slot ≡ Some node) (h : Holds must empty whole nodes root all) → skipped + size (before_of t) ≡ place → length (ahead w.frames) + size (end w at h).before ≡ place
place_of {skipped = skipped} w at h e = ap (λ n. n + size (end w at h).before) w.ahead_long ∙ ap (λ u. skipped + size (before_of u)) (sym (end w at h).is) ∙ e

held_none : {E S : Type 0} {must : Bool} {empty : S} {whole : S → E → S → S} {nodes : List (Node E S)} {link : Option ℕ} {t : Tree E} → Holds must empty whole nodes link t → t ≡ leaf → link ≡ None
held_none nothing e = refl
held_none (part node at left right sized summed) e = let z : ◌≡◌ {A = ℕ} 0 1 = cc in absurd (omega arith)

-- where the walk to the first node has come to, by a way that may be longer than a stack holds
pub record Firsts {E S : Type 0} (empty : S) (whole : S → E → S → S) (nodes : List (Node E S)) (root : Option ℕ) (skipped : ℕ) (all : Tree E) (slot : ℕ) (steps : List Step) : Type 0 where
  pub part : Tree E
  pub way : Way empty whole nodes root (Some slot) steps skipped all part

module _ {E S : Type 0} {empty : S} {whole : S → E → S → S} {nodes : List (Node E S)} {root : Option ℕ} {skipped : ℕ} {all : Tree E} {slot : ℕ} {steps : List Step} (f : Firsts empty whole nodes root skipped all slot steps) (h : Holds false empty whole nodes root all) where
  pub firsts_within : slot < length nodes
  firsts_within = held_within (f.way.held false h) slot refl

  module _ {node : Node E S} (at : slice_get nodes slot ≡ Some node) where
    pub firsts_room : height all ≤ 32 → length steps < 32
    firsts_room low =
        let o = end f.way at h in
        let p = height_plug f.way.frames f.part in
        let q = ap height f.way.plugs in
        let b = ap height o.is in
        let n = steps_length f.way.frames in
        let t = ap length f.way.traced in
        omega arith

    pub firsts_less : {i : ℕ} → node.left ≡ Some i → size_at nodes (Some i) < size_at nodes (Some slot)
    firsts_less {i} e =
        let o = end f.way at h in
        let b = stored_right (f.way.held false h) ∙ ap size o.is in
        let c = ap (size_at nodes) (sym e) ∙ stored_right o.left in
        omega arith

    pub firsts_left : {i : ℕ} {more : List Step} → node.left ≡ Some i → more ≡ steps ++ (record { slot = slot; side = Left } ∷ []) → Firsts empty whole nodes root skipped all i more
    firsts_left e pushed = let o = end f.way at h in record { part = o.before; way = way_for_link (way_left f.way refl at o pushed) e refl }

    pub firsts_bare : node.left ≡ None → before_of f.part ≡ leaf
    firsts_bare e = let o = end f.way at h in ap before_of o.is ∙ held_leaf o.left e

    pub firsts_none : before_of f.part ≡ leaf → node.left ≡ None
    firsts_none bare = let o = end f.way at h in held_none o.left (sym (ap before_of o.is) ∙ bare)

    -- the way on to the part after the item at a place
    pub firsts_after : {place next : ℕ} {more : List Step} → skipped + size (before_of f.part) ≡ place → node.right ≡ Some next → more ≡ steps ++ (record { slot = slot; side = Right } ∷ []) → Way empty whole nodes root (Some next) more (suc place) all (end f.way at h).after
    firsts_after p e pushed =
        let o = end f.way at h in
        let b : size (before_of f.part) ≡ size o.before = ap (λ u. size (before_of u)) o.is in
        way_for (way_for_link (way_right f.way refl at o (size o.before) refl pushed) e refl) (omega arith) refl refl

-- taking out the next item and putting it in the place of this one is taking out this one
module _ {X : Type 0} where
  pub nth_removed : (xs : List X) (i : ℕ) → slice_get (removed (suc i) xs) i ≡ slice_get xs i
  nth_removed [] i = refl
  nth_removed (x ∷ xs) zero = refl
  nth_removed (x ∷ xs) (suc i) = nth_removed xs i

  pub set_removed : (xs : List X) (i : ℕ) (y : X) → slice_get xs (suc i) ≡ Some y → set (removed (suc i) xs) i y ≡ removed i xs
  set_removed [] i y e = cc
  set_removed (x ∷ []) zero y e = cc
  set_removed (x ∷ (z ∷ zs)) zero y e = let same : z ≡ y = cc in ap (λ w. w ∷ zs) (sym same)
  set_removed (x ∷ xs) (suc i) y e = ap (λ l. x ∷ l) (set_removed xs i y e)

-- with no part before it, a node has the place that the way to it began with
pub bare_place : {E : Type 0} (t : Tree E) {skipped : ℕ} → before_of t ≡ leaf → skipped + size (before_of t) ≡ skipped
bare_place t bare = let z = ap size bare in omega arith

-- of a node that is found, whose way is in a stack, the lemmas above say this
module _ {E S : Type 0} {empty : S} {whole : S → E → S → S} {nodes : List (Node E S)} {root : Option ℕ} {place : ℕ} {all : Tree E} {found : Found} (l : Leads empty whole nodes root place all found) (h : Holds false empty whole nodes root all) {node : Node E S} (at : slice_get nodes found.slot ≡ Some node) where
  abbrev firsts : Firsts empty whole nodes root l.skipped all found.slot (stacked found.path)
  firsts = record { part = l.part; way = l.way }

  pub leads_room : height all ≤ 32 → length (stacked found.path) < 32
  leads_room low = firsts_room firsts h at low

  -- the way on to the part after the item
  pub way_after : {next : ℕ} {steps : List Step} → node.right ≡ Some next → steps ≡ stacked found.path ++ (record { slot = found.slot; side = Right } ∷ []) → Way empty whole nodes root (Some next) steps (suc place) all (end l.way at h).after
  way_after e pushed = firsts_after firsts h at l.at e pushed

  -- the first node after it has the next place
  pub leads_next : {first : Found} → Leftmost empty whole nodes root (suc place) all first → Leads empty whole nodes root (suc place) all first
  leads_next m = record { part = m.part; skipped = suc place; way = m.way; at = bare_place m.part m.bare }

pub next_bare : {E S : Type 0} {empty : S} {whole : S → E → S → S} {nodes : List (Node E S)} {root : Option ℕ} {skipped : ℕ} {all : Tree E} {first : Found} (m : Leftmost empty whole nodes root skipped all first) → Holds false empty whole nodes root all → {node : Node E S} → slice_get nodes first.slot ≡ Some node → node.left ≡ None
next_bare m h at = firsts_none (record { part = m.part; way = m.way }) h at m.bare

-- a tree with a node less, and then another item at the place before
module _ {E S : Type 0} {must : Bool} {empty : S} {whole : S → E → S → S} {entry middle : List (Node E S)} {place : ℕ} {t : Tree E} {out : Removed E} (o : TakenOut must empty whole entry middle (suc place) t out) where
  pub out_apart : Apart t → Apart o.new
  out_apart apart k = let f = o.freed k in let a = apart k in omega arith

  pub both_out : {exit : List (Node E S)} {r : Changed E} → Swapped must empty whole middle exit place out.item o.new r → TakenOut must empty whole entry exit place t (record { root = r.root; item = r.item; slot = out.slot })
  both_out {r = r} s =
      let old = branch s.slot r.item s.before s.after in
      let new = branch s.slot out.item s.before s.after in
      let same_uses : (k : ℕ) → uses k (plug s.frames new) ≡ uses k o.new = λ k. let a = uses_plug k s.frames new in let b = uses_plug k s.frames old in let e = ap (uses k) s.was in omega arith in
      record {
        new = plug s.frames new;
        holds = s.holds;
        found = sym (nth_removed (items t) place) ∙ ap (λ l. slice_get l place) (sym o.lists) ∙ s.found;
        lists = s.lists ∙ ap (λ l. set l place out.item) o.lists ∙ set_removed (items t) place out.item o.found;
        sized = let a = size_swap s.frames new old in let e = ap size s.was in let z = o.sized in omega arith;
        freed = λ k. let u = same_uses k in let f = o.freed k in omega arith;
        low = let a = height_mono s.frames new old (omega arith) in let e = ap height s.was in let z = o.low in omega arith;
        kept = λ k none. let u = same_uses k in s.kept k (omega arith) ∙ o.kept k (omega arith);
      }

  pub never_past : size o.new ≤ place → ⊥
  never_past h =
      let w = slice_get_within (items t) (suc place) out.item o.found in
      let l = size_is_length t in
      let z = o.sized in
      omega arith

-- an inner item is always found, so nothing is past the end
pub takes_from : {E S : Type 0} (must : Bool) (empty : S) (whole : S → E → S → S) (entry exit : List (Node E S)) (place : ℕ) (t : Tree E) (r : Option (Removed E)) → TakesOut must empty whole entry exit place t r → Takes must empty whole entry exit place t r
takes_from must empty whole entry exit place t None h = absurd h
takes_from must empty whole entry exit place t (Some r) h = h
