-- One step of going down with the way kept.
use Rattle.std.proofs.Common.{◌≡◌, ℕ, suc, ◌+◌, ◌-◌, ◌<◌, ◌≤◌, Bool, false, List, [], ◌∷◌, ◌++◌, length, Some, None, Option, sym, refl, ap, ap₂, ◌∙◌, subst, arith, length-append}
use Rattle.std.proofs.Math.Nat.{lt_of_not-le}
use Rattle.nodes.specs.declared.node.Node.{Node}
use Rattle.nodes.specs.Tree.{Tree, leaf, items, size, height}
use Rattle.std.specs.List.{slice_get}
use Rattle.nodes.specs.Holding.{Holds, Opens, size_at}
use Rattle.nodes.proofs.Held.{Opened, size_is_length, held_leaf, opened, same_tree, stored_right}
use Rattle.changes.specs.declared.path.Side.TheVariants.{Left, Right}
use Rattle.changes.specs.declared.path.Step.{Step}
use Rattle.changes.specs.Frames.{frame, plug, ahead, Around, here}
use Rattle.changes.specs.Ways.{Shallow, Way}
use Rattle.changes.proofs.Framing.{plug_push, steps_push, steps_length, height_plug, ahead_push, ahead_push_right, around_push}

module _ {E S : Type 0} {empty : S} {whole : S → E → S → S} {nodes : List (Node E S)} {root link : Option ℕ} {steps : List Step} {skipped : ℕ} {all t : Tree E} (w : Way empty whole nodes root link steps skipped all t) {i : ℕ} {node : Node E S} (e : link ≡ Some i) (at : slice_get nodes i ≡ Some node) (o : Opened false empty whole nodes i node t) where
  -- the parts with right summaries, if the whole has them
  parts : (must : Bool) → Holds must empty whole nodes root all → (Holds must empty whole nodes node.left o.before) × (Holds must empty whole nodes node.right o.after)
  parts must h =
      let r = opened (w.held must h) i e node at in
      (same_tree r.left o.left, same_tree r.right o.right)

  come : (must : Bool) → Holds must empty whole nodes root all → Around must empty whole nodes root w.frames (Some i)
  come must h = subst (Around must empty whole nodes root w.frames) e (w.around must h)

  pub way_left : {more : List Step} → more ≡ steps ++ (record { slot = i; side = Left } ∷ []) → Way empty whole nodes root node.left more skipped all o.before
  way_left s = record {
    frames = w.frames ++ (frame Left i node.item o.after ∷ []);
    traced = steps_push w.frames (frame Left i node.item o.after) ∙ ap (λ l. l ++ (record { slot = i; side = Left } ∷ [])) w.traced ∙ sym s;
    around = λ must h. around_push Left node (come must h) at (parts must h).1;
    held = λ must h. (parts must h).0;
    plugs = plug_push w.frames (frame Left i node.item o.after) o.before ∙ ap (plug w.frames) (sym o.is) ∙ w.plugs;
    ahead_long = ap length (ahead_push w.frames i node.item o.after) ∙ w.ahead_long;
  }

  pub way_right : {more : List Step} (n : ℕ) → n ≡ size o.before → more ≡ steps ++ (record { slot = i; side = Right } ∷ []) → Way empty whole nodes root node.right more (skipped + n + 1) all o.after
  way_right n sized s =
      let long = length-append (items o.before) (node.item ∷ []) in
      let b = size_is_length o.before in
      let a = w.ahead_long in
      record {
        frames = w.frames ++ (frame Right i node.item o.before ∷ []);
        traced = steps_push w.frames (frame Right i node.item o.before) ∙ ap (λ l. l ++ (record { slot = i; side = Right } ∷ [])) w.traced ∙ sym s;
        around = λ must h. around_push Right node (come must h) at (parts must h).0;
        held = λ must h. (parts must h).1;
        plugs = plug_push w.frames (frame Right i node.item o.before) o.after ∙ ap (plug w.frames) (sym o.is) ∙ w.plugs;
        ahead_long = ap length (ahead_push_right w.frames i node.item o.before) ∙ length-append (ahead w.frames) (items o.before ++ (node.item ∷ [])) ∙ omega arith;
      }

-- a way for one reading of the tree is one for any
pub way_for : {E S : Type 0} {empty : S} {whole : S → E → S → S} {nodes : List (Node E S)} {root link : Option ℕ} {steps : List Step} {skipped place : ℕ} {all t u v : Tree E} → Way empty whole nodes root link steps skipped all u → skipped ≡ place → all ≡ t → u ≡ v → Way empty whole nodes root link steps place t v
way_for {empty = empty} {whole = whole} {nodes = nodes} {root = root} {link = link} {steps = steps} {place = place} {all = all} {t = t} {u = u} w a b c =
    subst (λ z. Way empty whole nodes root link steps place t z) c (subst (λ z. Way empty whole nodes root link steps place z u) b (subst (λ n. Way empty whole nodes root link steps n all u) a w))

pub way_for_link : {E S : Type 0} {empty : S} {whole : S → E → S → S} {nodes : List (Node E S)} {root link hole : Option ℕ} {steps : List Step} {skipped : ℕ} {all t u : Tree E} → Way empty whole nodes root link steps skipped all u → link ≡ hole → all ≡ t → Way empty whole nodes root hole steps skipped t u
way_for_link {empty = empty} {whole = whole} {nodes = nodes} {root = root} {hole = hole} {steps = steps} {skipped = skipped} {all = all} {u = u} w a b =
    subst (λ z. Way empty whole nodes root hole steps skipped z u) b (subst (λ l. Way empty whole nodes root l steps skipped all u) a w)

-- where a walk down with a path has come: to a part, at a link into the slice that the walk began with
pub record Walked {E S : Type 0} (empty : S) (whole : S → E → S → S) (nodes : List (Node E S)) (root : Option ℕ) (here_nodes : List (Node E S)) (link : Option ℕ) (steps : List Step) (In : ℕ → ℕ → Type 0) (place rest : ℕ) : Type 0 where
  pub all : Tree E
  pub part : Tree E
  pub all_held : Holds false empty whole nodes root all
  pub same : here_nodes ≡ nodes
  pub skipped : ℕ
  pub way : Way empty whole nodes root link steps skipped all part
  pub adds : skipped + rest ≡ place
  pub low : height all ≤ 32
  pub within : In place (size all) → In rest (size part)

pub walk_start : {E S : Type 0} {empty : S} {whole : S → E → S → S} {nodes ns : List (Node E S)} {root link : Option ℕ} {steps : List Step} {In : ℕ → ℕ → Type 0} {place : ℕ} (s : Shallow empty whole nodes root) → ns ≡ nodes → link ≡ root → steps ≡ [] → Walked empty whole nodes root ns link steps In place place
walk_start s same at none = record {
  all = s.tree;
  part = s.tree;
  all_held = s.holds;
  same = same;
  skipped = 0;
  way = way_for_link (record { frames = []; traced = sym none; around = λ must h. here; held = λ must h. h; plugs = refl; ahead_long = refl }) (sym at) refl;
  adds = omega arith;
  low = s.low;
  within = λ h. h;
}

module _ {E S : Type 0} {empty : S} {whole : S → E → S → S} {nodes ns : List (Node E S)} {root link : Option ℕ} {steps : List Step} {In : ℕ → ℕ → Type 0} {place rest : ℕ} (w : Walked empty whole nodes root ns link steps In place rest) where
  part_held : Holds false empty whole nodes link w.part
  part_held = w.way.held false w.all_held

  -- nothing hangs from the link
  pub walk_bare : link ≡ None → w.part ≡ leaf
  walk_bare e = held_leaf part_held e

  module _ {slot : ℕ} {node : Node E S} {lefts rights : List (Node E S)} {left right : Option ℕ} (f : Opens ns link slot node lefts left rights right) where
    stands : slice_get nodes slot ≡ Some node
    stands = ap (λ l. slice_get l slot) (sym w.same) ∙ f.stands

    pub walk_opened : Opened false empty whole nodes slot node w.part
    walk_opened = opened part_held slot f.leads node stands

    pub walk_room : length steps < 32
    walk_room =
        let h = height_plug w.way.frames w.part in
        let p = ap height w.way.plugs in
        let b = ap height walk_opened.is in
        let n = steps_length w.way.frames in
        let t = ap length w.way.traced in
        let l = w.low in
        omega arith

    module _ {n : ℕ} (sized : n ≡ size_at lefts left) where
      pub walk_before : n ≡ size walk_opened.before
      walk_before = sized ∙ ap₂ size_at (f.same_left ∙ w.same) f.at_left ∙ stored_right walk_opened.left

      pub walk_left : {more : List Step} → more ≡ steps ++ (record { slot = slot; side = Left } ∷ []) → In rest n → Walked empty whole nodes root lefts left more In place rest
      walk_left pushed within = record {
        all = w.all;
        part = walk_opened.before;
        all_held = w.all_held;
        same = f.same_left ∙ w.same;
        skipped = w.skipped;
        way = way_for_link (way_left w.way f.leads stands walk_opened pushed) (sym f.at_left) refl;
        adds = w.adds;
        low = w.low;
        within = λ h. subst (In rest) walk_before within;
      }

      pub walk_right : {more : List Step} → n < rest → more ≡ steps ++ (record { slot = slot; side = Right } ∷ []) → (In rest (suc (n + size walk_opened.after)) → In (rest - n - 1) (size walk_opened.after)) → Walked empty whole nodes root rights right more In place (rest - n - 1)
      walk_right past pushed within = record {
        all = w.all;
        part = walk_opened.after;
        all_held = w.all_held;
        same = f.same_right ∙ w.same;
        skipped = w.skipped + n + 1;
        way = way_for_link (way_right w.way f.leads stands walk_opened n walk_before pushed) (sym f.at_right) refl;
        adds = let a = w.adds in omega arith;
        low = w.low;
        within = λ h. within (subst (In rest) (ap size walk_opened.is ∙ ap (λ k. suc (k + size walk_opened.after)) (sym walk_before)) (w.within h));
      }

pub not_less : {a b : ℕ} → (a < b → ⊥) → b ≤ a
not_less {a} {b} h = let past : b < suc a = lt_of_not-le h in omega arith
