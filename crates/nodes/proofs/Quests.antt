-- What a search over the whole tree keeps while it goes down, with the nearest mark behind it.
use Rattle.std.proofs.Common.{◌≡◌, ℕ, ◌+◌, ◌-◌, ◌^◌, ◌<◌, ◌≤◌, Bool, true, false, ◌||◌, List, [], ◌∷◌, ◌++◌, length, take, drop, Some, None, Option, sym, refl, ap, ◌∙◌, subst, append_assoc, arith, length-drop, take-append-drop, take_all}
use Rattle.std.proofs.lemmas.List.{drop_all, length_push}
use Rattle.std.specs.Option.{option_or}
use Rattle.std.proofs.Math.Bool.{or-false}
use Rattle.nodes.specs.declared.node.Node.{Node}
use Rattle.nodes.specs.declared.element.Element.{Ghosts}
use Rattle.nodes.specs.declared.mark.Mark.{Mark}
use Rattle.nodes.specs.Tree.{Tree, items, size, summary, before_of, onward, up_to}
use Rattle.nodes.specs.Holding.{size_at, Holds, Opens}
use Rattle.nodes.specs.Rules.{Rules}
use Rattle.nodes.specs.Hits.{passed, any_hit, first_in, last_in, Lawful}
use Rattle.nodes.proofs.Held.{Opened, held_leaf, shaped, size_is_length}
use Rattle.nodes.proofs.Parts.{fork_opened, fork_left, fork_right}
use Rattle.nodes.proofs.Fronts.{front_left, front_right, back_left, back_right}
use Rattle.nodes.proofs.Hunts.{Judged, judged, here_is, later_is, told_left, passed_append, first_append, first_some, first_none, last_append, last_some, last_none, any_append, or_assoc}

-- what the search would find at the mark
abbrev pub Means : {P E S : Type 0} {e : Ghosts E S} → Rules P E S → (P → ℕ → Tree E → Option ℕ) → Option (Mark E P S e) → Option ℕ → Type 0
Means rules Side None later = later ≡ None
Means {E = E} {e = e} rules Side (Some m) later = (t : Tree E) × Holds true e.empty e.whole m.part.nodes.now m.part.link t × Lawful e.empty e.whole rules m.probe (items t) × (later ≡ Side m.probe m.place t)

-- a search has come to a part: what it looks for is in the rest of that part, or else what the mark means
pub record Quested {P E S : Type 0} {e : Ghosts E S} (rules : Rules P E S) (Rest : P → ℕ → ℕ → List E → Option ℕ) (Side : P → ℕ → Tree E → Option ℕ) (nodes : List (Node E S)) (link : Option ℕ) (p : P) (place rest : ℕ) (best : Option (Mark E P S e)) (goal : Option ℕ) : Type 0 where
  pub tree : Tree E
  pub held : Holds true e.empty e.whole nodes link tree
  pub law : Lawful e.empty e.whole rules p (items tree)
  pub later : Option ℕ
  pub means : Means rules Side best later
  pub same : goal ≡ option_or (Rest p place rest (items tree)) later

-- what a search over the whole tree keeps; that its places stay small rests on the first size that it reads
pub record Quest {P E S : Type 0} {e : Ghosts E S} (rules : Rules P E S) (Rest : P → ℕ → ℕ → List E → Option ℕ) (Side : P → ℕ → Tree E → Option ℕ) (all : List (Node E S)) (root : Option ℕ) (start : P) (from : ℕ) (nodes : List (Node E S)) (link : Option ℕ) (p : P) (place rest : ℕ) (best : Option (Mark E P S e)) : Type 0 where
  pub room : size_at nodes link < 2 ^ 64 → place + size_at nodes link < 2 ^ 64
  pub search : (t : Tree E) → Holds true e.empty e.whole all root t → Lawful e.empty e.whole rules start (items t) → Quested rules Rest Side nodes link p place rest best (Rest start 0 from (items t))

module _ {P E S : Type 0} {e : Ghosts E S} {rules : Rules P E S} {Rest : P → ℕ → ℕ → List E → Option ℕ} {Side : P → ℕ → Tree E → Option ℕ} {nodes : List (Node E S)} {link : Option ℕ} {p : P} {place rest : ℕ} {best : Option (Mark E P S e)} {goal : Option ℕ} (k : Quested rules Rest Side nodes link p place rest best goal) where
  -- at the end of the path the answer is what the mark means
  quested_end : link ≡ None → Rest p place rest [] ≡ None → goal ≡ k.later
  quested_end none bare = k.same ∙ ap (λ u. option_or (Rest p place rest (items u)) k.later) (held_leaf k.held none) ∙ ap (λ z. option_or z k.later) bare

  pub quested_none : link ≡ None → Rest p place rest [] ≡ None → best ≡ None → None ≡ goal
  quested_none none bare b = sym (quested_end none bare ∙ subst (λ o. Means rules Side o k.later) b k.means)

  pub quested_some : link ≡ None → Rest p place rest [] ≡ None → {m : Mark E P S e} → best ≡ Some m → {found : Option ℕ} → ((t : Tree E) → Holds true e.empty e.whole m.part.nodes.now m.part.link t → Lawful e.empty e.whole rules m.probe (items t) → found ≡ Side m.probe m.place t) → found ≡ goal
  quested_some none bare b finds =
      let m = subst (λ o. Means rules Side o k.later) b k.means in
      finds m.0 m.1 m.2 ∙ sym m.3 ∙ sym (quested_end none bare)

  module _ {lefts rights : List (Node E S)} {left right : Option ℕ} {at : ℕ} {node : Node E S} (f : Opens nodes link at node lefts left rights right) where
    -- a step to either side, with what is marked then
    quested_left : {best' : Option (Mark E P S e)} (later : Option ℕ) → Means rules Side best' later → option_or (Rest p place rest (items k.tree)) k.later ≡ option_or (Rest p place rest (items (fork_opened k.held f).before)) later → Quested rules Rest Side lefts left p place rest best' goal
    quested_left later means same = record { tree = (fork_opened k.held f).before; held = fork_left k.held f; law = (judged (fork_opened k.held f) k.law).left_law; later = later; means = means; same = k.same ∙ same }

    quested_right : {best' : Option (Mark E P S e)} (later : Option ℕ) → Means rules Side best' later → {r : P} (n rest' : ℕ) → r ≡ rules.past (passed rules p (items (fork_opened k.held f).before)) node.item → option_or (Rest p place rest (items k.tree)) k.later ≡ option_or (Rest r (place + n + 1) rest' (items (fork_opened k.held f).after)) later → Quested rules Rest Side rights right r (place + n + 1) rest' best' goal
    quested_right later means n rest' past same = record { tree = (fork_opened k.held f).after; held = fork_right k.held f; law = subst (λ z. Lawful e.empty e.whole rules z (items (fork_opened k.held f).after)) (sym past) (judged (fork_opened k.held f) k.law).right_law; later = later; means = means; same = k.same ∙ same }

-- what is looked for in a part, and at a mark, by a search for the first hit, and by one for the last
abbrev pub first_rest_of : {P E S : Type 0} → Rules P E S → P → ℕ → ℕ → List E → Option ℕ
first_rest_of rules p place rest xs = first_in rules (passed rules p (take rest xs)) (place + rest) (drop rest xs)

abbrev pub first_side : {P E S : Type 0} → Rules P E S → P → ℕ → Tree E → Option ℕ
first_side rules p place t = first_in rules (passed rules p (items (before_of t))) (place + size (before_of t)) (onward t)

abbrev pub last_rest_of : {P E S : Type 0} → Rules P E S → P → ℕ → ℕ → List E → Option ℕ
last_rest_of rules p place rest xs = last_in rules p place (take rest xs)

abbrev pub last_side : {P E S : Type 0} → Rules P E S → P → ℕ → Tree E → Option ℕ
last_side rules p place t = last_in rules p place (up_to t)

module _ {P E S : Type 0} (rules : Rules P E S) where
  pub first_bare : (p : P) (k r : ℕ) → first_rest_of rules p k r [] ≡ None
  first_bare p k r = ap (first_in rules (passed rules p (take r [])) (k + r)) (drop_all r [] (omega arith))

  pub last_bare : (p : P) (k r : ℕ) → last_rest_of rules p k r [] ≡ None
  last_bare p k r = ap (last_in rules p k) (take_all r [] (omega arith))

module _ {P E S : Type 0} {empty : S} {whole : S → E → S → S} {rules : Rules P E S} {must : Bool} {nodes : List (Node E S)} {slot : ℕ} {node : Node E S} {t : Tree E} (o : Opened must empty whole nodes slot node t) {p : P} (j : Judged empty whole rules p node.item o.before o.after) (place rest n : ℕ) (sized : n ≡ size o.before) {part : S} (sum : part ≡ summary empty whole o.before) {q : P} (made : q ≡ rules.beyond p part) where
  pub first_rest_right : {r : P} → n < rest → r ≡ rules.past q node.item → first_rest_of rules p place rest (items t) ≡ first_rest_of rules r (place + n + 1) (rest - n - 1) (items o.after)
  first_rest_right {r} h past =
      let B = items o.before in
      let A = items o.after in
      let k = rest - n - 1 in
      let number : place + rest ≡ place + n + 1 + k = omega arith in
      let probe : passed rules p (take rest (items t)) ≡ passed rules r (take k A) = ap (passed rules p) (front_right o n rest sized h) ∙ passed_append rules p B (node.item ∷ take k A) ∙ ap (λ z. passed rules z (take k A)) (sym (later_is j sum made past)) in
      ap (λ z. first_in rules z (place + rest) (drop rest (items t))) probe ∙ ap (λ m. first_in rules (passed rules r (take k A)) m (drop rest (items t))) number ∙ ap (first_in rules (passed rules r (take k A)) (place + n + 1 + k)) (back_right o n rest sized h)

  pub first_rest_left : rest ≤ n → first_rest_of rules p place rest (items t) ≡ option_or (first_rest_of rules p place rest (items o.before)) (first_side rules p place t)
  first_rest_left h =
      let B = items o.before in
      let tail = node.item ∷ items o.after in
      let early = passed rules p (take rest B) in
      let within : length B ≡ n = size_is_length o.before ∙ sym sized in
      let dropped = length-drop rest B in
      let number : place + rest + length (drop rest B) ≡ place + size o.before = omega arith in
      let probe : passed rules early (drop rest B) ≡ passed rules p B = sym (passed_append rules p (take rest B) (drop rest B)) ∙ ap (passed rules p) (take-append-drop rest B) in
      let side : first_side rules p place t ≡ first_in rules (passed rules p B) (place + size o.before) tail = ap (first_side rules p place) o.is in
      ap (λ l. first_in rules (passed rules p l) (place + rest) (drop rest (items t))) (front_left o n rest sized h)
      ∙ ap (first_in rules early (place + rest)) (back_left o n rest sized h)
      ∙ first_append rules early (place + rest) (drop rest B) tail
      ∙ ap (λ m. option_or (first_in rules early (place + rest) (drop rest B)) (first_in rules (passed rules early (drop rest B)) m tail)) number
      ∙ ap (λ z. option_or (first_in rules early (place + rest) (drop rest B)) (first_in rules z (place + size o.before) tail)) probe
      ∙ ap (option_or (first_in rules early (place + rest) (drop rest B))) (sym side)

  -- what was said of the items from the node on
  told_onward : {b : Bool} → b ≡ (rules.hits q node.item || rules.reaches (rules.past q node.item) (summary empty whole o.after)) → any_hit rules (passed rules p (items o.before)) (node.item ∷ items o.after) ≡ b
  told_onward said =
      let here = here_is j sum made in
      let x = node.item in
      let B = items o.before in
      sym (said ∙ ap (λ z. rules.hits z x || rules.reaches (rules.past z x) (summary empty whole o.after)) here ∙ ap (λ k. rules.hits (passed rules p B) x || k) j.finds_right)

  side_is : first_side rules p place t ≡ first_in rules (passed rules p (items o.before)) (place + size o.before) (node.item ∷ items o.after)
  side_is = ap (first_side rules p place) o.is

  -- the two ways to the left: a hit from the node on takes the place of what was marked, or leaves it
  pub first_mark_way : rest ≤ n → true ≡ (rules.hits q node.item || rules.reaches (rules.past q node.item) (summary empty whole o.after)) → (later : Option ℕ) → option_or (first_rest_of rules p place rest (items t)) later ≡ option_or (first_rest_of rules p place rest (items o.before)) (first_side rules p place t)
  first_mark_way h said later =
      let R = first_rest_of rules p place rest (items o.before) in
      let found : option_or (first_side rules p place t) later ≡ first_side rules p place t = ap (λ z. option_or z later) side_is ∙ first_some rules (passed rules p (items o.before)) (place + size o.before) (node.item ∷ items o.after) later (told_onward said) ∙ sym side_is in
      ap (λ z. option_or z later) (first_rest_left h) ∙ or_assoc R (first_side rules p place t) later ∙ ap (option_or R) found

  pub first_leave_way : rest ≤ n → false ≡ (rules.hits q node.item || rules.reaches (rules.past q node.item) (summary empty whole o.after)) → (later : Option ℕ) → option_or (first_rest_of rules p place rest (items t)) later ≡ option_or (first_rest_of rules p place rest (items o.before)) later
  first_leave_way h said later =
      let R = first_rest_of rules p place rest (items o.before) in
      let nothing : first_side rules p place t ≡ None = side_is ∙ first_none rules (passed rules p (items o.before)) (place + size o.before) (node.item ∷ items o.after) (told_onward said) in
      ap (λ z. option_or z later) (first_rest_left h) ∙ or_assoc R (first_side rules p place t) later ∙ ap (λ z. option_or R (option_or z later)) nothing

  pub last_rest_left : rest ≤ n → last_rest_of rules p place rest (items t) ≡ last_rest_of rules p place rest (items o.before)
  last_rest_left h = ap (last_in rules p place) (front_left o n rest sized h)

  last_rest_right : {r : P} → n < rest → r ≡ rules.past q node.item → last_rest_of rules p place rest (items t) ≡ option_or (last_rest_of rules r (place + n + 1) (rest - n - 1) (items o.after)) (last_side rules p place t)
  last_rest_right {r} h past =
      let B = items o.before in
      let x = node.item in
      let later = take (rest - n - 1) (items o.after) in
      let front = B ++ (x ∷ []) in
      let long : length front ≡ n + 1 = length_push B x ∙ ap (λ k. k + 1) (size_is_length o.before ∙ sym sized) in
      let number : place + length front ≡ place + n + 1 = omega arith in
      let probe : passed rules p front ≡ r = passed_append rules p B (x ∷ []) ∙ sym (later_is j sum made past) in
      ap (last_in rules p place) (front_right o n rest sized h ∙ sym (append_assoc B (x ∷ []) later))
      ∙ last_append rules p place front later
      ∙ ap (λ k. option_or (last_in rules (passed rules p front) k later) (last_in rules p place front)) number
      ∙ ap (λ z. option_or (last_in rules z (place + n + 1) later) (last_in rules p place front)) probe
      ∙ ap (option_or (last_in rules r (place + n + 1) later)) (sym (ap (last_side rules p place) o.is))

  -- what was said of the items up to the node
  told_back : {b : Bool} → b ≡ (rules.reaches p part || rules.hits q node.item) → any_hit rules p (items o.before ++ (node.item ∷ [])) ≡ b
  told_back {b} said =
      let B = items o.before in
      let x = node.item in
      any_append rules p B (x ∷ [])
      ∙ ap (λ k. any_hit rules p B || k) (or-false (rules.hits (passed rules p B) x))
      ∙ ap (λ z. any_hit rules p B || rules.hits z x) (sym (here_is j sum made))
      ∙ ap (λ k. k || rules.hits q x) (told_left j sum refl)
      ∙ sym said

  pub last_mark_way : {r : P} → n < rest → true ≡ (rules.reaches p part || rules.hits q node.item) → r ≡ rules.past q node.item → (later : Option ℕ) → option_or (last_rest_of rules p place rest (items t)) later ≡ option_or (last_rest_of rules r (place + n + 1) (rest - n - 1) (items o.after)) (last_side rules p place t)
  last_mark_way {r} h said past later =
      let R = last_rest_of rules r (place + n + 1) (rest - n - 1) (items o.after) in
      let side : last_side rules p place t ≡ last_in rules p place (items o.before ++ (node.item ∷ [])) = ap (last_side rules p place) o.is in
      let found : option_or (last_side rules p place t) later ≡ last_side rules p place t = ap (λ z. option_or z later) side ∙ last_some rules p place (items o.before ++ (node.item ∷ [])) later (told_back said) ∙ sym side in
      ap (λ z. option_or z later) (last_rest_right h past) ∙ or_assoc R (last_side rules p place t) later ∙ ap (option_or R) found

  pub last_leave_way : {r : P} → n < rest → false ≡ (rules.reaches p part || rules.hits q node.item) → r ≡ rules.past q node.item → (later : Option ℕ) → option_or (last_rest_of rules p place rest (items t)) later ≡ option_or (last_rest_of rules r (place + n + 1) (rest - n - 1) (items o.after)) later
  last_leave_way {r} h said past later =
      let R = last_rest_of rules r (place + n + 1) (rest - n - 1) (items o.after) in
      let nothing : last_side rules p place t ≡ None = ap (last_side rules p place) o.is ∙ last_none rules p place (items o.before ++ (node.item ∷ [])) (told_back said) in
      ap (λ z. option_or z later) (last_rest_right h past) ∙ or_assoc R (last_side rules p place t) later ∙ ap (λ z. option_or R (option_or z later)) nothing

-- the steps of both searches, from what was read at a fork; a mark is left at the part itself
module _ {P E S : Type 0} {e : Ghosts E S} {rules : Rules P E S} {nodes : List (Node E S)} {link : Option ℕ} {p : P} {place rest : ℕ} {best : Option (Mark E P S e)} {goal : Option ℕ} (k : Quested rules (first_rest_of rules) (first_side rules) nodes link p place rest best goal) {lefts rights : List (Node E S)} {left right : Option ℕ} {at : ℕ} {node : Node E S} (f : Opens nodes link at node lefts left rights right) {n : ℕ} (sized : (t : Tree E) → Holds false e.empty e.whole lefts left t → n ≡ size t) {part : S} (summed : (t : Tree E) → Holds true e.empty e.whole lefts left t → part ≡ summary e.empty e.whole t) {q : P} (made : q ≡ rules.beyond p part) where
  pub first_quest_right : {r : P} → n < rest → r ≡ rules.past q node.item → Quested rules (first_rest_of rules) (first_side rules) rights right r (place + n + 1) (rest - n - 1) best goal
  first_quest_right h past =
      let o = fork_opened k.held f in
      let l = fork_left k.held f in
      let j = judged o k.law in
      quested_right k f k.later k.means n (rest - n - 1) (later_is j (summed _ l) made past) (ap (λ z. option_or z k.later) (first_rest_right o j place rest n (sized _ (shaped l)) (summed _ l) made h past))

  pub first_quest_left : rest ≤ n → ((t : Tree E) → Holds true e.empty e.whole rights right t → false ≡ (rules.hits q node.item || rules.reaches (rules.past q node.item) (summary e.empty e.whole t))) → Quested rules (first_rest_of rules) (first_side rules) lefts left p place rest best goal
  first_quest_left h said =
      let o = fork_opened k.held f in
      let l = fork_left k.held f in
      quested_left k f k.later k.means (first_leave_way o (judged o k.law) place rest n (sized _ (shaped l)) (summed _ l) made h (said _ (fork_right k.held f)) k.later)

module _ {P E S : Type 0} {e : Ghosts E S} {rules : Rules P E S} {rest : ℕ} {best : Option (Mark E P S e)} {goal : Option ℕ} {m : Mark E P S e} (k : Quested rules (first_rest_of rules) (first_side rules) m.part.nodes.now m.part.link m.probe m.place rest best goal) {lefts rights : List (Node E S)} {left right : Option ℕ} {at : ℕ} {node : Node E S} (f : Opens m.part.nodes.now m.part.link at node lefts left rights right) {n : ℕ} (sized : (t : Tree E) → Holds false e.empty e.whole lefts left t → n ≡ size t) {part : S} (summed : (t : Tree E) → Holds true e.empty e.whole lefts left t → part ≡ summary e.empty e.whole t) {q : P} (made : q ≡ rules.beyond m.probe part) where
  pub first_quest_marked : rest ≤ n → ((t : Tree E) → Holds true e.empty e.whole rights right t → true ≡ (rules.hits q node.item || rules.reaches (rules.past q node.item) (summary e.empty e.whole t))) → Quested rules (first_rest_of rules) (first_side rules) lefts left m.probe m.place rest (Some m) goal
  first_quest_marked h said =
      let o = fork_opened k.held f in
      let l = fork_left k.held f in
      quested_left k f (first_side rules m.probe m.place k.tree) (k.tree, k.held, k.law, refl) (first_mark_way o (judged o k.law) m.place rest n (sized _ (shaped l)) (summed _ l) made h (said _ (fork_right k.held f)) k.later)

module _ {P E S : Type 0} {e : Ghosts E S} {rules : Rules P E S} {nodes : List (Node E S)} {link : Option ℕ} {p : P} {place rest : ℕ} {best : Option (Mark E P S e)} {goal : Option ℕ} (k : Quested rules (last_rest_of rules) (last_side rules) nodes link p place rest best goal) {lefts rights : List (Node E S)} {left right : Option ℕ} {at : ℕ} {node : Node E S} (f : Opens nodes link at node lefts left rights right) {n : ℕ} (sized : (t : Tree E) → Holds false e.empty e.whole lefts left t → n ≡ size t) {part : S} (summed : (t : Tree E) → Holds true e.empty e.whole lefts left t → part ≡ summary e.empty e.whole t) {q : P} (made : q ≡ rules.beyond p part) where
  pub last_quest_left : rest ≤ n → Quested rules (last_rest_of rules) (last_side rules) lefts left p place rest best goal
  last_quest_left h =
      let o = fork_opened k.held f in
      let l = fork_left k.held f in
      quested_left k f k.later k.means (ap (λ z. option_or z k.later) (last_rest_left o (judged o k.law) place rest n (sized _ (shaped l)) (summed _ l) made h))

  pub last_quest_right : {r : P} → n < rest → false ≡ (rules.reaches p part || rules.hits q node.item) → r ≡ rules.past q node.item → Quested rules (last_rest_of rules) (last_side rules) rights right r (place + n + 1) (rest - n - 1) best goal
  last_quest_right h said past =
      let o = fork_opened k.held f in
      let l = fork_left k.held f in
      let j = judged o k.law in
      quested_right k f k.later k.means n (rest - n - 1) (later_is j (summed _ l) made past) (last_leave_way o j place rest n (sized _ (shaped l)) (summed _ l) made h said past k.later)

module _ {P E S : Type 0} {e : Ghosts E S} {rules : Rules P E S} {rest : ℕ} {best : Option (Mark E P S e)} {goal : Option ℕ} {m : Mark E P S e} (k : Quested rules (last_rest_of rules) (last_side rules) m.part.nodes.now m.part.link m.probe m.place rest best goal) {lefts rights : List (Node E S)} {left right : Option ℕ} {at : ℕ} {node : Node E S} (f : Opens m.part.nodes.now m.part.link at node lefts left rights right) {n : ℕ} (sized : (t : Tree E) → Holds false e.empty e.whole lefts left t → n ≡ size t) {part : S} (summed : (t : Tree E) → Holds true e.empty e.whole lefts left t → part ≡ summary e.empty e.whole t) {q : P} (made : q ≡ rules.beyond m.probe part) where
  pub last_quest_marked : {r : P} → n < rest → true ≡ (rules.reaches m.probe part || rules.hits q node.item) → r ≡ rules.past q node.item → Quested rules (last_rest_of rules) (last_side rules) rights right r (m.place + n + 1) (rest - n - 1) (Some m) goal
  last_quest_marked h said past =
      let o = fork_opened k.held f in
      let l = fork_left k.held f in
      let j = judged o k.law in
      quested_right k f (last_side rules m.probe m.place k.tree) (k.tree, k.held, k.law, refl) n (rest - n - 1) (later_is j (summed _ l) made past) (last_mark_way o j m.place rest n (sized _ (shaped l)) (summed _ l) made h said past k.later)
