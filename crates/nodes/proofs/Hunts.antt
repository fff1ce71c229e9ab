-- What a search keeps while it goes down.
use Rattle.std.proofs.Common.{◌≡◌, ℕ, suc, ◌+◌, ◌^◌, ◌<◌, Bool, true, false, cond, ◌||◌, List, [], ◌∷◌, ◌++◌, length, Some, None, Option, sym, refl, ap, ◌∙◌, subst, append_assoc, append-nil, zero-add, arith}
use Rattle.std.proofs.lemmas.Option.{slice_get_past}
use Rattle.std.specs.List.{slice_get}
use Rattle.std.specs.Option.{option_or, unwrap_or}
use Rattle.nodes.specs.declared.node.Node.{Node}
use Rattle.nodes.specs.Tree.{Tree, items, size, summary}
use Rattle.nodes.specs.Holding.{size_at, Holds, Opens}
use Rattle.nodes.specs.Rules.{Rules}
use Rattle.nodes.specs.Hits.{passed, any_hit, first_in, last_in, rank_in, Lawful}
use Rattle.nodes.proofs.Held.{Opened, held_leaf, shaped, size_is_length}
use Rattle.nodes.proofs.Parts.{fork_opened, fork_left, fork_right}

pub or_none : {X : Type 0} (a : Option X) → a ≡ option_or a None
or_none None = refl
or_none (Some x) = refl

pub or_assoc : {X : Type 0} (a b c : Option X) → option_or (option_or a b) c ≡ option_or a (option_or b c)
or_assoc None b c = refl
or_assoc (Some x) b c = refl

module _ {P E S : Type 0} (rules : Rules P E S) where
  pub passed_append : (p : P) (xs ys : List E) → passed rules p (xs ++ ys) ≡ passed rules (passed rules p xs) ys
  passed_append p [] ys = refl
  passed_append p (x ∷ xs) ys = passed_append (rules.past p x) xs ys

  pub first_append : (p : P) (b : ℕ) (xs ys : List E) → first_in rules p b (xs ++ ys) ≡ option_or (first_in rules p b xs) (first_in rules (passed rules p xs) (b + length xs) ys)
  first_append p b [] ys = ap (λ k. first_in rules p k ys) (let e : b ≡ b + 0 = omega arith in e)
  first_append p b (x ∷ xs) ys = go (rules.hits p x) (first_append (rules.past p x) (suc b) xs ys)
    where
      go : (h : Bool) → first_in rules (rules.past p x) (suc b) (xs ++ ys) ≡ option_or (first_in rules (rules.past p x) (suc b) xs) (first_in rules (passed rules (rules.past p x) xs) (suc b + length xs) ys) → cond h (Some b) (first_in rules (rules.past p x) (suc b) (xs ++ ys)) ≡ option_or (cond h (Some b) (first_in rules (rules.past p x) (suc b) xs)) (first_in rules (passed rules (rules.past p x) xs) (b + suc (length xs)) ys)
      go true ih = refl
      go false ih = ih ∙ ap (λ k. option_or (first_in rules (rules.past p x) (suc b) xs) (first_in rules (passed rules (rules.past p x) xs) k ys)) (let e : suc b + length xs ≡ b + suc (length xs) = omega arith in e)

  pub first_none : (p : P) (b : ℕ) (xs : List E) → any_hit rules p xs ≡ false → first_in rules p b xs ≡ None
  first_none p b [] h = refl
  first_none p b (x ∷ xs) h = go (rules.hits p x) h (first_none (rules.past p x) (suc b) xs)
    where
      go : (k : Bool) → (k || any_hit rules (rules.past p x) xs) ≡ false → (any_hit rules (rules.past p x) xs ≡ false → first_in rules (rules.past p x) (suc b) xs ≡ None) → cond k (Some b) (first_in rules (rules.past p x) (suc b) xs) ≡ None
      go true e ih = cc
      go false e ih = ih e

  pub first_some : (p : P) (b : ℕ) (xs : List E) (z : Option ℕ) → any_hit rules p xs ≡ true → option_or (first_in rules p b xs) z ≡ first_in rules p b xs
  first_some p b [] z h = cc
  first_some p b (x ∷ xs) z h = go (rules.hits p x) h (first_some (rules.past p x) (suc b) xs z)
    where
      go : (k : Bool) → (k || any_hit rules (rules.past p x) xs) ≡ true → (any_hit rules (rules.past p x) xs ≡ true → option_or (first_in rules (rules.past p x) (suc b) xs) z ≡ first_in rules (rules.past p x) (suc b) xs) → option_or (cond k (Some b) (first_in rules (rules.past p x) (suc b) xs)) z ≡ cond k (Some b) (first_in rules (rules.past p x) (suc b) xs)
      go true e ih = refl
      go false e ih = ih e

  -- the first item decides, or leaves it to the others
  pub first_here : (p : P) (b : ℕ) (x : E) (xs : List E) → rules.hits p x ≡ true → first_in rules p b (x ∷ xs) ≡ Some b
  first_here p b x xs h = ap (λ k. cond k (Some b) (first_in rules (rules.past p x) (suc b) xs)) h

  pub first_later : (p : P) (b : ℕ) (x : E) (xs : List E) → rules.hits p x ≡ false → first_in rules p b (x ∷ xs) ≡ first_in rules (rules.past p x) (b + 1) xs
  first_later p b x xs h = ap (λ k. cond k (Some b) (first_in rules (rules.past p x) (suc b) xs)) h ∙ ap (λ k. first_in rules (rules.past p x) k xs) (let e : suc b ≡ b + 1 = omega arith in e)

  pub last_append : (p : P) (b : ℕ) (xs ys : List E) → last_in rules p b (xs ++ ys) ≡ option_or (last_in rules (passed rules p xs) (b + length xs) ys) (last_in rules p b xs)
  last_append p b [] ys = ap (λ k. last_in rules p k ys) (let e : b ≡ b + 0 = omega arith in e) ∙ or_none (last_in rules p (b + 0) ys)
  last_append p b (x ∷ xs) ys =
      let e : suc b + length xs ≡ b + suc (length xs) = omega arith in
      let one = cond (rules.hits p x) (Some b) None in
      ap (λ l. option_or l one) (last_append (rules.past p x) (suc b) xs ys) ∙ ap (λ k. option_or (option_or (last_in rules (passed rules (rules.past p x) xs) k ys) (last_in rules (rules.past p x) (suc b) xs)) one) e ∙ or_assoc (last_in rules (passed rules (rules.past p x) xs) (b + suc (length xs)) ys) (last_in rules (rules.past p x) (suc b) xs) one

  pub last_none : (p : P) (b : ℕ) (xs : List E) → any_hit rules p xs ≡ false → last_in rules p b xs ≡ None
  last_none p b [] h = refl
  last_none p b (x ∷ xs) h = go (rules.hits p x) h (last_none (rules.past p x) (suc b) xs)
    where
      go : (k : Bool) → (k || any_hit rules (rules.past p x) xs) ≡ false → (any_hit rules (rules.past p x) xs ≡ false → last_in rules (rules.past p x) (suc b) xs ≡ None) → option_or (last_in rules (rules.past p x) (suc b) xs) (cond k (Some b) None) ≡ None
      go true e ih = cc
      go false e ih = ap (λ l. option_or l None) (ih e)

  pub last_some : (p : P) (b : ℕ) (xs : List E) (z : Option ℕ) → any_hit rules p xs ≡ true → option_or (last_in rules p b xs) z ≡ last_in rules p b xs
  last_some p b [] z h = cc
  last_some p b (x ∷ xs) z h = or_assoc (last_in rules (rules.past p x) (suc b) xs) (cond (rules.hits p x) (Some b) None) z ∙ go (rules.hits p x) h (λ y k. last_some (rules.past p x) (suc b) xs y k)
    where
      go : (k : Bool) → (k || any_hit rules (rules.past p x) xs) ≡ true → ((y : Option ℕ) → any_hit rules (rules.past p x) xs ≡ true → option_or (last_in rules (rules.past p x) (suc b) xs) y ≡ last_in rules (rules.past p x) (suc b) xs) → option_or (last_in rules (rules.past p x) (suc b) xs) (option_or (cond k (Some b) None) z) ≡ option_or (last_in rules (rules.past p x) (suc b) xs) (cond k (Some b) None)
      go true e ih = refl
      go false e ih = ih z e ∙ sym (ih None e)

  pub any_append : (p : P) (xs ys : List E) → any_hit rules p (xs ++ ys) ≡ (any_hit rules p xs || any_hit rules (passed rules p xs) ys)
  any_append p [] ys = refl
  any_append p (x ∷ xs) ys = go (rules.hits p x) (any_append (rules.past p x) xs ys)
    where
      go : (k : Bool) → any_hit rules (rules.past p x) (xs ++ ys) ≡ (any_hit rules (rules.past p x) xs || any_hit rules (passed rules (rules.past p x) xs) ys) → (k || any_hit rules (rules.past p x) (xs ++ ys)) ≡ ((k || any_hit rules (rules.past p x) xs) || any_hit rules (passed rules (rules.past p x) xs) ys)
      go true ih = refl
      go false ih = ih

module _ {P E S : Type 0} {empty : S} {whole : S → E → S → S} {rules : Rules P E S} where
  -- a lawful probe is lawful on a part of the list, past what stands before it
  pub lawful_part : {p : P} {list : List E} → Lawful empty whole rules p list → (xs ys zs : List E) → list ≡ xs ++ (ys ++ zs) → Lawful empty whole rules (passed rules p xs) ys
  lawful_part {p} {list} law xs ys zs e =
      record {
        passes = λ fs t bs d. subst (λ q. rules.beyond q (summary empty whole t) ≡ passed rules q (items t)) (passed_append rules p xs fs) (law.passes (xs ++ fs) t (bs ++ zs) (wider fs t bs d));
        finds = λ fs t bs d. subst (λ q. rules.reaches q (summary empty whole t) ≡ any_hit rules q (items t)) (passed_append rules p xs fs) (law.finds (xs ++ fs) t (bs ++ zs) (wider fs t bs d));
      }
    where
      wider : (fs : List E) (t : Tree E) (bs : List E) → ys ≡ fs ++ (items t ++ bs) → list ≡ (xs ++ fs) ++ (items t ++ (bs ++ zs))
      wider fs t bs d = e ∙ ap (λ l. xs ++ (l ++ zs)) d ∙ simp append_assoc

-- what a lawful probe tells of the two sides of a node
pub record Judged {P E S : Type 0} (empty : S) (whole : S → E → S → S) (rules : Rules P E S) (p : P) (item : E) (before after : Tree E) : Type 0 where
  pub left_law : Lawful empty whole rules p (items before)
  pub right_law : Lawful empty whole rules (rules.past (passed rules p (items before)) item) (items after)
  pub passes_left : rules.beyond p (summary empty whole before) ≡ passed rules p (items before)
  pub finds_left : rules.reaches p (summary empty whole before) ≡ any_hit rules p (items before)
  pub finds_right : rules.reaches (rules.past (passed rules p (items before)) item) (summary empty whole after) ≡ any_hit rules (rules.past (passed rules p (items before)) item) (items after)

module _ {P E S : Type 0} {empty : S} {whole : S → E → S → S} {rules : Rules P E S} {must : Bool} {nodes : List (Node E S)} {slot : ℕ} {node : Node E S} {t : Tree E} (o : Opened must empty whole nodes slot node t) where
  pub judged : {p : P} → Lawful empty whole rules p (items t) → Judged empty whole rules p node.item o.before o.after
  judged {p} law =
      let B = items o.before in
      let A = items o.after in
      let x = node.item in
      let e : items t ≡ B ++ (x ∷ A) = ap items o.is in
      let d : items t ≡ (B ++ (x ∷ [])) ++ (A ++ []) = e ∙ ap (λ l. B ++ (x ∷ l)) (sym (append-nil A)) ∙ sym (append_assoc B (x ∷ []) (A ++ [])) in
      let q : passed rules p (B ++ (x ∷ [])) ≡ rules.past (passed rules p B) x = passed_append rules p B (x ∷ []) in
      record {
        left_law = lawful_part law [] B (x ∷ A) e;
        right_law = subst (λ z. Lawful empty whole rules z A) q (lawful_part law (B ++ (x ∷ [])) A [] d);
        passes_left = law.passes [] o.before (x ∷ A) e;
        finds_left = law.finds [] o.before (x ∷ A) e;
        finds_right = subst (λ z. rules.reaches z (summary empty whole o.after) ≡ any_hit rules z A) q (law.finds (B ++ (x ∷ [])) o.after [] d);
      }

module _ {P E S : Type 0} {empty : S} {whole : S → E → S → S} {must : Bool} {nodes : List (Node E S)} {slot : ℕ} {node : Node E S} {t : Tree E} (o : Opened must empty whole nodes slot node t) where
  pub first_left : (rules : Rules P E S) (p : P) (b : ℕ) → any_hit rules p (items o.before) ≡ true → first_in rules p b (items t) ≡ first_in rules p b (items o.before)
  first_left rules p b h = ap (λ u. first_in rules p b (items u)) o.is ∙ first_append rules p b (items o.before) (node.item ∷ items o.after) ∙ first_some rules p b (items o.before) _ h

  pub first_rest : (rules : Rules P E S) (p : P) (b n : ℕ) → n ≡ size o.before → any_hit rules p (items o.before) ≡ false → first_in rules p b (items t) ≡ first_in rules (passed rules p (items o.before)) (b + n) (node.item ∷ items o.after)
  first_rest rules p b n s h =
      let e : b + length (items o.before) ≡ b + n = ap (λ k. b + k) (size_is_length o.before ∙ sym s) in
      let later : ℕ → Option ℕ = λ k. first_in rules (passed rules p (items o.before)) k (node.item ∷ items o.after) in
      ap (λ u. first_in rules p b (items u)) o.is ∙ first_append rules p b (items o.before) (node.item ∷ items o.after) ∙ ap (λ f. option_or f (later (b + length (items o.before)))) (first_none rules p b (items o.before) h) ∙ ap later e

-- what the probe said of the part on a side, from the summary that was read there
module _ {P E S : Type 0} {empty : S} {whole : S → E → S → S} {rules : Rules P E S} {p : P} {item : E} {before after : Tree E} (j : Judged empty whole rules p item before after) where
  pub told_left : {part : S} {b : Bool} → part ≡ summary empty whole before → b ≡ rules.reaches p part → any_hit rules p (items before) ≡ b
  told_left sum said = sym j.finds_left ∙ ap (rules.reaches p) (sym sum) ∙ sym said

  pub here_is : {part : S} {q : P} → part ≡ summary empty whole before → q ≡ rules.beyond p part → q ≡ passed rules p (items before)
  here_is sum made = made ∙ ap (rules.beyond p) sum ∙ j.passes_left

  pub later_is : {part : S} {q r : P} → part ≡ summary empty whole before → q ≡ rules.beyond p part → r ≡ rules.past q item → r ≡ rules.past (passed rules p (items before)) item
  later_is sum made past = past ∙ ap (λ z. rules.past z item) (here_is sum made)

  pub told_right : {part later : S} {q r : P} {b : Bool} → part ≡ summary empty whole before → later ≡ summary empty whole after → q ≡ rules.beyond p part → r ≡ rules.past q item → b ≡ rules.reaches r later → any_hit rules r (items after) ≡ b
  told_right {later = later} {r = r} sum sum' made past said =
      let e = later_is sum made past in
      ap (λ z. any_hit rules z (items after)) e ∙ sym j.finds_right ∙ ap (λ z. rules.reaches z (summary empty whole after)) (sym e) ∙ ap (rules.reaches r) (sym sum') ∙ sym said

-- the three ways of a search for the first hit at a node
module _ {P E S : Type 0} {empty : S} {whole : S → E → S → S} {rules : Rules P E S} {must : Bool} {nodes : List (Node E S)} {slot : ℕ} {node : Node E S} {t : Tree E} (o : Opened must empty whole nodes slot node t) {p : P} (j : Judged empty whole rules p node.item o.before o.after) (b : ℕ) {part : S} (sum : part ≡ summary empty whole o.before) where
  pub first_left_way : true ≡ rules.reaches p part → first_in rules p b (items t) ≡ first_in rules p b (items o.before)
  first_left_way said = first_left o rules p b (told_left j sum said)

  pub first_here_way : {q : P} (n : ℕ) → n ≡ size o.before → false ≡ rules.reaches p part → q ≡ rules.beyond p part → true ≡ rules.hits q node.item → Some (b + n) ≡ first_in rules p b (items t)
  first_here_way n s said made hit =
      let hits : rules.hits (passed rules p (items o.before)) node.item ≡ true = ap (λ z. rules.hits z node.item) (sym (here_is j sum made)) ∙ sym hit in
      sym (first_rest o rules p b n s (told_left j sum said) ∙ first_here rules (passed rules p (items o.before)) (b + n) node.item (items o.after) hits)

  pub first_right_way : {q r : P} (n : ℕ) → n ≡ size o.before → false ≡ rules.reaches p part → q ≡ rules.beyond p part → false ≡ rules.hits q node.item → r ≡ rules.past q node.item → first_in rules p b (items t) ≡ first_in rules r (b + n + 1) (items o.after)
  first_right_way n s said made miss past =
      let misses : rules.hits (passed rules p (items o.before)) node.item ≡ false = ap (λ z. rules.hits z node.item) (sym (here_is j sum made)) ∙ sym miss in
      first_rest o rules p b n s (told_left j sum said) ∙ first_later rules (passed rules p (items o.before)) (b + n) node.item (items o.after) misses ∙ ap (λ z. first_in rules z (b + n + 1) (items o.after)) (sym (later_is j sum made past))

-- the three ways of a search for the last hit at a node
module _ {P E S : Type 0} {empty : S} {whole : S → E → S → S} {rules : Rules P E S} {must : Bool} {nodes : List (Node E S)} {slot : ℕ} {node : Node E S} {t : Tree E} (o : Opened must empty whole nodes slot node t) {p : P} (j : Judged empty whole rules p node.item o.before o.after) (b : ℕ) {part later : S} (sum : part ≡ summary empty whole o.before) (sum' : later ≡ summary empty whole o.after) (n : ℕ) (sized : n ≡ size o.before) {q r : P} (made : q ≡ rules.beyond p part) (past : r ≡ rules.past q node.item) where
  -- the last hit after the item, else at it, else before it
  last_split : last_in rules p b (items t) ≡ option_or (last_in rules r (b + n + 1) (items o.after)) (option_or (cond (rules.hits q node.item) (Some (b + n)) None) (last_in rules p b (items o.before)))
  last_split =
      let B = items o.before in
      let A = items o.after in
      let x = node.item in
      let here : passed rules p B ≡ q = sym (here_is j sum made) in
      let at : b + length B ≡ b + n = ap (λ k. b + k) (size_is_length o.before ∙ sym sized) in
      let next : suc (b + n) ≡ b + n + 1 = omega arith in
      ap (λ u. last_in rules p b (items u)) o.is
      ∙ last_append rules p b B (x ∷ A)
      ∙ ap (λ k. option_or (last_in rules (passed rules p B) k (x ∷ A)) (last_in rules p b B)) at
      ∙ ap (λ z. option_or (last_in rules z (b + n) (x ∷ A)) (last_in rules p b B)) here
      ∙ or_assoc (last_in rules (rules.past q x) (suc (b + n)) A) (cond (rules.hits q x) (Some (b + n)) None) (last_in rules p b B)
      ∙ ap (λ z. option_or (last_in rules z (suc (b + n)) A) (option_or (cond (rules.hits q x) (Some (b + n)) None) (last_in rules p b B))) (sym past)
      ∙ ap (λ k. option_or (last_in rules r k A) (option_or (cond (rules.hits q x) (Some (b + n)) None) (last_in rules p b B))) next

  pub last_right_way : true ≡ rules.reaches r later → last_in rules p b (items t) ≡ last_in rules r (b + n + 1) (items o.after)
  last_right_way said = last_split ∙ last_some rules r (b + n + 1) (items o.after) _ (told_right j sum sum' made past said)

  pub last_here_way : false ≡ rules.reaches r later → true ≡ rules.hits q node.item → Some (b + n) ≡ last_in rules p b (items t)
  last_here_way said hit =
      let one : Bool → Option ℕ = λ k. option_or (cond k (Some (b + n)) None) (last_in rules p b (items o.before)) in
      sym (last_split ∙ ap (λ l. option_or l (one (rules.hits q node.item))) (last_none rules r (b + n + 1) (items o.after) (told_right j sum sum' made past said)) ∙ ap one (sym hit))

  pub last_left_way : false ≡ rules.reaches r later → false ≡ rules.hits q node.item → last_in rules p b (items t) ≡ last_in rules p b (items o.before)
  last_left_way said miss =
      let one : Bool → Option ℕ = λ k. option_or (cond k (Some (b + n)) None) (last_in rules p b (items o.before)) in
      last_split ∙ ap (λ l. option_or l (one (rules.hits q node.item))) (last_none rules r (b + n + 1) (items o.after) (told_right j sum sum' made past said)) ∙ ap one (sym miss)

-- a search goes on in a part, and what it looks for is what there is to find there
pub record Hunted {P E S : Type 0} (empty : S) (whole : S → E → S → S) (rules : Rules P E S) (Find : P → ℕ → List E → Option ℕ) (nodes : List (Node E S)) (link : Option ℕ) (p : P) (place : ℕ) (goal : Option ℕ) : Type 0 where
  pub tree : Tree E
  pub held : Holds true empty whole nodes link tree
  pub law : Lawful empty whole rules p (items tree)
  pub same : goal ≡ Find p place (items tree)

-- what a search inside one part keeps: its places stay small, and it still looks for the same hit
pub record Hunt {P E S : Type 0} (empty : S) (whole : S → E → S → S) (rules : Rules P E S) (Find : P → ℕ → List E → Option ℕ) (all : List (Node E S)) (root : Option ℕ) (start : P) (base : ℕ) (nodes : List (Node E S)) (link : Option ℕ) (p : P) (place : ℕ) : Type 0 where
  pub room : place + size_at nodes link < 2 ^ 64
  pub search : (t : Tree E) → Holds true empty whole all root t → Lawful empty whole rules start (items t) → Hunted empty whole rules Find nodes link p place (Find start base (items t))

module _ {P E S : Type 0} {empty : S} {whole : S → E → S → S} {rules : Rules P E S} {Find : P → ℕ → List E → Option ℕ} {nodes : List (Node E S)} {link : Option ℕ} {p : P} {place : ℕ} {goal : Option ℕ} (k : Hunted empty whole rules Find nodes link p place goal) where
  pub hunted_end : link ≡ None → Find p place [] ≡ None → None ≡ goal
  hunted_end e bare = sym (k.same ∙ ap (λ u. Find p place (items u)) (held_leaf k.held e) ∙ bare)

  module _ {lefts rights : List (Node E S)} {left right : Option ℕ} {at : ℕ} {node : Node E S} (f : Opens nodes link at node lefts left rights right) where
    pub hunted_judged : Judged empty whole rules p node.item (fork_opened k.held f).before (fork_opened k.held f).after
    hunted_judged = judged (fork_opened k.held f) k.law

    pub hunted_left : Find p place (items k.tree) ≡ Find p place (items (fork_opened k.held f).before) → Hunted empty whole rules Find lefts left p place goal
    hunted_left same = record { tree = (fork_opened k.held f).before; held = fork_left k.held f; law = hunted_judged.left_law; same = k.same ∙ same }

    pub hunted_right : {r : P} (n : ℕ) → r ≡ rules.past (passed rules p (items (fork_opened k.held f).before)) node.item → Find p place (items k.tree) ≡ Find r (place + n + 1) (items (fork_opened k.held f).after) → Hunted empty whole rules Find rights right r (place + n + 1) goal
    hunted_right n past same = record { tree = (fork_opened k.held f).after; held = fork_right k.held f; law = subst (λ z. Lawful empty whole rules z (items (fork_opened k.held f).after)) (sym past) hunted_judged.right_law; same = k.same ∙ same }

-- the steps of a search for the first hit, from what was read at a fork
module _ {P E S : Type 0} {empty : S} {whole : S → E → S → S} {rules : Rules P E S} {nodes : List (Node E S)} {link : Option ℕ} {p : P} {place : ℕ} {goal : Option ℕ} (k : Hunted empty whole rules (first_in rules) nodes link p place goal) {lefts rights : List (Node E S)} {left right : Option ℕ} {at : ℕ} {node : Node E S} (f : Opens nodes link at node lefts left rights right) {part : S} (summed : (t : Tree E) → Holds true empty whole lefts left t → part ≡ summary empty whole t) where
  pub first_to_left : true ≡ rules.reaches p part → Hunted empty whole rules (first_in rules) lefts left p place goal
  first_to_left said = hunted_left k f (first_left_way (fork_opened k.held f) (hunted_judged k f) place (summed _ (fork_left k.held f)) said)

  module _ {n : ℕ} (sized : (t : Tree E) → Holds false empty whole lefts left t → n ≡ size t) (said : false ≡ rules.reaches p part) {q : P} (made : q ≡ rules.beyond p part) where
    pub first_found : true ≡ rules.hits q node.item → Some (place + n) ≡ goal
    first_found hit =
        let l = fork_left k.held f in
        first_here_way (fork_opened k.held f) (hunted_judged k f) place (summed _ l) n (sized _ (shaped l)) said made hit ∙ sym k.same

    pub first_to_right : {r : P} → false ≡ rules.hits q node.item → r ≡ rules.past q node.item → Hunted empty whole rules (first_in rules) rights right r (place + n + 1) goal
    first_to_right miss past =
        let l = fork_left k.held f in
        let j = hunted_judged k f in
        hunted_right k f n (later_is j (summed _ l) made past) (first_right_way (fork_opened k.held f) j place (summed _ l) n (sized _ (shaped l)) said made miss past)

-- the steps of a search for the last hit
module _ {P E S : Type 0} {empty : S} {whole : S → E → S → S} {rules : Rules P E S} {nodes : List (Node E S)} {link : Option ℕ} {p : P} {place : ℕ} {goal : Option ℕ} (k : Hunted empty whole rules (last_in rules) nodes link p place goal) {lefts rights : List (Node E S)} {left right : Option ℕ} {at : ℕ} {node : Node E S} (f : Opens nodes link at node lefts left rights right) {n : ℕ} (sized : (t : Tree E) → Holds false empty whole lefts left t → n ≡ size t) {part later : S} (summed : (t : Tree E) → Holds true empty whole lefts left t → part ≡ summary empty whole t) (summed' : (t : Tree E) → Holds true empty whole rights right t → later ≡ summary empty whole t) {q r : P} (made : q ≡ rules.beyond p part) (past : r ≡ rules.past q node.item) where
  pub last_to_right : true ≡ rules.reaches r later → Hunted empty whole rules (last_in rules) rights right r (place + n + 1) goal
  last_to_right said =
      let l = fork_left k.held f in
      let j = hunted_judged k f in
      hunted_right k f n (later_is j (summed _ l) made past) (last_right_way (fork_opened k.held f) j place (summed _ l) (summed' _ (fork_right k.held f)) n (sized _ (shaped l)) made past said)

  module _ (said : false ≡ rules.reaches r later) where
    pub last_found : true ≡ rules.hits q node.item → Some (place + n) ≡ goal
    last_found hit =
        let l = fork_left k.held f in
        last_here_way (fork_opened k.held f) (hunted_judged k f) place (summed _ l) (summed' _ (fork_right k.held f)) n (sized _ (shaped l)) made past said hit ∙ sym k.same

    pub last_to_left : false ≡ rules.hits q node.item → Hunted empty whole rules (last_in rules) lefts left p place goal
    last_to_left miss =
        let l = fork_left k.held f in
        hunted_left k f (last_left_way (fork_opened k.held f) (hunted_judged k f) place (summed _ l) (summed' _ (fork_right k.held f)) n (sized _ (shaped l)) made past said miss)

-- what a rank by a probe tells, where as many items as `n` stand before the first hit, or are all that there are
pub ranked : {P E S : Type 0} (rules : Rules P E S) (p : P) (xs : List E) {answer : ℕ × Option E} (n : ℕ) → answer ≡ rank_in rules p xs → unwrap_or (first_in rules p 0 xs) (0 + length xs) ≡ 0 + n → answer ≡ (n, slice_get xs n)
ranked rules p xs n is before =
    let at : unwrap_or (first_in rules p 0 xs) (length xs) ≡ n = ap (unwrap_or (first_in rules p 0 xs)) (sym (zero-add (length xs))) ∙ before ∙ zero-add n in
    is ∙ ap (λ k. (k, slice_get xs k)) at

-- a search's answer and the item there are the rank; so are the length and no item, where nothing hits
module _ {P E S : Type 0} (rules : Rules P E S) (p : P) (xs : List E) where
  abbrev rank_by : Option ℕ → ℕ × Option E
  rank_by hit = let place = unwrap_or hit (length xs) in (place, slice_get xs place)

  pub rank_some : {place : ℕ} {item : Option E} → first_in rules p 0 xs ≡ Some place → item ≡ slice_get xs place → (place, item) ≡ rank_in rules p xs
  rank_some {place} hit item = ap (λ i. (place, i)) item ∙ sym (ap rank_by hit)

  pub rank_none : {n : ℕ} → first_in rules p 0 xs ≡ None → n ≡ length xs → (n, None) ≡ rank_in rules p xs
  rank_none miss all = ap (λ n. (n, None)) all ∙ ap (λ i. (length xs, i)) (sym (slice_get_past xs (length xs) (omega arith))) ∙ sym (ap rank_by miss)
