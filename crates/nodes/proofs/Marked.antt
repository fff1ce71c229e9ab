-- What a search finds from a marked node on, and up to it.
use Rattle.std.proofs.Common.{◌≡◌, ℕ, ◌+◌, Bool, true, false, cond, List, [], ◌∷◌, Some, None, Option, sym, ap, ◌∙◌, subst}
use Rattle.std.specs.Option.{option_or}
use Rattle.nodes.specs.declared.node.Node.{Node}
use Rattle.nodes.specs.Tree.{Tree, items, size, summary, before_of, onward, up_to}
use Rattle.nodes.specs.Holding.{Holds, Opens}
use Rattle.nodes.specs.Rules.{Rules}
use Rattle.nodes.specs.Hits.{passed, first_in, last_in, Lawful}
use Rattle.nodes.proofs.Held.{Opened, shaped, size_is_length}
use Rattle.nodes.proofs.Parts.{fork_opened, fork_left, fork_right}
use Rattle.nodes.proofs.Hunts.{Judged, judged, here_is, later_is, first_here, first_later, last_append}

module _ {P E S : Type 0} {empty : S} {whole : S → E → S → S} {rules : Rules P E S} {must : Bool} {nodes : List (Node E S)} {slot : ℕ} {node : Node E S} {t : Tree E} (o : Opened must empty whole nodes slot node t) {p : P} (j : Judged empty whole rules p node.item o.before o.after) (b : ℕ) {part : S} (sum : part ≡ summary empty whole o.before) (n : ℕ) (sized : n ≡ size o.before) {q : P} (made : q ≡ rules.beyond p part) where
  from_root : first_in rules (passed rules p (items (before_of t))) (b + size (before_of t)) (onward t) ≡ first_in rules q (b + n) (node.item ∷ items o.after)
  from_root =
      ap (λ u. first_in rules (passed rules p (items (before_of u))) (b + size (before_of u)) (onward u)) o.is
      ∙ ap (λ z. first_in rules z (b + size o.before) (node.item ∷ items o.after)) (sym (here_is j sum made))
      ∙ ap (λ k. first_in rules q (b + k) (node.item ∷ items o.after)) (sym sized)

  at_first : true ≡ rules.hits q node.item → Some (b + n) ≡ first_in rules (passed rules p (items (before_of t))) (b + size (before_of t)) (onward t)
  at_first hit = sym (from_root ∙ first_here rules q (b + n) node.item (items o.after) (sym hit))

  at_first_later : {r : P} → false ≡ rules.hits q node.item → r ≡ rules.past q node.item → first_in rules r (b + n + 1) (items o.after) ≡ first_in rules (passed rules p (items (before_of t))) (b + size (before_of t)) (onward t)
  at_first_later miss past = sym (from_root ∙ first_later rules q (b + n) node.item (items o.after) (sym miss) ∙ ap (λ z. first_in rules z (b + n + 1) (items o.after)) (sym past))

  to_root : last_in rules p b (up_to t) ≡ option_or (cond (rules.hits q node.item) (Some (b + n)) None) (last_in rules p b (items o.before))
  to_root =
      let B = items o.before in
      let tail : P → ℕ → Option ℕ = λ z k. option_or (last_in rules z k (node.item ∷ [])) (last_in rules p b B) in
      ap (λ u. last_in rules p b (up_to u)) o.is ∙ last_append rules p b B (node.item ∷ []) ∙ ap (λ k. tail (passed rules p B) (b + k)) (size_is_length o.before ∙ sym sized) ∙ ap (λ z. tail z (b + n)) (sym (here_is j sum made))

  at_last : true ≡ rules.hits q node.item → Some (b + n) ≡ last_in rules p b (up_to t)
  at_last hit = sym (to_root ∙ ap (λ k. option_or (cond k (Some (b + n)) None) (last_in rules p b (items o.before))) (sym hit))

  at_last_before : false ≡ rules.hits q node.item → last_in rules p b (items o.before) ≡ last_in rules p b (up_to t)
  at_last_before miss = sym (to_root ∙ ap (λ k. option_or (cond k (Some (b + n)) None) (last_in rules p b (items o.before))) (sym miss))

-- the same from what was read at the fork of the marked part
module _ {P E S : Type 0} {empty : S} {whole : S → E → S → S} {rules : Rules P E S} {nodes : List (Node E S)} {link : Option ℕ} {p : P} {t : Tree E} (h : Holds true empty whole nodes link t) (law : Lawful empty whole rules p (items t)) {lefts rights : List (Node E S)} {left right : Option ℕ} {slot : ℕ} {node : Node E S} (f : Opens nodes link slot node lefts left rights right) (b : ℕ) {n : ℕ} (sized : (t : Tree E) → Holds false empty whole lefts left t → n ≡ size t) {part : S} (summed : (t : Tree E) → Holds true empty whole lefts left t → part ≡ summary empty whole t) {q : P} (made : q ≡ rules.beyond p part) where
  pub mark_first : true ≡ rules.hits q node.item → Some (b + n) ≡ first_in rules (passed rules p (items (before_of t))) (b + size (before_of t)) (onward t)
  mark_first =
      let o = fork_opened h f in
      let l = fork_left h f in
      at_first o (judged o law) b (summed _ l) n (sized _ (shaped l)) made

  pub mark_later : {r : P} {found : Option ℕ} → false ≡ rules.hits q node.item → r ≡ rules.past q node.item → ((t : Tree E) → Holds true empty whole rights right t → Lawful empty whole rules r (items t) → found ≡ first_in rules r (b + n + 1) (items t)) → found ≡ first_in rules (passed rules p (items (before_of t))) (b + size (before_of t)) (onward t)
  mark_later {r} miss past finds =
      let o = fork_opened h f in
      let l = fork_left h f in
      let j = judged o law in
      finds o.after (fork_right h f) (subst (λ z. Lawful empty whole rules z (items o.after)) (sym (later_is j (summed _ l) made past)) j.right_law) ∙ at_first_later o j b (summed _ l) n (sized _ (shaped l)) made miss past

  pub mark_last : true ≡ rules.hits q node.item → Some (b + n) ≡ last_in rules p b (up_to t)
  mark_last =
      let o = fork_opened h f in
      let l = fork_left h f in
      at_last o (judged o law) b (summed _ l) n (sized _ (shaped l)) made

  pub mark_earlier : {found : Option ℕ} → false ≡ rules.hits q node.item → ((t : Tree E) → Holds true empty whole lefts left t → Lawful empty whole rules p (items t) → found ≡ last_in rules p b (items t)) → found ≡ last_in rules p b (up_to t)
  mark_earlier miss finds =
      let o = fork_opened h f in
      let l = fork_left h f in
      let j = judged o law in
      finds o.before l j.left_law ∙ at_last_before o j b (summed _ l) n (sized _ (shaped l)) made miss
