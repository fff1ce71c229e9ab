-- What the rule of an insertion comes to, and what a refused operation leaves.
use Rattle.std.proofs.Common.{◌≡◌, ℕ, ◌<◌, ◌≤◌, List, length, Ok, Err, sym, refl, ap, ◌∙◌, arith}
use native.Mathlib.Decide.{dec_le, dec_lt}
use Rattle.std.proofs.lemmas.Bool.Decides.{nat_tests}
use Rattle.std.specs.List.{insert}
use Rattle.nodes.specs.declared.node.Node.{Node}
use Rattle.trees.specs.declared.links.Links.{Links}
use Rattle.trees.specs.declared.refusal.TreeRefusal.{TreeRefusal}
use Rattle.trees.specs.declared.refusal.TreeRefusal.TheVariants.{NoPlace, Full}
use Rattle.trees.specs.Structures.{listed, capacity_of, Structured}
use Rattle.trees.specs.Operations.{insert_rule, done, later, Changed, Inserts}

module _ {E : Type 0} (capacity : ℕ) (list : List E) (place : ℕ) (item : E) where
  pub rule_beyond : length list < place → insert_rule capacity list place item ≡ Err NoPlace
  rule_beyond h = grind (arith, nat_tests)

  pub rule_full : place ≤ length list → capacity ≤ length list → insert_rule capacity list place item ≡ Err Full
  rule_full h f = grind (arith, nat_tests)

  pub rule_accepts : place ≤ length list → length list < capacity → insert_rule capacity list place item ≡ Ok (insert list place item)
  rule_accepts h f = grind (arith, nat_tests)

  -- what a reply says of the rule
  pub accepted_rule : done (insert_rule capacity list place item) ≡ Ok tt → (insert_rule capacity list place item ≡ Ok (insert list place item)) × (length list < capacity)
  accepted_rule = go (dec_le place (length list)) (dec_lt (length list) capacity)
    where
      go : Dec (place ≤ length list) → Dec (length list < capacity) → done (insert_rule capacity list place item) ≡ Ok tt → (insert_rule capacity list place item ≡ Ok (insert list place item)) × (length list < capacity)
      go (yes h) (yes r) e = (rule_accepts h r, r)
      go (yes h) (no f) e = let bad = sym (ap done (rule_full h (omega arith))) ∙ e in let z : ◌≡◌ {A = ℕ} 0 1 = cc in absurd (omega arith)
      go (no far) d e = let bad = sym (ap done (rule_beyond (omega arith))) ∙ e in let z : ◌≡◌ {A = ℕ} 0 1 = cc in absurd (omega arith)

  pub refused_rule : (e : TreeRefusal) → done (insert_rule capacity list place item) ≡ Err e → place ≤ length list → capacity ≤ length list
  refused_rule e is within = go (dec_lt (length list) capacity)
    where
      go : Dec (length list < capacity) → capacity ≤ length list
      go (no f) = omega arith
      go (yes r) = let bad = sym (ap done (rule_accepts within r)) ∙ is in let z : ◌≡◌ {A = ℕ} 0 1 = cc in absurd (omega arith)

module _ {E S : Type 0} (empty : S) (whole : S → E → S → S) (nodes : List (Node E S)) (links : Links) where
  -- nothing written, nothing changed
  pub unchanged : Structured nodes links → (list : List E) → listed nodes links ≡ list → Changed empty whole nodes links nodes links list
  unchanged s list same = record { structured = s; capacity = refl; lists = same; right = λ h. h }

  pub insert_refused : Structured nodes links → (place : ℕ) (item : E) (e : TreeRefusal) → insert_rule (capacity_of nodes) (listed nodes links) place item ≡ Err e → Inserts empty whole nodes links nodes links place item (Err e)
  insert_refused s place item e rule = record {
    replied = sym (ap done rule);
    changed = unchanged s _ (sym (ap (λ r. later r (listed nodes links)) rule));
    by_rule = λ bad. let z : ◌≡◌ {A = ℕ} 0 1 = cc in absurd (omega arith);
    refused = λ f is. (refl, refl);
  }
