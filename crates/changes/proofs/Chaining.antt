-- What a write leaves of the chain of free slots.
use Rattle.std.proofs.Common.{◌≡◌, ℕ, ◌+◌, ◌<◌, ◌≤◌, cond, eqb, List, ◌∷◌, length, set, Some, Option, sym, ap, ◌∙◌, subst, arith}
use Rattle.std.proofs.lemmas.Bool.Decides.{nat_tests}
use Rattle.nodes.specs.declared.node.Node.{Node}
use Rattle.std.specs.List.{slice_get}
use Rattle.changes.specs.Chains.{Chain, ends, links, count}
use Rattle.changes.proofs.Framing.{nth_set_same, nth_set_other}

not_first : (k slot r : ℕ) → cond (eqb k slot) 1 0 + r ≡ 0 → slot ≡ k → ⊥
not_first k slot r e d = grind (arith, nat_tests)

pub counted_here : (k r : ℕ) → (cond (eqb k k) 1 0 + r ≡ 0) → ⊥
counted_here k r e = grind (arith, nat_tests)

-- a chain stands where its slots are as they were
pub chain_kept : {E S : Type 0} {entry exit : List (Node E S)} {link : Option ℕ} {spare : List ℕ} → Chain entry link spare → ((k : ℕ) → (count k spare ≡ 0 → ⊥) → slice_get exit k ≡ slice_get entry k) → Chain exit link spare
chain_kept ends same = ends
chain_kept (links {slot} {rest} node at more) same =
    links node (same slot (counted_here slot (count slot rest)) ∙ at) (chain_kept more (λ k h. same k (λ e. h (omega arith))))

pub chain_more : {E S : Type 0} {nodes : List (Node E S)} {link : Option ℕ} {spare : List ℕ} (slot : ℕ) (node : Node E S) → slot < length nodes → node.left ≡ link → count slot spare ≡ 0 → Chain nodes link spare → Chain (set nodes slot node) (Some slot) (slot ∷ spare)
chain_more {nodes = nodes} {spare = spare} slot node h e none c =
    links node (nth_set_same nodes slot node h) (subst (λ l. Chain (set nodes slot node) l spare) (sym e) (chain_kept c (λ k used. nth_set_other nodes slot k node (λ d. used (ap (λ j. count j spare) d ∙ none)))))

-- what a loop that frees the first slots keeps
pub record Freed {E S : Type 0} (nodes : List (Node E S)) (free : Option ℕ) (i : ℕ) : Type 0 where
  pub spare : List ℕ
  pub chain : Chain nodes free spare
  pub all : length spare ≡ i
  pub once : (k : ℕ) → count k spare ≤ 1
  pub later : (k : ℕ) → i ≤ k → count k spare ≡ 0

one_more : (k slot r : ℕ) → r ≤ 1 → (slot ≤ k → r ≡ 0) → cond (eqb k slot) 1 0 + r ≤ 1
one_more k slot r a b = grind (arith, nat_tests)

none_later : (k slot r : ℕ) → slot + 1 ≤ k → r ≡ 0 → cond (eqb k slot) 1 0 + r ≡ 0
none_later k slot r a b = grind (arith, nat_tests)

pub freed_more : {E S : Type 0} {entry exit : List (Node E S)} {free r : Option ℕ} {i : ℕ} (f : Freed entry free i) → ((spare : List ℕ) → Chain entry free spare → count i spare ≡ 0 → Chain exit r (i ∷ spare)) → Freed exit r (i + 1)
freed_more {i = i} f made = record {
  spare = i ∷ f.spare;
  chain = made f.spare f.chain (f.later i (omega arith));
  all = let a = f.all in omega arith;
  once = λ k. one_more k i (count k f.spare) (f.once k) (f.later k);
  later = λ k h. none_later k i (count k f.spare) h (f.later k (omega arith));
}
