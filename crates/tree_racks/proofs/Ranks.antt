-- Folders in a tree: their list, and what a search for a key tells.
use Rattle.std.proofs.Common.{◌≡◌, ℕ, zero, suc, ◌<◌, ◌≤◌, Bool, true, false, List, [], ◌∷◌, length, Some, None, Ok, Err, Option, sym, refl, ap, ◌∙◌, subst, arith}
use mathlib.Core.Bool.{Bool-set}
use mathlib.Core.HLevel.{Σ_set}
use mathlib.Core.Logic.{∥∥₁_elim, ∥∥₁_map}
use native.Mathlib.Nat.{ℕ_set}
use Rattle.std.specs.Option.{option_map}
use Rattle.std.specs.List.{insert, remove, slice_get}
use Rattle.orders.specs.Refusal.{Told, told, refused}
use Rattle.journal.specs.declared.folder.Folder.{Folder}
use Rattle.journal.specs.Folders.{in_order}
use Rattle.journal.specs.Racks.{holds, put_rule, remove_rule, Changed}
use Rattle.journal.proofs.Ahead.{Lawful}
use Rattle.nodes.specs.declared.node.Node.{Node}
use Rattle.folders.specs.declared.element.Racked.{Racked}
use Rattle.folders.specs.Lasts.{folders_in, last_of}
use Rattle.folders.specs.Ranks.{rank, Finds}
use Rattle.folders.proofs.Ranked.{rank_within, rank_inside}
use Rattle.folders.proofs.Replies.{folders_inserted, folders_removed, put_present, put_full, put_done, remove_absent, remove_done}
use Rattle.trees.specs.declared.links.Links.{Links}
use Rattle.trees.specs.declared.refusal.TreeRefusal.{TreeRefusal}
use Rattle.trees.specs.Structures.{listed, capacity_of, Structured}
use Rattle.trees.specs.Operations.{Inserts, Removes, later}
use Rattle.trees.proofs.Reading.{count_within}
use Rattle.trees.proofs.Rules.{accepted_rule, refused_rule}
use Rattle.tree_racks.specs.Scapegoat.{racked, LastsRight, Moved}

module _ {P : Type 0} where
  pub racked_length : (rs : List (Racked P)) → length (folders_in rs) ≡ length rs
  racked_length [] = refl
  racked_length (r ∷ rs) = ap suc (racked_length rs)

  pub nth_racked : (rs : List (Racked P)) (k : ℕ) → option_map (λ r. r.folder) (slice_get rs k) ≡ slice_get (folders_in rs) k
  nth_racked [] k = refl
  nth_racked (r ∷ rs) zero = refl
  nth_racked (r ∷ rs) (suc k) = nth_racked rs k

nth_some : {A : Type 0} (xs : List A) (i : ℕ) → i < length xs → slice_get xs i ≡ None → ⊥
nth_some [] i h e = omega arith
nth_some (x ∷ xs) zero h e = let z : ◌≡◌ {A = ℕ} 0 1 = cc in omega arith
nth_some (x ∷ xs) (suc i) h e = nth_some xs i (omega arith) e

-- pairs of a number and a test have equations with one proof
pub found_by : {A : Type 0} {x y : ℕ × Bool} → ∥ A ∥₁ → (A → x ≡ y) → x ≡ y
found_by {x = x} {y = y} a f = ∥∥₁_elim a (Σ_set ℕ_set (λ _. Bool-set) x y) f

module _ {P : Type 0} (nb : P → P → Bool) (p : P) (s : ℕ) (fs : List (Folder P)) where
  pub told_by : (answer : ℕ × Bool) (b : Bool) → answer.1 ≡ b → Finds nb p s fs answer → Finds nb p s fs (answer.0, b)
  told_by answer b is found o = ap (λ c. (answer.0, c)) (sym is) ∙ found o

module _ {P : Type 0} (nb : P → P → Bool) (L : Lawful nb) (entry : List (Node (Racked P) (Option (Folder P)))) (before : Links) (structured : Structured entry before) (right : LastsRight entry before) where
  fits : length (racked entry before) ≤ capacity_of entry
  fits = let n = racked_length (listed entry before) in let c = count_within None last_of structured in omega arith

  stays : (rule : Told (List (Folder P))) (reply : Told (Unit {0})) → Changed nb (capacity_of entry) rule (racked entry before) (racked entry before) reply → Moved nb rule entry before entry before reply
  stays rule reply c = record { right = right; same = refl; changed = c }

  module _ (f : Folder P) (place : ℕ) where
    pub put_stays : Finds nb f.priority f.stamp (racked entry before) (place, true) → Moved nb (put_rule nb (capacity_of entry) (racked entry before) f) entry before entry before (refused 4 [])
    put_stays found = stays _ _ (put_present nb L (racked entry before) (capacity_of entry) f place fits found)

    module _ (exit : List (Node (Racked P) (Option (Folder P)))) (after : Links) (found : Finds nb f.priority f.stamp (racked entry before) (place, false)) where
      pub put_refused : (e : TreeRefusal) → Inserts None last_of entry before exit after place (record { folder = f }) (Err e) → Moved nb (put_rule nb (capacity_of entry) (racked entry before) f) entry before exit after (refused 6 [])
      put_refused e ins =
          let n = racked_length (listed entry before) in
          let same = ins.refused e refl in
          subst (λ ns. Moved nb (put_rule nb (capacity_of entry) (racked entry before) f) entry before ns after (refused 6 [])) (sym same.0)
          (subst (λ (ls : Links). Moved nb (put_rule nb (capacity_of entry) (racked entry before) f) entry before entry ls (refused 6 [])) (sym same.1)
          (stays _ _ (record { replied = λ o. (full o).replied o; followed = λ o. (full o).followed o; kept = λ o. o; within = fits; untouched = λ k vs is. refl })))
        where
          full : in_order nb (racked entry before) ≡ true → Changed nb (capacity_of entry) (put_rule nb (capacity_of entry) (racked entry before) f) (racked entry before) (racked entry before) (refused 6 [])
          full o =
              let n = racked_length (listed entry before) in
              let at : place ≡ rank nb f.priority f.stamp (racked entry before) = ap (λ r. r.0) (found o) in
              let w = rank_within nb f.priority f.stamp (racked entry before) in
              let c = refused_rule (capacity_of entry) (listed entry before) place (record { folder = f }) e (sym ins.replied) (omega arith) in
              put_full nb L (racked entry before) (capacity_of entry) f place fits (omega arith) found

      pub put_moves : Inserts None last_of entry before exit after place (record { folder = f }) (Ok tt) → Moved nb (put_rule nb (capacity_of entry) (racked entry before) f) entry before exit after (told tt)
      put_moves ins =
          let a = accepted_rule (capacity_of entry) (listed entry before) place (record { folder = f }) (sym ins.replied) in
          let room = a.1 in
          let n = racked_length (listed entry before) in
          let lists : racked exit after ≡ insert (racked entry before) place f = ap folders_in (ins.changed.lists ∙ ap (λ r. later r (listed entry before)) a.0) ∙ folders_inserted (listed entry before) place (record { folder = f }) in
          record {
            right = ∥∥₁_map right ins.changed.right;
            same = ins.changed.capacity;
            changed = subst (λ fs. Changed nb (capacity_of entry) (put_rule nb (capacity_of entry) (racked entry before) f) (racked entry before) fs (told tt)) (sym lists) (put_done nb L (racked entry before) (capacity_of entry) f place (omega arith) found);
          }

  module _ (p : P) (s place : ℕ) where
    pub remove_stays : Finds nb p s (racked entry before) (place, false) → Moved nb (remove_rule nb (racked entry before) p s) entry before entry before (refused 5 [])
    remove_stays found = stays _ _ (remove_absent nb L (racked entry before) (capacity_of entry) p s place fits found)

    module _ (exit : List (Node (Racked P) (Option (Folder P)))) (after : Links) (found : Finds nb p s (racked entry before) (place, true)) where
      pub remove_refused : Removes None last_of entry before exit after place None → Moved nb (remove_rule nb (racked entry before) p s) entry before exit after (refused 5 [])
      remove_refused out =
          let same = out.refused refl in
          subst (λ ns. Moved nb (remove_rule nb (racked entry before) p s) entry before ns after (refused 5 [])) (sym same.0)
          (subst (λ (ls : Links). Moved nb (remove_rule nb (racked entry before) p s) entry before entry ls (refused 5 [])) (sym same.1)
          (stays _ _ (record { replied = λ o. absurd (there o); followed = λ o. absurd (there o); kept = λ o. o; within = fits; untouched = λ k vs is. refl })))
        where
          there : in_order nb (racked entry before) ≡ true → ⊥
          there o =
              let n = racked_length (listed entry before) in
              let at : place ≡ rank nb p s (racked entry before) = ap (λ r. r.0) (found o) in
              let h : holds nb p s (racked entry before) ≡ true = sym (ap (λ r. r.1) (found o)) in
              let w = rank_inside nb L p s (racked entry before) o h in
              nth_some (listed entry before) place (omega arith) (sym out.told)

      pub remove_moves : (x : Racked P) → Removes None last_of entry before exit after place (Some x) → Moved nb (remove_rule nb (racked entry before) p s) entry before exit after (told tt)
      remove_moves x out =
          let lists : racked exit after ≡ remove (racked entry before) place = ap folders_in out.changed.lists ∙ folders_removed (listed entry before) place in
          record {
            right = ∥∥₁_map right out.changed.right;
            same = out.changed.capacity;
            changed = subst (λ fs. Changed nb (capacity_of entry) (remove_rule nb (racked entry before) p s) (racked entry before) fs (told tt)) (sym lists) (remove_done nb L (racked entry before) (capacity_of entry) p s place fits found);
          }
