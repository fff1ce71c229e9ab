-- A rack that does what the rule says has changed as a rack may.
use Rattle.std.proofs.Common.{◌≡◌, ℕ, ◌≤◌, Bool, true, false, cond, ltb, List, [], length, sym, refl, ap, ◌∙◌, subst, arith}
use Rattle.std.proofs.lemmas.Bool.Decides.{nat_tests}
use Rattle.orders.specs.Refusal.{Told, told, refused}
use Rattle.journal.specs.declared.folder.Folder.{Folder}
use Rattle.journal.specs.Folders.{in_order, placed}
use Rattle.journal.specs.Racks.{holds, taken_out, put_rule, remove_rule, Changed}
use Rattle.journal.specs.Refusals.{accepted, later}
use Rattle.journal.proofs.Ahead.{Lawful}
use Rattle.journal.proofs.Placed.{length_placed, length_taken_out, placed_ordered, taken_out_ordered}

-- what is refused has changed nothing
refused_same : {A : Type 0} (rule : Told A) (before : A) (n : ℕ) (vs : List ℕ) → accepted rule ≡ refused n vs → later rule before ≡ before
refused_same (told a) before n vs e = let z : ◌≡◌ {A = ℕ} 0 1 = cc in absurd (let o : ⊥ = omega arith in o)
refused_same (refused m ws) before n vs e = refl

module _ {P : Type 0} (nb : P → P → Bool) where
  -- what a rule must keep
  pub record Keeps (capacity : ℕ) (rule : Told (List (Folder P))) (before : List (Folder P)) : Type 0 where
    pub ordered : in_order nb before ≡ true → in_order nb (later rule before) ≡ true
    pub within : length (later rule before) ≤ capacity

  pub follows : (capacity : ℕ) (rule : Told (List (Folder P))) (before after : List (Folder P)) (reply : Told (Unit {0}))
      → Keeps capacity rule before → reply ≡ accepted rule → after ≡ later rule before → Changed nb capacity rule before after reply
  follows capacity rule before after reply k r a = record {
    replied = λ _. r;
    followed = λ _. a;
    kept = λ h. ap (in_order nb) a ∙ k.ordered h;
    within = subst (λ (fs : List (Folder P)). length fs ≤ capacity) (sym a) k.within;
    untouched = λ n vs e. a ∙ refused_same rule before n vs (sym r ∙ e);
  }

  pub remove_keeps : (capacity : ℕ) (fs : List (Folder P)) (p : P) (s : ℕ) → length fs ≤ capacity → Keeps capacity (remove_rule nb fs p s) fs
  remove_keeps capacity fs p s h = go (holds nb p s fs)
    where
      go : (b : Bool) → Keeps capacity (cond b (told (taken_out nb p s fs)) (refused 5 [])) fs
      go true = record { ordered = taken_out_ordered nb p s fs; within = omega (arith, length_taken_out nb p s fs) }
      go false = record { ordered = λ o. o; within = h }

module _ {P : Type 0} (nb : P → P → Bool) (L : Lawful nb) where
  pub put_keeps : (capacity : ℕ) (fs : List (Folder P)) (f : Folder P) → length fs ≤ capacity → Keeps nb capacity (put_rule nb capacity fs f) fs
  put_keeps capacity fs f h = go (holds nb f.priority f.stamp fs) (ltb (length fs) capacity) refl refl
    where
      go : (b c : Bool) → holds nb f.priority f.stamp fs ≡ b → ltb (length fs) capacity ≡ c → Keeps nb capacity (cond b (refused 4 []) (cond c (told (placed nb f fs)) (refused 6 []))) fs
      go true c e k = record { ordered = λ o. o; within = h }
      go false true e k = record { ordered = λ o. placed_ordered nb L f fs o e; within = let n = length_placed nb f fs in grind (arith, nat_tests) }
      go false false e k = record { ordered = λ o. o; within = h }
