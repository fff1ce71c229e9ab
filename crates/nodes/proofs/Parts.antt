-- What is known of a part from its type: that a slice holds some tree there, but not which.
use Rattle.std.proofs.Common.{◌≡◌, ℕ, suc, ◌+◌, ◌^◌, ◌<◌, Bool, List, length, Some, Option, sym, refl, ap, ◌∙◌, subst, arith}
use Rattle.std.proofs.Math.Logic.{∥∥₁_elim, ∥∥₁_map}
use Rattle.std.proofs.Math.Bridge.{le_prop}
use Rattle.std.specs.Coded.{Coded-set, coded_ℕ}
use Rattle.std.specs.List.{slice_get}
use Rattle.nodes.specs.declared.node.Node.{Node}
use Rattle.nodes.specs.Tree.{Tree, size}
use Rattle.nodes.specs.Holding.{Holds, Shaped, Opens, stored_size, size_at}
use Rattle.nodes.proofs.Held.{Opened, opened, held_within, stored_right}

module _ {E S : Type 0} {empty : S} {whole : S → E → S → S} {nodes : List (Node E S)} {link : Option ℕ} (s : ∥ Shaped empty whole nodes link ∥₁) {slot : ℕ} (e : link ≡ Some slot) where
  pub part_within : slot < length nodes
  part_within = ∥∥₁_elim s le_prop (λ h. held_within h.holds slot e)

  module _ {node : Node E S} (at : slice_get nodes slot ≡ Some node) where
    pub left_part : ∥ Shaped empty whole nodes node.left ∥₁
    left_part = ∥∥₁_map s (λ h. let o = opened h.holds slot e node at in record { tree = o.before; holds = o.left })

    pub right_part : ∥ Shaped empty whole nodes node.right ∥₁
    right_part = ∥∥₁_map s (λ h. let o = opened h.holds slot e node at in record { tree = o.after; holds = o.right })

    pub part_opens : node.size < 2 ^ 64 → Opens nodes link slot node nodes node.left nodes node.right
    part_opens small = record {
      leads = e;
      stands = at;
      same_left = refl;
      at_left = refl;
      same_right = refl;
      at_right = refl;
      adds = ∥∥₁_elim s (Coded-set coded_ℕ _ _) (λ h.
          let o = opened h.holds slot e node at in
          let all : size_at nodes link ≡ suc (size o.before + size o.after) = stored_right h.holds ∙ ap size o.is in
          let left = stored_right o.left in
          let right = stored_right o.right in
          omega arith);
      fits =
          let stored : size_at nodes link ≡ node.size = ap (size_at nodes) e ∙ ap stored_size at in
          omega arith;
    }

-- the tree that a part holds, opened with it
module _ {E S : Type 0} {must : Bool} {empty : S} {whole : S → E → S → S} {nodes lefts rights : List (Node E S)} {link left right : Option ℕ} {slot : ℕ} {node : Node E S} {t : Tree E} (h : Holds must empty whole nodes link t) (f : Opens nodes link slot node lefts left rights right) where
  pub fork_opened : Opened must empty whole nodes slot node t
  fork_opened = opened h slot f.leads node f.stands

  pub fork_left : Holds must empty whole lefts left (fork_opened.before)
  fork_left = subst (λ l. Holds must empty whole lefts l (fork_opened.before)) (sym f.at_left) (subst (λ n. Holds must empty whole n node.left (fork_opened.before)) (sym f.same_left) (fork_opened.left))

  pub fork_right : Holds must empty whole rights right (fork_opened.after)
  fork_right = subst (λ l. Holds must empty whole rights l (fork_opened.after)) (sym f.at_right) (subst (λ n. Holds must empty whole n node.right (fork_opened.after)) (sym f.same_right) (fork_opened.right))
