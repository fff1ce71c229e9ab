-- An insertion within the allowance of m keeps every node within it.
use Rattle.std.proofs.Common.{◌≡◌, ℕ, ◌<◌, ◌≤◌, Bool, List, cond, take, sym, ap, ◌∙◌, subst, arith}
use Rattle.std.specs.List.{slice_get}
use Rattle.nodes.specs.declared.node.Node.{Node}
use Rattle.nodes.specs.Tree.{Tree, leaf, branch, size, uses}
use Rattle.changes.specs.Frames.{plug}
use Rattle.changes.proofs.Framing.{one_or_none}
use Rattle.balance.specs.Allowances.{part as share, whole as all, most_items, Allowance}
use Rattle.scapegoat.specs.declared.balanced.Balanced.{Balanced}
use Rattle.scapegoat.specs.Growth.{Growth as Inserted, Rule, allowed_leaf, no_heavy, rebuilt}
use Rattle.scapegoat.proofs.Renewals.{grown_size}
use Rattle.upkeep.specs.Growth.{Growth, Within, Grows, added, rebuilt as renewed}
use Rattle.upkeep.proofs.Depths.{leaf_within, part_within, part_lists, part_used, part_sized, leaf_used}

module _ {E S : Type 0} {must : Bool} {empty : S} {whole : S → E → S → S} {entry exit : List (Node E S)} (place slot m allowed : ℕ) (item : E) (t : Tree E) {r : Balanced} (al : Allowance share all m allowed) (low : Within share all m t) (less : size t < m) (few : m ≤ most_items) (g : Inserted must empty whole entry exit place slot item allowed t r) where
  -- the slots that are neither in the tree nor the new one are as they were
  kept_there : (j : ℕ) → uses j (plug g.frames (branch slot item leaf leaf)) ≡ 0 → (uses j t ≡ 0) × (j ≡ slot → ⊥)
  kept_there j none =
      let u = leaf_used g.frames slot item t g.was j in
      let o = one_or_none j slot (uses j t) (sym u ∙ none) in
      (o.1, λ e. o.0 (sym e))

  pub regrown : Growth must empty whole entry exit place slot m item t r
  regrown = go g.rule
    where
      go : Rule must empty whole g.middle exit g.frames (branch slot item leaf leaf) allowed r → Growth must empty whole entry exit place slot m item t r
      go (allowed_leaf short part same holds) =
          record {
            new = plug g.frames (branch slot item leaf leaf);
            holds = holds;
            grows = subst (λ w. Grows share all m place slot item t w (plug g.frames (branch slot item leaf leaf))) (sym part) (added _ g.frames al g.was g.gap short);
            lists = g.lists;
            used = leaf_used g.frames slot item t g.was;
            low = subst (λ w. Within share all (cond w (size (plug g.frames (branch slot item leaf leaf))) m) (plug g.frames (branch slot item leaf leaf))) (sym part) (leaf_within share all m _ al g.frames slot item t g.was low short);
            kept = λ j none. let o = kept_there j none in ap (λ l. slice_get l j) same ∙ g.kept j o.0 o.1;
          }
      go (no_heavy deep near part same holds) =
          let z = grown_size g.frames t slot item g.was in
          let l = near.1 m allowed al (omega arith) in
          absurd (omega arith)
      go (rebuilt k deep near part new) =
          record {
            new = plug (take k g.frames) new.new;
            holds = new.holds;
            grows = subst (λ w. Grows share all m place slot item t w (plug (take k g.frames) new.new)) (sym part) (renewed _ g.frames k new.new al g.was g.gap deep near new.even new.items_are);
            lists = part_lists g.frames k (branch slot item leaf leaf) new.new new.items_are ∙ g.lists;
            used = λ j. part_used g.frames k (branch slot item leaf leaf) new.new new.slots_are j ∙ leaf_used g.frames slot item t g.was j;
            low = subst (λ w. Within share all (cond w (size (plug (take k g.frames) new.new)) m) (plug (take k g.frames) new.new)) (sym part) (part_within share all m _ al g.frames slot item t g.was low (omega arith) deep k new.new near.0 near.1 (part_sized g.frames k (branch slot item leaf leaf) new.new new.items_are) new.low);
            kept = λ j none.
                let all = sym (part_used g.frames k (branch slot item leaf leaf) new.new new.slots_are j) ∙ none in
                let o = kept_there j all in
                new.kept j all ∙ g.kept j o.0 o.1;
          }

-- the same, where the allowance is told as a number of its own
pub regrown_at : {E S : Type 0} {must : Bool} {empty : S} {whole : S → E → S → S} {entry exit : List (Node E S)} {place slot m allowed d : ℕ} {item : E} {t : Tree E} {r : Balanced} → Inserted must empty whole entry exit place slot item allowed t r → Allowance share all m d → d ≡ allowed → Within share all m t → size t < m → m ≤ most_items → Growth must empty whole entry exit place slot m item t r
regrown_at {m = m} g al same low less few = regrown _ _ _ _ _ _ (subst (λ n. Allowance share all m n) same al) low less few g
