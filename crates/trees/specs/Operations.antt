-- What each operation does to the list, and to the tree.
use Rattle.std.specs.Prelude.{◌≡◌, ℕ, suc, max, Bool, cond, List, [], length, Some, None, Ok, Err, Option, Result, nat_le, nat_lt, slice_set}
use Rattle.std.specs.List.{insert, remove, slice_get}
use Rattle.nodes.specs.declared.node.Node.{Node}
use Rattle.nodes.specs.Tree.{Tree}
use Rattle.balance.specs.Allowances.{part as share, whole as all}
use Rattle.upkeep.specs.Growth.{Grows}
use Rattle.upkeep.specs.Loss.{Shrinks}
use Rattle.trees.specs.declared.links.Links.{Links}
use Rattle.trees.specs.declared.refusal.TreeRefusal.{TreeRefusal}
use Rattle.trees.specs.declared.refusal.TreeRefusal.TheVariants.{NoPlace, Full}
use Rattle.trees.specs.Structures.{tree_of, listed, capacity_of, Right, Structured}

-- the list with an item more at a place: refused where the place lies beyond the end, else where the list is full
abbrev pub insert_rule : {E : Type 0} → ℕ → List E → ℕ → E → Result (List E) TreeRefusal
insert_rule capacity list place item = cond (nat_le place (length list)) (cond (nat_lt (length list) capacity) (Ok (insert list place item)) (Err Full)) (Err NoPlace)

-- the reply to a change by a rule, and what the list then is: a refusal changes nothing
abbrev pub done : {A : Type 0} → Result A TreeRefusal → Result (Unit {0}) TreeRefusal
done (Ok list) = Ok tt
done (Err e) = Err e

abbrev pub later : {A : Type 0} → Result A TreeRefusal → A → A
later (Ok list) before = list
later (Err e) before = before

-- the tree with an item more, by the rule of the nearest heavy ancestor; m is the greatest count, or just the count where the whole tree was rebuilt
pub record Growing {E : Type 0} (before after : Links) (place : ℕ) (item : E) (t new : Tree E) : Type 0 where
  pub slot : ℕ
  pub rebuilt : Bool
  pub grows : Grows share all (max before.most (suc before.count)) place slot item t rebuilt new
  pub counted : after.count ≡ suc before.count
  pub most_is : after.most ≡ cond rebuilt after.count (max before.most (suc before.count))

-- the tree with an item fewer, by the rule of the whole tree; m becomes the count where it was rebuilt
pub record Shrinking {E : Type 0} (before after : Links) (t new : Tree E) : Type 0 where
  pub rebuilt : Bool
  pub shrinks : Shrinks share all before.most t rebuilt new
  pub counted : suc after.count ≡ before.count
  pub most_is : after.most ≡ cond rebuilt after.count before.most

-- What every change keeps, and what it makes of the list.
pub record Changed {E S : Type 0} (empty : S) (whole : S → E → S → S) (entry : List (Node E S)) (before : Links) (exit : List (Node E S)) (after : Links) (list : List E) : Type 0 where
  pub structured : Structured exit after
  pub capacity : capacity_of exit ≡ capacity_of entry
  pub lists : listed exit after ≡ list
  pub right : Right empty whole entry before → Right empty whole exit after

-- nothing was written
abbrev pub Untouched : {E S : Type 0} → List (Node E S) → Links → List (Node E S) → Links → Type 0
Untouched entry before exit after = (exit ≡ entry) × (after ≡ before)

pub record Inserts {E S : Type 0} (empty : S) (whole : S → E → S → S) (entry : List (Node E S)) (before : Links) (exit : List (Node E S)) (after : Links) (place : ℕ) (item : E) (r : Result (Unit {0}) TreeRefusal) : Type 0 where
  pub replied : r ≡ done (insert_rule (capacity_of entry) (listed entry before) place item)
  pub changed : Changed empty whole entry before exit after (later (insert_rule (capacity_of entry) (listed entry before) place item) (listed entry before))
  pub by_rule : r ≡ Ok tt → Growing before after place item (tree_of entry before) (tree_of exit after)
  pub refused : (e : TreeRefusal) → r ≡ Err e → Untouched entry before exit after

-- the item that was there is told, or none past the end, where nothing is written
pub record Removes {E S : Type 0} (empty : S) (whole : S → E → S → S) (entry : List (Node E S)) (before : Links) (exit : List (Node E S)) (after : Links) (place : ℕ) (r : Option E) : Type 0 where
  pub told : r ≡ slice_get (listed entry before) place
  pub changed : Changed empty whole entry before exit after (remove (listed entry before) place)
  pub by_rule : (x : E) → r ≡ Some x → Shrinking before after (tree_of entry before) (tree_of exit after)
  pub refused : r ≡ None → Untouched entry before exit after

pub record Replaces {E S : Type 0} (empty : S) (whole : S → E → S → S) (entry : List (Node E S)) (before : Links) (exit : List (Node E S)) (after : Links) (place : ℕ) (item : E) (r : Option E) : Type 0 where
  pub told : r ≡ slice_get (listed entry before) place
  pub changed : Changed empty whole entry before exit after (slice_set (listed entry before) place item)
  pub most_is : after.most ≡ before.most
  pub refused : r ≡ None → Untouched entry before exit after

-- an empty tree, whatever the memory held
pub record Emptied {E S : Type 0} (empty : S) (whole : S → E → S → S) (nodes : List (Node E S)) (links : Links) : Type 0 where
  pub structured : Structured nodes links
  pub lists : listed nodes links ≡ []
  pub right : Right empty whole nodes links
  pub most_is : links.most ≡ 0
