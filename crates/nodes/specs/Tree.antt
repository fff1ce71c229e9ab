-- Binary trees that name the slot of each item.
use Rattle.std.specs.Prelude.{ℕ, suc, ◌+◌, max, cond, List, [], ◌∷◌, ◌++◌, ◌==◌}

pub data Tree (E : Type 0) : Type 0 where
  leaf : Tree E
  branch : (slot : ℕ) (item : E) (before after : Tree E) → Tree E

-- the items in order
abbrev pub items : {E : Type 0} → Tree E → List E
items leaf = []
items (branch slot item before after) = items before ++ (item ∷ items after)

-- the slots in the order of their items
abbrev pub slots : {E : Type 0} → Tree E → List ℕ
slots leaf = []
slots (branch slot item before after) = slots before ++ (slot ∷ slots after)

-- how many items
abbrev pub size : {E : Type 0} → Tree E → ℕ
size leaf = 0
size (branch slot item before after) = suc (size before + size after)

-- how many levels: a tree of one item has one
abbrev pub height : {E : Type 0} → Tree E → ℕ
height leaf = 0
height (branch slot item before after) = suc (max (height before) (height after))

-- how many nodes use a slot
abbrev pub uses : {E : Type 0} → ℕ → Tree E → ℕ
uses k leaf = 0
uses k (branch slot item before after) = cond (k == slot) 1 0 + (uses k before + uses k after)

-- the summary of a tree, made of those of its parts
abbrev pub summary : {E S : Type 0} → S → (S → E → S → S) → Tree E → S
summary empty whole leaf = empty
summary empty whole (branch slot item before after) = whole (summary empty whole before) item (summary empty whole after)

-- the part before the root
abbrev pub before_of : {E : Type 0} → Tree E → Tree E
before_of leaf = leaf
before_of (branch slot item before after) = before

-- the items from the root on
abbrev pub onward : {E : Type 0} → Tree E → List E
onward leaf = []
onward (branch slot item before after) = item ∷ items after

-- the items up to the root, with it
abbrev pub up_to : {E : Type 0} → Tree E → List E
up_to leaf = []
up_to (branch slot item before after) = items before ++ (item ∷ [])
