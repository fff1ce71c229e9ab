-- A slice whose slots are all free holds an empty tree.
use Rattle.std.proofs.Common.{ℕ, true, List, None, Option, sym, refl, ap, subst, arith}
use Rattle.nodes.specs.declared.node.Node.{Node}
use Rattle.nodes.specs.Tree.{leaf, items}
use Rattle.nodes.specs.Holding.{Holds, nothing}
use Rattle.changes.specs.Chains.{AllFree}
use Rattle.trees.specs.declared.links.Links.{Links}
use Rattle.trees.specs.Structures.{Laid}
use Rattle.trees.specs.Operations.{Emptied}
use Rattle.trees.proofs.Reading.{tree_read}

module _ {E S : Type 0} (empty : S) (whole : S → E → S → S) (nodes : List (Node E S)) (free : Option ℕ) (f : AllFree nodes free) where
  abbrev pub no_links : Links
  no_links = record { root = None; free = free; count = 0; most = 0 }

  empty_laid : Laid nodes no_links leaf f.spare
  empty_laid = let a = f.all in record { holds = λ e w. nothing; chain = f.chain; once = λ k. let o = f.once k in omega arith; sized = refl; slots = omega arith; grown = omega arith; few = omega arith; low = λ d al. omega arith }

  pub emptied_all : Emptied empty whole nodes no_links
  emptied_all =
      let read = tree_read empty whole empty_laid in
      record { structured = ∣ record { tree = leaf; spare = f.spare; laid = empty_laid } ∣₁; lists = ap items read; right = subst (Holds true empty whole nodes None) (sym read) nothing; most_is = refl }
