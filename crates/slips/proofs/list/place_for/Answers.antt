use Rattle.std.proofs.Common.{◌≡◌, ℕ, true, sym, ◌∙◌, subst, rules, arith}
use Rattle.std.specs.List.Sorted.{IsBinarySearchResult}
use Rattle.std.specs.Ordering.{nat_cmp}
use Rattle.std.proofs.lemmas.Bool.Decides.{nat_tests}
use Rattle.std.proofs.lemmas.List.Sorted.{answers_always}
use Rattle.journal.specs.Entering.{stamp_in_range, number_in_range}
use Rattle.journal.specs.Replay.{stamp_of}
use Rattle.slips.specs.Enter.{Admitted}
use Rattle.slips.proofs.Dated.{Found, searched, admitted}
use Rattle.slips.proofs.list.place_for.Given.{Over}
use Rattle.slips.proofs.list.place_for.Goals as goal
use Rattle.slips.proofs.list.place_for.Goals.{After-binary_search_by_key}

-- what the search tells of the entry
found : (g : Over) (c : After-binary_search_by_key g) → Found c.args.entry.now c.args.entries.now c.binary_search_by_key.result
found g c =
    let by_stamp = c.binary_search_by_key.ensures.position stamp_of (answers_always _ _ _ (λ f a r g called. search rules)) in
    searched c.args.entry.now c.args.entries.now _ c.requires c.binary_search_by_key.ensures.bound
    (subst (λ (s : ℕ). IsBinarySearchResult (λ d. nat_cmp (stamp_of d) s) c.args.entries.now c.binary_search_by_key.result) c.stamp.ensures by_stamp)

pub returns-in-Ok : goal.returns-in-Ok
returns-in-Ok g c =
    let taken = subst (Found c.args.entry.now c.args.entries.now) c.in-Ok.is (found g (goal.at.returns-in-Ok g c).After-binary_search_by_key) in
    grind (arith, nat_tests)

pub returns-in-Err : goal.returns-in-Err
returns-in-Err g c =
    let free = subst (Found c.args.entry.now c.args.entries.now) c.in-Err.is (found g (goal.at.returns-in-Err g c).After-binary_search_by_key) in
    grind (arith, nat_tests)

pub returns-in-Err-2 : goal.returns-in-Err-2
returns-in-Err-2 g c =
    let es = c.args.entries.now in
    let e = c.args.entry.now in
    let free = subst (Found e es) c.in-Err.is (found g (goal.at.returns-in-Err-2 g c).After-binary_search_by_key) in
    let stamp : stamp_in_range (stamp_of e) ≡ true = sym c.has_good_stamp.ensures ∙ c.if-not-has_good_stamp.false in
    let number : number_in_range e ≡ true = sym c.has_good_number.ensures ∙ c.if-not-has_good_number.false in
    subst (Admitted es e) (sym free.1) (admitted e es stamp number free.0 (omega arith))
