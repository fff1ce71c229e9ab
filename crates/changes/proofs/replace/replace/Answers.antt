use Rattle.std.proofs.Common.{◌≡◌, ◌+◌, length, set, Some, sym, refl, ap, ◌∙◌}
use Rattle.nodes.specs.Tree.{branch, items, size, before_of}
use Rattle.std.specs.List.{slice_get}
use Rattle.nodes.proofs.Held.{shaped, held_within}
use Rattle.changes.specs.Frames.{ahead}
use Rattle.changes.proofs.Grafts.{graft_along}
use Rattle.changes.proofs.Swaps.{end, end_was, end_fits, swap_graft, swap_kept, swap_lists, swap_found, sound_for}
use Rattle.changes.proofs.replace.replace.Goals as goal

pub to_item-requires : goal.to_item-requires
to_item-requires g c = let r = c.requires in record { tree = r.tree; holds = r.holds; low = r.low }

pub returns-in_err-found : goal.returns-in_err-found
returns-in_err-found g c = λ must t h. rw c.from_residual.ensures (c.in_err-found.ensures t (shaped h), refl)

pub read_at-node-requires : goal.read_at-node-requires
read_at-node-requires g c =
    let r = c.requires in
    let l = c.in_ok-found.ensures r.tree r.holds in
    held_within (l.way.held _ r.holds) _ refl

pub place-requires : goal.place-requires
place-requires g c =
    let r = c.requires in
    let l = c.in_ok-found.ensures r.tree r.holds in
    let o = end l.way c.read_at-node.ensures r.holds in
    record {
      within = held_within (l.way.held _ r.holds) _ refl;
      left = record { tree = o.before; holds = o.left };
      right = record { tree = o.after; holds = o.right };
      fits = end_fits l.way c.read_at-node.ensures r.holds r.fits;
    }

pub graft-root-requires : goal.graft-root-requires
graft-root-requires g c =
    let r = c.requires in
    let l = c.in_ok-found.ensures r.tree r.holds in
    let o = end l.way c.read_at-node.ensures r.holds in
    record { root = c.args.root; frames = l.way.frames; hole = Some c.in_ok-found.found.slot; part = branch c.in_ok-found.found.slot c.args.item o.before o.after; graft = graft_along c.as_slice.ensures.items (swap_graft l.way c.read_at-node.ensures r.holds c.place.ensures r.apart r.fits) }

pub returns : goal.returns
returns g c = λ must t h.
    let s = sound_for c.requires h in
    let l = c.in_ok-found.ensures t (shaped h) in
    let o = end l.way c.read_at-node.ensures h in
    let was = end_was l.way c.read_at-node.ensures h in
    let slot = c.in_ok-found.found.slot in
    let old = c.read_at-node.result.item in
    let place : length (ahead l.way.frames) + size o.before ≡ c.args.at = ap (λ n. n + size o.before) l.way.ahead_long ∙ ap (λ u. l.skipped + size (before_of u)) (sym o.is) ∙ l.at in
    let grafted = c.graft-root.ensures must _ _ l.way.frames _ (graft_along c.as_slice.ensures.items (swap_graft l.way c.read_at-node.ensures h c.place.ensures s.0 s.1)) in
    record {
      frames = l.way.frames;
      slot = slot;
      before = o.before;
      after = o.after;
      was = sym was;
      holds = grafted.holds;
      found = ap (λ u. slice_get (items u) c.args.at) (sym was) ∙ swap_found l.way.frames slot c.args.at old c.args.item o.before o.after place;
      lists = swap_lists l.way.frames slot c.args.at old c.args.item o.before o.after place ∙ ap (λ u. set (items u) c.args.at c.args.item) was;
      kept = swap_kept l.way c.read_at-node.ensures h c.place.ensures s.0 s.1 grafted;
    }
