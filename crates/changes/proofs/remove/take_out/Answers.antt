use Rattle.std.proofs.Common.{Some, sym, ap, ◌∙◌}
use Rattle.nodes.specs.Tree.{items, size, height, uses}
use Rattle.std.specs.List.{slice_get}
use Rattle.changes.specs.Frames.{plug}
use Rattle.changes.specs.Removed.{removed}
use Rattle.changes.proofs.Grafts.{graft_along}
use Rattle.changes.proofs.Swaps.{end, end_was, swap_found}
use Rattle.changes.proofs.Losses.{only_part, loss_graft, place_of, loss_lists, loss_size, loss_uses, loss_low}
use Rattle.changes.proofs.remove.take_out.Goals as goal

pub graft-root-requires : goal.graft-root-requires
graft-root-requires g c =
    let p = c.requires in
    let w = p.leads.way in
    let o = only_part w p.at p.holds p.one in
    record { root = p.root; frames = w.frames; hole = Some c.args.found.now.slot; part = o.0; graft = graft_along c.as_slice.ensures.items (loss_graft w p.at p.holds o.1 o.2 p.apart p.fits) }

pub returns : goal.returns
returns g c = λ must root place t h l apart fits.
    let p = c.requires in
    let w = l.way in
    let slot = c.args.found.now.slot in
    let item = p.node.item in
    let o = only_part w p.at h p.one in
    let e = end w p.at h in
    let at = place_of w p.at h l.at in
    let was = end_was w p.at h in
    let grafted = c.graft-root.ensures must _ _ w.frames _ (graft_along c.as_slice.ensures.items (loss_graft w p.at h o.1 o.2 apart fits)) in
    record {
      new = plug w.frames o.0;
      holds = grafted.holds;
      found = ap (λ u. slice_get (items u) place) (sym was) ∙ swap_found w.frames slot place item item e.before e.after at ∙ ap Some p.item_is;
      lists = loss_lists w.frames slot place item e.before e.after o.0 o.2 at ∙ ap (λ u. removed place (items u)) was;
      sized = loss_size w.frames slot place item e.before e.after o.0 o.2 at ∙ ap size was;
      freed = λ k. loss_uses w.frames slot place item e.before e.after o.0 o.2 at k ∙ ap (uses k) was;
      low = rw (ap height (sym was)) (loss_low w.frames slot place item e.before e.after o.0 o.2 at);
      kept = grafted.kept;
    }
