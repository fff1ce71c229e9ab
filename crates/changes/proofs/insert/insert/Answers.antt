use Rattle.std.proofs.Common.{◌+◌, ◌^◌, ◌<◌, None, sym, ap, ◌∙◌, subst}
use Rattle.nodes.specs.Tree.{leaf, branch, items, size, uses}
use Rattle.nodes.proofs.Held.{shaped, unique}
use Rattle.changes.specs.Frames.{Apart}
use Rattle.changes.specs.Inserted.{inserted}
use Rattle.changes.proofs.Grafts.{graft_along}
use Rattle.changes.proofs.Growths.{new_graft, new_kept, insert_lists}
use Rattle.changes.proofs.insert.insert.Goals as goal

pub graft-root-requires : goal.graft-root-requires
graft-root-requires g c =
    let r = c.requires in
    let w = c.to_gap-path.ensures r.tree r.holds in
    record { root = c.args.root; frames = w.frames; hole = None; part = branch c.args.slot c.args.item leaf leaf; graft = graft_along c.as_slice.ensures.items (new_graft w c.place.ensures r.holds r.apart r.spare r.fits) }

pub returns : goal.returns
returns g c = λ must t h.
    let r = c.requires in
    let same = unique r.holds h in
    let w = c.to_gap-path.ensures t (shaped h) in
    let apart = subst Apart same r.apart in
    let spare = ap (uses c.args.slot) (sym same) ∙ r.spare in
    let fits = subst (λ u. size u + 1 < 2 ^ 64) same r.fits in
    let grafted = c.graft-root.ensures must _ _ w.frames _ (graft_along c.as_slice.ensures.items (new_graft w c.place.ensures h apart spare fits)) in
    record {
      inserted = record {
        frames = w.frames;
        traced = w.traced;
        was = w.plugs;
        holds = grafted.holds;
        lists = insert_lists w.frames c.args.slot c.args.at c.args.item w.ahead_long ∙ ap (λ u. inserted c.args.at c.args.item (items u)) w.plugs;
        kept = new_kept w c.place.ensures h apart spare fits grafted;
      };
      gap = w.ahead_long;
    }
