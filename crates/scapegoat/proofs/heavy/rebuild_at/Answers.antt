use Rattle.std.proofs.Common.{take, drop, ap, ◌∙◌, arith}
use Rattle.std.proofs.lemmas.Option.{slice_get-get_or}
use Rattle.nodes.specs.Tree.{uses}
use Rattle.std.specs.List.{slice_get}
use Rattle.nodes.proofs.Held.{shaped}
use Rattle.changes.specs.Frames.{plug}
use Rattle.changes.proofs.Framing.{uses_plug}
use Rattle.rebuild.proofs.Ranges.{uses_count}
use Rattle.scapegoat.proofs.Climbing.{size_from_less}
use Rattle.scapegoat.proofs.Renewals.{held_cut, new_uses, all_uses, plug_cut, renew_graft}
use Rattle.scapegoat.proofs.heavy.rebuild_at.Goals as goal

pub rebuild-link-requires : goal.rebuild-link-requires
rebuild-link-requires g c =
    let p = c.requires in
    let on = ap (λ l. slice_get l c.args.k) p.traced ∙ slice_get-get_or _ _ _ p.on_way in
    let cut = held_cut c.args.k p.frames p.part _ p.holds on in
    let s = size_from_less c.args.k p.frames p.part in
    let f = p.small in
    record {
      tree = plug (drop c.args.k p.frames) p.part;
      holds = cut.1;
      apart = λ j. let a = p.apart j in let b = ap (uses j) (plug_cut c.args.k p.frames p.part) in let d = uses_plug j (take c.args.k p.frames) (plug (drop c.args.k p.frames) p.part) in omega arith;
      small = omega arith;
    }

pub graft-requires : goal.graft-requires
graft-requires g c =
    let p = c.requires in
    let on = ap (λ l. slice_get l c.args.k) p.traced ∙ slice_get-get_or _ _ _ p.on_way in
    let cut = held_cut c.args.k p.frames p.part _ p.holds on in
    let r = c.rebuild-link.ensures _ cut.1 in
    record { root = p.root; frames = take c.args.k p.frames; hole = _; part = r.tree; graft = renew_graft c.args.k p.frames p.part p.holds on p.apart p.small r c.args.steps.now p.traced }

pub returns : goal.returns
returns g c = λ must root frames part h traced apart few.
    let p = c.requires in
    let k = c.args.k in
    let on = ap (λ l. slice_get l k) traced ∙ slice_get-get_or _ _ _ p.on_way in
    let cut = held_cut k frames part _ h on in
    let r = c.rebuild-link.ensures _ (shaped cut.1) in
    let grafted = c.graft.ensures must _ _ (take k frames) r.tree (renew_graft k frames part h on apart few r c.args.steps.now traced) in
    record {
      new = r.tree;
      even = r.even;
      low = r.low;
      slots_are = r.slots_are;
      items_are = r.items_are;
      holds = grafted.holds;
      kept = λ j none.
          let a = all_uses k frames part h on apart few r j in
          let b = new_uses k frames part h on apart few r j in
          let d = uses_plug j (take k frames) r.tree in
          let u = uses_count j (plug (drop k frames) part) in
          grafted.kept j (omega arith) ∙ r.kept j (omega arith);
    }
