use Rattle.std.proofs.Common.{refl, arith}
use Rattle.std.proofs.lemmas.Grind.{common_steps}
use Rattle.nodes.proofs.Held.{held_within, shaped}
use Rattle.changes.proofs.Swaps.{sound_for}
use Rattle.changes.proofs.Losses.{takes_from}
use Rattle.changes.proofs.remove.remove.Goals as goal

pub returns-in_err-found : goal.returns-in_err-found
returns-in_err-found g c = λ must t h. rw c.from_residual.ensures (c.in_err-found.ensures t (shaped h), refl)

pub read_at-node-requires : goal.read_at-node-requires
read_at-node-requires g c = let r = c.requires in held_within ((c.in_ok-found.ensures r.tree r.holds).way.held _ r.holds) _ refl

pub take_out-requires : goal.take_out-requires
take_out-requires g c =
    let r = c.requires in
    record {
      root = c.args.root;
      place = c.args.at;
      tree = r.tree;
      holds = r.holds;
      leads = c.in_ok-found.ensures r.tree r.holds;
      apart = r.apart;
      fits = r.fits;
      node = c.read_at-node.result;
      at = c.read_at-node.ensures;
      item_is = refl;
      one = grind (arith, common_steps);
    }

pub returns-in-None-default : goal.returns-in-None-default
returns-in-None-default g c = λ must t h.
    let s = sound_for c.requires h in
    c.take_out.ensures must _ _ t h (c.in_ok-found.ensures t (shaped h)) s.0 s.1

pub returns-in-Some-Some : goal.returns-in-Some-Some
returns-in-Some-Some g c = λ must t h.
    let s = sound_for c.requires h in
    takes_from must g.E.Element.empty g.E.Element.whole c.args.nodes.now c.remove_inner.new.nodes c.args.at t c.remove_inner.result (c.remove_inner.ensures must _ t h (c.in_ok-found.ensures t (shaped h)) s.0 s.1 s.2)
