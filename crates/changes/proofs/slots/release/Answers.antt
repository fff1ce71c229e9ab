use Rattle.std.proofs.Common.{◌∷◌, Some, sym, refl, ap, ◌∙◌, subst}
use Rattle.std.specs.List.{slice_get}
use Rattle.changes.specs.Chains.{Chain}
use Rattle.changes.proofs.Framing.{nth_set_other}
use Rattle.changes.proofs.Chaining.{chain_more}
use Rattle.changes.proofs.slots.release.Goals as goal

pub returns : goal.returns
returns g c = record {
  chain = λ spare h none. subst (λ ns. Chain ns (Some c.args.slot) (c.args.slot ∷ spare)) (sym c.write_at.ensures) (chain_more c.args.slot _ c.requires refl none h);
  kept = λ k other. ap (λ ns. slice_get ns k) c.write_at.ensures ∙ nth_set_other c.args.nodes.now c.args.slot k _ other;
}
