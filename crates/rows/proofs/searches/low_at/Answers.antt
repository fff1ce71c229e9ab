use Rattle.std.proofs.Common.{pos, ap, ◌∙◌, w32, SFits, rules}
use lib.Signed.{le_z}
use Rattle.std.proofs.lemmas.Int.{to_z-of_z}
use Rattle.rows.proofs.Shares.{total_at}
use Rattle.rows.proofs.searches.low_at.Goals as goal

pub returns : goal.returns
returns g c t h few =
    let fits : SFits w32 c.tally.result.total = search rules in
    let total = total_at g.P.Priority.not_behind c.args.sum c.args.place t c.sum_before.result few (c.sum_before.ensures t h) in
    ap (λ z. le_z z (pos 0)) (to_z-of_z w32 c.tally.result.total fits ∙ ap (λ y. y.total) c.tally.ensures ∙ total)
