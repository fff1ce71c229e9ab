use Rattle.std.proofs.Common.{◌≡◌, ◌∙◌, rules}
use Rattle.nodes.specs.Holding.{size_at}
use Rattle.nodes.proofs.Held.{stored_right}
use Rattle.nodes.proofs.part.Part.size.Goals as goal

pub returns-clause-counts : goal.returns-clause-counts
returns-clause-counts g c = λ t h.
    let stored : c.map_or.result ≡ size_at c.args.self.now.nodes.now c.args.self.now.link = search rules in
    stored ∙ stored_right h
