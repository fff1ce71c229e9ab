use Rattle.std.proofs.Common.{◌≡◌, rules}
use Rattle.nodes.specs.Tree.{items}
use Rattle.journal.proofs.Ahead.{Lawful}
use Rattle.folders.specs.declared.key.Key.{Key}
use Rattle.folders.specs.Ranks.{key_at}
use Rattle.folders.proofs.Searched.{key_lawful, ranked_finds}
use Rattle.folders.proofs.place.place_of.Goals as goal

pub returns : goal.returns
returns g c = λ t h o.
    let laws : Lawful g.P.Priority.not_behind = record { total = g.met.P.Priority.total; transitive = g.met.P.Priority.transitive } in
    let key : Key g.row.P.Denot = record { priority = c.args.priority.now; stamp = c.args.stamp } in
    let law = key_lawful g.P.Priority.not_behind laws key (items t) o in
    let told : c.is_some_and.result ≡ key_at g.P.Priority.not_behind c.args.priority.now c.args.stamp c.rank-place.result.1 = search rules in
    ranked_finds g.P.Priority.not_behind laws key t c.rank-place.result c.is_some_and.result (c.rank-place.ensures t h law) told o
