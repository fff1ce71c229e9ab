use Rattle.std.proofs.Common.{◌≡◌, arith, sym, ◌∙◌, ap, is_some, take}
use Rattle.journal.proofs.Ahead.{Lawful}
use Rattle.racks.proofs.Found.{key_place, put_present, put_full, put_done}
use Rattle.racks.proofs.flat.put_in.Given.{Over}
use Rattle.racks.proofs.flat.put_in.Goals as goal
use Rattle.racks.proofs.flat.put_in.Goals.{After-is_some}

lawful : (g : Over) → Lawful g.P.Priority.not_behind
lawful g = record { total = g.met.P.Priority.total; transitive = g.met.P.Priority.transitive }

-- whether the key is there, as `is_some` told
told : (g : Over) (c : After-is_some g) → is_some (key_place g.P.Priority.not_behind c.args.folder.now.priority c.args.folder.now.stamp (take c.args.n c.args.slots.now)) ≡ c.is_some.result
told g c = sym (c.is_some.ensures ∙ ap is_some c.place_of.ensures)

pub returns-then-is_some : goal.returns-then-is_some
returns-then-is_some g c =
    put_present g.P.Priority.not_behind c.args.slots.now c.args.n (omega arith) (lawful g)
    c.args.capacity c.requires.within c.args.folder.now (told g (goal.at.returns-then-is_some g c).After-is_some ∙ c.if-is_some.true)

pub returns-then-n-capacity : goal.returns-then-n-capacity
returns-then-n-capacity g c =
    put_full g.P.Priority.not_behind c.args.slots.now c.args.n (omega arith) (lawful g)
    c.args.capacity c.requires.within c.args.folder.now (told g (goal.at.returns-then-n-capacity g c).After-is_some ∙ c.if-is_some.false) c.if-n-capacity.true

pub returns : goal.returns
returns g c =
    put_done g.P.Priority.not_behind c.args.slots.now c.args.n (omega arith) (lawful g)
    c.args.capacity c.requires.within c.args.folder.now _ c.place_for-place.result (told g (goal.at.returns g c).After-is_some ∙ c.if-is_some.false) c.if-n-capacity.false c.place_for-place.ensures.value c.insert_at.ensures
