use Rattle.journal.proofs.ByReplay.{short_journals}
use Rattle.journal.proofs.short_journals.short_journals_hold.Goals as goal

pub returns : goal.returns
returns c = short_journals
