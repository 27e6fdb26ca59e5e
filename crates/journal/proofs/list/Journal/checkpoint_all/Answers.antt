use Rattle.std.proofs.Common.{refl}
use Rattle.journal.proofs.list.Journal.checkpoint_all.Goals as goal

pub same-self : goal.same-self
same-self c = refl
