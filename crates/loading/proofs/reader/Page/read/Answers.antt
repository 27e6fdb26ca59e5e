use Rattle.loading.proofs.Sets.{step_read}
use Rattle.loading.proofs.reader.Page.read.Goals as goal

pub returns-in-Ok-clause-read : goal.returns-in-Ok-clause-read
returns-in-Ok-clause-read c = step_read _ _ _ (rw (c.deref.ensures.value, c.in_ok-write.ensures) at c.in-Ok.ensures.reading.0)
