use Rattle.version_store.proofs.SeekLemmas.{first_in_run}
use Rattle.version_store.proofs.seek.first_valued.Goals as goal

pub returns : goal.returns
returns c = first_in_run c.gather_valued.result _ c.node.result c.gather_valued.ensures c.node.ensures
