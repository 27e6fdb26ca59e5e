use Rattle.version_chain.proofs.ChainLemmas.{over_lent}
use Rattle.version_chain.proofs.version.is_lone_value.Goals as goal

pub returns-in-ValueOver : goal.returns-in-ValueOver
returns-in-ValueOver g c = over_lent _ _ _ c.in-ValueOver.is
