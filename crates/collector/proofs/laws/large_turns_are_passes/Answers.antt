use Rattle.collector.proofs.NextLemmas.{next_large}
use Rattle.collector.proofs.laws.large_turns_are_passes.Goals as goal

pub returns : goal.returns
returns c = next_large
