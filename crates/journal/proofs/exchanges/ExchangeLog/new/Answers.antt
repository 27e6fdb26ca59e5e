use Rattle.journal.specs.laws.Exchanges.{tells_none, no_exchanges}
use Rattle.journal.proofs.exchanges.ExchangeLog.new.Goals as goal

pub invariant_of-result : goal.invariant_of-result
invariant_of-result c = tells_none _ c.new.ensures.items

pub returns : goal.returns
returns c = no_exchanges c.new.result.items
