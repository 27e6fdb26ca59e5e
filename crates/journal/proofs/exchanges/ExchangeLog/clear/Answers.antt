use Rattle.journal.specs.laws.Exchanges.{tells_none, no_exchanges}
use Rattle.journal.proofs.exchanges.ExchangeLog.clear.Goals as goal

pub invariant_of-self : goal.invariant_of-self
invariant_of-self c = tells_none _ c.clear_room.ensures

pub returns : goal.returns
returns c = no_exchanges c.clear_room.new.bytes.items
