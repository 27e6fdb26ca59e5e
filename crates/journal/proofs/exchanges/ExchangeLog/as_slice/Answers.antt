use Rattle.std.proofs.Common.{subst}
use Rattle.journal.specs.Stored.{FitExchanges}
use Rattle.journal.specs.laws.Exchanges.{they_fit}
use Rattle.journal.proofs.exchanges.ExchangeLog.as_slice.Goals as goal

pub returns-clause-fit : goal.returns-clause-fit
returns-clause-fit c = subst FitExchanges c.self.view_is (they_fit _ _ _ c.self.invariant)
