use Rattle.std.proofs.Common.{take, ap, subst, sym, ◌∙◌}
use Rattle.journal.specs.Exchanges.{exchanges_in, AreExchangeBytes, IsMarkOf}
use Rattle.journal.specs.laws.Exchanges.{tells_front, tells_itself, exchanges_again}
use Rattle.journal.proofs.exchanges.ExchangeLog.back_to.Goals as goal

pub invariant_of-self : goal.invariant_of-self
invariant_of-self c = tells_itself _ _ _ (subst (λ t. AreExchangeBytes t c.args.mark.count (take c.args.mark.count (exchanges_in c.self.inside.count c.self.inside.bytes.items))) (sym c.truncate.ensures.items)
    (tells_front _ c.args.mark _ _ c.self.invariant (subst (λ t. IsMarkOf c.args.mark (take c.args.mark.count t)) (sym c.self.view_is) c.requires)))

pub returns : goal.returns
returns c = exchanges_again _ _ _ (subst (λ t. AreExchangeBytes t c.args.mark.count (take c.args.mark.count (exchanges_in c.self.inside.count c.self.inside.bytes.items))) (sym c.truncate.ensures.items)
    (tells_front _ c.args.mark _ _ c.self.invariant (subst (λ t. IsMarkOf c.args.mark (take c.args.mark.count t)) (sym c.self.view_is) c.requires)))
    ∙ ap (take c.args.mark.count) c.self.view_is
