use Rattle.std.proofs.Common.{sym, ap, ◌∙◌, subst}
use Rattle.shared_engine.specs.Sessions.{IsJournalOf}
use Rattle.shared_engine.proofs.shared.Shared.read.Goals as goal

pub returns-clause-journal : goal.returns-clause-journal
returns-clause-journal g c =
    let seen = c.read_met.ensures.others.1 ∙ ap (λ h. h.seen) c.meet.ensures.same in
    rw (← c.session.view_is) (subst (λ us. IsJournalOf us c.session.inside.inner.held) (sym seen) c.meet.ensures.journal)
