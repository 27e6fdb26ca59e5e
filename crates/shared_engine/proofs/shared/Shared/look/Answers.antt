use Rattle.std.proofs.Common.{length, sym, ap, ◌∙◌, subst}
use Rattle.shared_engine.specs.Sessions.{knowing, IsJournalOf}
use Rattle.shared_engine.proofs.shared.Shared.look.Goals as goal

pub returns-clause-journal : goal.returns-clause-journal
returns-clause-journal g c = let h = c.look-count.ensures in rw (← c.session.view_is) (subst (λ us. IsJournalOf us c.session.inside.inner.held) (sym (ap (λ s. s.seen) h.same)) h.journal)

pub returns-clause-same : goal.returns-clause-same
returns-clause-same g c = let h = c.look-count.ensures in rw (← c.session.view_is) (h.same ∙ ap (λ us. knowing us c.session.inside.inner.held) (sym (ap (λ s. s.seen) h.same)))

pub returns-clause-count : goal.returns-clause-count
returns-clause-count g c = let h = c.look-count.ensures in h.count ∙ ap length (sym (ap (λ s. s.seen) h.same))
