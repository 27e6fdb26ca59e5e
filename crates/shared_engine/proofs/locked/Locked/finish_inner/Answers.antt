use Rattle.std.proofs.Common.{ap, subst, arith}
use Rattle.std.proofs.lemmas.List.Elements.{All-nil}
use Rattle.std.specs.List.{All}
use Rattle.pin_board.specs.Slips.{AreInJournal, IsBeginning}
use Rattle.shared_engine.specs.Receipts.{Book}
use Rattle.shared_engine.specs.Engines.{HasSeenOf}
use Rattle.shared_engine.proofs.Closing.{units_told}
use Rattle.shared_engine.proofs.locked.Locked.finish_inner.Goals as goal

pub returns-clause-in_journal : goal.returns-clause-in_journal
returns-clause-in_journal c =
    let log = c.args.self.core.units in
    let units = units_told _ _ _ _ _ _ c.gather_inner.ensures.tally (ap (λ t. t.knows) c.into_tally-tally.ensures) c.requires.stands.log in
    c.gather_inner.ensures.due.in_journal log (subst (λ l. AreInJournal l c.gather_inner.new.tally.knows.back) units c.audit.ensures.in_journal) (All-nil (λ (p : Book). AreInJournal log p.receipts))

pub returns-clause-others : goal.returns-clause-others
returns-clause-others c =
    let log = c.args.self.core.units in
    let units = units_told _ _ _ _ _ _ c.gather_inner.ensures.tally (ap (λ t. t.knows) c.into_tally-tally.ensures) c.requires.stands.log in
    c.gather_inner.ensures.due.others log (subst (λ l. AreInJournal l c.gather_inner.new.tally.knows.back) units c.audit.ensures.in_journal) (All-nil (λ (p : Book). AreInJournal log p.others))

pub returns-clause-seen : goal.returns-clause-seen
returns-clause-seen c =
    let log = c.args.self.core.units in
    let units = units_told _ _ _ _ _ _ c.gather_inner.ensures.tally (ap (λ t. t.knows) c.into_tally-tally.ensures) c.requires.stands.log in
    c.gather_inner.ensures.due.seen log (subst (λ l. All (IsBeginning l) c.gather_inner.new.tally.knows.known) units c.audit.ensures.known) (All-nil (HasSeenOf log))

pub returns-clause-few : goal.returns-clause-few
returns-clause-few c =
    let returned = ap (λ t. t.returned) c.gather_inner.ensures.tally in
    let given = ap (λ t. t.given) c.gather_inner.ensures.tally in
    let opened = ap (λ t. t.knows.given) c.into_tally-tally.ensures in omega (arith, returned, given, opened, c.audit.ensures.few, c.requires.stands.opened_is, c.args.passes.ok.0)
