use Rattle.std.proofs.Common.{◌≡◌, ◌∙◌, refl, sym, ap, subst, List}
use Rattle.std.specs.Prelude.{IfSome}
use Rattle.command.specs.declared.request.Reply.{Reply}
use Rattle.journal.specs.declared.unit.Unit.{Unit as JournalUnit}
use Rattle.pin_board.specs.Slips.{IsBeginning}
use Rattle.shared_engine.specs.Holds.{IsAhead}
use Rattle.shared_engine.specs.Sessions.{Held}
use Rattle.shared_engine.proofs.Knowing.{right_known, own_known, known_done, receipts_seen, on_ok}
use Rattle.shared_engine.proofs.locked.Locked.lone_or_known.Goals as goal

pub known_gets-requires-clause-right : goal.known_gets-requires-clause-right
known_gets-requires-clause-right c =
    let known = subst (λ o. IfSome o (λ read. (base : List JournalUnit) × IsBeginning c.args.self.now.core.units base × IsAhead c.args.session.now.held.state.work.job read.number base c.args.asked.now.commands read.gets read.told.served)) c.in-Some.is c.requires.known in
    right_known _ _ known.0 _ _ _ _ known.1 known.2 (c.is_as_at.ensures c.if-is_as_at.true)

pub known_gets-requires-clause-gets : goal.known_gets-requires-clause-gets
known_gets-requires-clause-gets c =
    let known = subst (λ o. IfSome o (λ read. (base : List JournalUnit) × IsBeginning c.args.self.now.core.units base × IsAhead c.args.session.now.held.state.work.job read.number base c.args.asked.now.commands read.gets read.told.served)) c.in-Some.is c.requires.known in
    own_known _ _ known.0 _ _ _ known.2

pub returns-then-is_ok-clause-done : goal.returns-then-is_ok-clause-done
returns-then-is_ok-clause-done c =
    let known = subst (λ o. IfSome o (λ read. (base : List JournalUnit) × IsBeginning c.args.self.now.core.units base × IsAhead c.args.session.now.held.state.work.job read.number base c.args.asked.now.commands read.gets read.told.served)) c.in-Some.is c.requires.known in
    let done = sym c.is_ok.ensures.value ∙ c.if-is_ok.true in
    known_done c.args.session.now.held.state.work.job c.in-Some.read.number known.0 c.args.self.now.core.units c.known_gets.new.self.core.units c.args.asked.now.commands c.in-Some.read.gets c.in-Some.read.told.served c.swap.new.x.served c.args.session.now.held c.known_gets.new.session.held
    known.1 known.2 (c.is_as_at.ensures c.if-is_as_at.true) c.requires.level refl (on_ok c.known_gets.result _ done c.known_gets.ensures.units) (on_ok c.known_gets.result _ done c.known_gets.ensures.receipts) (ap (λ t. t.served) c.swap.ensures.x_after)

pub returns-then-is_ok-clause-seen : goal.returns-then-is_ok-clause-seen
returns-then-is_ok-clause-seen c =
    let done = sym c.is_ok.ensures.value ∙ c.if-is_ok.true in
    ap (λ (s : Held). s.seen) (on_ok c.known_gets.result _ done c.known_gets.ensures.receipts)
    ∙ (receipts_seen c.args.self.now.core.units c.in-Some.read.gets.units c.args.session.now.held c.requires.seen ∙ sym (on_ok c.known_gets.result _ done c.known_gets.ensures.units))
