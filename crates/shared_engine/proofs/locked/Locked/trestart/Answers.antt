use Rattle.std.proofs.Common.{ap, subst, ◌∙◌, arith}
use Rattle.shared_engine.specs.Sessions.{IsJournalOf}
use Rattle.shared_engine.proofs.Seeing.{anew_goes_on, back_goes_on}
use Rattle.shared_engine.proofs.Starting.{settled_open}
use Rattle.shared_engine.proofs.Beginning.{session_rebegun, met_journal}
use Rattle.shared_engine.proofs.locked.Locked.trestart.Goals as goal

pub invariant_of-session : goal.invariant_of-session
invariant_of-session c =
    let level = ap (λ h. h.state.level) (ap (λ h. h.held) c.session.view_is ∙ c.in-Ok.ensures.session) in
    let settled = settled_open c.session.inside.pin.knows c.session.inside.state c.session.invariant.at (omega (arith, level, c.requires)) in
    let t = c.begin_anew.ensures in
    session_rebegun _ _ c.go_back.new.desk.knows _ _ _ _ c.session.invariant settled c.restart-now.ensures.pin c.restart-now.ensures.start (omega (arith, ap (λ s. s.level) t)) (ap (λ s. s.work) t)

pub returns-in-Ok-clause-journal : goal.returns-in-Ok-clause-journal
returns-in-Ok-clause-journal c =
    let back = subst (IsJournalOf _) (ap (λ h. h.held) c.session.view_is ∙ c.in-Ok.ensures.session) (met_journal _ _ _ c.session.inside.state c.journal.ensures.legal (ap (λ d. d.log) c.in-Ok.ensures.desk) c.restart-now.ensures.met) in
    record { legal = back.legal; goes_on = anew_goes_on c.args.session.now.held _ _ c.in-Ok.ensures.units c.in-Ok.ensures.goes_on back.goes_on; start = back.start; receipts = back.receipts }

pub returns-in-Ok-clause-goes_on : goal.returns-in-Ok-clause-goes_on
returns-in-Ok-clause-goes_on c =
    let back = subst (IsJournalOf _) (ap (λ h. h.held) c.session.view_is ∙ c.in-Ok.ensures.session) (met_journal _ _ _ c.session.inside.state c.journal.ensures.legal (ap (λ d. d.log) c.in-Ok.ensures.desk) c.restart-now.ensures.met) in
    (back_goes_on c.args.session.now.held.state _ _ _ c.in-Ok.ensures.units c.in-Ok.ensures.goes_on (anew_goes_on c.args.session.now.held _ _ c.in-Ok.ensures.units c.in-Ok.ensures.goes_on back.goes_on))
