use Rattle.std.proofs.Common.{ap, ◌∙◌}
use Rattle.shared_engine.proofs.Writing.{session_opened, view_opened}
use Rattle.shared_engine.proofs.locked.Locked.open.Goals as goal

pub invariant_of-result : goal.invariant_of-result
invariant_of-result c = let p = c.in_ok-pin.ensures.pin in session_opened _ _ _ c.in_ok-pin.pin.knows _ _ c.in-Ok.ensures.state c.give_slip.ensures.pin p.0 p.1.0 p.1.1.1 c.new.ensures.items

pub returns-clause-session : goal.returns-clause-session
returns-clause-session c = let p = c.in_ok-pin.ensures.pin in view_opened _ _ _ c.in_ok-pin.pin.knows _ _ c.in-Ok.ensures.state c.give_slip.ensures.pin p.1.0 p.1.1.1 (ap (λ d. d.log) c.in_ok-pin.ensures.dealt.1 ∙ c.requires.stands.log)
