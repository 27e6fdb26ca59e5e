use Rattle.std.proofs.Common.{inl, refl, rules}
use Rattle.session_calls.proofs.upkeep.hold.Goals as goal

pub returns-in-Ok : goal.returns-in-Ok
returns-in-Ok c =
    inl (record { old = c.in-Some.session; new = c.holds.new.session; was = search rules; is = refl; table = c.holds.ensures.table; hub = refl; done = c.in-Ok.ensures.held }, refl, refl)
