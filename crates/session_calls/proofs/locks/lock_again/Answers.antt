use Rattle.std.proofs.Common.{inl, refl, rules}
use Rattle.session_calls.proofs.locks.lock_again.Goals as goal

pub returns-in-Ok : goal.returns-in-Ok
returns-in-Ok c =
    inl (record { old = c.in-Some.session; new = c.again-tried.new.session; was = search rules; is = refl; table = c.again-tried.ensures.table; hub = refl; done = c.in-Ok.ensures.tried }, refl)
