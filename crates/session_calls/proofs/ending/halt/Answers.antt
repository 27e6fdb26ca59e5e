use Rattle.std.proofs.Common.{inl, refl, rules}
use Rattle.session_calls.proofs.Looked.{if_err, if_ok}
use Rattle.session_calls.proofs.ending.halt.Goals as goal

pub returns-in-Ok-Ok : goal.returns-in-Ok-Ok
returns-in-Ok-Ok c =
    let h = c.in-Ok-Ok.ensures in let is = c.in-Ok-Ok.field-0-is in let p = if_ok _ _ _ is h.pass in
    record { old = c.in-Some.session; units = p.0; was = search rules; goes_on = p.1; book = p.2; table = if_ok _ _ _ is h.table; none = c.take.ensures.after; hub = refl; last = refl }

pub returns-in-Ok-Err : goal.returns-in-Ok-Err
returns-in-Ok-Err c =
    let h = c.in-Ok-Err.ensures in let is = c.in-Ok-Err.field-0-is in let r = if_err _ _ _ is h.refused in
    inl (record { old = c.in-Some.session; new = c.in-Ok-Err.back; was = search rules; is = refl; table = r.0; hub = refl; done = record { refusal = c.in-Ok-Err.refusal; cause = if_err _ _ _ is h.cause; goes_on = r.1.0; same = r.1.1; told = refl } }, refl)
