use Rattle.std.proofs.Common.{◌≡◌, ℕ, [], refl, subst}
use Rattle.std.specs.Prelude.{None}
use Rattle.job_core.specs.Sessions.{idle}
use Rattle.shared_engine.specs.Sessions.{held}
use Rattle.session_calls.proofs.Looked.{if_ok}
use Rattle.session_calls.proofs.seat.Seat.begin.Goals as goal

pub returns-in-Ok-Ok : goal.returns-in-Ok-Ok
returns-in-Ok-Ok c =
    let h = c.in-Ok-Ok.ensures in let is = c.in-Ok-Ok.field-0-is in let s = if_ok _ _ _ is h.session in
    (refl, record { session = c.in-Ok-Ok.session; units = s.0; there = refl; table = if_ok _ _ _ is h.table; held_by = subst (λ (j : ℕ). c.in-Ok-Ok.session.held ≡ held (idle j) None [] [] s.0) c.in-Ok.ensures.0 s.1; last = refl })
