use Rattle.std.proofs.Common.{inl, refl, rules, subst}
use Rattle.session_calls.specs.Looks.{IsMoment}
use Rattle.session_calls.proofs.Looked.{same_seat, same_session}
use Rattle.session_calls.proofs.looks.seen.Goals as goal

pub returns-in-Ok-Ok-clause-seen : goal.returns-in-Ok-Ok-clause-seen
returns-in-Ok-Ok-clause-seen c =
    let m = subst (IsMoment c.args.at_start c.in-Some.session.held c.moment.new.session.held) c.in-Ok-Ok.field-0-is c.in-Ok-Ok.ensures.seen in
    (record { old = c.in-Some.session; new = c.moment.new.session; was = search rules; is = refl; table = c.moment.ensures.table; hub = refl; done = m }, refl)

pub returns-in-Ok-Err-clause-seen : goal.returns-in-Ok-Err-clause-seen
returns-in-Ok-Err-clause-seen c =
    let m = subst (IsMoment c.args.at_start c.in-Some.session.held c.moment.new.session.held) c.in-Ok-Err.field-0-is c.in-Ok-Err.ensures.seen in
    inl (record {
      session = c.in-Some.session;
      there = search rules;
      closed = m.0;
      left = same_seat c.args.seat.now c.in-Some.session c.moment.new.session (search rules) (same_session _ _ c.moment.ensures.table m.1.1);
      told = m.1.0;
    })

pub returns-in-Err-clause-busy : goal.returns-in-Err-clause-busy
returns-in-Err-clause-busy c =
    let b = c.in-Err.ensures.busy in
    record { session = c.in-Some.session; there = search rules; started = b.0; left = same_seat c.args.seat.now c.in-Some.session c.moment.new.session (search rules) b.1 }
