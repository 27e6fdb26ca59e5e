use Rattle.std.proofs.Common.{inl, inr, ap}
use Rattle.lock_name.specs.Locks.{more_of}
use Rattle.lock_table.specs.Rows.{want_of, told_by}
use Rattle.lock_table.proofs.Wants.{want_held, none_wanted}
use Rattle.lock_table.proofs.Rows.{asked_more, within_asked, undone, not_held, now_held, nothing_more, within_same, more_allowed, more_full}
use Rattle.lock_table.proofs.inside.more_over.Goals as goal

pub returns-in-Err-clause-full : goal.returns-in-Err-clause-full
returns-in-Err-clause-full c = elim c.in-Err.ensures.full [
  | inl e ↦ inl e
  | inr p ↦ inr (p.0, more_full c.args.held.now (want_of c.args.held.now c.args.inside.now.wanted) c.args.names.now c.args.over.now (want_held c.args.held.now c.args.inside.now.wanted (let a = c.requires.within in a.told_held)) c.requires.over p.1)
]

pub returns-then-not-had-clause-ok : goal.returns-then-not-had-clause-ok
returns-then-not-had-clause-ok c = nothing_more c.args.held.now (want_of c.args.held.now c.args.inside.now.wanted) c.args.inside.now.added c.hold_over.new.held (want_of c.hold_over.new.held c.args.inside.now.wanted) c.hold_over.new.added c.args.names.now c.args.had (more_of c.args.over.now c.args.held.now) (more_of c.args.over.now c.args.inside.now.added) (let a = c.look.ensures in a.some)
    (none_wanted c.args.held.now c.args.inside.now.wanted (let a = c.look.ensures in a.some) (let a = c.look-2.ensures in a.some)) (want_held c.args.held.now c.args.inside.now.wanted (let a = c.requires.within in a.told_held)) c.if-not-had.true c.in-Ok.ensures.held c.in-Ok.ensures.added
    (ap (λ v. want_of v c.args.inside.now.wanted) (not_held c.args.held.now c.hold_over.new.held (more_of c.args.over.now c.args.held.now) c.args.had c.if-not-had.true c.in-Ok.ensures.held))

pub returns-then-not-had-clause-allowed : goal.returns-then-not-had-clause-allowed
returns-then-not-had-clause-allowed c = more_allowed c.args.held.now (want_of c.args.held.now c.args.inside.now.wanted) c.args.names.now c.args.over.now (want_held c.args.held.now c.args.inside.now.wanted (let a = c.requires.within in a.told_held)) c.requires.over c.in-Ok.ensures.allowed

pub returns-in-Ok-ask-clause-ok : goal.returns-in-Ok-ask-clause-ok
returns-in-Ok-ask-clause-ok c = asked_more c.args.held.now c.args.inside.now.added c.hold_over.new.held c.hold_over.new.added c.args.inside.now.wanted c.ask.new.self c.args.names.now c.args.over.now c.args.had (let a = c.look.ensures in a.some) (let a = c.look-2.ensures in a.some) c.requires.within c.requires.over c.if-not-had.false
    c.in-Ok.ensures.held c.in-Ok.ensures.added c.in-Ok-ask.ensures.ok

pub returns-in-Ok-ask-clause-within : goal.returns-in-Ok-ask-clause-within
returns-in-Ok-ask-clause-within c = within_asked c.args.held.now c.args.inside.now.added c.hold_over.new.held c.hold_over.new.added c.args.inside.now.wanted c.ask.new.self c.args.names.now c.args.over.now c.args.had c.requires.within c.requires.over c.if-not-had.false c.in-Ok.ensures.held c.in-Ok.ensures.added c.in-Ok-ask.ensures.ok

pub returns-in-Ok-ask-clause-allowed : goal.returns-in-Ok-ask-clause-allowed
returns-in-Ok-ask-clause-allowed c = more_allowed c.args.held.now (want_of c.args.held.now c.args.inside.now.wanted) c.args.names.now c.args.over.now (want_held c.args.held.now c.args.inside.now.wanted (let a = c.requires.within in a.told_held)) c.requires.over c.in-Ok.ensures.allowed

pub returns-in-Err-ask-clause-same : goal.returns-in-Err-ask-clause-same
returns-in-Err-ask-clause-same c = undone c.args.held.now c.hold_over.new.held c.hold_fewer.new.held c.args.over.now (let a = c.look.ensures in a.some) (now_held c.args.held.now c.hold_over.new.held (more_of c.args.over.now c.args.held.now) c.args.had c.if-not-had.false c.in-Ok.ensures.held) c.hold_fewer.ensures.held

pub returns-in-Err-ask-clause-err : goal.returns-in-Err-ask-clause-err
returns-in-Err-ask-clause-err c = record {
  wanted_same = c.in-Err-ask.ensures.err;
  added_same = undone c.args.inside.now.added c.hold_over.new.added c.take_all.new.self c.args.over.now (let a = c.look-3.ensures in a.some) (now_held c.args.inside.now.added c.hold_over.new.added (more_of c.args.over.now c.args.inside.now.added) c.args.had c.if-not-had.false c.in-Ok.ensures.added) c.take_all.ensures;
}

pub returns-in-Err-ask-clause-within : goal.returns-in-Err-ask-clause-within
returns-in-Err-ask-clause-within c = within_same c.args.held.now (told_by c.args.inside.now.wanted) c.args.inside.now.added c.hold_fewer.new.held (told_by c.ask.new.self) c.take_all.new.self
    (undone c.args.held.now c.hold_over.new.held c.hold_fewer.new.held c.args.over.now (let a = c.look.ensures in a.some) (now_held c.args.held.now c.hold_over.new.held (more_of c.args.over.now c.args.held.now) c.args.had c.if-not-had.false c.in-Ok.ensures.held) c.hold_fewer.ensures.held)
    (ap told_by c.in-Err-ask.ensures.err)
    (undone c.args.inside.now.added c.hold_over.new.added c.take_all.new.self c.args.over.now (let a = c.look-3.ensures in a.some) (now_held c.args.inside.now.added c.hold_over.new.added (more_of c.args.over.now c.args.inside.now.added) c.args.had c.if-not-had.false c.in-Ok.ensures.added) c.take_all.ensures) c.requires.within
