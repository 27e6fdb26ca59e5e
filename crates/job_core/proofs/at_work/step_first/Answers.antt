use Rattle.std.proofs.Common.{ap, refl, ◌∙◌}
use Rattle.command.specs.declared.request.Command.{Command}
use Rattle.command.specs.declared.request.Command.TheVariants.{Halt}
use Rattle.journal.specs.Story.{told}
use Rattle.job_core.specs.Joined.{machine_shown}
use Rattle.job_core.proofs.ByReference.{none_inside}
use Rattle.job_core.proofs.AtWork.{kept_same, kept_halted, kept_step, rests_outside, roomier, roomier_whole, roomier_shown}
use Rattle.job_core.proofs.at_work.step_first.Goals as goal

pub returns-then-is_halt-clause-kept : goal.returns-then-is_halt-clause-kept
returns-then-is_halt-clause-kept c =
    let flags = c.args.ends.now.items in
    let ends = c.args.engine.now.core.ends in
    let s = machine_shown c.args.engine.now in
    let reply = c.step.result in
    kept_same flags ends c.step.new.self.core.ends (told c.args.job Halt reply s) (machine_shown c.step.new.self) (kept_halted flags ends c.args.job reply s c.requires.kept) c.step.ensures.ends
    (c.step.ensures.step.machine ∙ ap (λ (k : Command). told c.args.job k reply s) (c.is_halt.ensures.halts c.if-is_halt.true))

pub step-requires-in-Ok : goal.step-requires-in-Ok
step-requires-in-Ok c = roomier_whole c.args.engine.now c.keep.new.core c.keep.new.core.ends c.keep.ensures.core c.requires.whole

pub reply_without-reply-requires-clause-whole : goal.reply_without-reply-requires-clause-whole
reply_without-reply-requires-clause-whole c = roomier_whole c.args.engine.now c.keep.new.core c.keep.new.core.ends c.keep.ensures.core c.requires.whole

pub reply_without-reply-requires-clause-none : goal.reply_without-reply-requires-clause-none
reply_without-reply-requires-clause-none c =
    let e = c.args.engine.now in
    none_inside e.core.units e.sessions c.args.job (rests_outside c.args.ends.now.items e.core.ends c.args.job (machine_shown e) c.requires.kept c.keep.ensures.low c.requires.none)

pub returns-in-Ok-clause-kept : goal.returns-in-Ok-clause-kept
returns-in-Ok-clause-kept c =
    let e = c.args.engine.now in
    let s = machine_shown e in
    let reply = c.step-in-Ok.result in
    kept_step c.keep.new.ends.items c.keep.new.core.ends c.step-in-Ok.new.self.core.ends c.args.job c.args.command reply s (machine_shown c.step-in-Ok.new.self) (c.keep.ensures.room s c.requires.kept) c.in-Ok.ensures.kept c.step-in-Ok.ensures.ends
    (c.step-in-Ok.ensures.step.machine ∙ ap (told c.args.job c.args.command reply) (roomier_shown e c.keep.new.core c.keep.new.core.ends c.keep.ensures.core))

pub returns-in-Err-clause-kept : goal.returns-in-Err-clause-kept
returns-in-Err-clause-kept c =
    let e = c.args.engine.now in
    let core = c.keep.new.core in
    kept_same c.keep.new.ends.items core.ends core.ends (machine_shown e) (machine_shown (roomier e core core.ends c.keep.ensures.core)) (c.keep.ensures.room (machine_shown e) c.requires.kept) refl (roomier_shown e core core.ends c.keep.ensures.core)
