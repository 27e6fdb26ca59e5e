use Rattle.std.proofs.Common.{false, sym, subst, set, ◌-◌}
use Rattle.command.specs.declared.request.Command.TheVariants.{Halt}
use Rattle.command.specs.declared.request.Reply.TheVariants.{Finished}
use Rattle.journal.specs.Story.{told}
use Rattle.job_core.specs.AtWork.{AreKept}
use Rattle.job_core.specs.Joined.{machine_shown}
use Rattle.job_core.proofs.AtWork.{room_there, kept_ended, kept_same}
use Rattle.job_core.proofs.at_work.halt.Goals as goal

pub halt_kept-requires-clause-room : goal.halt_kept-requires-clause-room
halt_kept-requires-clause-room c = room_there c.args.ends.now.items c.args.engine.now.core.ends c.args.job (machine_shown c.args.engine.now) c.requires.kept c.requires.room

pub returns-in-Ok-clause-kept : goal.returns-in-Ok-clause-kept
returns-in-Ok-clause-kept c =
    let flags = c.args.ends.now.items in
    let ends = c.args.engine.now.core.ends in
    let s = machine_shown c.args.engine.now in
    let ended = kept_ended flags ends c.args.job s c.requires.kept c.requires.room in
    subst (λ n. AreKept (set flags n false) c.halt_kept.new.self.core.ends (machine_shown c.halt_kept.new.self)) (sym c.number.ensures.value)
    (kept_same (set flags c.args.job false) (ends - 1) c.halt_kept.new.self.core.ends (told c.args.job Halt Finished s) (machine_shown c.halt_kept.new.self) ended c.in-Ok.ensures.fewer c.in-Ok.ensures.step.machine)
