use Rattle.std.proofs.Common.{◌≡◌, ◌≤◌, [], ◌∷◌, length, max, refl, ap, ◌∙◌, arith, length-append}
use Rattle.command.specs.declared.access.DataCommand.TheVariants.{Kill}
use Rattle.command.specs.declared.access.Extent.TheVariants.{All}
use Rattle.command.specs.declared.access.Answer.TheVariants.{Done}
use Rattle.journal.specs.declared.unit.Unit.TheVariants.{Lone}
use Rattle.job_core.proofs.KillCommands.{next_kill}
use Rattle.job_core.proofs.lent.kill_lent.Goals as goal

pub write_kill-requires-clause-next : goal.write_kill-requires-clause-next
write_kill-requires-clause-next c =
    rw (c.in-Ok.ensures.prepared, c.prepare_kill.ensures.units) (next_kill c.args.store.now c.args.journal.now.units c.args.job c.args.key.now c.requires)

pub returns-in-Ok-clause-left : goal.returns-in-Ok-clause-left
returns-in-Ok-clause-left c =
    let units = rw (c.in-Ok.ensures.prepared, c.prepare_kill.ensures.units) at c.write_kill.ensures.units in
    let cut = c.write_kill.ensures.cut in
    let was = c.requires.cut in
    let old : c.args.store.now.cut ≤ length c.write_kill.new.journal.units = omega (arith, was, ap length units, length-append c.args.journal.now.units (Lone c.args.job (Kill c.args.key.now All) Done ∷ [])) in
    omega (arith, cut, old)
