use Rattle.std.proofs.Common.{[], refl, ap, ◌∙◌}
use Rattle.std.specs.Prelude.{Some}
use Rattle.command.specs.declared.access.DataCommand.TheVariants.{Set}
use Rattle.command.specs.declared.access.Answer.TheVariants.{Done}
use Rattle.journal.specs.declared.unit.Unit.TheVariants.{Lone}
use Rattle.job_core.proofs.ChangeLemmas.{next_lone}
use Rattle.job_core.proofs.lent.set_lent.Goals as goal

pub write_set-requires-clause-next : goal.write_set-requires-clause-next
write_set-requires-clause-next c =
    rw (c.in-Ok.ensures.prepared ∙ ap (λ v. Some (Lone c.args.job (Set c.args.key.now v) Done)) c.as_slice.ensures, c.prepare_set.ensures.units) (next_lone c.args.store.now c.args.journal.now.units c.args.job (Set c.args.key.now c.args.value.now) Done [] c.requires.agreed refl refl refl)
