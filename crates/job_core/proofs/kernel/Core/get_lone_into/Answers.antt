use Rattle.std.proofs.Common.{◌++◌, [], refl, ap, length, ◌∙◌}
use Rattle.std.specs.Prelude.{Some, None}
use Rattle.collation.specs.Database.{Database}
use Rattle.command.specs.declared.access.DataCommand.TheVariants.{Look}
use Rattle.command.specs.declared.access.Look.TheVariants.{Get}
use Rattle.command.specs.declared.access.Answer.TheVariants.{Value}
use Rattle.journal.specs.declared.unit.Unit.{Unit as JournalUnit}
use Rattle.journal.specs.declared.unit.Unit.TheVariants.{Lone}
use Rattle.journal.specs.History.{initial, after}
use Rattle.version_store.specs.Versions.{content_now}
use Rattle.validate_commit.specs.laws.Agreement.{agreed_now}
use Rattle.job_core.specs.Common.{common_of, HasAdded}
use Rattle.job_core.specs.Lent.{value_at}
use Rattle.job_core.proofs.ChangeLemmas.{next_lone}
use Rattle.job_core.proofs.Cores.{core_added}
use Rattle.job_core.proofs.KillCommands.{kill_cause}
use Rattle.job_core.proofs.ByReference.{added_quiet}
use Rattle.job_core.proofs.kernel.Core.get_lone_into.Goals as goal

pub write_none-written-requires-clause-next : goal.write_none-written-requires-clause-next
write_none-written-requires-clause-next c =
    let store = c.self.inside.store in
    rw (c.in-Ok.ensures.prepared, c.prepare_copied.ensures.units) (next_lone store c.self.inside.journal.units c.args.job (Look (Get c.args.key.now None)) (Value (value_at c.args.key.now (content_now store))) [] c.self.invariant.agreed refl refl refl)

pub invariant_of-self : goal.invariant_of-self
invariant_of-self c =
    let store = c.self.inside.store in
    let units = c.self.inside.journal.units in
    let old = common_of store c.self.inside.journal in
    let new = common_of c.write_none-written.new.store c.write_none-written.new.journal in
    let unit : Database → JournalUnit = λ m. Lone c.args.job (Look (Get c.args.key.now None)) (Value (value_at c.args.key.now m)) in
    let wrote = c.write_none-written.ensures in
    let added : HasAdded (unit (content_now store)) c.write_none-written.result c.args.oldest old new = added_quiet c.prepare_copied.new.journal.prepared (unit (content_now store)) c.write_none-written.result c.args.oldest old new c.prepare_copied.new.journal.units c.in-Ok.ensures.prepared c.prepare_copied.ensures.units
    wrote.units (wrote.base ∙ c.prepare_copied.ensures.base) (wrote.ends ∙ c.prepare_copied.ensures.ends) wrote.receipt wrote.cut wrote.agreed wrote.versions wrote.mark in
    core_added (unit (content_now store)) c.write_none-written.result c.args.oldest old new c.self.inside.locks c.self.inside.locks c.self.inside.passing c.self.invariant added c.self.invariant.locks refl

pub returns-in-Ok-clause-added : goal.returns-in-Ok-clause-added
returns-in-Ok-clause-added c =
    let store = c.self.inside.store in
    let units = c.self.inside.journal.units in
    let old = common_of store c.self.inside.journal in
    let new = common_of c.write_none-written.new.store c.write_none-written.new.journal in
    let unit : Database → JournalUnit = λ m. Lone c.args.job (Look (Get c.args.key.now None)) (Value (value_at c.args.key.now m)) in
    let wrote = c.write_none-written.ensures in
    let now = agreed_now store units c.self.invariant.agreed in
    rw (← c.self.view_is) (added_quiet c.prepare_copied.new.journal.prepared (unit (after units initial).map) c.write_none-written.result c.args.oldest old new c.prepare_copied.new.journal.units (c.in-Ok.ensures.prepared ∙ ap (λ m. Some (unit m)) now) c.prepare_copied.ensures.units
    wrote.units (wrote.base ∙ c.prepare_copied.ensures.base) (wrote.ends ∙ c.prepare_copied.ensures.ends) wrote.receipt wrote.cut wrote.agreed wrote.versions wrote.mark)

pub returns-in-Ok-clause-size : goal.returns-in-Ok-clause-size
returns-in-Ok-clause-size c =
    rw (← c.self.view_is) (c.in-Ok.ensures.size ∙ ap (λ m. length (value_at c.args.key.now m)) (agreed_now c.self.inside.store c.self.inside.journal.units c.self.invariant.agreed))

pub returns-in-Ok-clause-copied : goal.returns-in-Ok-clause-copied
returns-in-Ok-clause-copied c =
    rw (← c.self.view_is) (c.in-Ok.ensures.copied ∙ ap (λ m. c.args.values.now.items ++ value_at c.args.key.now m) (agreed_now c.self.inside.store c.self.inside.journal.units c.self.invariant.agreed))

pub returns-in-Err-clause-cause : goal.returns-in-Err-clause-cause
returns-in-Err-clause-cause c =
    rw (← c.self.view_is) (kill_cause c.in-Err.refusal (Look (Get c.args.key.now None)) (after c.self.inside.journal.units initial).map (length c.self.inside.journal.units) refl c.in-Err.ensures.cause)
