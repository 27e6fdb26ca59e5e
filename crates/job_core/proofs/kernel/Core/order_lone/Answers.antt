use Rattle.std.proofs.Common.{◌≡◌, List, [], refl, sym, ap, subst, length, ◌∙◌}
use Rattle.std.specs.Prelude.{Some, IfErr}
use Rattle.collation.specs.Answers.{is_forward, order_of}
use Rattle.collation.specs.Database.{Database}
use Rattle.command.specs.declared.access.DataCommand.TheVariants.{Look}
use Rattle.command.specs.declared.access.Look.TheVariants.{Order}
use Rattle.command.specs.declared.access.Answer.TheVariants.{Value}
use Rattle.journal.specs.declared.unit.Unit.{Unit as JournalUnit}
use Rattle.journal.specs.declared.unit.Unit.TheVariants.{Lone}
use Rattle.journal.specs.History.{initial, after}
use Rattle.read_ranges.specs.declared.range.ReadRange.{ReadRange}
use Rattle.stretches.specs.Empty.{AreEmpty}
use Rattle.version_store.specs.Versions.{content_now}
use Rattle.validate_commit.specs.laws.Agreement.{agreed_now}
use Rattle.job_core.specs.Causes.{IsCauseOf}
use Rattle.job_core.specs.Common.{common_of, HasAdded}
use Rattle.job_core.proofs.ChangeLemmas.{next_lone}
use Rattle.job_core.proofs.Cores.{core_unit, core_same}
use Rattle.job_core.proofs.ByReference.{added_quiet, just_got}
use Rattle.job_core.proofs.kernel.Core.order_lone.Goals as goal

pub seek_order-requires : goal.seek_order-requires
seek_order-requires c = subst (AreEmpty c.self.inside.passing) (sym (agreed_now c.self.inside.store c.self.inside.journal.units c.self.invariant.agreed)) c.self.invariant.empty

pub prepare_ordered-requires : goal.prepare_ordered-requires
prepare_ordered-requires c = subst (λ (rs : List ReadRange). AreEmpty rs (content_now c.self.inside.store)) (sym c.stretches.ensures) c.seek_order.ensures

pub write_none-told-requires-clause-next : goal.write_none-told-requires-clause-next
write_none-told-requires-clause-next c =
    let store = c.self.inside.store in
    rw (c.in-Ok.ensures.prepared, c.prepare_ordered.ensures.units) (next_lone store c.self.inside.journal.units c.args.job (Look (Order c.args.place.now c.args.direction)) (Value (order_of (is_forward c.args.direction) c.args.place.now (content_now store))) [] c.self.invariant.agreed c.in-Ok.ensures.accepted refl refl)

pub invariant_of-self : goal.invariant_of-self
invariant_of-self c =
    let store = c.self.inside.store in
    let units = c.self.inside.journal.units in
    let unit : Database → JournalUnit = λ m. Lone c.args.job (Look (Order c.args.place.now c.args.direction)) (Value (order_of (is_forward c.args.direction) c.args.place.now m)) in
    let wrote = c.write_none-told.ensures in
    let added : HasAdded (unit (content_now store)) c.write_none-told.result c.args.oldest (common_of store c.self.inside.journal) (common_of c.write_none-told.new.store c.write_none-told.new.journal) = added_quiet c.prepare_ordered.new.journal.prepared (unit (content_now store)) c.write_none-told.result c.args.oldest _ _ c.prepare_ordered.new.journal.units c.in-Ok.ensures.prepared c.prepare_ordered.ensures.units
    wrote.units (wrote.base ∙ c.prepare_ordered.ensures.base) (wrote.ends ∙ c.prepare_ordered.ensures.ends) wrote.receipt wrote.cut wrote.agreed wrote.versions wrote.mark in
    let empty = subst (AreEmpty c.seek_order.new.self) (agreed_now store units c.self.invariant.agreed) c.seek_order.ensures in
    core_unit store c.write_none-told.new.store units c.write_none-told.new.journal.units c.self.inside.journal.base c.write_none-told.new.journal.base c.self.inside.locks c.self.inside.locks c.self.inside.passing c.seek_order.new.self (unit (content_now store)) c.self.invariant added.units added.base added.agreed c.self.invariant.locks empty

pub invariant_of-self-in-Err : goal.invariant_of-self-in-Err
invariant_of-self-in-Err c =
    let store = c.self.inside.store in
    let units = c.self.inside.journal.units in
    let empty = subst (AreEmpty c.seek_order.new.self) (agreed_now store units c.self.invariant.agreed) c.seek_order.ensures in
    core_same store store units c.prepare_ordered.new.journal.units c.self.inside.journal.base c.prepare_ordered.new.journal.base c.self.inside.locks c.self.inside.locks c.self.inside.passing c.seek_order.new.self c.self.invariant c.prepare_ordered.ensures.units c.prepare_ordered.ensures.base refl (rw c.prepare_ordered.ensures.units c.self.invariant.agreed) empty

pub returns-in-Ok-clause-added : goal.returns-in-Ok-clause-added
returns-in-Ok-clause-added c =
    let store = c.self.inside.store in
    let units = c.self.inside.journal.units in
    let old = common_of store c.self.inside.journal in
    let new = common_of c.write_none-told.new.store c.write_none-told.new.journal in
    let unit : Database → JournalUnit = λ m. Lone c.args.job (Look (Order c.args.place.now c.args.direction)) (Value (order_of (is_forward c.args.direction) c.args.place.now m)) in
    let wrote = c.write_none-told.ensures in
    let now = agreed_now store units c.self.invariant.agreed in
    rw (← c.self.view_is) (added_quiet c.prepare_ordered.new.journal.prepared (unit (after units initial).map) c.write_none-told.result c.args.oldest old new c.prepare_ordered.new.journal.units (c.in-Ok.ensures.prepared ∙ ap (λ m. Some (unit m)) now) c.prepare_ordered.ensures.units
    wrote.units (wrote.base ∙ c.prepare_ordered.ensures.base) (wrote.ends ∙ c.prepare_ordered.ensures.ends) wrote.receipt wrote.cut wrote.agreed wrote.versions wrote.mark)

pub returns-in-Ok-clause-got : goal.returns-in-Ok-clause-got
returns-in-Ok-clause-got c =
    let store = c.self.inside.store in
    let units = c.self.inside.journal.units in
    let old = common_of store c.self.inside.journal in
    let new = common_of c.write_none-told.new.store c.write_none-told.new.journal in
    let unit : Database → JournalUnit = λ m. Lone c.args.job (Look (Order c.args.place.now c.args.direction)) (Value (order_of (is_forward c.args.direction) c.args.place.now m)) in
    let wrote = c.write_none-told.ensures in
    let now = agreed_now store units c.self.invariant.agreed in
    rw (← c.self.view_is) (just_got (order_of (is_forward c.args.direction) c.args.place.now (after units initial).map) c.write_none-told.result c.args.oldest c.args.job (Order c.args.place.now c.args.direction) old new
    (added_quiet c.prepare_ordered.new.journal.prepared (unit (after units initial).map) c.write_none-told.result c.args.oldest old new c.prepare_ordered.new.journal.units (c.in-Ok.ensures.prepared ∙ ap (λ m. Some (unit m)) now) c.prepare_ordered.ensures.units
    wrote.units (wrote.base ∙ c.prepare_ordered.ensures.base) (wrote.ends ∙ c.prepare_ordered.ensures.ends) wrote.receipt wrote.cut wrote.agreed wrote.versions wrote.mark) c.self.invariant.within)

pub returns-in-Ok-clause-size : goal.returns-in-Ok-clause-size
returns-in-Ok-clause-size c =
    rw (← c.self.view_is) (c.in-Ok.ensures.size ∙ ap (λ m. length (order_of (is_forward c.args.direction) c.args.place.now m)) (agreed_now c.self.inside.store c.self.inside.journal.units c.self.invariant.agreed))

pub returns-in-Err-clause-cause : goal.returns-in-Err-clause-cause
returns-in-Err-clause-cause c =
    rw (← c.self.view_is) (subst (λ m. IsCauseOf c.in-Err.refusal (Look (Order c.args.place.now c.args.direction)) m (length c.self.inside.journal.units)) (agreed_now c.self.inside.store c.self.inside.journal.units c.self.invariant.agreed) c.in-Err.ensures.cause)
