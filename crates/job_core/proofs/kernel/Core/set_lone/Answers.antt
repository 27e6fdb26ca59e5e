use Rattle.std.proofs.Common.{refl, sym, subst, length}
use Rattle.std.specs.Prelude.{IfErr}
use Rattle.command.specs.declared.access.DataCommand.TheVariants.{Set}
use Rattle.command.specs.declared.access.Answer.TheVariants.{Done}
use Rattle.journal.specs.declared.unit.Unit.TheVariants.{Lone}
use Rattle.journal.specs.History.{initial, after}
use Rattle.job_core.specs.Common.{common_of}
use Rattle.job_core.proofs.ByReference.{added_one, core_one, cause_one, unchanged_one}
use Rattle.job_core.proofs.kernel.Core.set_lone.Goals as goal

pub invariant_of-self : goal.invariant_of-self
invariant_of-self c =
    let m = (after c.self.inside.journal.units initial).map in
    core_one c.set_lent.result c.args.job (Set c.args.key.now c.args.value.now) Done c.self.inside.store c.set_lent.new.store c.self.inside.journal.units c.set_lent.new.journal.units c.self.inside.journal.base c.set_lent.new.journal.base c.self.inside.locks c.self.inside.passing c.leave_set.new.self c.self.invariant
    c.set_lent.ensures.unit c.set_lent.ensures.refused c.set_lent.ensures.base c.set_lent.ensures.agreed (c.leave_set.ensures.before m c.self.invariant.empty) (c.leave_set.ensures.behind c.args.value.now m c.self.invariant.empty)

pub returns-clause-added : goal.returns-clause-added
returns-clause-added c = rw (← c.self.view_is) (added_one c.set_lent.result (Lone c.args.job (Set c.args.key.now c.args.value.now) Done) c.args.oldest (common_of c.self.inside.store c.self.inside.journal) (common_of c.set_lent.new.store c.set_lent.new.journal) c.set_lent.ensures.unit c.set_lent.ensures.base c.set_lent.ensures.ends c.set_lent.ensures.receipt c.set_lent.ensures.left c.set_lent.ensures.agreed c.set_lent.ensures.bare c.set_lent.ensures.mark)

pub returns-clause-cause : goal.returns-clause-cause
returns-clause-cause c = rw (← c.self.view_is) (cause_one c.set_lent.result (Set c.args.key.now c.args.value.now) (after c.self.inside.journal.units initial).map (length c.self.inside.journal.units) refl c.set_lent.ensures.cause)

pub returns-clause-refused : goal.returns-clause-refused
returns-clause-refused c = rw (← c.self.view_is) (unchanged_one c.set_lent.result (common_of c.self.inside.store c.self.inside.journal) (common_of c.set_lent.new.store c.set_lent.new.journal) c.set_lent.ensures.refused c.set_lent.ensures.base c.set_lent.ensures.ends c.set_lent.ensures.same_cut c.set_lent.ensures.mark c.set_lent.ensures.rows c.set_lent.ensures.bare)
