use Rattle.std.proofs.Common.{◌≡◌, refl, sym, ap, subst, length, max, inl, inr}
use Rattle.std.specs.Prelude.{OnOk, unwrap_or}
use Rattle.command.specs.declared.access.DataCommand.TheVariants.{Kill}
use Rattle.command.specs.declared.access.Extent.TheVariants.{All}
use Rattle.command.specs.declared.access.Answer.TheVariants.{Done}
use Rattle.collation.specs.Reference.{Reference}
use Rattle.journal.specs.declared.unit.Unit.TheVariants.{Lone}
use Rattle.journal.specs.History.{initial, after}
use Rattle.stretches.specs.laws.Entering.{stay_after_kill}
use Rattle.version_store.specs.Versions.{versions_of}
use Rattle.job_core.specs.Changes.{row_done}
use Rattle.job_core.specs.Common.{common_of}
use Rattle.job_core.proofs.ByReference.{added_one, core_one, cause_one, unchanged_kept, unchanged_same}
use Rattle.job_core.proofs.kernel.Core.kill_lone.Goals as goal

pub invariant_of-self : goal.invariant_of-self
invariant_of-self c =
    let m = (after c.self.inside.journal.units initial).map in
    core_one c.kill_lent.result c.args.job (Kill c.args.key.now All) Done c.self.inside.store c.kill_lent.new.store c.self.inside.journal.units c.kill_lent.new.journal.units c.self.inside.journal.base c.kill_lent.new.journal.base c.self.inside.locks c.self.inside.passing c.self.inside.passing c.self.invariant
    c.kill_lent.ensures.unit c.kill_lent.ensures.refused c.kill_lent.ensures.base c.kill_lent.ensures.agreed c.self.invariant.empty (stay_after_kill c.self.inside.passing c.args.key.now All m c.self.invariant.empty)

pub returns-in-None-clause-added : goal.returns-in-None-clause-added
returns-in-None-clause-added c =
    let left = subst (λ o. OnOk c.kill_lent.result (c.kill_lent.new.store.cut ≡ max c.self.inside.store.cut (unwrap_or o (length c.kill_lent.new.journal.units)))) (sym c.in-None.is) c.kill_lent.ensures.left in
    rw (← c.self.view_is) (added_one c.kill_lent.result (Lone c.args.job (Kill c.args.key.now All) Done) c.args.oldest (common_of c.self.inside.store c.self.inside.journal) (common_of c.kill_lent.new.store c.kill_lent.new.journal) c.kill_lent.ensures.unit c.kill_lent.ensures.base c.kill_lent.ensures.ends c.kill_lent.ensures.receipt left c.kill_lent.ensures.agreed c.kill_lent.ensures.bare c.kill_lent.ensures.mark)

pub returns-in-None-clause-written : goal.returns-in-None-clause-written
returns-in-None-clause-written c =
    rw (← c.self.view_is) (subst (λ o. OnOk c.kill_lent.result ((x : Reference) → versions_of c.kill_lent.new.store.versions x ≡ row_done (Kill c.args.key.now All) o (length c.kill_lent.new.journal.units) c.kill_lent.new.store.cut c.self.inside.store x)) (sym c.in-None.is) c.kill_lent.ensures.written)

pub returns-in-None-clause-refused : goal.returns-in-None-clause-refused
returns-in-None-clause-refused c = rw (← c.self.view_is) (unchanged_kept c.kill_lent.result (common_of c.self.inside.store c.self.inside.journal) (common_of c.kill_lent.new.store c.kill_lent.new.journal) c.kill_lent.ensures.refused c.kill_lent.ensures.base c.kill_lent.ensures.ends c.kill_lent.ensures.same)

pub returns-in-None-clause-cause : goal.returns-in-None-clause-cause
returns-in-None-clause-cause c = rw (← c.self.view_is) (cause_one c.kill_lent.result (Kill c.args.key.now All) (after c.self.inside.journal.units initial).map (length c.self.inside.journal.units) refl c.kill_lent.ensures.cause)
