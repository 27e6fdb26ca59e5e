use Rattle.std.proofs.Common.{sym, subst}
use Rattle.command.specs.declared.access.DataCommand.TheVariants.{Kill}
use Rattle.command.specs.Data.{data_after}
use Rattle.stretches.specs.Empty.{AreEmpty}
use Rattle.stretches.specs.laws.Entering.{stay_after_kill}
use Rattle.version_store.specs.Versions.{content_now}
use Rattle.job_core.proofs.passing.Passing.make_ready.Goals as goal

pub returns-in-Look-clause-behind : goal.returns-in-Look-clause-behind
returns-in-Look-clause-behind c = subst (λ k. AreEmpty c.look_ahead.new.self (data_after k (content_now c.args.store.now))) (sym c.in-Look.is) c.look_ahead.ensures

pub returns-in-Kill-clause-behind : goal.returns-in-Kill-clause-behind
returns-in-Kill-clause-behind c =
    subst (λ k. AreEmpty c.begin_kill.new.self (data_after k (content_now c.args.store.now))) (sym c.in-Kill.is)
    (subst (λ rs. AreEmpty rs (data_after (Kill c.in-Kill.field-0 c.in-Kill.field-1) (content_now c.args.store.now))) (sym c.begin_kill.ensures) (stay_after_kill c.args.self.now c.in-Kill.field-0 c.in-Kill.field-1 (content_now c.args.store.now) c.requires))
