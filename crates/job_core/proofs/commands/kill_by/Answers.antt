use Rattle.std.proofs.Common.{◌≡◌, ◌++◌, ◌∷◌, [], length, sym, ap, subst, ◌∙◌}
use Rattle.std.specs.Prelude.{true, None, IfOk, OnOk}
use Rattle.command.specs.declared.access.DataCommand.{DataCommand}
use Rattle.command.specs.declared.access.DataCommand.TheVariants.{Kill}
use Rattle.command.specs.declared.access.Answer.TheVariants.{Done}
use Rattle.collation.specs.Reference.{Reference}
use Rattle.journal.specs.declared.unit.Unit.TheVariants.{Lone}
use Rattle.version_store.specs.Versions.{versions_of}
use Rattle.job_core.specs.Changes.{is_lone_kill, row_done}
use Rattle.job_core.proofs.KillCommands.{kill_all}
use Rattle.job_core.proofs.commands.kill_by.Goals as goal

pub returns-clause-unit : goal.returns-clause-unit
returns-clause-unit c = subst (λ (k : DataCommand). OnOk c.kill_lent.result (c.kill_lent.new.journal.units ≡ c.args.journal.now.units ++ Lone c.args.job k Done ∷ [])) (sym (c.in-Kill-default-All.is ∙ ap (Kill c.in-Kill-default-All.key) (kill_all c.in-Kill-default-All.key c.in-Kill-default-All.field-1 (subst (λ (k : DataCommand). is_lone_kill k None ≡ true) c.in-Kill-default-All.is c.requires.kill)))) c.kill_lent.ensures.unit

pub returns-clause-receipt : goal.returns-clause-receipt
returns-clause-receipt c = subst (λ (k : DataCommand). IfOk c.kill_lent.result (λ receipt. receipt ≡ record { job = c.args.job; number = length c.kill_lent.new.journal.units; unit = Lone c.args.job k Done })) (sym (c.in-Kill-default-All.is ∙ ap (Kill c.in-Kill-default-All.key) (kill_all c.in-Kill-default-All.key c.in-Kill-default-All.field-1 (subst (λ (k : DataCommand). is_lone_kill k None ≡ true) c.in-Kill-default-All.is c.requires.kill)))) c.kill_lent.ensures.receipt

pub returns-clause-written : goal.returns-clause-written
returns-clause-written c = subst (λ (k : DataCommand). OnOk c.kill_lent.result ((x : Reference) → versions_of c.kill_lent.new.store.versions x ≡ row_done k None (length c.kill_lent.new.journal.units) c.kill_lent.new.store.cut c.args.store.now x)) (sym (c.in-Kill-default-All.is ∙ ap (Kill c.in-Kill-default-All.key) (kill_all c.in-Kill-default-All.key c.in-Kill-default-All.field-1 (subst (λ (k : DataCommand). is_lone_kill k None ≡ true) c.in-Kill-default-All.is c.requires.kill)))) c.kill_lent.ensures.written
