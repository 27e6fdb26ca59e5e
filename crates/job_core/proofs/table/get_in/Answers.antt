use Rattle.std.proofs.Common.{◌≡◌, sym, subst, length}
use Rattle.std.specs.Prelude.{None, Some, Option, IfOk}
use Rattle.command.specs.declared.access.DataCommand.TheVariants.{Look}
use Rattle.command.specs.declared.access.Look.TheVariants.{Get}
use Rattle.job_core.specs.Sessions.{Session}
use Rattle.job_core.specs.Slots.{HasAnsweredIn}
use Rattle.job_core.specs.Lent.{got_answer, value_in}
use Rattle.job_core.proofs.Slots.{answers_in}
use Rattle.job_core.proofs.table.get_in.Goals as goal

pub returns-clause-answered : goal.returns-clause-answered
returns-clause-answered c =
    let units = c.args.core.now.units in
    subst (λ (o : Option Session). HasAnsweredIn (Look (Get c.args.key.now None)) (got_answer (value_in c.args.key.now units o) c.read_get.result) units c.args.slot.now (Some c.read_get.new.session)) (sym c.in-Some.is)
    (answers_in (Look (Get c.args.key.now None)) (got_answer (value_in c.args.key.now units (Some c.in-Some.session)) c.read_get.result) units c.in-Some.session c.read_get.new.session c.args.slot.now c.in-Some.is c.read_get.ensures.answered)

pub returns-clause-size : goal.returns-clause-size
returns-clause-size c =
    subst (λ (o : Option Session). IfOk c.read_get.result (λ size. size ≡ length (value_in c.args.key.now c.args.core.now.units o))) (sym c.in-Some.is) c.read_get.ensures.size
