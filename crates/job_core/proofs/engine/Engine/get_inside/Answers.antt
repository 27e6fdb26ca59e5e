use Rattle.std.proofs.Common.{◌≡◌, List, ℕ, refl, ap, subst, length}
use Rattle.std.specs.Prelude.{None, IfOk, OnOk}
use Rattle.command.specs.declared.access.DataCommand.TheVariants.{Look}
use Rattle.command.specs.declared.access.Look.TheVariants.{Get}
use Rattle.command.specs.declared.request.Command.TheVariants.{Access}
use Rattle.job_core.specs.Joined.{IsStep, machine_shown}
use Rattle.job_core.specs.Lent.{got_reply, HasGot}
use Rattle.job_core.proofs.DataCommands.{readable}
use Rattle.job_core.proofs.Inside.{value_inside, get_stepped, got_kept}
use Rattle.job_core.proofs.engine.Engine.get_inside.Goals as goal

pub read-requires-clause-begun : goal.read-requires-clause-begun
read-requires-clause-begun c = readable c.args.job (Look (Get c.args.key.now None)) c.args.self.now c.requires.whole _ refl

pub returns-clause-step : goal.returns-clause-step
returns-clause-step c =
    let old = c.args.self.now in
    let same = value_inside old.core.units old.sessions c.args.job c.args.key.now _ refl c.requires.some in
    subst (λ (v : List ℕ). IsStep c.args.job (Access (Look (Get c.args.key.now None))) (got_reply v c.read.result) old (record old { sessions = c.read.new.self })) same
    (get_stepped c.read.result c.args.job c.args.key.now _ old c.requires.whole c.read.new.self c.requires.some c.read.ensures.answered)

pub returns-clause-got : goal.returns-clause-got
returns-clause-got c =
    let old = c.args.self.now in
    let same = value_inside old.core.units old.sessions c.args.job c.args.key.now _ refl c.requires.some in
    subst (λ (v : List ℕ). OnOk c.read.result (HasGot c.args.job v old.core.base (machine_shown (record old { sessions = c.read.new.self })))) same
    (got_kept c.read.result old.core.units c.args.job old.core.base c.args.key.now _ old.sessions c.read.new.self c.read.ensures.answered)

pub returns-clause-size : goal.returns-clause-size
returns-clause-size c =
    let old = c.args.self.now in
    subst (λ (v : List ℕ). IfOk c.read.result (λ size. size ≡ length v)) (value_inside old.core.units old.sessions c.args.job c.args.key.now _ refl c.requires.some) c.read.ensures.size
