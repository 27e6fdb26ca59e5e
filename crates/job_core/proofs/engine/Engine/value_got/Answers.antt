use Rattle.std.proofs.Common.{sym, ap, subst, ◌∙◌}
use Rattle.std.specs.Option.{option_copied}
use Rattle.validate_commit.specs.Working.{Working, HasLastGot}
use Rattle.job_core.proofs.Inside.{got_inside, got_outside}
use Rattle.job_core.proofs.engine.Engine.value_got.Goals as goal

pub returns-in-Some : goal.returns-in-Some
returns-in-Some c = λ value got size.
    let engine = c.args.self.now in
    c.value_got.ensures value (subst (λ (w : Working). HasLastGot value w.exchanges) (sym c.as_work.ensures) (got_inside engine.core.units engine.sessions c.args.job engine.core.base value c.in-Some.session.now (sym c.get.ensures ∙ ap option_copied c.in-Some.is) got)) size

pub returns-in-None : goal.returns-in-None
returns-in-None c = λ value got size.
    let engine = c.args.self.now in
    c.value_got-in-None.ensures value (got_outside engine.core.units engine.sessions c.args.job engine.core.base value (sym c.get.ensures ∙ ap option_copied c.in-None.is) got) size
