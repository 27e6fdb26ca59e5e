use Rattle.std.proofs.Common.{◌<◌, subst}
use Rattle.globals.proofs.Runs.{first_at}
use Rattle.globals.proofs.ahead.Ahead.first.Goals as goal

pub returns-then-self-len-clause-first : goal.returns-then-self-len-clause-first
returns-then-self-len-clause-first g c =
    first_at c.self.inside.run c.args.self.now c.self.inside.passed c.node.result _ c.node.ensures (subst (λ n. c.self.inside.passed < n) c.len.ensures.length c.if-self-len.true) c.self.view_is
