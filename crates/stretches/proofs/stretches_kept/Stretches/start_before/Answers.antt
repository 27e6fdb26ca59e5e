use Rattle.std.proofs.Common.{sym, ◌∙◌}
use Rattle.stretches.proofs.Alike.{start_alike}
use Rattle.stretches.proofs.stretches_kept.Stretches.start_before.Goals as goal

pub returns-in-Some : goal.returns-in-Some
returns-in-Some c = λ m empty x there. start_alike c.args.self.now c.in-Some.stretch.now c.args.cut c.in-Some.ensures.one c.in-Some.ensures.lies m empty x there ∙ sym (c.low.ensures x)
