use Rattle.std.proofs.Common.{sym, ◌∙◌}
use Rattle.stretches.proofs.Alike.{end_alike}
use Rattle.stretches.proofs.stretches_kept.Stretches.end_from.Goals as goal

pub returns-in-Some : goal.returns-in-Some
returns-in-Some c = λ m empty x there. end_alike c.args.self.now c.in-Some.stretch.now c.args.cut c.in-Some.ensures.one c.in-Some.ensures.lies m empty x there ∙ sym (c.high.ensures x)
