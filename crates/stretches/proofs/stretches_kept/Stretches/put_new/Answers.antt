use Rattle.std.proofs.Common.{sym, ◌∙◌}
use Rattle.std.specs.Prelude.{not, ◌&&◌}
use Rattle.std.proofs.lemmas.Bool.{or_right}
use Rattle.read_ranges.specs.Ranges.{is_in_one}
use Rattle.stretches.proofs.Places.{alike_more}
use Rattle.stretches.proofs.stretches_kept.Stretches.put_new.Goals as goal

pub returns-in-Ok : goal.returns-in-Ok
returns-in-Ok c =
    alike_more c.in-Ok.copy c.args.stretch.now c.args.self.now c.put_one.new.self
    (λ x h. or_right (is_in_one c.args.self.now x) _ (sym (c.in-Ok.ensures x ∙ (λ i. not (c.low.ensures x i) && c.high.ensures x i)) ∙ h)) c.put_one.ensures
