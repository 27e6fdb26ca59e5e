use Rattle.std.proofs.Common.{sym, ◌∙◌}
use Rattle.std.specs.Prelude.{not, ◌&&◌}
use Rattle.globals.specs.laws.Taken.{takes_between}
use Rattle.stretches.specs.laws.Entering.{gone_after_kill}
use Rattle.stretches.proofs.scouting.scout_kill.Goals as goal

pub returns-in-Ok : goal.returns-in-Ok
returns-in-Ok g c = λ m.
    gone_after_kill c.in-Ok.stretch c.args.root.now c.args.extent
    (λ x h. takes_between c.args.extent c.args.root.now x ∙ (λ i. not (sym (c.taken_from-low.ensures x) i) && sym (c.taken_to-high.ensures x) i) ∙ sym (c.in-Ok.ensures x) ∙ h) m
