use Rattle.std.proofs.Common.{refl, sym, ◌∙◌}
use Rattle.globals.specs.Cuts.{stands_before}
use Rattle.read_ranges.specs.Ranges.{begins_after, ends_after}
use Rattle.read_ranges.proofs.Joining.{joint_within, joint_higher, joint_lower}
use Rattle.read_ranges.proofs.range.ReadRange.joint.Goals as goal

pub returns-then-ends : goal.returns-then-ends
returns-then-ends c = λ x.
    joint_within (begins_after c.args.self.now x) (ends_after c.args.self.now x) (stands_before c.args.low x) (stands_before c.args.high x)
    (λ e. c.if-begins.ensures.yes refl x (c.low-2.ensures x ∙ e))
    (λ e. sym (c.high-2.ensures x) ∙ c.if-ends.ensures.yes refl x e)

pub returns-else-ends : goal.returns-else-ends
returns-else-ends c = λ x.
    joint_higher (begins_after c.args.self.now x) (ends_after c.args.self.now x) (stands_before c.args.low x) (stands_before c.args.high x)
    (λ e. sym (c.high.ensures x) ∙ c.if-not-is_at_most.ensures.yes refl x e)
    (λ e. c.if-begins.ensures.yes refl x (c.low-2.ensures x ∙ e))
    (λ e. c.if-ends.ensures.no refl x (c.high-2.ensures x ∙ e))

pub returns-then-ends-2 : goal.returns-then-ends-2
returns-then-ends-2 c = λ x.
    joint_lower (begins_after c.args.self.now x) (ends_after c.args.self.now x) (stands_before c.args.low x) (stands_before c.args.high x)
    (λ e. c.if-not-is_at_most-2.ensures.yes refl x (c.low.ensures x ∙ e))
    (λ e. sym (c.low-2.ensures x) ∙ c.if-begins.ensures.no refl x e)
    (λ e. sym (c.high-2.ensures x) ∙ c.if-ends-2.ensures.yes refl x e)
