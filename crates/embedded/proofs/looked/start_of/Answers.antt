use Rattle.std.proofs.Common.{sym, ap, ◌∙◌}
use Rattle.std.specs.Option.{option_map}
use Rattle.embedded.proofs.Walked.{from_root, from_place}
use Rattle.embedded.proofs.looked.start_of.Goals as goal

pub returns-then-stands_before : goal.returns-then-stands_before
returns-then-stands_before c x =
    from_root _ _ _ _ _ _ _ x (ap (option_map (λ b. b.value)) c.in-Some-Some.is-0) (ap (option_map (λ b. b.value)) c.in-Some-Some.is-1) c.deref-in-Some-Some.ensures c.deref-in-Some-Some-2.ensures c.deref-then-stands_before.ensures
    (sym c.stands_before.ensures ∙ c.if-stands_before.true)

pub returns-else-stands_before : goal.returns-else-stands_before
returns-else-stands_before c x =
    from_place _ _ _ _ _ _ _ x (ap (option_map (λ b. b.value)) c.in-Some-Some.is-0) (ap (option_map (λ b. b.value)) c.in-Some-Some.is-1) c.deref-in-Some-Some.ensures c.deref-in-Some-Some-2.ensures c.deref-else-stands_before.ensures
    (sym c.stands_before.ensures ∙ c.if-stands_before.false)
