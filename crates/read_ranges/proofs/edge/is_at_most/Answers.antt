use Rattle.std.proofs.Common.{sym, ap, ◌∙◌}
use Rattle.globals.specs.declared.cut.Cut.{Cut}
use Rattle.globals.specs.Cuts.{stands_before}
use Rattle.read_ranges.proofs.Cutting.{all_before, before_it, up_to_it, before_not_after, before_before_end, inner_end, outer_end, left_behind, stood_before}
use Rattle.read_ranges.proofs.edge.is_at_most.Goals as goal

pub returns-in-Before-second-clause-yes : goal.returns-in-Before-second-clause-yes
returns-in-Before-second-clause-yes c = λ h x s.
    let k = c.in-Before-second.bound.now in
    ap (λ (d : Cut). stands_before d x) c.in-Before-second.is ∙ all_before c.args.first k (left_behind c.args.first k _ c.stands_before.ensures h) x s

pub returns-in-Before-second-clause-no : goal.returns-in-Before-second-clause-no
returns-in-Before-second-clause-no c = λ h x s.
    let k = c.in-Before-second.bound.now in
    before_it c.args.first k (stood_before c.args.first k _ c.stands_before.ensures h) x (ap (λ (d : Cut). stands_before d x) (sym c.in-Before-second.is) ∙ s)

pub returns-in_default : goal.returns-in_default
returns-in_default c =
    let k = c.in-Before.key.now in
    record {
      yes = λ h x s. before_it c.args.second k (sym c.stands_before-in_default.ensures ∙ h) x (ap (λ (d : Cut). stands_before d x) (sym c.in-Before.is) ∙ s);
      no = λ h x s. ap (λ (d : Cut). stands_before d x) c.in-Before.is ∙ all_before c.args.second k (sym c.stands_before-in_default.ensures ∙ h) x s;
    }

pub returns-in-After-clause-yes : goal.returns-in-After-clause-yes
returns-in-After-clause-yes c = λ h x s.
    let k = c.in-After.key.now in
    up_to_it c.args.second k (sym c.stands_before-in-After.ensures ∙ h) x (ap (λ (d : Cut). stands_before d x) (sym c.in-After.is) ∙ s)

pub returns-in-After-clause-no : goal.returns-in-After-clause-no
returns-in-After-clause-no c = λ h x s.
    let k = c.in-After.key.now in
    ap (λ (d : Cut). stands_before d x) c.in-After.is ∙ before_not_after k x (all_before c.args.second k (sym c.stands_before-in-After.ensures ∙ h) x s)

pub returns-in-Before-second-2-clause-yes : goal.returns-in-Before-second-2-clause-yes
returns-in-Before-second-2-clause-yes c = λ h x s.
    let k = c.in-Before-second-2.bound.now in
    ap (λ (d : Cut). stands_before d x) c.in-Before-second-2.is ∙ all_before c.args.first k (left_behind c.args.first k _ c.stands_before-in-Before-second-2.ensures h) x s

pub returns-in-Before-second-2-clause-no : goal.returns-in-Before-second-2-clause-no
returns-in-Before-second-2-clause-no c = λ h x s.
    let k = c.in-Before-second-2.bound.now in
    before_it c.args.first k (stood_before c.args.first k _ c.stands_before-in-Before-second-2.ensures h) x (ap (λ (d : Cut). stands_before d x) (sym c.in-Before-second-2.is) ∙ s)

pub returns-in-After-second-clause-yes : goal.returns-in-After-second-clause-yes
returns-in-After-second-clause-yes c = λ h x s.
    let k = c.in-After-second.bound.now in
    ap (λ (d : Cut). stands_before d x) c.in-After-second.is ∙ before_not_after k x (all_before c.args.first k (left_behind c.args.first k _ c.stands_before-in-After-second.ensures h) x s)

pub returns-in-After-second-clause-no : goal.returns-in-After-second-clause-no
returns-in-After-second-clause-no c = λ h x s.
    let k = c.in-After-second.bound.now in
    up_to_it c.args.first k (stood_before c.args.first k _ c.stands_before-in-After-second.ensures h) x (ap (λ (d : Cut). stands_before d x) (sym c.in-After-second.is) ∙ s)

pub returns-then-is_under-clause-yes : goal.returns-then-is_under-clause-yes
returns-then-is_under-clause-yes c = λ h x s.
    ap (λ (d : Cut). stands_before d x) c.in-Past-second.is ∙ inner_end c.in-Past-second.bound.now c.in-Past.key.now (sym c.is_under.ensures ∙ c.if-is_under.true) x (ap (λ (d : Cut). stands_before d x) (sym c.in-Past.is) ∙ s)

pub returns-else-is_under-clause-yes : goal.returns-else-is_under-clause-yes
returns-else-is_under-clause-yes c = λ h x s.
    let k = c.in-Past-second.bound.now in
    ap (λ (d : Cut). stands_before d x) c.in-Past-second.is ∙ before_before_end k x (all_before c.args.first k (left_behind c.args.first k _ c.stands_before-else-is_under.ensures h) x s)

pub returns-else-is_under-clause-no : goal.returns-else-is_under-clause-no
returns-else-is_under-clause-no c = λ h x s.
    let k = c.in-Past-second.bound.now in
    ap (λ (d : Cut). stands_before d x) c.in-Past.is
    ∙ outer_end k c.in-Past.key.now (sym c.is_under.ensures ∙ c.if-is_under.false) (ap (λ (d : Cut). stands_before d k) (sym c.in-Past.is) ∙ stood_before c.args.first k _ c.stands_before-else-is_under.ensures h) x
    (ap (λ (d : Cut). stands_before d x) (sym c.in-Past-second.is) ∙ s)
