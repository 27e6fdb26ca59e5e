use Rattle.std.proofs.Common.{sym, ◌∙◌}
use Rattle.globals.specs.Cuts.{up_to}
use Rattle.globals.specs.laws.Steps.{walk_step}
use Rattle.globals.proofs.Walks.{taken, passed, shorter}
use Rattle.globals.proofs.walk.WalkIterator.next.Goals as goal

pub invariant_of-self : goal.invariant_of-self
invariant_of-self g c =
    passed c.self.inside.cut (up_to c.self.inside.end (g.V.OrderedView.content c.self.inside.view.now)) c.first.new.self c.pass.new.self (c.in-Some.key, c.in-Some.value) c.in-Some.ensures.front c.in-Some.ensures.first c.pass.ensures

pub returns-in-Some-clause-steps : goal.returns-in-Some-clause-steps
returns-in-Some-clause-steps g c =
    let w = c.self.inside in
    let m = up_to w.end (g.V.OrderedView.content w.view.now) in
    let first = (taken w.cut m c.first.new.self _ (c.in-Some.key, c.in-Some.value) c.in-Some.ensures.front c.in-Some.ensures.first).0 in
    sym c.self.view_is ∙ walk_step w.cut m (c.in-Some.key.now, c.in-Some.value.now) first

pub returns-in-Some-clause-goes : goal.returns-in-Some-clause-goes
returns-in-Some-clause-goes g c =
    let w = c.self.inside in
    let m = up_to w.end (g.V.OrderedView.content w.view.now) in
    let first = (taken w.cut m c.first.new.self _ (c.in-Some.key, c.in-Some.value) c.in-Some.ensures.front c.in-Some.ensures.first).0 in
    let less = shorter _ _ _ (sym c.self.view_is ∙ walk_step w.cut m (c.in-Some.key.now, c.in-Some.value.now) first) in
    record { on = λ _. (tt, tt, less); keeps = tt; rests = λ _. tt }

pub returns-in-None-clause-steps : goal.returns-in-None-clause-steps
returns-in-None-clause-steps g c = (sym c.self.view_is ∙ c.in-None.ensures.first, c.in-None.ensures.first)
