use Rattle.std.proofs.Common.{ap, ◌∙◌, sym}
use Rattle.shared_engine.proofs.Holding.{other_passed, next_place, left_at}
use Rattle.shared_engine.proofs.asked.Asked.take_other.Goals as goal

pub invariant_of-self : goal.invariant_of-self
invariant_of-self c =
    let s = c.self.inside in
    let was = c.self.invariant in
    let passed = other_passed _ _ _ _ _ _ _ c.in-Some.command (ap (λ a. a.tags) c.self.view_is ∙ c.requires.1) (left_at s.ask s.asks.items) c.in-Some.ensures.items was.0 in
    (passed.0, (next_place s.ask s.asks.items passed.2, was.1.1, was.1.2), was.2)

pub returns-clause-taken : goal.returns-clause-taken
returns-clause-taken c =
    let s = c.self.inside in
    sym (ap (λ a. a.commands) c.self.view_is) ∙ (other_passed _ _ _ _ _ _ _ c.in-Some.command (ap (λ a. a.tags) c.self.view_is ∙ c.requires.1) (left_at s.ask s.asks.items) c.in-Some.ensures.items c.self.invariant.0).1
