use Rattle.std.proofs.Common.{ap, ◌∙◌}
use Rattle.shared_engine.proofs.Holding.{get_passed, next_place, left_at}
use Rattle.shared_engine.proofs.asked.Asked.pass_get.Goals as goal

pub invariant_of-self : goal.invariant_of-self
invariant_of-self c =
    let s = c.self.inside in
    let was = c.self.invariant in
    let passed = get_passed _ _ _ _ _ _ _ (ap (λ a. a.tags) c.self.view_is ∙ c.requires.1) (left_at s.ask s.asks.items) (left_at s.key s.keys.items) was.0 in
    (passed.0, (next_place s.ask s.asks.items passed.2, next_place s.key s.keys.items passed.3, was.1.2), was.2)

pub returns-clause-passed : goal.returns-clause-passed
returns-clause-passed c =
    let s = c.self.inside in
    let passed = get_passed _ _ _ _ _ _ _ (ap (λ a. a.tags) c.self.view_is ∙ c.requires.1) (left_at s.ask s.asks.items) (left_at s.key s.keys.items) c.self.invariant.0 in
    λ command rest is. passed.1 command rest (ap (λ a. a.commands) c.self.view_is ∙ is)
