use Rattle.std.proofs.Common.{ap, ◌∙◌, sym, drop, ◌+◌, rules}
use Rattle.std.proofs.lemmas.List.{drop_more}
use Rattle.shared_engine.proofs.asked.Asked.next.Goals as goal

pub returns-in-Some-clause-tag : goal.returns-in-Some-clause-tag
returns-in-Some-clause-tag c =
    let s = c.self.inside in
    (drop (s.ask + 1) s.asks.items, sym (ap (λ a. a.tags) c.self.view_is) ∙ (drop_more s.asks.items s.ask c.in-Some.ask.now (search rules) ∙ search rules))
