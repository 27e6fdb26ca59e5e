use Rattle.std.proofs.Common.{sym, ap, ◌∙◌, ◌-◌, List, length, take, drop, arith}
use Rattle.collation.specs.Reference.{Reference}
use Rattle.std.specs.Prelude.{map}
use Rattle.shared_engine.specs.Holds.{get_of}
use Rattle.shared_engine.proofs.Holding.{gets_left, none_left, rest_of}
use Rattle.shared_engine.proofs.asked.Asked.gets.Goals as goal

pub returns : goal.returns
returns c =
    let s = c.self.inside in
    let texts = none_left s.text s.texts.items (omega (arith, c.len.ensures, c.if-self-len.false)) in
    let whole = none_left 0 s.whole.items (omega (arith, c.len-others.ensures, c.if-others-gt0.false)) in
    ap (λ a. a.commands) (sym c.self.view_is) ∙ (gets_left (drop s.ask s.asks.items) (drop s.key s.keys.items) (drop s.text s.texts.items) s.whole.items texts whole c.self.invariant.0 ∙ (ap (map get_of) (sym (rest_of s.key s.keys.items)) ∙ ap (λ (ks : List Reference). map get_of (take (length ks - s.key) (drop s.key ks))) (sym c.deref.ensures.value)))
