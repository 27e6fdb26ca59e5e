use Rattle.std.proofs.Common.{sym, subst, ◌∙◌}
use Rattle.key_codec.specs.Shown.{AreKeys}
use Rattle.key_codec.proofs.Showing.{HasNext, next_of, all_of, fewer}
use Rattle.key_codec.proofs.shown.KeySubscriptsIterator.next.Goals as goal

pub first_subscript-subscript-requires : goal.first_subscript-subscript-requires
first_subscript-subscript-requires c =
    let next : HasNext c.self.inside.bytes.now = next_of c.self.inside.bytes.now c.self.invariant (sym c.if-is_empty.ensures) in
    next.first

pub invariant_of-self : goal.invariant_of-self
invariant_of-self c =
    let next : HasNext c.self.inside.bytes.now = next_of c.self.inside.bytes.now c.self.invariant (sym c.if-is_empty.ensures) in
    subst AreKeys (sym c.first_subscript-subscript.ensures.rest) next.rest

pub returns-clause-steps : goal.returns-clause-steps
returns-clause-steps c =
    let next : HasNext c.self.inside.bytes.now = next_of c.self.inside.bytes.now c.self.invariant (sym c.if-is_empty.ensures) in
    sym c.self.view_is ∙ all_of c.self.inside.bytes.now c.first_subscript-subscript.result.0 c.first_subscript-subscript.result.1.now next c.first_subscript-subscript.ensures.subscript c.first_subscript-subscript.ensures.rest

pub returns-clause-goes : goal.returns-clause-goes
returns-clause-goes c =
    let next : HasNext c.self.inside.bytes.now = next_of c.self.inside.bytes.now c.self.invariant (sym c.if-is_empty.ensures) in
    let less = fewer _ _ _ (sym c.self.view_is ∙ all_of c.self.inside.bytes.now c.first_subscript-subscript.result.0 c.first_subscript-subscript.result.1.now next c.first_subscript-subscript.ensures.subscript c.first_subscript-subscript.ensures.rest) in
    record { on = λ _. (tt, tt, less); keeps = tt; rests = λ _. tt }
