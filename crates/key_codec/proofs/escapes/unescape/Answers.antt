use Rattle.std.proofs.Common.{◌≡◌, ◌++◌, ◌∷◌, [], ap, ◌∙◌, arith, length, false}
use Rattle.std.specs.Prelude.{◌==◌}
use Rattle.std.proofs.lemmas.Grind.{common_steps}
use Rattle.key_codec.specs.Key.{escaped}
use Rattle.key_codec.proofs.Reading.{GoesOnWith, left_of, next_left, read_more}
use Rattle.key_codec.proofs.escapes.unescape.Goals as goal

pub returns-in_default-clause-none : goal.returns-in_default-clause-none
returns-in_default-clause-none c = λ t e.
    let on : GoesOnWith c.loop-rest.text.items c.loop-rest.rest.now t = left_of c.loop-rest.text.items c.loop-rest.rest.now t (c.loop-rest.invariant ∙ e) in
    let full : (length c.loop-rest.rest.now == 0) ≡ false = grind (arith, common_steps) in
    next_left c.loop-rest.rest.now on.more full on.left c.in_default.ensures.none

pub loop-rest-preserved : goal.loop-rest-preserved
loop-rest-preserved c =
    let pushed : c.push.new.self.items ≡ c.loop-rest.text.items ++ c.in-Some.byte ∷ [] = grind (arith, common_steps) in
    ap (λ t. escaped t ++ c.in-Some.more.now) pushed
    ∙ read_more c.loop-rest.text.items c.loop-rest.rest.now c.in-Some.more.now c.args.bytes.now c.in-Some.byte c.loop-rest.invariant c.in-Some.ensures.some
