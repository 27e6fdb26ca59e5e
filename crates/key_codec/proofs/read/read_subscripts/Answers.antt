use Rattle.std.proofs.Common.{◌≡◌, ◌++◌, ◌∷◌, [], ap, ◌∙◌, arith, length, false, subst}
use Rattle.std.specs.Prelude.{◌==◌}
use Rattle.std.proofs.lemmas.Grind.{common_steps}
use Rattle.key_codec.specs.Key.{long_form, subscripts_key, AreSubscriptsWithin}
use Rattle.key_codec.proofs.Reading.{next_key, shorter, one_more, are_more}
use Rattle.key_codec.proofs.read.read_subscripts.Goals as goal

pub returns-in_default-clause-none : goal.returns-in_default-clause-none
returns-in_default-clause-none c = λ ss a e.
    let full : (length c.loop-rest.rest.now == 0) ≡ false = grind (arith, common_steps) in
    let none = rw c.in_default.is at c.in_ok-text.ensures.none in
    next_key c.loop-rest.found.items c.loop-rest.rest.now c.args.bytes.now ss c.loop-rest.invariant.0 c.loop-rest.invariant.1 full none a e

pub loop-rest-smaller : goal.loop-rest-smaller
loop-rest-smaller c =
    let found = rw c.in-Some.is at c.in_ok-text.ensures.some in
    shorter c.loop-rest.rest.now c.in-Some.more.now c.in-Some.text found.1

pub loop-rest-preserved : goal.loop-rest-preserved
loop-rest-preserved c =
    let found = rw c.in-Some.is at c.in_ok-text.ensures.some in
    let pushed : c.loop-rest.found.items ++ c.in-Some.text ∷ [] ≡ c.push.new.self.items = grind (arith, common_steps) in (
      subst (AreSubscriptsWithin long_form) pushed (are_more c.loop-rest.found.items c.in-Some.text c.loop-rest.invariant.0 found.0),
      one_more c.loop-rest.found.items c.loop-rest.rest.now c.in-Some.more.now c.args.bytes.now c.in-Some.text c.loop-rest.invariant.1 found.1
          ∙ ap (λ ss. subscripts_key long_form ss ++ c.in-Some.more.now) pushed,
    )
