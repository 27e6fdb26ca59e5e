use Rattle.std.proofs.Common.{ap, sym}
use Rattle.key_codec.specs.Key.{escaped}
use Rattle.key_codec.specs.Back.{FirstSubscript}
use Rattle.key_codec.proofs.Reading.{HasText, has_text}
use Rattle.key_codec.proofs.Showing.{other_front, other_not_canonic}
use Rattle.key_codec.proofs.shown.first_other.Goals as goal

pub unreachable-requires : goal.unreachable-requires
unreachable-requires c =
    let has : HasText c.args.bytes.now c.requires.subscript c.requires.rest = has_text c.args.bytes.now c.requires.subscript c.requires.rest c.requires.form c.requires.key in
    c.in_default.ensures.none (escaped c.requires.subscript) c.requires.rest has.behind

pub invariant_of-result : goal.invariant_of-result
invariant_of-result c =
    let parted = c.in-Some.ensures.some in
    record { kind = other_not_canonic c.args.bytes.now _ _ c.requires (other_front c.args.bytes.now c.in-Some.escaped.now c.in-Some.rest.now parted.0 parted.1) }

pub returns-clause-subscript : goal.returns-clause-subscript
returns-clause-subscript c =
    let parted = c.in-Some.ensures.some in
    ap (λ (f : FirstSubscript). f.subscript) (sym (other_front c.args.bytes.now c.in-Some.escaped.now c.in-Some.rest.now parted.0 parted.1))

pub returns-clause-rest : goal.returns-clause-rest
returns-clause-rest c =
    let parted = c.in-Some.ensures.some in
    ap (λ (f : FirstSubscript). f.rest) (sym (other_front c.args.bytes.now c.in-Some.escaped.now c.in-Some.rest.now parted.0 parted.1))
