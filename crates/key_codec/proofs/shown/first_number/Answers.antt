use Rattle.std.proofs.Common.{ap, sym}
use Rattle.key_codec.specs.Back.{FirstSubscript}
use Rattle.key_codec.proofs.Reading.{has_end, has_word}
use Rattle.key_codec.proofs.Showing.{number_front, number_canonic}
use Rattle.key_codec.proofs.shown.first_number.Goals as goal

pub unreachable-requires : goal.unreachable-requires
unreachable-requires c = has_word c.args.negative c.args.bytes.now c.requires.subscript c.requires.rest c.requires.form c.requires.key c.in_default.ensures.none

pub unreachable-requires-in_default-split_at_end : goal.unreachable-requires-in_default-split_at_end
unreachable-requires-in_default-split_at_end c =
    let none = rw c.end_of.ensures at c.in_default-split_at_end.ensures.none in
    has_end c.args.negative c.in-Some.word c.args.bytes.now c.in-Some.behind.now c.requires.subscript c.requires.rest c.requires.form c.requires.key c.in-Some.ensures.some none

pub invariant_of-result : goal.invariant_of-result
invariant_of-result c =
    let parted = rw c.end_of.ensures at c.in-Some-split_at_end.ensures.some in
    record { kind = number_canonic c.args.negative c.args.bytes.now _ _ c.requires (number_front c.args.negative c.in-Some.word c.args.bytes.now c.in-Some.behind.now c.in-Some-split_at_end.digits.now c.in-Some-split_at_end.rest.now c.in-Some.ensures.some parted.0 parted.1) }

pub returns-clause-subscript : goal.returns-clause-subscript
returns-clause-subscript c =
    let parted = rw c.end_of.ensures at c.in-Some-split_at_end.ensures.some in
    let is = number_front c.args.negative c.in-Some.word c.args.bytes.now c.in-Some.behind.now c.in-Some-split_at_end.digits.now c.in-Some-split_at_end.rest.now c.in-Some.ensures.some parted.0 parted.1 in
    ap (λ (f : FirstSubscript). f.subscript) (sym is)

pub returns-clause-rest : goal.returns-clause-rest
returns-clause-rest c =
    let parted = rw c.end_of.ensures at c.in-Some-split_at_end.ensures.some in
    let is = number_front c.args.negative c.in-Some.word c.args.bytes.now c.in-Some.behind.now c.in-Some-split_at_end.digits.now c.in-Some-split_at_end.rest.now c.in-Some.ensures.some parted.0 parted.1 in
    ap (λ (f : FirstSubscript). f.rest) (sym is)
