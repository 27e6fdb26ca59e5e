use Rattle.key_codec.proofs.Reading.{has_end, has_word, key_in_front}
use Rattle.key_codec.proofs.read_subscript.read_number.Goals as goal

pub returns-in_default-clause-none : goal.returns-in_default-clause-none
returns-in_default-clause-none c = λ s u bounds h. has_word c.args.negative c.args.bytes.now s u bounds h c.in_default.ensures.none

pub returns-in_default-split_at_end-clause-none : goal.returns-in_default-split_at_end-clause-none
returns-in_default-split_at_end-clause-none c = λ s u bounds h.
    let none = rw c.end_of.ensures at c.in_default-split_at_end.ensures.none in
    has_end c.args.negative c.in-Some.word c.args.bytes.now c.in-Some.behind.now s u bounds h c.in-Some.ensures.some none

pub returns-in_default-2-clause-none : goal.returns-in_default-2-clause-none
returns-in_default-2-clause-none c = λ s u bounds h.
    let parted = rw c.end_of.ensures at c.in-Some-split_at_end.ensures.some in
    let none = rw c.in_default-2.is at c.in_ok-text.ensures.none in
    none s (key_in_front c.args.negative c.in-Some.word c.args.bytes.now c.in-Some.behind.now c.in-Some-split_at_end.front.now c.in-Some-split_at_end.rest.now s u bounds h c.in-Some.ensures.some parted.1 parted.0)
