use Rattle.std.proofs.Common.{sym, refl, ◌∙◌, []}
use Rattle.m_text.proofs.Drafted.{named, unnamed}
use Rattle.m_text.proofs.place.read_named.Goals as goal

pub returns-then-is_empty : goal.returns-then-is_empty
returns-then-is_empty c = unnamed c.args.text.now c.split_word.result.0.now c.split_word.ensures.word (sym c.is_empty.ensures ∙ c.if-is_empty.true)

pub returns : goal.returns
returns c =
    named c.read_subscripts.new.draft c.args.text.now c.split_word.result.0.now c.split_word.result.1.now c.read_subscripts.result c.split_word.ensures.word (sym c.is_empty.ensures ∙ c.if-is_empty.false) c.split_word.ensures.rest
    (c.read_subscripts.ensures (record { name = c.split_word.result.0.now; subscripts = [] }) c.in_ok-begin.ensures refl)
