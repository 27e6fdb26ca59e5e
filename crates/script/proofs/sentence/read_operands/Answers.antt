use Rattle.std.proofs.Common.{subst}
use Rattle.script.specs.Sentence.{FindsData}
use Rattle.script.proofs.Sentences.{names_told, placed_told}
use Rattle.script.proofs.sentence.read_operands.Goals as goal

pub returns-in-Some-clause-reading : goal.returns-in-Some-clause-reading
returns-in-Some-clause-reading c = subst (FindsData c.read_structured.new.drafts c.read_structured.result) (names_told c.args.word c.args.text.now c.in-Some.rest.now c.in-Some.ensures) c.read_structured.ensures.reading

pub returns-in-None-clause-reading : goal.returns-in-None-clause-reading
returns-in-None-clause-reading c = subst (FindsData c.read_placed.new.drafts c.read_placed.result) (placed_told c.args.word c.args.text.now c.in-None.ensures) c.read_placed.ensures.reading
