use Rattle.script.proofs.Sentences.{found, unfound}
use Rattle.script.proofs.sentence.read_placed.Goals as goal

pub returns-in-Ok-clause-reading : goal.returns-in-Ok-clause-reading
returns-in-Ok-clause-reading c =
    let read = c.in-Ok.ensures in
    found c.read_draft.new.draft c.read_tail.new.source c.args.drafts.now.names c.read_tail.new.value c.args.word c.args.text.now c.in-Ok.rest.now read.0 c.read_tail.result read.1 read.2 (c.read_tail.ensures.reading read.0)

pub returns-in-Err-clause-reading : goal.returns-in-Err-clause-reading
returns-in-Err-clause-reading c = unfound c.args.word c.args.text.now c.in-Err.refusal c.in-Err.ensures
