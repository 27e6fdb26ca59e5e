use Rattle.std.proofs.Common.{refl}
use Rattle.command.specs.declared.access.DataCommand.TheVariants.{Merge}
use Rattle.script.proofs.Sentences.{merged}
use Rattle.script.proofs.sentence.read_tail.Goals as goal

pub returns-in-Ok-read_source-clause-reading : goal.returns-in-Ok-read_source-clause-reading
returns-in-Ok-read_source-clause-reading c = λ r.
    let read = c.in-Ok-read_source.ensures in
    ((Merge r read.0), merged c.args.word c.args.text.now c.in-Ok-read_source.rest.now r read.0 c.in-Merge.is read.1, (read.0, refl, read.2))
