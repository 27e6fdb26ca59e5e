use Rattle.std.proofs.Common.{refl}
use Rattle.command.specs.declared.request.Command.TheVariants.{Access}
use Rattle.script.proofs.Sentences.{change_is}
use Rattle.script.proofs.sentence.read_change.Goals as goal

pub returns-in-Ok-clause-reading : goal.returns-in-Ok-clause-reading
returns-in-Ok-clause-reading c =
    let read = c.in-Ok.ensures.reading in
    ((Access read.0), change_is c.args.word c.args.text.now c.in_ok-rest.rest.now c.in-Ok.rest.now read.0 c.in_ok-rest.ensures read.1, (read.0, refl, read.2))
