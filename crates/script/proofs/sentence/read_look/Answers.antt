use Rattle.std.proofs.Common.{refl}
use Rattle.command.specs.declared.request.Command.TheVariants.{Access}
use Rattle.script.proofs.Sentences.{look_is}
use Rattle.script.proofs.sentence.read_look.Goals as goal

pub returns-clause-reading : goal.returns-clause-reading
returns-clause-reading c =
    let read = c.in_ok-sentence.ensures.reading in
    ((Access read.0), look_is c.args.word c.args.text.now c.in_ok-rest.rest.now c.in_ok-sentence.rest.now c.in_ok-rest-2.rest.now read.0 c.in_ok-rest.ensures read.1 c.in_ok-rest-2.ensures, (read.0, refl, read.2))
