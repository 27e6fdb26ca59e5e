use Rattle.std.proofs.Common.{refl, sym, ◌∙◌}
use Rattle.command.specs.declared.request.Command.TheVariants.{Lock}
use Rattle.script.specs.Locking.{locking}
use Rattle.script.proofs.Sentences.{names_are}
use Rattle.script.proofs.sentence.read_lock.Goals as goal

pub returns-in-Ok-clause-reading : goal.returns-in-Ok-clause-reading
returns-in-Ok-clause-reading c =
    let read = c.in-Ok.ensures in
    let more = sym c.is_empty.ensures ∙ c.if-is_empty.false in
    (Lock (locking c.in-Ok.form read.0), names_are c.args.text.now c.past_blank.result.now c.in_ok-rest.rest.now c.in-Ok.rest.now (locking c.in-Ok.form read.0) c.past_blank.ensures more c.in_ok-rest.ensures read.1, (read.0, refl, read.2))
