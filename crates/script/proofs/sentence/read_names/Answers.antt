use Rattle.command.specs.declared.access.DataCommand.TheVariants.{Look}
use Rattle.command.specs.declared.access.Look.TheVariants.{Name}
use Rattle.script.specs.Commands.{start_of}
use Rattle.script.proofs.Sentences.{names_from}
use Rattle.script.proofs.sentence.read_names.Goals as goal

pub returns-in-Ok-clause-reading : goal.returns-in-Ok-clause-reading
returns-in-Ok-clause-reading c = (
  Look (Name (start_of c.as_slice.result.now) c.in-Ok.direction),
  names_from c.args.text.now c.in_ok-argument.rest.now c.in-Ok.rest.now c.in_ok-argument.argument c.as_slice.result.now c.in-Ok.direction c.as_slice.ensures c.in_ok-argument.ensures c.in-Ok.ensures,
  c.in_ok-sentence-in-Ok.ensures.says,
)
