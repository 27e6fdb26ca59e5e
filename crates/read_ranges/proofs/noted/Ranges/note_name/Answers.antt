use Rattle.read_ranges.proofs.Noting.{on_ok, names_noted}
use Rattle.read_ranges.proofs.noted.Ranges.note_name.Goals as goal

pub returns-clause-noted : goal.returns-clause-noted
returns-clause-noted c = λ decided.
    on_ok c.note_names.result (names_noted c.args.self.now c.note_names.new.self c.args.start.now c.args.direction c.args.answer.now decided) (c.note_names.ensures.more c.args.start.now c.in_ok-from.ensures)
