use Rattle.read_ranges.proofs.Noting.{on_ok, names_forward, names_backward}
use Rattle.read_ranges.proofs.noted.Ranges.note_names.Goals as goal

pub returns-in-Forward-clause-more : goal.returns-in-Forward-clause-more
returns-in-Forward-clause-more c = λ name is.
    on_ok c.add.result (names_forward c.args.self.now c.add.new.self name c.args.direction c.args.answer.now c.names_from-from.result c.past_name.result c.in-Forward.is (c.names_from-from.ensures name is) c.past_name.ensures) c.add.ensures.more

pub returns-in-Backward-clause-more : goal.returns-in-Backward-clause-more
returns-in-Backward-clause-more c = λ name is.
    on_ok c.add-in-Backward.result (names_backward c.args.self.now c.add-in-Backward.new.self name c.args.direction c.args.answer.now c.before_name.result c.names_from-from.result c.in-Backward.is c.before_name.ensures (c.names_from-from.ensures name is)) c.add-in-Backward.ensures.more
