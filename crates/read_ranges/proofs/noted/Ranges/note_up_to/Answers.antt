use Rattle.std.proofs.Common.{◌∙◌}
use Rattle.collation.specs.Answers.{is_forward}
use Rattle.globals.specs.Cuts.{query_start}
use Rattle.read_ranges.proofs.Noting.{on_ok, up_to_forward, up_to_backward}
use Rattle.read_ranges.proofs.noted.Ranges.note_up_to.Goals as goal

pub returns-in-Forward-clause-more : goal.returns-in-Forward-clause-more
returns-in-Forward-clause-more c =
    on_ok c.add.result (up_to_forward c.args.self.now c.add.new.self c.args.place.now c.args.direction c.query_start-start.result c.args.found.now c.in-Forward.is c.requires
    (λ x. c.query_start-start.ensures x ∙ (λ i. query_start (is_forward (c.in-Forward.is i)) c.args.place.now x))) c.add.ensures.more

pub returns-in-Backward-clause-more : goal.returns-in-Backward-clause-more
returns-in-Backward-clause-more c =
    on_ok c.add-in-Backward.result (up_to_backward c.args.self.now c.add-in-Backward.new.self c.args.place.now c.args.direction c.query_start-start.result c.args.found.now c.in-Backward.is c.requires
    (λ x. c.query_start-start.ensures x ∙ (λ i. query_start (is_forward (c.in-Backward.is i)) c.args.place.now x))) c.add-in-Backward.ensures.more
