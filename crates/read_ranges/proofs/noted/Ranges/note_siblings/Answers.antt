use Rattle.std.proofs.Common.{ap, ◌∙◌}
use Rattle.std.specs.Prelude.{not}
use Rattle.collation.specs.Answers.{is_forward}
use Rattle.collation.specs.Levels.{parent_of}
use Rattle.globals.specs.Cuts.{order_start}
use Rattle.globals.specs.laws.Seeks.{after_order_start}
use Rattle.read_ranges.proofs.Noting.{on_ok, siblings_forward, siblings_backward}
use Rattle.read_ranges.proofs.noted.Ranges.note_siblings.Goals as goal

pub returns-in-Forward-clause-more : goal.returns-in-Forward-clause-more
returns-in-Forward-clause-more c =
    on_ok c.add.result (siblings_forward c.args.self.now c.add.new.self c.args.place.now c.args.direction c.args.answer.now c.order_start-start.result c.args.end.now c.in-Forward.is c.requires.level
    (λ x. ap not (c.order_start-start.ensures x ∙ (λ i. order_start (is_forward (c.in-Forward.is i)) c.args.place.now x)) ∙ after_order_start c.args.place.now x) c.requires.end) c.add.ensures.more

pub returns-in-Backward-clause-more : goal.returns-in-Backward-clause-more
returns-in-Backward-clause-more c =
    on_ok c.add-in-Backward.result (siblings_backward c.args.self.now c.add-in-Backward.new.self c.args.place.now c.args.direction c.args.answer.now c.level_start.result c.order_start-start.result c.in-Backward.is c.requires.level
    (λ x. c.level_start.ensures (parent_of c.args.place.now) x c.requires.end) (λ x. c.order_start-start.ensures x ∙ (λ i. order_start (is_forward (c.in-Backward.is i)) c.args.place.now x))) c.add-in-Backward.ensures.more
