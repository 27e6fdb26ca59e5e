use Rattle.std.specs.Prelude.{not}
use Rattle.std.specs.Cmp.{first_so, second_so}
use Rattle.globals.specs.Cuts.{stands_before}
use Rattle.stretches.proofs.Apart.{apart_before, apart_behind, not_earlier}
use Rattle.stretches.proofs.scouting.lies_beside.Goals as goal

pub returns-then-is_at_most : goal.returns-then-is_at_most
returns-then-is_at_most c = λ _ x h.
    apart_before c.args.target.now x (c.is_at_most.ensures.yes c.if-is_at_most.true x (second_so (not (stands_before c.args.low x)) _ h))

pub returns : goal.returns
returns c = λ is x h.
    apart_behind c.args.target.now x (not_earlier _ (stands_before c.args.low x) (c.is_at_most-2.ensures.yes is x) (first_so (not (stands_before c.args.low x)) _ h))
