use Rattle.std.proofs.Common.{arith, ap, slice_set, ◌∙◌}
use Rattle.stretches.proofs.Places.{same_place}
use Rattle.stretches.proofs.parts.put_in_place.Goals as goal

pub returns : goal.returns
returns c =
    ap (λ r. slice_set c.cut_out.new.list.items c.args.first r) c.replace.ensures.after
    ∙ same_place c.args.first c.args.stretch c.args.list.now.items c.cut_out.new.list.items c.args.last (omega (arith, c.requires.order, c.requires.within)) c.requires.order c.cut_out.ensures
