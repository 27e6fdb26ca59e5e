use Rattle.std.proofs.Common.{refl}
use Rattle.std.specs.Cmp.{first_so}
use Rattle.globals.specs.declared.cut.Cut.TheVariants.{Before, After}
use Rattle.read_ranges.specs.Ranges.{is_in_one}
use Rattle.stretches.proofs.LeftOut.{none_left, out_before_next}
use Rattle.stretches.proofs.stretches_kept.Stretches.leave_out.Goals as goal

pub returns-in-None-clause-out : goal.returns-in-None-clause-out
returns-in-None-clause-out g c = none_left c.loop.self c.loop.cut c.first_from.result (g.V.OrderedView.content c.args.view.now) c.first_from.ensures c.loop.invariant.out c.in-None.ensures

pub loop-preserved : goal.loop-preserved
loop-preserved g c = record {
  fewer = λ m were x here. c.loop.invariant.fewer m were x (first_so (is_in_one c.loop.self x) _ (c.take_out.ensures x here));
  out = out_before_next c.loop.self c.loop.cut c.first_from.result (g.V.OrderedView.content c.args.view.now) c.first_from.ensures c.loop.invariant.out
      (c.in-Some.key.now, c.in-Some.field-0-1.now) (Before c.in-Some.key) (After c.in-Some.key) c.take_out.new.self c.in-Some.ensures (λ x. refl) c.take_out.ensures;
}
