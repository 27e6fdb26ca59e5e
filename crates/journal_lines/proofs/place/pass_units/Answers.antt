use Rattle.std.proofs.Common.{ap, arith, ◌∙◌, drop}
use Rattle.std.proofs.lemmas.List.{drop-drop}
use Rattle.journal_lines.proofs.place.pass_units.Goals as goal

pub passed-preserved : goal.passed-preserved
passed-preserved c = record {
  passed = c.in_ok-pass_unit.ensures ∙ ap (drop 1) c.passed.invariant.passed ∙ drop-drop 1 c.passed.passed c.args.units.now;
  most = omega (arith, c.passed-test.true);
}
