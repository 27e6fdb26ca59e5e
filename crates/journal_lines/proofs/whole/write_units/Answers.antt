use Rattle.std.proofs.Common.{◌∙◌}
use Rattle.listing.specs.laws.Bytes.{on_err}
use Rattle.journal_lines.proofs.Writing.{writing_next, writing_begun, writing_broken}
use Rattle.journal_lines.proofs.whole.write_units.Goals as goal

pub units-preserved : goal.units-preserved
units-preserved g c = record {
  steps = (tt, tt);
  writing = writing_next _ _ _ _ _ _ _ _ _ _ _ _ c.units.invariant.writing c.in-Some.ensures.steps c.in_ok-do_again.ensures c.in_ok-write_full.ensures.ok;
  kept = c.in_ok-write_full.ensures.kept ∙ c.units.invariant.kept;
}

pub returns-in_err-do_again-clause-err : goal.returns-in_err-do_again-clause-err
returns-in_err-do_again-clause-err g c = on_err _ _ (writing_begun _ _ _ _ _ _ c.units.invariant.writing)

pub returns-in_err-write_full-clause-err : goal.returns-in_err-write_full-clause-err
returns-in_err-write_full-clause-err g c =
    on_err _ _ (writing_broken _ _ _ _ _ _ _ _ _ _ _ c.units.invariant.writing c.in-Some.ensures.steps c.in_ok-do_again.ensures c.in_err-write_full.ensures.err)
