use Rattle.std.specs.Prelude.{◌≡◌, true, false, List}
use Rattle.std.specs.FinMap as finmap
use Rattle.collation.specs.Reference.{Reference}
use Rattle.collation.specs.Database.{Database}
use Rattle.globals.specs.declared.cut.Cut.{Cut}
use Rattle.globals.specs.Cuts.{stands_before}
use Rattle.read_ranges.specs.declared.range.ReadRange.{ReadRange}
use Rattle.read_ranges.specs.Ranges.{is_in_one}
use Rattle.stretches.specs.Empty.{AreEmpty}
use Rattle.stretches.proofs.stretches_kept.Stretches.leave_out.Given as goal

-- they are as empty as at first, and no member before the cut stands in one
pub record LeftOut (initial now : List ReadRange) (before : Cut) (members : Database) : Type 0 where
  pub fewer : (m : Database) → AreEmpty initial m → AreEmpty now m
  pub out : (x : Reference) → finmap.contains_key members x ≡ true → stands_before before x ≡ true → is_in_one now x ≡ false

abbrev pub invariant-loop : goal.invariant-loop
invariant-loop g l = LeftOut l.initial.self l.self l.cut (g.V.OrderedView.content l.view)
