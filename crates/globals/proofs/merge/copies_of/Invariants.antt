use Rattle.std.proofs.Common.{◌≡◌, true, false, ◌++◌}
use Rattle.std.specs.Prelude.{map}
use Rattle.std.specs.List.{list_any, list_all}
use Rattle.collation.specs.Database.{is_under}
use Rattle.globals.specs.Copies.{copied, all_copies, is_deep}
use Rattle.globals.proofs.merge.copies_of.Given as goal

abbrev pub invariant-loop-key : goal.invariant-loop-key
invariant-loop-key g l = record {
  all : l.copies.items ++ map (copied l.target l.source) l.key-iterator ≡ all_copies l.target l.source (g.V.OrderedView.content l.view);
  under : list_all (λ e. is_under l.source e.0) l.key-iterator ≡ true;
  shallow : list_any is_deep l.copies.items ≡ false;
}
