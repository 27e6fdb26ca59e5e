use Rattle.std.proofs.Common.{sym, subst}
use Rattle.workspace.specs.Layers.{NoneUnderAnother}
use Rattle.workspace.specs.laws.Layering.{apart_empty}
use Rattle.workspace.proofs.Layered.{none_kept}
use Rattle.workspace.proofs.writes.Workspace.new.Goals as goal

pub invariant_of-result : goal.invariant_of-result
invariant_of-result c = subst NoneUnderAnother (sym c.new-2.ensures) apart_empty

pub returns : goal.returns
returns c = none_kept _ _ c.new.ensures c.new-2.ensures
