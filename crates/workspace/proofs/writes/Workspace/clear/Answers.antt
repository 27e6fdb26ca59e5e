use Rattle.std.proofs.Common.{sym, subst}
use Rattle.workspace.specs.Layers.{NoneUnderAnother}
use Rattle.workspace.specs.laws.Layering.{apart_empty}
use Rattle.workspace.proofs.Layered.{none_kept}
use Rattle.workspace.proofs.writes.Workspace.clear.Goals as goal

pub invariant_of-self : goal.invariant_of-self
invariant_of-self c = subst NoneUnderAnother (sym c.clear-2.ensures) apart_empty

pub returns : goal.returns
returns c = none_kept _ _ c.clear.ensures c.clear-2.ensures
