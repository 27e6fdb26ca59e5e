use Rattle.std.proofs.Common.{sym}
use Rattle.collector.proofs.RowLemmas.{late_stands}
use Rattle.collector.proofs.laws.versions_after_the_horizon_stand.Goals as goal

pub returns : goal.returns
returns c = λ h new old v same late. (late_stands h new old v same late, late_stands h old new v (sym same) late)
