use Rattle.std.proofs.Common.{◌∙◌, ap, arith, Some}
use Rattle.std.specs.Option.{option_map}
use Rattle.btree.proofs.Gaps.{last_separator}
use Rattle.btree.proofs.between.separator_before.Goals as goal

pub returns : goal.returns
returns g c = ap Some c.index-separators-at.is ∙ last_separator c.args.at c.args.separators.now c.index-separators-at.result (option_map (λ k. k.now) c.args.low) (omega arith) (omega arith)
