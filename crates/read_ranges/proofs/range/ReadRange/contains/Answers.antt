use Rattle.std.proofs.Common.{sym, ap, ◌∙◌}
use Rattle.read_ranges.specs.declared.range.ReadRange.{ReadRange}
use Rattle.read_ranges.specs.Ranges.{is_in}
use Rattle.read_ranges.specs.laws.Single.{one_alone}
use Rattle.read_ranges.proofs.range.ReadRange.contains.Goals as goal

pub returns-in-One : goal.returns-in-One
returns-in-One c = c.eq.ensures ∙ one_alone c.in-One.one c.args.key.now ∙ ap (λ (range : ReadRange). is_in range c.args.key.now) (sym c.in-One.is)
