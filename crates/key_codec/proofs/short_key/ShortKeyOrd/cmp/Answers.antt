use Rattle.std.proofs.Common.{◌∙◌}
use Rattle.std.specs.Ordering.{nat_cmp}
use Rattle.std.specs.Cmp.Lexicographic.{slice_cmp}
use Rattle.collation.specs.Order.{ref_cmp}
use Rattle.key_codec.specs.laws.Short.{short_keys_cmp}
use Rattle.key_codec.proofs.short_key.ShortKeyOrd.cmp.Goals as goal

pub returns : goal.returns
returns c =
    c.compare.ensures
    ∙ (λ i. slice_cmp nat_cmp (c.self.invariant.key i) (c.other.invariant.key i))
    ∙ short_keys_cmp _ _ c.self.invariant.form c.other.invariant.form
    ∙ (λ i. ref_cmp (c.self.view_is i) (c.other.view_is i))
