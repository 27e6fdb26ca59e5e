use Rattle.std.proofs.Common.{◌∙◌}
use Rattle.collation.specs.Levels.{is_before}
use Rattle.std.specs.Prelude.{true}
use Rattle.key_codec.proofs.Past.{past_tested}
use Rattle.key_codec.proofs.key.Key.stands_before_past.Goals as goal

pub returns : goal.returns
returns c =
    past_tested _ _ _ _ _ c.root.invariant.form c.self.invariant.form c.self.invariant.key c.root.invariant.key c.stand_before_past.ensures
    ∙ (λ i. is_before true (c.root.view_is i) (c.self.view_is i))
