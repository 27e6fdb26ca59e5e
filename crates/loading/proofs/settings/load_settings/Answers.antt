use Rattle.std.proofs.Common.{◌∙◌}
use Rattle.loading.specs.Pending.{asked_of}
use Rattle.loading.proofs.Sets.{so_far_next}
use Rattle.loading.proofs.settings.load_settings.Goals as goal

pub settings-preserved : goal.settings-preserved
settings-preserved g c = record {
  so_far = so_far_next _ (asked_of c.settings.settings) _ _ (c.in-Some.key, c.in-Some.value) _ _ _ c.settings.invariant.so_far c.in_ok-key.ensures.setting c.in-Some.is c.in_ok-set.ensures.ok;
  base = c.in_ok-set.ensures.base ∙ c.settings.invariant.base;
}
