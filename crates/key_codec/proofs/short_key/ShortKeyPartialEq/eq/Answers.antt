use Rattle.key_codec.proofs.OldKeys.{equal_short_tested}
use Rattle.key_codec.proofs.short_key.ShortKeyPartialEq.eq.Goals as goal

pub returns : goal.returns
returns c = equal_short_tested c.args.self.now c.args.other.now _ _ c.eq.result c.as_slice.ensures.form c.as_slice-2.ensures.form c.as_slice.ensures.value c.as_slice-2.ensures.value c.eq.ensures
