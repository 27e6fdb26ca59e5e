use Rattle.key_codec.proofs.Children.{equal_tested}
use Rattle.key_codec.proofs.key.KeyPartialEq.eq.Goals as goal

pub returns : goal.returns
returns c = equal_tested c.args.self.now c.args.other.now _ _ c.eq.result c.as_slice.ensures.form c.as_slice-2.ensures.form c.as_slice.ensures.value c.as_slice-2.ensures.value c.eq.ensures
