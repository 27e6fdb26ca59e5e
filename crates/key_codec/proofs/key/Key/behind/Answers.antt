use Rattle.key_codec.proofs.Children.{stripped_some, stripped_none}
use Rattle.key_codec.proofs.key.Key.behind.Goals as goal

pub returns-clause-some : goal.returns-clause-some
returns-clause-some c = stripped_some _ _ _ _ c.strip_prefix.result c.as_slice.ensures.value c.as_slice-2.ensures.value c.strip_prefix.ensures.cases

pub returns-clause-none : goal.returns-clause-none
returns-clause-none c = stripped_none _ _ _ _ c.strip_prefix.result c.as_slice.ensures.value c.as_slice-2.ensures.value c.strip_prefix.ensures.cases
