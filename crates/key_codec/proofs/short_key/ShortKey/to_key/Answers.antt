use Rattle.std.proofs.Common.{◌≡◌, ◌∙◌, ap, subst}
use Rattle.std.specs.Prelude.{IfOk}
use Rattle.key_codec.specs.Short.{lengthened}
use Rattle.key_codec.specs.laws.Short.{key_lengthened}
use Rattle.key_codec.proofs.Children.{kept, reads_back}
use Rattle.key_codec.proofs.short_key.ShortKey.to_key.Goals as goal

pub from_slice-requires : goal.from_slice-requires
from_slice-requires c = kept c.as_slice-2.result.now c.args.self.now c.as_slice.ensures.form.form (c.as_slice-2.ensures.value ∙ c.in_ok-bytes.ensures ∙ ap lengthened c.as_slice.ensures.value ∙ key_lengthened c.args.self.now c.as_slice.ensures.form)

pub returns : goal.returns
returns c =
    let back = reads_back c.as_slice-2.result.now c.args.self.now c.as_slice.ensures.form.form (c.as_slice-2.ensures.value ∙ c.in_ok-bytes.ensures ∙ ap lengthened c.as_slice.ensures.value ∙ key_lengthened c.args.self.now c.as_slice.ensures.form) in
    subst (λ r. IfOk c.from_slice.result (λ key. key ≡ r)) back c.from_slice.ensures.key
