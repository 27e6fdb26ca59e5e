use Rattle.std.proofs.Common.{sym, ap, subst, ◌∙◌, ◌++◌}
use Rattle.key_codec.specs.Key.{subscript_key, long_form, IsSubscriptWithin}
use Rattle.key_codec.proofs.Children.{kept, reads_back, last_fits, below_key_is}
use Rattle.key_codec.proofs.key.Key.below.Goals as goal

pub push_subscript-requires : goal.push_subscript-requires
push_subscript-requires c = subst (IsSubscriptWithin long_form) (sym c.as_slice-3.ensures) (last_fits c.args.self.now c.args.subscript.now c.requires)

pub invariant_of-result : goal.invariant_of-result
invariant_of-result c =
    let level = c.in_ok-bytes.ensures ∙ c.as_slice.ensures.value in
    kept c.from_vec.result _ c.requires (below_key_is c.args.self.now c.args.subscript.now c.in_ok-bytes.bytes.items _ level (c.from_vec.ensures ∙ c.in_ok-push_subscript.ensures ∙ ap (λ s. c.in_ok-bytes.bytes.items ++ subscript_key long_form s) c.as_slice-3.ensures))

pub returns : goal.returns
returns c =
    let level = c.in_ok-bytes.ensures ∙ c.as_slice.ensures.value in
    reads_back c.from_vec.result _ c.requires (below_key_is c.args.self.now c.args.subscript.now c.in_ok-bytes.bytes.items _ level (c.from_vec.ensures ∙ c.in_ok-push_subscript.ensures ∙ ap (λ s. c.in_ok-bytes.bytes.items ++ subscript_key long_form s) c.as_slice-3.ensures))
