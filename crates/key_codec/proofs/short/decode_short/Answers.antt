use Rattle.std.proofs.Common.{◌∙◌}
use Rattle.key_codec.proofs.OldKeys.{found_form, found_key, none_found}
use Rattle.key_codec.proofs.short.decode_short.Goals as goal

pub returns-clause-some : goal.returns-clause-some
returns-clause-some c = found_key c.args.bytes.now c.as_slice.result.now c.in_ok-found.found c.only_short.result (c.as_slice.ensures.value ∙ c.in_ok-key.ensures) c.in_ok-found.ensures.some c.in_ok-found.ensures.form c.only_short.ensures.some

pub returns-clause-form : goal.returns-clause-form
returns-clause-form c = found_form c.in_ok-found.found c.only_short.result c.in_ok-found.ensures.form c.only_short.ensures.some

pub returns-clause-none : goal.returns-clause-none
returns-clause-none c = none_found c.args.bytes.now c.as_slice.result.now c.in_ok-found.found c.only_short.result (c.as_slice.ensures.value ∙ c.in_ok-key.ensures) c.in_ok-found.ensures.some c.in_ok-found.ensures.form c.in_ok-found.ensures.none c.only_short.ensures.none
