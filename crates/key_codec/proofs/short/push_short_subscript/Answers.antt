use Rattle.std.proofs.Common.{◌≡◌, ◌∙◌, ap, sym}
use Rattle.std.specs.Prelude.{is_some}
use Rattle.key_codec.specs.Key.{short_form, subscript_key}
use Rattle.key_codec.specs.PartsKey.{parts_key}
use Rattle.key_codec.proofs.Numbers.{parts_key_is}
use Rattle.key_codec.proofs.short.push_short_subscript.Goals as goal

pub returns-in-Some : goal.returns-in-Some
returns-in-Some c =
    let canonic = sym c.parts.ensures.canonic ∙ ap is_some c.in-Some.is in
    let known = rw c.in-Some.is at c.parts.ensures.parts in
    let same : parts_key short_form c.in-Some.number ≡ subscript_key short_form c.args.subscript.now = parts_key_is short_form c.args.subscript.now c.in-Some.number canonic c.requires known in
    rw same at c.push_short_number.ensures
