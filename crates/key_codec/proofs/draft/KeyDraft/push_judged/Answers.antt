use Rattle.std.proofs.Common.{◌++◌, ◌∙◌, ◌<◌, ap, sym, subst, Some, arith}
use Rattle.key_codec.specs.Key.{long_form, subscript_key}
use Rattle.std.specs.Option.{option_or}
use Rattle.refusal.specs.declared.Refusal.TheVariants.{SubscriptTooLong}
use Rattle.key_codec.proofs.Drafting.{drafted_empty, drafted_long, drafted_good, on_ok}
use Rattle.key_codec.proofs.draft.KeyDraft.push_judged.Goals as goal

pub returns-then-is_empty : goal.returns-then-is_empty
returns-then-is_empty c = λ r is.
    let on = c.go_on.ensures in
    drafted_empty c.args.self.now _ r c.args.subscript.now (sym c.is_empty.ensures ∙ c.if-is_empty.true) is (record { few = on.few; many = on.many; name = on.name }) on.fault (ap (λ b. b.items) on.bytes) c.is_empty-self.ensures

pub returns-then-subscript-gt-LONGEST_SUBSCRIPT : goal.returns-then-subscript-gt-LONGEST_SUBSCRIPT
returns-then-subscript-gt-LONGEST_SUBSCRIPT c = λ r is.
    let on = c.go_on.ensures in
    let noted = c.note.ensures in
    drafted_long c.args.self.now _ r c.args.subscript.now (sym c.is_empty.ensures ∙ c.if-is_empty.false) (omega (arith, c.if-subscript-gt-LONGEST_SUBSCRIPT.true)) is
    (record { few = λ h. noted.count ∙ on.few h; many = λ h. noted.count ∙ on.many h; name = noted.name ∙ on.name })
    (noted.fault ∙ ap (λ f. option_or f (Some SubscriptTooLong)) on.fault) (ap (λ b. b.items) (noted.bytes ∙ on.bytes)) (noted.open_end ∙ c.is_empty-self.ensures)

pub returns : goal.returns
returns c = λ r is.
    let on = c.go_on.ensures in
    let added = c.add.ensures in
    on_ok c.add.result _ _
    (λ bytes. drafted_good c.args.self.now _ r c.args.subscript.now (sym c.is_empty.ensures ∙ c.if-is_empty.false) (omega (arith, c.if-subscript-gt-LONGEST_SUBSCRIPT.false)) is
    (record { few = λ h. added.count ∙ on.few h; many = λ h. added.count ∙ on.many h; name = added.name ∙ on.name })
    (added.fault ∙ on.fault) (added.open_end ∙ c.is_empty-self.ensures)
    (λ n h f. bytes (sym added.name ∙ n) (omega (arith, added.count, h)) (sym added.fault ∙ f) ∙ ap (λ b. b.items ++ subscript_key long_form c.args.subscript.now) on.bytes)
    (λ n. ap (λ b. b.items) (added.nameless (sym added.name ∙ n) ∙ on.bytes))
    (λ h. ap (λ b. b.items) (added.many (subst (λ n. 31 < n) added.count h) ∙ on.bytes))
    (λ fault f. ap (λ b. b.items) (added.at_fault fault (sym added.fault ∙ f) ∙ on.bytes)))
    added.bytes
