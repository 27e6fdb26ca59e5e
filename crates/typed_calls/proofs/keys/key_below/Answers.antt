use Rattle.std.proofs.Common.{◌∙◌, sym, inr, subst, List, ℕ}
use Rattle.key_codec.specs.Draft.{longer}
use Rattle.key_codec.specs.Key.{IsFaultless}
use Rattle.typed_calls.proofs.Below.{due_is, longer_faultless}
use Rattle.typed_calls.proofs.keys.key_below.Goals as goal

pub returns-in-Some-clause-err : goal.returns-in-Some-clause-err
returns-in-Some-clause-err c =
    inr (due_is c.args.key.now c.args.subscript.now c.depth_of.result c.as_slice-form.ensures.form c.depth_of.ensures ∙ sym c.fault_below.ensures ∙ c.in-Some.is)

pub returns-clause-due : goal.returns-clause-due
returns-clause-due c = due_is c.args.key.now c.args.subscript.now c.depth_of.result c.as_slice-form.ensures.form c.depth_of.ensures ∙ sym c.fault_below.ensures ∙ c.in_default.is

pub below-requires : goal.below-requires
below-requires c =
    let faultless = longer_faultless c.args.key.now c.args.subscript.now c.depth_of.result c.as_slice-form.ensures.form c.depth_of.ensures (sym c.fault_below.ensures ∙ c.in_default.is) in
    subst (λ (s : List ℕ). IsFaultless (longer c.args.key.now s)) (sym c.in_ok-text.ensures.ok) faultless
