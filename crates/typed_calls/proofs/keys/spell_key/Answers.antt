use Rattle.std.proofs.Common.{◌≡◌, inr, subst, arith}
use Rattle.std.specs.Prelude.{IfErr, IfOk, None, Option}
use Rattle.refusal.specs.declared.Refusal.{Refusal}
use Rattle.key_codec.specs.Draft.{IsDueOrMemory}
use Rattle.typed_calls.specs.Spelled.{texts_of}
use Rattle.typed_calls.proofs.InTurn.{all, one_more, stopped}
use Rattle.typed_calls.proofs.keys.spell_key.Goals as goal

pub returns-in-Some-clause-err : goal.returns-in-Some-clause-err
returns-in-Some-clause-err c =
    let kept = c.loop-text.invariant in
    inr (stopped c.args.name.now c.args.subscripts.now c.loop-text.text-index c.loop-text.depth _ c.fault_below.result c.in-Some.fault c.name_fault_or.result c.loop-text-test.true kept.faultless kept.counted kept.due
    c.fault_below.ensures c.in-Some.is c.name_fault_or.ensures)

pub loop-text-preserved : goal.loop-text-preserved
loop-text-preserved c =
    let kept = c.loop-text.invariant in
    let now = one_more c.args.name.now c.args.subscripts.now c.loop-text.text-index c.loop-text.depth _ c.fault_below.result c.push.new.self c.loop-text-test.true kept.faultless kept.counted kept.due c.fault_below.ensures c.in_default.is
    (c.in_ok-push.ensures _ kept.draft) in
    record { draft = now.spelled; faultless = now.faultless; counted = now.counted; due = now.due }

pub returns-clause-ok : goal.returns-clause-ok
returns-clause-ok c =
    let kept = c.loop-text.invariant in
    let done = all c.args.name.now c.args.subscripts.now c.loop-text.text-index c.loop-text.draft (omega (arith, c.loop-text-test.false)) kept.due kept.draft in
    subst (λ (o : Option Refusal). IfOk c.key.result (λ key. (o ≡ None) × (key ≡ record { name = c.args.name.now; subscripts = texts_of c.args.subscripts.now }))) done.due (c.key.ensures.ok _ done.spelled)

pub returns-clause-err : goal.returns-clause-err
returns-clause-err c =
    let kept = c.loop-text.invariant in
    let done = all c.args.name.now c.args.subscripts.now c.loop-text.text-index c.loop-text.draft (omega (arith, c.loop-text-test.false)) kept.due kept.draft in
    subst (λ (o : Option Refusal). IfErr c.key.result (λ refusal. IsDueOrMemory refusal o)) done.due (c.key.ensures.err _ done.spelled)
