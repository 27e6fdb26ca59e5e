use Rattle.std.proofs.Common.{◌-◌, ◌+◌, length, arith}
use Rattle.std.proofs.lemmas.Result.{err_from_is_err_and}
use Rattle.m_text.specs.Place.{subscript_at}
use Rattle.m_text.specs.laws.Loops.{skips_on, skips_last, skip_refused, none_to_skip}
use Rattle.m_text.proofs.place.skip_list.Goals as goal

pub returns-in_err-behind : goal.returns-in_err-behind
returns-in_err-behind c =
    let p = err_from_is_err_and c.from_residual.result c.from_residual.ensures.1 in
    rw (p.1, p.2) (skip_refused c.in_err-behind.field-0.0 subscript_at 44 (length c.args.text.now - (c.subscripts.counter + 1)) (length c.args.text.now - c.subscripts.counter) c.subscripts.rest.now _ (omega arith) c.in_err-behind.ensures c.subscripts.invariant)

pub returns-in-None : goal.returns-in-None
returns-in-None c = skips_last subscript_at 44 (length c.args.text.now - (c.subscripts.counter + 1)) (length c.args.text.now - c.subscripts.counter) c.subscripts.rest.now c.in_ok-behind.behind.now _ (omega arith) c.in_ok-behind.ensures c.in-None.ensures c.subscripts.invariant

pub subscripts-preserved : goal.subscripts-preserved
subscripts-preserved c = skips_on subscript_at 44 (length c.args.text.now - (c.subscripts.counter + 1)) (length c.args.text.now - c.subscripts.counter) c.subscripts.rest.now c.in_ok-behind.behind.now c.in-Some.more.now _ (omega arith) c.in_ok-behind.ensures c.in-Some.ensures.0 c.in-Some.ensures.1 c.subscripts.invariant

pub returns : goal.returns
returns c = none_to_skip subscript_at 44 (length c.args.text.now - c.subscripts.counter) c.subscripts.rest.now _ (omega arith) c.subscripts.invariant
