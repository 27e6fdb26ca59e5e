use Rattle.std.proofs.Common.{◌-◌, ◌+◌, length, arith}
use Rattle.std.proofs.lemmas.Result.{err_from_is_err_and}
use Rattle.m_text.specs.Literal.{part_at}
use Rattle.m_text.specs.laws.Loops.{reads_on, reads_last, read_refused, none_left}
use Rattle.m_text.proofs.literal.read_parts.Goals as goal

pub returns-in_err-behind : goal.returns-in_err-behind
returns-in_err-behind c =
    let p = err_from_is_err_and c.from_residual.result c.from_residual.ensures.1 in
    rw (p.1, p.2) (read_refused c.in_err-behind.field-0.0 part_at 95 (length c.args.text.now - (c.parts.counter + 1)) (length c.args.text.now - c.parts.counter) c.parts.out c.parts.rest.now _ (omega arith) c.in_err-behind.ensures c.parts.invariant)

pub returns-in-None : goal.returns-in-None
returns-in-None c = reads_last part_at 95 (length c.args.text.now - (c.parts.counter + 1)) (length c.args.text.now - c.parts.counter) c.parts.out c.read_part.new.out c.parts.rest.now c.in_ok-behind.behind.now _ (omega arith) c.in_ok-behind.ensures c.in-None.ensures c.parts.invariant

pub parts-preserved : goal.parts-preserved
parts-preserved c = reads_on part_at 95 (length c.args.text.now - (c.parts.counter + 1)) (length c.args.text.now - c.parts.counter) c.parts.out c.read_part.new.out c.parts.rest.now c.in_ok-behind.behind.now c.in-Some.more.now _ (omega arith) c.in_ok-behind.ensures c.in-Some.ensures.0 c.in-Some.ensures.1 c.parts.invariant

pub returns : goal.returns
returns c = none_left part_at 95 (length c.args.text.now - c.parts.counter) c.parts.out c.parts.rest.now _ (omega arith) c.parts.invariant
