use Rattle.std.proofs.Common.{◌-◌, ◌+◌, length, arith}
use Rattle.m_text.specs.Place.{subscript_at}
use Rattle.m_text.specs.laws.Loops.{reads_on, reads_last, read_refused, none_left}
use Rattle.m_text.proofs.Drafted.{Stands}
use Rattle.m_text.proofs.place.read_list.Goals as goal

pub returns-in-None : goal.returns-in-None
returns-in-None c = λ r is.
    let so : Stands c.subscripts.draft r (length c.args.text.now - c.subscripts.counter) c.subscripts.rest.now c.args.text.now = c.subscripts.invariant r is in
    let read = c.in-Ok.ensures (record { name = r.name; subscripts = so.subscripts }) so.spelled in
    (read.0, reads_last subscript_at 44 (length c.args.text.now - (c.subscripts.counter + 1)) (length c.args.text.now - c.subscripts.counter) so.subscripts read.0 c.subscripts.rest.now c.in-Ok.behind.now _ (omega arith) read.1 c.in-None.ensures so.left, read.2)

pub returns-in-Err : goal.returns-in-Err
returns-in-Err c = λ r is.
    let so : Stands c.subscripts.draft r (length c.args.text.now - c.subscripts.counter) c.subscripts.rest.now c.args.text.now = c.subscripts.invariant r is in
    read_refused c.in-Err.refusal subscript_at 44 (length c.args.text.now - (c.subscripts.counter + 1)) (length c.args.text.now - c.subscripts.counter) so.subscripts c.subscripts.rest.now _ (omega arith)
    (c.in-Err.ensures (record { name = r.name; subscripts = so.subscripts }) so.spelled) so.left

pub subscripts-preserved : goal.subscripts-preserved
subscripts-preserved c = λ r is.
    let so : Stands c.subscripts.draft r (length c.args.text.now - c.subscripts.counter) c.subscripts.rest.now c.args.text.now = c.subscripts.invariant r is in
    let read = c.in-Ok.ensures (record { name = r.name; subscripts = so.subscripts }) so.spelled in
    record {
      subscripts = read.0;
      spelled = read.2;
      left = reads_on subscript_at 44 (length c.args.text.now - (c.subscripts.counter + 1)) (length c.args.text.now - c.subscripts.counter) so.subscripts read.0 c.subscripts.rest.now c.in-Ok.behind.now c.in-Some.more.now _ (omega arith) read.1 c.in-Some.ensures.0 c.in-Some.ensures.1 so.left;
    }

pub returns : goal.returns
returns c = λ r is.
    let so : Stands c.subscripts.draft r (length c.args.text.now - c.subscripts.counter) c.subscripts.rest.now c.args.text.now = c.subscripts.invariant r is in
    none_left subscript_at 44 (length c.args.text.now - c.subscripts.counter) so.subscripts c.subscripts.rest.now _ (omega arith) so.left
