use Rattle.std.proofs.Common.{◌-◌, ◌+◌, length, arith}
use Rattle.m_text.specs.laws.Loops.{reads_on, reads_last, read_refused, none_left}
use Rattle.script.specs.Locking.{lock_name_at}
use Rattle.script.proofs.Naming.{Stands}
use Rattle.script.proofs.lock.read_list.Goals as goal

pub returns-in-None : goal.returns-in-None
returns-in-None c = λ ns named.
    let so : Stands c.names.names ns (length c.args.text.now - c.names.counter) c.names.rest.now c.args.text.now = c.names.invariant ns named in
    let read = c.in-Ok.ensures so.so_far so.named in
    (read.0, reads_last lock_name_at 44 (length c.args.text.now - (c.names.counter + 1)) (length c.args.text.now - c.names.counter) so.so_far read.0 c.names.rest.now c.in-Ok.behind.now _ (omega arith) read.1 c.in-None.ensures so.left, read.2)

pub returns-in-Err : goal.returns-in-Err
returns-in-Err c = λ ns named.
    let so : Stands c.names.names ns (length c.args.text.now - c.names.counter) c.names.rest.now c.args.text.now = c.names.invariant ns named in
    read_refused c.in-Err.refusal lock_name_at 44 (length c.args.text.now - (c.names.counter + 1)) (length c.args.text.now - c.names.counter) so.so_far c.names.rest.now _ (omega arith) (c.in-Err.ensures so.so_far so.named) so.left

pub names-preserved : goal.names-preserved
names-preserved c = λ ns named.
    let so : Stands c.names.names ns (length c.args.text.now - c.names.counter) c.names.rest.now c.args.text.now = c.names.invariant ns named in
    let read = c.in-Ok.ensures so.so_far so.named in
    record {
      so_far = read.0;
      named = read.2;
      left = reads_on lock_name_at 44 (length c.args.text.now - (c.names.counter + 1)) (length c.args.text.now - c.names.counter) so.so_far read.0 c.names.rest.now c.in-Ok.behind.now c.in-Some.more.now _ (omega arith) read.1 c.in-Some.ensures.0 c.in-Some.ensures.1 so.left;
    }

pub returns : goal.returns
returns c = λ ns named.
    let so : Stands c.names.names ns (length c.args.text.now - c.names.counter) c.names.rest.now c.args.text.now = c.names.invariant ns named in
    none_left lock_name_at 44 (length c.args.text.now - c.names.counter) so.so_far c.names.rest.now _ (omega arith) so.left
