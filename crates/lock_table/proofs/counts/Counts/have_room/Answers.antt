use Rattle.std.proofs.Common.{◌≡◌, ◌≤◌, ◌-◌, length, arith}
use Rattle.lock_name.specs.Locks.{count_of}
use Rattle.lock_table.proofs.Moving.{room_next}
use Rattle.lock_table.proofs.counts.Counts.have_room.Goals as goal

pub loop-name-preserved : goal.loop-name-preserved
loop-name-preserved c =
    let count : c.count.result ≡ count_of c.args.self.now c.name-item.result = c.count.ensures.count in
    let small : c.count.result ≤ 65535 = c.count.ensures.small in
    let room : length c.args.names.now ≤ 65535 - c.count.result = c.if-names-count.false in
    record {
      in_range = omega arith;
      left = room_next (count_of c.args.self.now) c.args.names.now c.loop-name.name-index _ c.name-item.result (omega arith) c.loop-name-test.true c.name-item.is (omega arith) c.loop-name.invariant.left;
    }
