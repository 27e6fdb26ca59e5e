use Rattle.std.proofs.Common.{◌≡◌, ◌∙◌, length, arith}
use Rattle.shared_engine.proofs.Blocks.{so_far_next, so_far_all, cut_at, told_blocked, had_more, none_restarts, others_left, taken_one, none_left}
use Rattle.shared_engine.specs.laws.Seen.{done_seen}
use Rattle.shared_engine.proofs.locked.Locked.run_alone.Goals as goal

pub block-preserved : goal.block-preserved
block-preserved c =
    let before = c.block.invariant in
    let taken = c.in-Some.ensures.steps in
    let here : c.len-place.result ≡ length c.block.replies.items = omega (arith, c.len-place.ensures, c.block.replies.ok.0) in
    record {
      so_far = rw c.push_reserved.ensures.items (so_far_next _ _ _ _ _ _ _ _ _ _ _ (rw taken.0 at before.so_far) c.serial_step-reply.ensures.done);
      had = rw c.push_reserved.ensures.items (had_more _ _ _ before.had (told_blocked _ _ _ _ _ _ here c.must_at-must.ensures c.is_blocked.ensures ∙ c.if-is_blocked.false));
      alone = c.serial_step-reply.ensures.alone;
      seen = done_seen _ _ _ _ _ _ c.serial_step-reply.ensures.done before.seen;
      goes_on = others_left _ _ _ taken.0 before.goes_on;
      room = rw (c.push_reserved.ensures.items, c.push_reserved.ensures.capacity) (taken_one _ _ c.block.replies.items _ _ _ taken.0 before.room);
      opened = c.serial_step-reply.ensures.others.0 ∙ before.opened;
      tables = (c.serial_step-reply.ensures.table.0 ∙ before.tables.0, c.serial_step-reply.ensures.table.1 ∙ before.tables.1);
      stands = c.serial_step-reply.ensures.stands;
      seats = c.serial_step-reply.ensures.others.1 ∙ before.seats;
    }

pub returns-then-is_blocked-clause-come : goal.returns-then-is_blocked-clause-come
returns-then-is_blocked-clause-come c =
    let taken = c.in-Some.ensures.steps in
    let here : c.len-place.result ≡ length c.block.replies.items = omega (arith, c.len-place.ensures, c.block.replies.ok.0) in
    cut_at _ _ _ _ _ _ _ _ _ _ _ _ _ (rw taken.0 at c.block.invariant.so_far) c.serial_step-reply.ensures.done here (told_blocked _ _ _ _ _ _ here c.must_at-must.ensures c.is_blocked.ensures ∙ c.if-is_blocked.true)

pub returns-clause-come : goal.returns-clause-come
returns-clause-come c =
    (so_far_all _ _ _ _ _ _ _ (none_left _ (omega (arith, c.in-None.ensures.steps.0, c.block.command-iterator.rest.ok.0))) c.block.invariant.so_far, c.block.invariant.had)

pub returns-clause-commits : goal.returns-clause-commits
returns-clause-commits c =
    none_restarts _ _ _ _ _ _ (so_far_all _ _ _ _ _ _ _ (none_left _ (omega (arith, c.in-None.ensures.steps.0, c.block.command-iterator.rest.ok.0))) c.block.invariant.so_far)

pub returns-then-is_blocked-clause-seen : goal.returns-then-is_blocked-clause-seen
returns-then-is_blocked-clause-seen c = done_seen _ _ _ _ _ _ c.serial_step-reply.ensures.done c.block.invariant.seen
