use Rattle.std.proofs.Common.{◌∙◌, refl, ap, length, arith}
use Rattle.shared_engine.proofs.Blocks.{so_far_first}
use Rattle.shared_engine.proofs.Serving.{served_so_far, room_for_left, counted_left, fewer_left, all_served, one_first}
use Rattle.shared_engine.proofs.locked.Locked.read_lines.Goals as goal

pub lines-init : goal.lines-init
lines-init c = record {
  so_far = so_far_first _ _ _ _ _ _ _ refl c.requires.none refl refl;
  table = refl;
  level = c.requires.level;
  start = c.requires.start;
  seen = c.requires.seen;
  kept = c.requires.kept;
  room = c.requires.room.0;
  answers = c.requires.room.1;
  spare = refl;
  count = refl;
}

pub lines-preserved : goal.lines-preserved
lines-preserved c =
    let before = c.lines.invariant in
    let step = c.read_line.ensures in
    record {
      so_far = served_so_far _ _ _ _ _ _ _ _ _ _ _ before.so_far step.served;
      table = step.table ∙ before.table;
      level = omega (arith, before.level, step.level);
      start = rw step.same.0 before.start;
      seen = step.same.1 ∙ before.seen;
      kept = step.kept;
      room = room_for_left _ _ _ _ _ _ _ _ step.served before.room;
      answers = omega (arith, before.answers, step.served.answers);
      spare = step.served.spare ∙ before.spare;
      count = counted_left _ _ _ _ _ _ _ _ _ _ step.served before.count;
    }

pub lines-smaller : goal.lines-smaller
lines-smaller c = fewer_left _ _ _ _ _ _ _ _ c.read_line.ensures.served

pub read_line-requires-clause-room : goal.read_line-requires-clause-room
read_line-requires-clause-room c = (omega (arith, one_first _ _ c.in-Some.ensures.command, c.lines.invariant.room), c.lines.invariant.answers)

pub returns-clause-done : goal.returns-clause-done
returns-clause-done c = all_served _ _ _ _ _ _ _ c.in_default.ensures.end c.lines.invariant.so_far

pub returns-clause-left : goal.returns-clause-left
returns-clause-left c = c.in_default.ensures.end

pub returns-clause-room : goal.returns-clause-room
returns-clause-room c = (c.lines.invariant.spare, omega (arith, c.lines.invariant.count, ap length c.in_default.ensures.end))
