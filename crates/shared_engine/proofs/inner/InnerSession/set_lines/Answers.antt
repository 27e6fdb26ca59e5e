use Rattle.std.proofs.Common.{◌∙◌, refl, ap, length, arith}
use Rattle.shared_engine.proofs.Blocks.{so_far_first}
use Rattle.std.proofs.lemmas.List.Elements.{All-rest}
use Rattle.shared_engine.specs.Holds.{IsSet}
use Rattle.shared_engine.proofs.Serving.{served_so_far, room_for_left, counted_left, fewer_left, all_served, one_first, no_get, served_same}
use Rattle.shared_engine.proofs.inner.InnerSession.set_lines.Goals as goal

pub lines-init : goal.lines-init
lines-init c = record {
  so_far = so_far_first _ _ _ _ _ _ _ refl c.requires.none refl refl;
  table = refl;
  level = c.requires.level;
  seen = refl;
  sets = c.requires.sets;
  room = c.requires.room.0;
  answers = c.requires.room.1;
  spare = refl;
  count = refl;
}

pub set_line-requires-clause-sets : goal.set_line-requires-clause-sets
set_line-requires-clause-sets c = no_get _ _ c.in-Some.ensures.command c.lines.invariant.sets

pub lines-preserved : goal.lines-preserved
lines-preserved c =
    let before = c.lines.invariant in
    let step = c.set_line.ensures in
    let served = served_same _ _ _ _ _ _ _ _ before.seen step.served in
    record {
      so_far = served_so_far _ _ _ _ _ _ _ _ _ _ _ before.so_far served;
      table = step.table ∙ before.table;
      level = omega (arith, before.level, step.level);
      seen = step.seen ∙ before.seen;
      sets = All-rest IsSet _ _ _ step.served.first before.sets;
      room = room_for_left _ _ _ _ _ _ _ _ step.served before.room;
      answers = omega (arith, before.answers, step.served.answers);
      spare = step.served.spare ∙ before.spare;
      count = counted_left _ _ _ _ _ _ _ _ _ _ step.served before.count;
    }

pub lines-smaller : goal.lines-smaller
lines-smaller c = fewer_left _ _ _ _ _ _ _ _ c.set_line.ensures.served

pub set_line-requires-clause-room : goal.set_line-requires-clause-room
set_line-requires-clause-room c = (omega (arith, one_first _ _ c.in-Some.ensures.command, c.lines.invariant.room), c.lines.invariant.answers)

pub returns-clause-done : goal.returns-clause-done
returns-clause-done c = all_served _ _ _ _ _ _ _ c.in_default.ensures.end c.lines.invariant.so_far

pub returns-clause-left : goal.returns-clause-left
returns-clause-left c = c.in_default.ensures.end

pub returns-clause-room : goal.returns-clause-room
returns-clause-room c = (c.lines.invariant.spare, omega (arith, c.lines.invariant.count, ap length c.in_default.ensures.end))
