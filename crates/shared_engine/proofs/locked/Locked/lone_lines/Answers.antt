use Rattle.std.proofs.Common.{◌∙◌, refl, ap, length, arith}
use Rattle.shared_engine.proofs.Blocks.{so_far_first}
use Rattle.command.specs.declared.request.Command.TheVariants.{Access}
use Rattle.shared_engine.specs.laws.Seen.{done_seen}
use Rattle.shared_engine.proofs.Serving.{served_so_far, room_for_left, counted_left, fewer_left, all_served, one_first}
use Rattle.shared_engine.proofs.locked.Locked.lone_lines.Goals as goal

pub lines-init : goal.lines-init
lines-init c = record {
  so_far = so_far_first _ _ _ _ _ _ _ refl c.requires.none refl refl;
  level = c.requires.level;
  seen = c.requires.seen;
  room = c.requires.room.0;
  answers = c.requires.room.1;
  spare = refl;
  count = refl;
  opened = refl;
  tables = (refl, refl);
  stands = c.requires.stands;
  seats = refl;
}

pub lines-preserved : goal.lines-preserved
lines-preserved c =
    let before = c.lines.invariant in
    let step = c.lone_line.ensures in
    record {
      so_far = served_so_far _ _ _ _ _ _ _ _ _ _ _ before.so_far step.served;
      level = step.level;
      seen = done_seen (Access step.served.command) step.served.reply c.lines.self.core.units c.lone_line.new.self.core.units c.lines.session.held c.lone_line.new.session.held step.served.done before.seen;
      room = room_for_left _ _ _ _ _ _ _ _ step.served before.room;
      answers = omega (arith, before.answers, step.served.answers);
      spare = step.served.spare ∙ before.spare;
      count = counted_left _ _ _ _ _ _ _ _ _ _ step.served before.count;
      opened = step.others.0 ∙ before.opened;
      tables = (step.table.0 ∙ before.tables.0, step.table.1 ∙ before.tables.1);
      stands = step.stands;
      seats = step.others.1 ∙ before.seats;
    }

pub lines-smaller : goal.lines-smaller
lines-smaller c = fewer_left _ _ _ _ _ _ _ _ c.lone_line.ensures.served

pub lone_line-requires-clause-room : goal.lone_line-requires-clause-room
lone_line-requires-clause-room c = (omega (arith, one_first _ _ c.in-Some.ensures.command, c.lines.invariant.room), c.lines.invariant.answers)

pub returns-clause-done : goal.returns-clause-done
returns-clause-done c = all_served _ _ _ _ _ _ _ c.in_default.ensures.end c.lines.invariant.so_far

pub returns-clause-left : goal.returns-clause-left
returns-clause-left c = c.in_default.ensures.end

pub returns-clause-room : goal.returns-clause-room
returns-clause-room c = (c.lines.invariant.spare, omega (arith, c.lines.invariant.count, ap length c.in_default.ensures.end))
