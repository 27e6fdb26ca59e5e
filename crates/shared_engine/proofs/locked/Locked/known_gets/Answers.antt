use Rattle.std.proofs.Common.{◌≡◌, ◌+◌, ◌-◌, ◌^◌, ◌≤◌, ◌++◌, ◌∷◌, ◌∙◌, [], List, min, refl, ap, sym, subst, length, length-append, arith}
use Rattle.std.specs.List.{All}
use Rattle.journal.specs.Gathered.{IsGetOf}
use Rattle.pin_board.specs.declared.view.DeskView.{DeskView}
use Rattle.shared_engine.specs.Sessions.{and_receipts}
use Rattle.shared_engine.specs.Engines.{AreInPlace}
use Rattle.shared_engine.proofs.Knowing.{AreNoted, noted_first, noted_next, noted_more, noted_all, room_for}
use Rattle.shared_engine.proofs.locked.Locked.known_gets.Goals as goal

pub receipts-init : goal.receipts-init
receipts-init c =
    let s = c.session.inside in
    let units = c.args.self.now.core.units in
    let gets = c.args.gets.now.units in
    let added = c.in_ok-receipts.ensures.added in
    let held = ap (λ h. h.held) c.session.view_is in
    let owner = c.requires.job ∙ ap (λ h. h.state.work.job) (sym held) in
    let own = subst (λ j. All (IsGetOf j) gets) owner c.requires.gets in
    record {
      noted = subst (AreNoted s.state c.add_gets.new.self.units c.in_ok-receipts.receipts c.args.desk.now.knows.log s.pin.knows c.reserve.new.self.items) (ap (and_receipts units gets) held)
          (noted_first s.state units c.add_gets.new.self.units gets c.in_ok-receipts.receipts c.args.desk.now.knows.log s.pin.knows s.numbers.items c.reserve.new.self.items c.session.invariant c.in_ok-reserve.ensures.items c.requires.stands.log added.units added.receipts own);
      room = omega (arith, c.in_ok-reserve.ensures.ok, c.len.ensures, room_for (length units + 1) gets c.in_ok-receipts.receipts added.receipts);
      desk = refl;
      tables = (refl, ap (λ h. h.table) c.session.view_is);
    }

pub write-requires-clause-next : goal.write-requires-clause-next
write-requires-clause-next c = noted_next _ _ _ _ _ _ _ _ _ c.receipts.invariant.noted c.in-Some.ensures.next

pub receipts-preserved : goal.receipts-preserved
receipts-preserved c =
    let before = c.receipts.invariant in
    let old = c.receipts.desk.knows in
    let first = c.args.desk.now.knows in
    let next = c.in-Some.ensures.next in
    let wrote = c.write.ensures in
    let receipt = c.in-Some.receipt in
    let logged : c.write.new.desk.knows.log ≡ old.log ++ receipt.unit ∷ [] = ap (λ (d : DeskView). d.log) wrote.desk in
    record {
      noted = noted_more _ _ _ _ receipt old c.write.new.desk.knows.log _ _ _ _ _ before.noted next wrote.in_journal wrote.goes_on logged wrote.pin (c.push_reserved.ensures.items ∙ ap (λ n. c.receipts.session-inside.numbers.items ++ n ∷ []) c.number.ensures);
      room = omega (arith, before.room, ap length next, c.push_reserved.ensures.len, c.push_reserved.ensures.capacity);
      desk = wrote.desk ∙ (ap (λ (d : DeskView). record d { log = old.log ++ receipt.unit ∷ [] }) before.desk ∙ ap (λ l. record first { log = l }) (sym logged));
      tables = (wrote.table.0 ∙ before.tables.0, wrote.table.1 ∙ before.tables.1);
    }

pub returns-clause-stands : goal.returns-clause-stands
returns-clause-stands c =
    let before = c.receipts.invariant in
    let stands = c.requires.stands in
    let added = c.in_ok-receipts.ensures.added in
    let done = noted_all _ _ _ _ _ _ _ before.noted c.in_default.ensures.end in
    let high = ap (λ (d : DeskView). d.high) before.desk in
    record {
      log = done.0;
      cut = omega (arith, added.cut, stands.cut, stands.high, high);
      base = omega (arith, added.base, stands.base, high);
      high = omega (arith, stands.high, high);
      now = omega (arith, stands.now, ap length added.units, length-append c.args.self.now.core.units c.args.gets.now.units);
      wide = ap (λ (d : DeskView). d.seats) before.desk ∙ stands.wide;
      dealt = stands.dealt ∙ sym (ap (λ (d : DeskView). d.dealt) before.desk);
      opened_is = stands.opened_is ∙ ap (λ n. min n (2 ^ 64 - 1)) (sym (ap (λ (d : DeskView). d.given) before.desk));
      ends = added.ends ∙ stands.ends;
      placed = subst (λ t. AreInPlace t c.args.self.now.seats) (sym before.tables.0) stands.placed;
    }

pub returns-clause-receipts : goal.returns-clause-receipts
returns-clause-receipts c = (noted_all _ _ _ _ _ _ _ c.receipts.invariant.noted c.in_default.ensures.end).1
