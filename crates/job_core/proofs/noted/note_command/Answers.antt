use Rattle.std.proofs.Common.{sym, subst}
use Rattle.command.specs.Data.{data_after}
use Rattle.journal.specs.Based.{map_in}
use Rattle.job_core.specs.Noted.{StaysBetween}
use Rattle.job_core.proofs.Between.{set_stays, increment_stays, kill_stays, merge_stays, ok_then}
use Rattle.job_core.proofs.noted.note_command.Goals as goal

pub returns-in-Set : goal.returns-in-Set
returns-in-Set g c =
    let base = map_in c.args.base.now in
    let end = g.V.OrderedView.content c.args.end.now in
    ok_then c.note.result c.note.ensures (λ is m.
    subst (λ command. StaysBetween c.args.noted.now c.note.new.noted base end m (data_after command m)) (sym c.in-Set.is) (set_stays c.args.noted.now c.note.new.noted base end m c.in-Set.key c.in-Set.field-1 is))

pub returns-in-Increment : goal.returns-in-Increment
returns-in-Increment g c =
    let base = map_in c.args.base.now in
    let end = g.V.OrderedView.content c.args.end.now in
    ok_then c.note-in-Increment.result c.note-in-Increment.ensures (λ is m.
    subst (λ command. StaysBetween c.args.noted.now c.note-in-Increment.new.noted base end m (data_after command m)) (sym c.in-Increment.is) (increment_stays c.args.noted.now c.note-in-Increment.new.noted base end m c.in-Increment.key c.in-Increment.field-1 is))

pub returns-in-Kill : goal.returns-in-Kill
returns-in-Kill g c =
    let base = map_in c.args.base.now in
    let end = g.V.OrderedView.content c.args.end.now in
    ok_then c.note_based.result c.note_based.ensures (λ is m.
    subst (λ command. StaysBetween c.args.noted.now c.note_based.new.noted base end m (data_after command m)) (sym c.in-Kill.is) (kill_stays c.args.noted.now c.note_based.new.noted base end m c.in-Kill.root c.in-Kill.field-1 is))

pub returns-in-Merge : goal.returns-in-Merge
returns-in-Merge g c =
    let base = map_in c.args.base.now in
    let end = g.V.OrderedView.content c.args.end.now in
    ok_then c.note_both.result c.note_both.ensures (λ is m.
    subst (λ command. StaysBetween c.args.noted.now c.note_both.new.noted base end m (data_after command m)) (sym c.in-Merge.is) (merge_stays c.args.noted.now c.note_both.new.noted base end m c.in-Merge.target c.in-Merge.field-1 is))
