-- What lies under the lock after a step.
use Rattle.std.proofs.Common.{◌≡◌, ℕ, ◌+◌, ◌-◌, ◌^◌, List, [], ◌∷◌, ◌++◌, length, length-append, Some, false, sym, ap, ◌∙◌, subst, arith}
use Rattle.std.specs.Prelude.{Option, min, Result, Ok, Err, IfOk}
use Rattle.refusal.specs.declared.Refusal.{Refusal}
use Rattle.collector.specs.declared.turning.Progress.{Progress}
use Rattle.journal.specs.declared.unit.Unit.{Unit as JournalUnit}
use Rattle.journal.specs.declared.unit.Unit.TheVariants.{Whole}
use Rattle.journal.specs.Kept.{Claim}
use Rattle.validate_commit.specs.Working.{Working}
use Rattle.validate_commit.specs.Verdicts.{has_been_overtaken}
use Rattle.validate_commit.specs.declared.committing.Verdict.{Verdict}
use Rattle.validate_commit.specs.declared.committing.Verdict.TheVariants.{Committed, Restart}
use Rattle.job_core.specs.Common.{Common, HasAdded, IsEnded, IsUnchanged, HasTurned, one_end_fewer}
use Rattle.pin_board.specs.declared.view.DeskView.{DeskView}
use Rattle.atomic_table.specs.Seated.{TableId}
use Rattle.pin_board.specs.Named.{DeskAt, FreeAt}
use Rattle.pin_board.specs.Views.{logged}
use Rattle.shared_engine.specs.Engines.{IsLocked, AreInPlace, sessions_in}

-- the desk has the unit that was added
pub log_next : (u : JournalUnit) (told : Claim) (oldest : Option ℕ) (old new : Common) (desk later : DeskView) → desk.log ≡ old.units → HasAdded u told oldest old new → later ≡ logged desk told → later.log ≡ new.units
log_next u told oldest old new desk later same h step =
    ap (λ (d : DeskView). d.log) step ∙ ((λ i. same i ++ (ap (λ (c : Claim). c.unit) h.receipt) i ∷ []) ∙ sym h.units)

-- a unit was added, and the core was told the horizon
pub locked_added : (u : JournalUnit) (told : Claim) (old new : Common) (desk later : DeskAt) (seats : List (Option FreeAt)) (horizon opened : ℕ) → IsLocked old desk seats horizon opened → HasAdded u told (Some horizon) old new
    → later.knows ≡ logged desk.knows told → later.table ≡ desk.table → IsLocked new later seats horizon opened
locked_added u told old new desk later seats horizon opened is h step table =
    let high : later.knows.high ≡ desk.knows.high = ap (λ (d : DeskView). d.high) step in record {
      log = log_next u told (Some horizon) old new desk.knows later.knows is.log h step;
      cut = omega (arith, is.cut, is.high, h.cut, high);
      base = omega (arith, is.base, h.base, high);
      high = omega (arith, is.high, high);
      now = omega (arith, is.now, ap length h.units, length-append old.units (u ∷ []));
      wide = ap (λ (d : DeskView). d.seats) step ∙ is.wide;
      dealt = is.dealt ∙ sym (ap (λ (d : DeskView). d.dealt) step);
      opened_is = subst (λ (n : ℕ). opened ≡ min n (2 ^ 64 - 1)) (sym (ap (λ (d : DeskView). d.given) step)) is.opened_is;
      ends = h.ends ∙ is.ends;
      placed = subst (λ (t : TableId). AreInPlace t seats) (sym table) is.placed;
    }

-- the core was refused something
pub locked_unchanged : (old new : Common) (desk : DeskAt) (seats : List (Option FreeAt)) (horizon opened : ℕ) → IsLocked old desk seats horizon opened → IsUnchanged old new → IsLocked new desk seats horizon opened
locked_unchanged old new desk seats horizon opened is h = record {
  log = is.log ∙ sym h.units;
  cut = omega (arith, is.cut, h.cut);
  base = omega (arith, is.base, h.base);
  high = is.high;
  now = omega (arith, is.now, ap length h.units);
  wide = is.wide;
  dealt = is.dealt;
  opened_is = is.opened_is;
  ends = h.ends ∙ is.ends;
  placed = is.placed;
}

-- a session has ended whose end had room
locked_halted : (old : Common) (desk : DeskAt) (seats fewer : List (Option FreeAt)) (horizon opened : ℕ) → IsLocked old desk seats horizon opened → length fewer ≡ length seats → sessions_in fewer + 1 ≡ sessions_in seats → AreInPlace desk.table fewer
    → IsLocked (one_end_fewer old) desk fewer horizon opened
locked_halted old desk seats fewer horizon opened is long one placed = record {
  log = is.log;
  cut = is.cut;
  base = is.base;
  high = is.high;
  now = is.now;
  wide = is.wide;
  dealt = long ∙ is.dealt;
  opened_is = is.opened_is;
  ends = omega (arith, is.ends, one);
  placed = placed;
}

pub locked_after_halt : (u : JournalUnit) (told : Claim) (old new : Common) (desk later : DeskAt) (seats fewer : List (Option FreeAt)) (horizon opened : ℕ) → IsLocked old desk seats horizon opened → HasAdded u told (Some horizon) (one_end_fewer old) new
    → later.knows ≡ logged desk.knows told → later.table ≡ desk.table → length fewer ≡ length seats → sessions_in fewer + 1 ≡ sessions_in seats → AreInPlace desk.table fewer → IsLocked new later fewer horizon opened
locked_after_halt u told old new desk later seats fewer horizon opened is h step table long one placed =
    locked_added u told (one_end_fewer old) new desk later fewer horizon opened (locked_halted old desk seats fewer horizon opened is long one placed) h step table

-- a turn of the collector was at some horizon
pub turned_at : (result : Result Progress Refusal) (horizon limit : ℕ) (old new : Common) → IfOk result (λ p. HasTurned horizon limit p old.store new.store) → IfOk result (λ p. (h : ℕ) × HasTurned h limit p old.store new.store)
turned_at (Ok progress) horizon limit old new turn = (horizon, turn)
turned_at (Err refusal) horizon limit old new turn = tt

-- a commit that is a unit
pub committed_added : (v : Verdict) (told : Claim) (w : Working) (oldest : Option ℕ) (old new : Common) → v ≡ Committed told → IsEnded v w oldest old new → HasAdded (Whole w.job w.exchanges) told oldest old new
committed_added v told w oldest old new is ended = (subst (λ (x : Verdict). IsEnded x w oldest old new) is ended).1.0

-- one that is to begin anew
pub restart_same : (v : Verdict) (w : Working) (oldest : Option ℕ) (old new : Common) → v ≡ Restart → IsEnded v w oldest old new → new ≡ old
restart_same v w oldest old new is ended = (subst (λ (x : Verdict). IsEnded x w oldest old new) is ended).1

pub committed_stands : (v : Verdict) (told : Claim) (w : Working) (oldest : Option ℕ) (old new : Common) → v ≡ Committed told → IsEnded v w oldest old new → has_been_overtaken w old.units ≡ false
committed_stands v told w oldest old new is ended = (subst (λ (x : Verdict). IsEnded x w oldest old new) is ended).0
