use Rattle.std.proofs.Common.{◌≡◌, length, arith}
use Rattle.listing.specs.laws.Bytes.{on_err}
use Rattle.journal_lines.specs.Journals.{dropped}
use Rattle.journal_lines.proofs.Writing.{gathered_begun}
use Rattle.journal_lines.proofs.whole.write_journal.Goals as goal

pub returns-in_err-write_gathered-clause-err : goal.returns-in_err-write_gathered-clause-err
returns-in_err-write_gathered-clause-err g c =
    let none : length (dropped c.args.journal.now) ≡ 0 = omega (arith, c.if-number-gt0.false, c.number.ensures, c.base.ensures.number) in
    let so_far = rw (c.new-out.ensures.items, c.new-pending.ensures.items, c.units.ensures) at c.in_ok-write_units.ensures.ok in
    on_err _ _ (gathered_begun _ _ _ _ _ _ none so_far c.in_err-write_gathered.ensures.err)
