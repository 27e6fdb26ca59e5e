use Rattle.std.proofs.Common.{◌≤◌, ap, sym, subst, ◌∙◌, length, arith}
use Rattle.journal.specs.Gathered.{Gathered, AreGets}
use Rattle.journal.proofs.Gathering.{claims_all}
use Rattle.journal.proofs.receipts.Receipts.of.Goals as goal

pub invariant_of-result : goal.invariant_of-result
invariant_of-result c =
    let is = c.of.ensures in
    let long = ap (λ (g : Gathered). length g.units) is in (
      omega (arith, c.len.ensures, long),
      (omega (arith, c.len.ensures, c.requires), (c.job.ensures.job ∙ ap (λ (g : Gathered). g.job) (sym is), subst AreGets (sym is) c.job.ensures.gets)),
    )

pub returns : goal.returns
returns c = claims_all c.args.number c.len.result c.args.gets.now.units c.of.result.value.units c.len.ensures (ap (λ (g : Gathered). g.units) c.of.ensures)
