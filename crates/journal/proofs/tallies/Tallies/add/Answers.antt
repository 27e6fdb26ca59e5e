use Rattle.std.proofs.Common.{ap, sym, ◌∙◌, ◌≡◌, ◌+◌, ◌-◌, ◌^◌, ◌<◌, min, length, arith}
use Rattle.journal.specs.Counting.{Tallies, tally_in, one_more}
use Rattle.journal.proofs.Tallied.{one_set, read_at}
use Rattle.journal.proofs.tallies.Tallies.add.Goals as goal

pub returns : goal.returns
returns c =
    let ts = c.self.inside.counts.items in
    let number = c.number-number.ensures.value in
    let long : length ts ≡ length c.args.self.now = ap length c.self.view_is in
    let less : c.number-number.result < length ts = omega (arith, c.requires, number, long) in
    let was : c.index.result.now ≡ tally_in ts c.number-number.result = read_at ts c.number-number.result c.index.result.now less c.index.ensures in
    one_set ts c.number-number.result c.saturating_add-count.result less (c.saturating_add-count.ensures ∙ ap (λ n. min (n + 1) (2 ^ 64 - 1)) was)
    ∙ ap (λ j. one_more j ts) number ∙ ap (one_more c.args.job) c.self.view_is
