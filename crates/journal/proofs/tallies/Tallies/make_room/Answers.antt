use Rattle.std.proofs.Common.{ap, ◌∙◌, ◌≤◌, length, arith}
use Rattle.journal.specs.Counting.{tally_in, one_more}
use Rattle.journal.proofs.Tallied.{room_same, room_one}
use Rattle.journal.proofs.tallies.Tallies.make_room.Goals as goal

pub loop-self-preserved : goal.loop-self-preserved
loop-self-preserved c =
    let ts = c.loop-self.self-inside.counts.items in
    let past : length ts ≤ c.number-number.result = omega (arith, c.len.ensures, c.loop-self-test.true) in
    record {
      same = λ q. ap (λ xs. tally_in xs q) c.in_ok-push.ensures.items ∙ room_same ts q ∙ c.loop-self.invariant.same q;
      one = ap (one_more c.number-number.result) c.in_ok-push.ensures.items ∙ room_one ts c.number-number.result past ∙ c.loop-self.invariant.one;
    }
