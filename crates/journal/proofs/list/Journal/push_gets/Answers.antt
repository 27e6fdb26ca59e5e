use Rattle.std.proofs.Common.{◌∙◌, ◌++◌, ◌+◌, ◌-◌, ◌^◌, ◌<◌, refl, ap, sym, subst, min, length, arith}
use Rattle.std.specs.List.{All}
use Rattle.journal.specs.Counting.{tally_in}
use Rattle.journal.specs.Gathered.{IsGetOf}
use Rattle.journal.proofs.Gathering.{gets_tallied}
use Rattle.journal.proofs.Moves.{as_tallied}
use Rattle.journal.proofs.list.Journal.push_gets.Goals as goal

pub invariant_of-self-2 : goal.invariant_of-self-2
invariant_of-self-2 c =
    let s = c.self.inside in
    let did = c.in_ok-append.ensures in
    let job = c.job-2.result in
    let vs = c.args.gets.now.units in
    let ts = c.make_room.new.self in
    let same = c.clear_behind.ensures.units in
    let gets = subst (λ j. All (IsGetOf j) vs) (sym c.job-2.ensures.job) c.job-2.ensures.gets in
    let less : length s.log.units + length vs < 2 ^ 64 = omega (arith, did.fit, ap length same) in
    let this = c.add_all.ensures.this ∙ ap (λ n. min (tally_in ts job + n) (2 ^ 64 - 1)) c.len.ensures in (
      did.behind,
      gets_tallied ts c.add_all.new.self job s.log.units vs c.append.new.self.units (as_tallied s.tallies ts s.log.units s.log.units c.self.invariant.1 c.make_room.ensures.same refl) gets less (did.ok ∙ ap (λ us. us ++ vs) same) this c.add_all.ensures.others,
    )
