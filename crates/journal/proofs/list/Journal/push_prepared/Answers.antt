use Rattle.std.proofs.Common.{◌∙◌, ap, sym, subst, length}
use Rattle.std.specs.Prelude.{cond, Some}
use Rattle.journal.specs.Counting.{one_more}
use Rattle.journal.specs.Log.{HoldsPrepared}
use Rattle.journal.proofs.Moves.{pushed_tallies}
use Rattle.journal.proofs.list.Journal.push_prepared.Goals as goal
use Rattle.journal.proofs.list.Journal.push_prepared.Goals.{then-prepared, else-prepared}

pub invariant_of-self : goal.invariant_of-self
invariant_of-self c =
    let s = c.self.inside in
    let p = c.in-Some.prepared in
    let holds : HoldsPrepared (Some p) s.log (length s.tallies) = subst (λ o. HoldsPrepared o s.log (length s.tallies)) c.in-Some.is c.self.invariant.0 in
    elim c.if-prepared.branch [
      | then-prepared w ↦ rw w.self-inside-is (c.push.ensures.behind, pushed_tallies p s.log c.push.new.self s.tallies w.add.new.self (length s.tallies) holds c.self.invariant.1 c.push.ensures.units (w.add.ensures ∙ sym (ap (λ b. cond b (one_more p.job s.tallies) s.tallies) w.if-prepared.true)))
      | else-prepared w ↦ rw w.self-inside-is (c.push.ensures.behind, pushed_tallies p s.log c.push.new.self s.tallies s.tallies (length s.tallies) holds c.self.invariant.1 c.push.ensures.units (sym (ap (λ b. cond b (one_more p.job s.tallies) s.tallies) w.if-prepared.false)))
    ]
