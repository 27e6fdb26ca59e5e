use Rattle.std.proofs.Common.{◌≡◌, ◌∷◌, ◌+◌, ◌-◌, ◌∙◌, ◌≤◌, List, ap, sym, subst, length, drop, arith}
use Rattle.std.specs.List.{All}
use Rattle.journal.specs.Claims.{first_unit}
use Rattle.journal.specs.Gathered.{IsGetOf}
use Rattle.journal.specs.Kept.{Claim, claims_of}
use Rattle.journal.proofs.Gathering.{claims_next, claims_none}
use Rattle.journal.proofs.receipts.Receipts.next.Goals as goal

pub returns-clause-next : goal.returns-clause-next
returns-clause-next c =
    let s = c.self.inside in
    let units = s.gets.value.units in
    let held = c.self.invariant in
    let gets = subst (λ (job : _). All (IsGetOf job) units) (sym held.1.1.0) held.1.1.1 in
    let next = claims_next s.job s.number s.left units (omega (arith, c.if-self-eq0.false)) held.0 gets in
    sym c.self.view_is
    ∙ (next ∙ ap (λ (cs : List Claim). (record { job = s.job; number = s.number + 1; unit = first_unit cs s.job }) ∷ claims_of (s.number + 1 + 1) (drop (length units - (s.left - 1)) units)) (c.self.view_is ∙ sym c.of.ensures))
