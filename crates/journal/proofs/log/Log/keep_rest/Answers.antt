use Rattle.std.proofs.Common.{rules, ap, subst, sym, ◌∙◌, ◌≡◌, ℕ, [], take, drop, length, List}
use Rattle.journal.specs.declared.unit.Unit.{Unit as JournalUnit}
use Rattle.journal.specs.Log.{Logged, KeepsUnits, units_in}
use Rattle.journal.proofs.Rests.{rest_kept, rest_is, Kept}
use Rattle.journal.proofs.log.Log.keep_rest.Goals as goal

-- the same where the length has another word
again : (rest : List ℕ) (left n : ℕ) (later : List JournalUnit) → n ≡ length rest → Kept rest left later → KeepsUnits rest n left × ((units_in left (take n rest) ≡ later) × (drop n rest ≡ []))
again rest left n later e h = subst (λ k. KeepsUnits rest k left × ((units_in left (take k rest) ≡ later) × (drop k rest ≡ []))) (sym e) (h.keeps, (h.units, h.behind))

pub invariant_of-self : goal.invariant_of-self
invariant_of-self c =
    let r = c.requires.rest in
    ((again c.args.rest.items c.args.left c.len-self-inside.result r.1 (search rules) (rest_kept c.args.rest.items c.args.left r.1 r.2.1)).0, search rules)

pub returns : goal.returns
returns c =
    let r = c.requires.rest in
    let t = (again c.args.rest.items c.args.left c.len-self-inside.result r.1 (search rules) (rest_kept c.args.rest.items c.args.left r.1 r.2.1)).1 in
    record { units = t.0 ∙ rest_is c.args.rest.items c.args.left c.args.self.now.units r.0 r.1 r.2.0 r.2.1; ends = ap (λ (k : Logged). k.ends) c.self.view_is; behind = t.1 }
