use Rattle.std.proofs.Common.{rules, ◌++◌, ◌∙◌, [], ℕ, ap, sym, subst}
use Rattle.std.specs.Prelude.{if◌then◌else◌}
use Rattle.journal.specs.Log.{Logged, Stands}
use Rattle.journal.proofs.Logs.{appended}
use Rattle.journal.proofs.log.Log.append.Goals as goal

pub invariant_of-self-2 : goal.invariant_of-self-2
invariant_of-self-2 c =
    let s = c.self.inside in
    let bytes = c.as_slice.result.now in
    let units = c.args.gets.now.units in
    let stands = subst (λ n. Stands bytes n units) (sym c.len.ensures) c.as_slice.ensures in
    let copied = c.extend_from_slice-copied.ensures.items ∙ ap (λ b. if b then s.bytes.items ++ bytes else s.bytes.items) c.in_ok-settle.ensures.ok.0 in
    ((appended s.bytes.items bytes c.settle.new.bytes.items s.end c.len-all.result s.count c.len.result units c.self.invariant.0 (ap (λ (k : Logged). k.behind) c.self.view_is ∙ c.requires.behind) stands (c.in_ok-settle.ensures.ok.1 ∙ copied) (search rules)).keeps, c.in_ok-settle.ensures.room)

pub returns-clause-ok : goal.returns-clause-ok
returns-clause-ok c =
    let s = c.self.inside in
    let bytes = c.as_slice.result.now in
    let units = c.args.gets.now.units in
    let stands = subst (λ n. Stands bytes n units) (sym c.len.ensures) c.as_slice.ensures in
    let copied = c.extend_from_slice-copied.ensures.items ∙ ap (λ b. if b then s.bytes.items ++ bytes else s.bytes.items) c.in_ok-settle.ensures.ok.0 in
    (appended s.bytes.items bytes c.settle.new.bytes.items s.end c.len-all.result s.count c.len.result units c.self.invariant.0 (ap (λ (k : Logged). k.behind) c.self.view_is ∙ c.requires.behind) stands (c.in_ok-settle.ensures.ok.1 ∙ copied) (search rules)).units
    ∙ ap (λ (k : Logged). k.units ++ units) c.self.view_is
