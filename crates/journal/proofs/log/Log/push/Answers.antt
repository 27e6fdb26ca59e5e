use Rattle.std.proofs.Common.{rules, ap, subst, sym, ◌++◌, ◌≡◌, ◌∷◌, [], ◌+◌, take}
use Rattle.std.specs.Prelude.{IfSome}
use Rattle.journal.specs.Log.{Logged, IsUnitOf, unit_in, units_in}
use Rattle.journal.proofs.Logs.{pushed}
use Rattle.journal.proofs.log.Log.push.Goals as goal

pub invariant_of-self : goal.invariant_of-self
invariant_of-self c =
    let s = c.self.inside in
    let unit = subst (λ (k : Logged). IsUnitOf k.behind c.requires.some.0 c.requires.some.1) (sym c.self.view_is) c.requires.some.2 in
    ((pushed s.bytes.items s.end c.len-self-inside.result s.count c.requires.some.0 c.requires.some.1 c.self.invariant.0 unit (search rules)).keeps, c.self.invariant.1)

pub returns : goal.returns
returns c =
    let s = c.self.inside in
    let unit = subst (λ (k : Logged). IsUnitOf k.behind c.requires.some.0 c.requires.some.1) (sym c.self.view_is) c.requires.some.2 in
    let h = pushed s.bytes.items s.end c.len-self-inside.result s.count c.requires.some.0 c.requires.some.1 c.self.invariant.0 unit (search rules) in
    record { units = subst (λ (k : Logged). IfSome (unit_in k.behind) (λ u. units_in (s.count + 1) (take c.len-self-inside.result s.bytes.items) ≡ k.units ++ u ∷ [])) c.self.view_is h.units; ends = ap (λ (k : Logged). k.ends) c.self.view_is; behind = h.behind }
