use Rattle.std.proofs.Common.{rules, ◌∙◌, ◌++◌, ◌∷◌, [], ℕ, List, ap, sym, subst}
use Rattle.key_codec.specs.laws.Grown.{back_to}
use Rattle.journal.specs.Gathered.{Gathered, got, AreGets}
use Rattle.journal.specs.Log.{Stands, units_in}
use Rattle.journal.proofs.Gathering.{one_gathered}
use Rattle.journal.proofs.gets.Gets.push.Goals as goal

pub invariant_of-self : goal.invariant_of-self
invariant_of-self c =
    let s = c.self.inside in
    let h = one_gathered s.job s.bytes.items c.push_get.new.bytes.items s.count c.args.key.now c.args.value.now c.self.invariant.0 c.self.invariant.1 c.in-Ok.ensures.fits c.in-Ok.ensures.bytes in
    (h.stands, h.gets)

pub returns-in-Ok-clause-ok : goal.returns-in-Ok-clause-ok
returns-in-Ok-clause-ok c =
    let s = c.self.inside in
    let h = one_gathered s.job s.bytes.items c.push_get.new.bytes.items s.count c.args.key.now c.args.value.now c.self.invariant.0 c.self.invariant.1 c.in-Ok.ensures.fits c.in-Ok.ensures.bytes in
    ap (λ us. record { job = s.job; units = us }) h.units_are ∙ ap (λ (g : Gathered). record { job = g.job; units = g.units ++ got g.job c.args.key.now c.args.value.now ∷ [] }) c.self.view_is

pub invariant_of-self-in-Err : goal.invariant_of-self-in-Err
invariant_of-self-in-Err c =
    let s = c.self.inside in
    let back = back_to s.bytes.items c.push_get.new.bytes.items c.truncate.new.self.items c.len-before.result c.in-Err.ensures.kept (search rules) c.truncate.ensures.items in
    subst (λ (bs : List ℕ). Stands bs s.count (units_in s.count bs) × AreGets (record { job = s.job; units = units_in s.count bs })) (sym back) c.self.invariant
