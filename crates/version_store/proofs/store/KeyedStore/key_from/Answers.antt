use Rattle.std.proofs.Common.{ℕ, sym, ap, ◌∙◌}
use Rattle.std.specs.Option.{option_map}
use Rattle.collation.specs.Reference.{Reference}
use Rattle.globals.specs.Cuts.{stands_before}
use Rattle.version_store.proofs.SeekLemmas.{key_in}
use Rattle.version_store.proofs.store.KeyedStore.key_from.Goals as goal

pub returns-in-Some : goal.returns-in-Some
returns-in-Some c =
    let s = c.self.inside in
    let found = rw c.in-Some.is at c.first_from.ensures.found in
    rw (← c.self.view_is) (ap (option_map (λ (p : Reference × ℕ). p.0)) found ∙ sym (key_in (stands_before c.args.cut) s.chains s.tree.pairs c.self.invariant.0.sorted))

pub returns-in-None : goal.returns-in-None
returns-in-None c =
    let s = c.self.inside in
    let found = rw c.in-None.is at c.first_from.ensures.found in
    rw (← c.self.view_is) (ap (option_map (λ (p : Reference × ℕ). p.0)) found ∙ sym (key_in (stands_before c.args.cut) s.chains s.tree.pairs c.self.invariant.0.sorted))
