use Rattle.std.proofs.Common.{◌≡◌, Bool, true, sym, ap, subst, ◌∙◌}
use Rattle.std.specs.Prelude.{not}
use Rattle.std.specs.FinMap as finmap
use Rattle.std.specs.FinMap.{is_sorted}
use Rattle.collation.specs.Reference.{Reference}
use Rattle.collation.specs.Order.{ref_cmp}
use Rattle.globals.specs.Cuts.{stands_before}
use Rattle.globals.specs.declared.cut.Cut.TheVariants.{Past}
use Rattle.steady_map.specs.Shown.{is_between}
use Rattle.key_map.proofs.Pairs.{map_where, sorted_where}
use Rattle.key_map.proofs.map.KeyMap.remove_from.Goals as goal

pub invariant_of-self : goal.invariant_of-self
invariant_of-self g c =
    let q : Reference → Bool = λ x. not (is_between (stands_before c.args.from) (stands_before (Past c.args.root)) x) in
    subst (λ fs. is_sorted ref_cmp fs ≡ true) (sym c.remove_between.ensures.pairs) (sorted_where q c.self.inside.tree.pairs c.self.invariant)

pub returns : goal.returns
returns g c =
    let q : Reference → Bool = λ x. not (is_between (stands_before c.args.from) (stands_before (Past c.args.root)) x) in
    ap finmap.from_sorted c.remove_between.ensures.pairs ∙ map_where q c.self.inside.tree.pairs c.self.invariant ∙ ap (λ m. finmap.retain_keys m q) c.self.view_is
