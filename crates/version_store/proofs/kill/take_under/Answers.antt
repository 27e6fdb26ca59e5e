use Rattle.std.proofs.Common.{◌≡◌, true, false, sym, subst, ◌∙◌}
use Rattle.std.specs.Prelude.{not, cond}
use Rattle.std.specs.List.{filter}
use Rattle.std.specs.Ordering.{is_lt}
use Rattle.collation.specs.Order.{ref_cmp}
use Rattle.collation.specs.Database.{is_under}
use Rattle.collation.specs.Levels.{is_before}
use Rattle.key_map.specs.laws.Removal.{between_under}
use Rattle.version_store.specs.Killed.{Tells}
use Rattle.version_store.proofs.kill.take_under.Goals as goal

pub returns-in-Nothing : goal.returns-in-Nothing
returns-in-Nothing c =
    let r = c.args.root.now in
    let all = c.args.tree.now.pairs in
    sym (subst (λ p. Tells p r all (filter (λ e. not (is_under r e.0)) all)) c.in-Nothing.is c.requires)

pub returns-in-Itself : goal.returns-in-Itself
returns-in-Itself c =
    let r = c.args.root.now in
    let all = c.args.tree.now.pairs in
    c.remove.ensures.pairs ∙ sym (subst (λ p. Tells p r all (filter (λ e. not (is_under r e.0)) all)) c.in-Itself.is c.requires)

pub returns-in-More : goal.returns-in-More
returns-in-More c =
    let r = c.args.root.now in
    let all = c.args.tree.now.pairs in
    let same : filter (λ e. not (cond (is_lt (ref_cmp e.0 r)) false (is_before true r e.0))) all ≡ filter (λ e. not (is_under r e.0)) all = λ i. filter (λ e. not (between_under r e.0 i)) all in
    c.remove_between.ensures.pairs ∙ same
