use Rattle.std.proofs.Common.{ap, not, true, [], ◌∙◌}
use Rattle.collation.specs.Levels.{is_before}
use Rattle.globals.specs.declared.cut.Cut.TheVariants.{Past}
use Rattle.embedded.specs.Names.{greatest_name}
use Rattle.embedded.specs.laws.Names.{behind_greatest, none_behind, past_name}
use Rattle.embedded.proofs.named.last_member.Goals as goal

pub unreachable-requires : goal.unreachable-requires
unreachable-requires g c =
    none_behind (Past c.args.greatest) (g.V.OrderedView.content c.args.view.now) _ (λ x. ap (λ q. not (is_before true q x)) c.requires ∙ past_name greatest_name x) c.in-Some.ensures c.as_slice-form.ensures.form.name

pub returns : goal.returns
returns g c =
    behind_greatest [] (Past c.args.greatest) (g.V.OrderedView.content c.args.view.now) _ (λ x. ap (λ q. not (is_before true q x)) c.requires ∙ past_name greatest_name x) c.in-None.ensures c.last_before.ensures
