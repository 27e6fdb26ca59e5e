use Rattle.std.proofs.Common.{[], ap, ◌++◌, ◌∙◌, ◌∷◌}
use Rattle.std.specs.Prelude.{codes}
use Rattle.m_text.specs.Written.{literal_text, reference_text}
use Rattle.journal_lines.proofs.Named.{behind_five}
use Rattle.journal_lines.proofs.access.write_increment.Goals as goal

pub returns-clause-ok : goal.returns-clause-ok
returns-clause-ok c =
    let old = c.args.out.now.items in
    let key = reference_text c.args.key.now in
    let number = literal_text c.as_slice.result.now in
    c.in_ok-push-2.ensures.items
    ∙ ap (λ t. t ++ 41 ∷ [])
    (c.in_ok-write_literal.ensures.ok ∙ ap (λ t. t ++ number) (c.in_ok-push.ensures.items ∙ ap (λ t. t ++ 44 ∷ []) (c.in_ok-write_key.ensures.ok ∙ ap (λ t. t ++ key) c.in_ok-extend_from_slice.ensures.items)))
    ∙ behind_five old (codes "$INCREMENT(") key (44 ∷ []) number (41 ∷ [])
    ∙ ap (λ n. old ++ (codes "$INCREMENT(" ++ (key ++ (44 ∷ (literal_text n ++ 41 ∷ []))))) c.as_slice.ensures
