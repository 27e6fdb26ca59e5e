use Rattle.std.proofs.Common.{List, Option, [], ap, sym, ◌++◌, ◌∙◌, ◌∷◌, ℕ}
use Rattle.m_text.specs.Written.{literal_text}
use Rattle.journal_lines.specs.Steps.{start_text}
use Rattle.journal_lines.proofs.Named.{behind_two, name_literal}
use Rattle.journal_lines.proofs.access.write_start.Goals as goal

pub returns-in_ok-push-in-Some-clause-ok : goal.returns-in_ok-push-in-Some-clause-ok
returns-in_ok-push-in-Some-clause-ok c =
    let old = c.args.out.now.items in
    let n = c.as_slice.result.now in
    c.in_ok-push-in-Some.ensures.items
    ∙ ap (λ t. t ++ 34 ∷ []) (c.in_ok-extend_from_slice-in-Some-2.ensures.items ∙ ap (λ t. t ++ n) c.in_ok-extend_from_slice-in-Some.ensures.items)
    ∙ behind_two old (34 ∷ 94 ∷ []) n (34 ∷ [])
    ∙ ap (λ t. old ++ (34 ∷ 94 ∷ (t ++ 34 ∷ []))) c.as_slice.ensures.value
    ∙ ap (λ t. old ++ t) (sym (name_literal c.in-Some.name c.as_slice.ensures.form))
    ∙ ap (λ (s : Option (List ℕ)). old ++ literal_text (start_text s)) (sym c.in-Some.is)
