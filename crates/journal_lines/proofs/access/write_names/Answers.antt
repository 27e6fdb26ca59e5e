use Rattle.std.proofs.Common.{[], ap, ◌++◌, ◌∙◌, ◌∷◌}
use Rattle.std.specs.Prelude.{codes}
use Rattle.m_text.specs.Written.{literal_text}
use Rattle.journal_lines.specs.Steps.{direction_text, start_text}
use Rattle.journal_lines.proofs.Named.{behind_five}
use Rattle.journal_lines.proofs.access.write_names.Goals as goal

pub returns-clause-ok : goal.returns-clause-ok
returns-clause-ok c =
    let old = c.args.out.now.items in
    let start = literal_text (start_text c.args.start.now) in
    let direction = direction_text c.args.direction in
    c.in_ok-push-2.ensures.items
    ∙ ap (λ t. t ++ 41 ∷ [])
    (c.in_ok-write_direction.ensures.ok ∙ ap (λ t. t ++ direction) (c.in_ok-push.ensures.items ∙ ap (λ t. t ++ 41 ∷ []) (c.in_ok-write_start.ensures.ok ∙ ap (λ t. t ++ start) c.in_ok-extend_from_slice.ensures.items)))
    ∙ behind_five old (codes "$ORDER(^$GLOBAL(") start (41 ∷ []) direction (41 ∷ [])
