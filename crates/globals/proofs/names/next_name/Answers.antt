use Rattle.std.proofs.Common.{◌≡◌, List, ℕ, refl, ap, ◌∙◌}
use Rattle.std.specs.Prelude.{Option, Some, None}
use Rattle.std.specs.Option.{option_map}
use Rattle.std.proofs.lemmas.Result.{IfOk-weaker}
use Rattle.collation.specs.Names.{bare}
use Rattle.collation.specs.Reference.{Reference}
use Rattle.globals.proofs.names.next_name.Goals as goal

bare_twice : (o : Option Reference) → option_map (λ (r : Reference). bare r.name) o ≡ option_map bare (option_map (λ (r : Reference). r.name) o)
bare_twice None = refl
bare_twice (Some r) = refl

pub returns : goal.returns
returns g c =
    IfOk-weaker c.root_of.result _ _ (λ root is. is ∙ bare_twice _ ∙ ap (option_map bare) (c.member_beyond.ensures c.args.start.now c.in_ok-from.ensures)) c.root_of.ensures
