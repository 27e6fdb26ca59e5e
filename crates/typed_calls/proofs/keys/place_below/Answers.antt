use Rattle.std.proofs.Common.{◌≡◌, ℕ, List, rules, subst, sym}
use Rattle.std.specs.Prelude.{IfOk, OnOk}
use Rattle.collation.specs.Reference.{Spot}
use Rattle.key_codec.specs.Draft.{longer, place_of}
use Rattle.typed_calls.specs.Typed.{IsPlaceCause, IsWithin}
use Rattle.typed_calls.proofs.Below.{empty, open_place}
use Rattle.typed_calls.proofs.keys.place_below.Goals as goal

pub returns-then-is_empty-clause-ok : goal.returns-then-is_empty-clause-ok
returns-then-is_empty-clause-ok c =
    subst (λ (s : List ℕ). IfOk c.open_below.result (λ place. place ≡ place_of (longer c.args.key.now s))) (sym (empty c.args.subscript.now (search rules)))
    (subst (λ (p : Spot). IfOk c.open_below.result (λ place. place ≡ p)) (sym (open_place c.args.key.now)) c.open_below.ensures.ok)

pub returns-then-is_empty-clause-within : goal.returns-then-is_empty-clause-within
returns-then-is_empty-clause-within c =
    subst (λ (s : List ℕ). OnOk c.open_below.result (IsWithin (λ refusal. IsPlaceCause c.args.key.now s refusal))) (sym (empty c.args.subscript.now (search rules))) c.open_below.ensures.within
