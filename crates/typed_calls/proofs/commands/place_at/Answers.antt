use Rattle.std.proofs.Common.{Bool, subst, sym}
use Rattle.std.specs.Prelude.{OnOk}
use Rattle.typed_calls.specs.Typed.{IsQueryCause, IsWithin}
use Rattle.typed_calls.proofs.commands.place_at.Goals as goal

pub returns-then-is_open-clause-within : goal.returns-then-is_open-clause-within
returns-then-is_open-clause-within c =
    subst (λ (b : Bool). OnOk c.open_below.result (IsWithin (λ refusal. IsQueryCause c.args.key.now b refusal))) (sym c.if-is_open.true) c.open_below.ensures.within
