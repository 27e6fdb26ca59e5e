-- What follows where there is a next node.
use Rattle.std.proofs.Common.{◌≡◌, true}
use Rattle.std.specs.Option.{MatchOption, is_some}
use Rattle.std.specs.Prelude.{Option, None, Some}

-- a match on an option that is there
pub some_matches : {X : Type 0} (o : Option X) (A : Type 0) (B : X → Type 0) → is_some o ≡ true → ((x : X) → B x) → MatchOption o A B
some_matches None A B is each = absurd (cc)
some_matches (Some x) A B is each = each x
