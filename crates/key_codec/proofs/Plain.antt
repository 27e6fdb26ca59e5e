-- Texts whose bytes are their own escapes.
use Rattle.std.proofs.Common.{◌≡◌, ℕ, ◌<◌, true, List, [], ◌∷◌, ◌++◌, refl, ap, ◌∙◌, arith}
use Rattle.std.proofs.lemmas.Bool.Decides.{nat_tests}
use Rattle.std.specs.Prelude.{nat_lt}
use Rattle.std.specs.Cmp.{first_so, second_so}
use Rattle.std.specs.List.{list_all}
use Rattle.key_codec.specs.Key.{escape, escaped}
use Rattle.key_codec.specs.laws.Bytes.{by_byte}

own_escape : (b : ℕ) → nat_lt 1 b ≡ true → escape b ≡ b ∷ []
own_escape b e =
    let above : 1 < b = grind (arith, nat_tests) in
    by_byte b (λ h. absurd (omega (arith, above, h))) (λ h. absurd (omega (arith, above, h))) (λ h g. g)

pub plain_escaped : (t : List ℕ) → list_all (λ b. nat_lt 1 b) t ≡ true → escaped t ≡ t
plain_escaped [] e = refl
plain_escaped (b ∷ t) e =
    ap (λ x. x ++ escaped t) (own_escape b (first_so (nat_lt 1 b) _ e)) ∙ ap (λ x. b ∷ x) (plain_escaped t (second_so (nat_lt 1 b) _ e))
