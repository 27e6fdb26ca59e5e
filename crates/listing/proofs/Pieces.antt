-- The last line's end in the front of a text.
use Rattle.std.proofs.Common.{◌≡◌, ℕ, ◌<◌, ◌≤◌, List, length, take, get_or, subst, sym, ◌∙◌, arith}
use Rattle.std.proofs.lemmas.List.{length-take-le, get_or-take}
use Rattle.std.proofs.lemmas.Bool.{eqb-true, eq-eqb}
use Rattle.std.specs.Prelude.{Some, None, ◌≢◌}
use Rattle.bstr.specs.Find.{IsLastByte, is_byte}

-- it stands in the front, and is one in the text
pub end_in_front : (n : ℕ) (text : List ℕ) (end : ℕ) → n ≤ length text → IsLastByte (is_byte 10) (take n text) (Some end) → (end < n) × (get_or text end 0 ≡ 10)
end_in_front n text end le h =
    let low = subst (λ m. end < m) (length-take-le n text le) h.0.high in
    (low, sym (get_or-take n text end 0 low) ∙ eqb-true _ _ h.1)

-- or none stands there
pub none_in_front : (n : ℕ) (text : List ℕ) → n ≤ length text → IsLastByte (is_byte 10) (take n text) None → (i : ℕ) → i < n → get_or text i 0 ≢ 10
none_in_front n text le h i low is =
    h i (omega arith) (subst (λ m. i < m) (sym (length-take-le n text le)) low) (eq-eqb _ _ (get_or-take n text i 0 low ∙ is))
