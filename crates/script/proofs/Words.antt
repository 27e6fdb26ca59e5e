-- Letters of another length than a word's.
use Rattle.std.proofs.Common.{◌≡◌, ℕ, Bool, true, false, List, [], ◌∷◌, length, refl, sym, ap, ◌∙◌, nat_eq}
use Rattle.std.proofs.Math.Dec.{eqb-suc-suc}
use Rattle.std.proofs.lemmas.Bool.{eq-eqb}
use Rattle.std.specs.Prelude.{◌&&◌, ◌==◌, zero}
use Rattle.std.specs.Char.{to_ascii_uppercase}
use Rattle.m_text.specs.Literal.{is_word}

never : (t : Bool) → (t && false) ≡ false
never true = refl
never false = refl

-- they aren't that word
pub of_other_length : (word letters : List ℕ) → nat_eq (length word) (length letters) ≡ false → nat_eq (length word) (length letters) ≡ is_word word letters
of_other_length [] [] h = absurd (let both : true ≡ false = sym (eq-eqb zero zero refl) ∙ h in cc)
of_other_length [] (b ∷ bs) h = h
of_other_length (w ∷ ws) [] h = h
of_other_length (w ∷ ws) (b ∷ bs) h =
    let fewer : nat_eq (length ws) (length bs) ≡ false = sym (eqb-suc-suc (length ws) (length bs)) ∙ h in
    let rest : is_word ws bs ≡ false = sym (of_other_length ws bs fewer) ∙ fewer in
    h ∙ sym (ap (λ (t : Bool). (to_ascii_uppercase b == w) && t) rest ∙ never (to_ascii_uppercase b == w))
