-- The key of a number, from its parts.
use Rattle.std.proofs.Common.{◌≡◌, ℕ, ◌<◌, List, [], ◌∷◌, ◌++◌, length, true, false, refl, ap, sym, ◌∙◌, arith}
use Rattle.std.proofs.lemmas.Bool.{and_left}
use Rattle.std.proofs.lemmas.Bool.Decides.{nat_tests}
use Rattle.std.specs.Prelude.{◌==◌, ◌&&◌}
use Rattle.canonic_number.specs.Number.{is_canonic}
use Rattle.canonic_number.specs.Place.{digits_of}
use Rattle.canonic_number.specs.PartsOf.{IsPartsOf}
use Rattle.canonic_number.specs.laws.Classes.{IsOfClass, Zero, Below, Above, class_of_text}
use Rattle.canonic_number.specs.declared.place.NumberParts.{NumberParts}
use Rattle.key_codec.specs.Key.{KeyForm, subscript_key, IsSubscriptWithin}
use Rattle.key_codec.specs.PartsKey.{parts_key}
use Rattle.key_codec.specs.laws.Subscripts.{zero_key, key_below, key_above}

some_digits : (a b : List ℕ) → 0 < length (a ++ b) → ((length a == 0) && (length b == 0)) ≡ false
some_digits [] [] h = absurd (omega arith)
some_digits [] (y ∷ b) h = grind (arith, nat_tests)
some_digits (x ∷ a) b h = and_left (length (x ∷ a) == 0) (length b == 0) (grind (arith, nat_tests))

no_digits : (a b : List ℕ) → a ++ b ≡ [] → ((length a == 0) && (length b == 0)) ≡ true
no_digits [] [] e = refl
no_digits [] (y ∷ b) e = cc
no_digits (x ∷ a) b e = cc

by_class : (form : KeyForm) (s : List ℕ) (n : NumberParts) → is_canonic s ≡ true → IsPartsOf s n → IsOfClass form.fraction s → parts_key form n ≡ subscript_key form s
by_class form s n is of (Zero e) =
    let none = no_digits n.first.now n.second.now (of.digits ∙ ap digits_of e) in
    rw none (sym (zero_key form s e))
by_class form s n is of (Below p z m) =
    let some = some_digits n.first.now n.second.now (omega (arith, ap length of.digits, p.form.some)) in
    let sign : n.negative ≡ true = of.sign ∙ m in
    rw (some, sign, of.digits, of.place form.fraction) (sym (key_below form s is z m))
by_class form s n is of (Above p z m) =
    let some = some_digits n.first.now n.second.now (omega (arith, ap length of.digits, p.form.some)) in
    let sign : n.negative ≡ false = of.sign ∙ m in
    rw (some, sign, of.digits, of.place form.fraction) (sym (key_above form s is z m))

pub parts_key_is : (form : KeyForm) (s : List ℕ) (n : NumberParts) → is_canonic s ≡ true → IsSubscriptWithin form s → IsPartsOf s n → parts_key form n ≡ subscript_key form s
parts_key_is form s n is bounds of = by_class form s n is of (class_of_text form.fraction s is bounds.short)
