-- What is left where subscripts are counted by their keys.
use Rattle.std.proofs.Common.{◌≡◌, ℕ, ◌+◌, Bool, List, [], ◌∷◌, ◌++◌, true, ap, sym, ◌∙◌, Option, Some, None, Bor, length, map, not, arith, ◌≤◌}
use Rattle.std.specs.Prelude.{nat_eq, MatchOption}
use Rattle.std.specs.List.{list_all}
use Rattle.canonic_number.specs.Place.{digits_of}
use Rattle.key_codec.specs.Key.{long_form, two_bytes, subscript_key, subscripts_key, escaped, IsSubscriptWithin, AreSubscriptsWithin}
use Rattle.key_codec.specs.laws.Back.{no_end, escaped_free}
use Rattle.key_codec.specs.Reading.{tag_of, digit_byte, number_end}
use Rattle.key_codec.proofs.Reading.{HasNumber, has_number, HasText, has_text, word_rest}

-- what the test of a first end byte says of the bytes after it
abbrev pub IsPast : ℕ → List ℕ → Option (Bor (List ℕ)) → Type 0
IsPast end bytes r = (xs v : List ℕ) → list_all (λ b. not (nat_eq b end)) xs ≡ true → bytes ≡ xs ++ end ∷ v → MatchOption r ⊥ (λ rest. rest.now ≡ v)

-- after a number
pub past_number : (n : Bool) (word : ℕ) (bytes behind s u : List ℕ) (r : Option (Bor (List ℕ))) → IsSubscriptWithin long_form s → tag_of n ∷ bytes ≡ subscript_key long_form s ++ u → bytes ≡ two_bytes word ++ behind → IsPast (number_end n) behind r → MatchOption r ⊥ (λ rest. rest.now ≡ u)
past_number n word bytes behind s u r bounds h e past =
    let has : HasNumber n bytes s u = has_number n bytes s u bounds h in
    let form = has.placed.form in
    past (map (digit_byte n) (digits_of s)) u (no_end n (digits_of s) form.digits) (word_rest word _ _ _ (sym e ∙ has.behind))

-- after a text
pub past_text : (bytes behind s u : List ℕ) (r : Option (Bor (List ℕ))) → IsSubscriptWithin long_form s → bytes ≡ subscript_key long_form s ++ u → bytes ≡ 5 ∷ behind → IsPast 0 behind r → MatchOption r ⊥ (λ rest. rest.now ≡ u)
past_text bytes behind s u r bounds h e past =
    let has : HasText behind s u = has_text behind s u bounds (sym e ∙ h) in
    past (escaped s) u (escaped_free s) has.behind

-- so many of the subscripts have been counted, and the rest is the keys of the others
pub record IsLeft (count : ℕ) (rest : List ℕ) (ss : List (List ℕ)) : Type 0 where
  pub more : List (List ℕ)
  pub bounds : AreSubscriptsWithin long_form more
  pub left : rest ≡ subscripts_key long_form more
  pub all : length ss ≡ count + length more

-- what skipping one subscript says
abbrev pub IsBehind : List ℕ → Option (Bor (List ℕ)) → Type 0
IsBehind bytes r = (s u : List ℕ) → IsSubscriptWithin long_form s → bytes ≡ subscript_key long_form s ++ u → MatchOption r ⊥ (λ rest. rest.now ≡ u)

pub left_next : (count next : ℕ) (rest : List ℕ) (ss : List (List ℕ)) (more : Bor (List ℕ)) → IsLeft count rest ss → length more.now + 1 ≤ length rest → IsBehind rest (Some more) → next ≡ count + 1 → IsLeft next more.now ss
left_next count next rest ss more is fewer behind n = at is.more is.bounds is.left is.all
  where
    at : (ms : List (List ℕ)) → AreSubscriptsWithin long_form ms → rest ≡ subscripts_key long_form ms → length ss ≡ count + length ms → IsLeft next more.now ss
    at [] a e c = absurd (omega (arith, ap length e))
    at (m ∷ ms) a e c = record { more = ms; bounds = a.1; left = behind m (subscripts_key long_form ms) a.0 e; all = omega arith }

pub left_none : (count : ℕ) (rest : List ℕ) (ss : List (List ℕ)) → IsLeft count rest ss → IsBehind rest None → count ≡ length ss
left_none count rest ss is behind = at is.more is.bounds is.left is.all
  where
    at : (ms : List (List ℕ)) → AreSubscriptsWithin long_form ms → rest ≡ subscripts_key long_form ms → length ss ≡ count + length ms → count ≡ length ss
    at [] a e c = omega arith
    at (m ∷ ms) a e c = absurd (behind m (subscripts_key long_form ms) a.0 e)
