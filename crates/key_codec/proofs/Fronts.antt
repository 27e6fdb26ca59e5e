-- References of the first so many subscripts.
use Rattle.std.proofs.Common.{◌≡◌, ◌≤◌, ℕ, List, [], ◌∷◌, zero, suc, false, length, take, arith}
use Rattle.std.proofs.lemmas.Bool.Decides.{nat_tests}
use Rattle.std.specs.Prelude.{nat_lt}
use Rattle.collation.specs.Reference.{Reference}
use Rattle.key_codec.specs.Key.{IsFaultless, long_form, AreSubscriptsWithin}
use Rattle.key_codec.specs.laws.Key.{are_subscripts, no_fault, not_over, not_too_many}

taken_within : (len : ℕ) (ss : List (List ℕ)) → AreSubscriptsWithin long_form ss → AreSubscriptsWithin long_form (take len ss)
taken_within zero ss a = tt
taken_within (suc len) [] a = tt
taken_within (suc len) (s ∷ ss) a = (a.0, taken_within len ss a.1)

taken_fewer : (len : ℕ) (ss : List (List ℕ)) → length (take len ss) ≤ length ss
taken_fewer zero ss = omega arith
taken_fewer (suc len) [] = omega arith
taken_fewer (suc len) (s ∷ ss) = let h : length (take len ss) ≤ length ss = taken_fewer len ss in omega (arith, h)

-- the reference of the first subscripts keeps the limits
pub front_fits : (x : Reference) (len : ℕ) → IsFaultless x → IsFaultless (record { name = x.name; subscripts = take len x.subscripts })
front_fits x len is =
    let few : nat_lt 31 (length x.subscripts) ≡ false = (not_over (nat_lt 31 (length x.subscripts)) _ is.subscripts).0 in
    let fewer : nat_lt 31 (length (take len x.subscripts)) ≡ false = grind (arith, nat_tests, taken_fewer len x.subscripts) in
    record { name = is.name; subscripts = rw fewer (no_fault (take len x.subscripts) (taken_within len x.subscripts (are_subscripts x.subscripts (not_too_many x.subscripts is.subscripts)))) }
