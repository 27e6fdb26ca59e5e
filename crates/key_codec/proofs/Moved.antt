-- How deep a reference is by its key, and the key of a reference that is moved.
use Rattle.std.proofs.Common.{◌≡◌, ℕ, ◌+◌, ◌<◌, ◌≤◌, List, [], ◌∷◌, ◌++◌, true, false, ap, sym, subst, ◌∙◌, length, length-append, drop, not, arith}
use Rattle.std.proofs.Math.Seq.{drop-append_seam}
use Rattle.std.proofs.lemmas.Bool.{ltb-false}
use Rattle.std.proofs.lemmas.Bool.Decides.{nat_tests}
use Rattle.std.specs.Prelude.{nat_eq, nat_lt}
use Rattle.std.specs.List.{list_all}
use Rattle.collation.specs.Reference.{Reference}
use Rattle.collation.specs.Answers.{moved}
use Rattle.key_codec.specs.Key.{IsFaultless, key_of, long_form, subscripts_key, AreSubscriptsWithin}
use Rattle.key_codec.specs.Back.{reference_of}
use Rattle.key_codec.specs.Kept.{Keeps}
use Rattle.key_codec.specs.laws.Key.{no_fault, not_over, fits_long, key_of-append}
use Rattle.key_codec.proofs.Reading.{HasReference, has_reference}
use Rattle.key_codec.proofs.Children.{Behind, behind, kept, reads_back}

-- what counting subscripts by their keys says
abbrev pub IsCount : List ℕ → ℕ → Type 0
IsCount bytes n = (ss : List (List ℕ)) → AreSubscriptsWithin long_form ss → bytes ≡ subscripts_key long_form ss → n ≡ length ss

-- a reference has as many subscripts as are counted after its name's end
pub depth_is : (bytes front rest : List ℕ) (x : Reference) (n : ℕ) → IsFaultless x → bytes ≡ front ++ 0 ∷ rest → list_all (λ b. not (nat_eq b 0)) front ≡ true → bytes ≡ key_of x → IsCount rest n → n ≡ length x.subscripts
depth_is bytes front rest x n is b free e counted =
    let has : HasReference front rest x = has_reference bytes front rest x is b free e in
    counted x.subscripts has.subscripts has.keys

pub few_subscripts : (x : Reference) → IsFaultless x → length x.subscripts ≤ 31
few_subscripts x is = ltb-false _ _ (not_over (nat_lt 31 (length x.subscripts)) _ is.subscripts).0

-- what stands after a reference is moved after another
left_behind : (b x : Reference) (rest : List ℕ) (is : Behind b x rest) → drop (length b.subscripts) x.subscripts ≡ is.more
left_behind b x rest is = ap (drop (length b.subscripts)) is.all ∙ drop-append_seam b.subscripts is.more

moved_key : (a b x : Reference) (rest : List ℕ) → Behind b x rest → key_of a ++ rest ≡ key_of (moved a b x)
moved_key a b x rest is =
    ap (λ t. key_of a ++ t) is.bytes ∙ sym (key_of-append a is.more) ∙ (λ i. key_of (record { name = a.name; subscripts = a.subscripts ++ sym (left_behind b x rest is) i }))

moved_depth : (a b x : Reference) (rest : List ℕ) (n k : ℕ) → Behind b x rest → n ≡ length a.subscripts → IsCount rest k → n + k ≡ length (moved a b x).subscripts
moved_depth a b x rest n k is e counted =
    let more : k ≡ length (drop (length b.subscripts) x.subscripts) = counted is.more is.bounds is.bytes ∙ ap length (sym (left_behind b x rest is)) in
    omega (arith, e, more, length-append a.subscripts (drop (length b.subscripts) x.subscripts))

-- subscripts within the limit, one list after the other
both_some : (xs ys : List (List ℕ)) → AreSubscriptsWithin long_form xs → AreSubscriptsWithin long_form ys → AreSubscriptsWithin long_form (xs ++ ys)
both_some [] ys p q = q
both_some (x ∷ xs) ys p q = (p.0, both_some xs ys p.1 q)

moved_form : (a b x : Reference) (rest : List ℕ) → IsFaultless a → Behind b x rest → nat_lt 31 (length (moved a b x).subscripts) ≡ false → IsFaultless (moved a b x)
moved_form a b x rest form is few =
    let fits = fits_long a form in
    let all : AreSubscriptsWithin long_form (a.subscripts ++ drop (length b.subscripts) x.subscripts) = both_some a.subscripts _ fits.subscripts (subst (AreSubscriptsWithin long_form) (sym (left_behind b x rest is)) is.bounds) in
    record { name = form.name; subscripts = rw few (no_fault _ all) }

pub too_many : (a b x : Reference) (rest : List ℕ) (n k : ℕ) → IsFaultless b → IsFaultless x → key_of x ≡ key_of b ++ rest → n ≡ length a.subscripts → IsCount rest k → 31 < n + k → nat_lt 31 (length (moved a b x).subscripts) ≡ true
too_many a b x rest n k p q e d counted over =
    let depth : n + k ≡ length (moved a b x).subscripts = moved_depth a b x rest n k (behind b x rest p q e) d counted in
    let more : 31 < length (moved a b x).subscripts = subst (λ m. 31 < m) depth over in
    grind (arith, nat_tests)

-- the bytes are the key of the reference that is moved, and a key keeps it
pub record IsMoved (a b x : Reference) (bytes : List ℕ) : Type 0 where
  pub keeps : Keeps bytes (reference_of bytes)
  pub same : reference_of bytes ≡ moved a b x
  pub few : nat_lt 31 (length (reference_of bytes).subscripts) ≡ false

pub is_moved : (a b x : Reference) (to rest bytes : List ℕ) (n k : ℕ) → IsFaultless a → IsFaultless b → IsFaultless x → key_of x ≡ key_of b ++ rest → to ≡ key_of a → bytes ≡ to ++ rest → n ≡ length a.subscripts → IsCount rest k → n + k ≤ 31 → IsMoved a b x bytes
is_moved a b x to rest bytes n k form p q e t joined d counted within =
    let is : Behind b x rest = behind b x rest p q e in
    let depth : n + k ≡ length (moved a b x).subscripts = moved_depth a b x rest n k is d counted in
    let less : length (moved a b x).subscripts ≤ 31 = subst (λ m. m ≤ 31) depth within in
    let few : nat_lt 31 (length (moved a b x).subscripts) ≡ false = grind (arith, nat_tests) in
    let fits : IsFaultless (moved a b x) = moved_form a b x rest form is few in
    let key : bytes ≡ key_of (moved a b x) = joined ∙ ap (λ u. u ++ rest) t ∙ moved_key a b x rest is in
    let same : reference_of bytes ≡ moved a b x = reads_back bytes (moved a b x) fits key in
    record { keeps = kept bytes (moved a b x) fits key; same = same; few = ap (λ r. nat_lt 31 (length r.subscripts)) same ∙ few }
