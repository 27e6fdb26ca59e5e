-- Numbers, strings, references and lists: what reads as one is what is written of it.
use Rattle.std.proofs.Common.{◌≡◌, ℕ, ◌≤◌, ◌<◌, ◌^◌, Bool, List, [], ◌∷◌, ◌++◌, length, take, drop, get_or, true, false, zero, suc, refl, ap, sym, subst, ◌∙◌, arith, append_assoc, Option, Some, None, eqb-true, leb-true, ltb-true, ltb-false, length-take-le, take-append-drop}
use Rattle.std.proofs.lemmas.Bool.Decides.{nat_tests}
use Rattle.std.proofs.lemmas.List.Elements.{All-drop, All-take, All-get_or}
use Rattle.std.proofs.lemmas.Nat.{be_bytes_2, be_bytes_8}
use Rattle.std.proofs.lemmas.Option.{option_and_then_some, some_pair_parts, same_Some, none-some}
use Rattle.std.proofs.Math.ListN.{get_or-eq_default}
use Rattle.std.specs.Prelude.{◌==◌, nat_lt, nat_le, if◌then◌else◌}
use Rattle.std.specs.List.{flat_map}
use Rattle.std.specs.Option.{option_or}
use Rattle.std.specs.Int.{Width, w16, w64, byte_len, to_be_bytes, from_be_bytes}
use Rattle.collation.specs.Reference.{Reference}
use Rattle.key_codec.specs.Back.{reference_of}
use Rattle.key_codec.specs.Key.{key_of, IsFaultless}
use Rattle.journal.specs.Statements.{AreBytes}
use Rattle.journal.specs.Format.{number_bytes, string_bytes, has_end, without_end, reference_bytes}
use Rattle.journal.specs.Reading.{number_at, wide_at, string_at, is_key, key_at, endless_at, ended_at, reference_at, list_at}
use Rattle.journal.specs.Stored.{FitsNumber, FitsString, FitsReference, Each}
use Rattle.journal.specs.laws.Reading.{key_means, without_back, endless_back}

-- what was read stands there as it is written, in front of other bytes; and it keeps its limits
pub record IsRead {A : Type 0} (write : A → List ℕ) (Fits : A → Type 0) (bytes : List ℕ) (x : A) (rest : List ℕ) : Type 0 where
  pub written : bytes ≡ write x ++ rest
  pub fits : Fits x
  pub others : AreBytes rest

-- a reader that reads nothing else
abbrev pub IsExact : {A : Type 0} → (List ℕ → Option (A × List ℕ)) → (A → List ℕ) → (A → Type 0) → Type 0
IsExact {A} read write Fits = (bytes rest : List ℕ) (x : A) → AreBytes bytes → read bytes ≡ Some (x, rest) → IsRead write Fits bytes x rest

-- its kind or its count is this number
pub record HasNumber {A : Type 0} (number : ℕ) (number_of : A → ℕ) (Fits : A → Type 0) (x : A) : Type 0 where
  pub is : number ≡ number_of x
  pub fits : Fits x

-- ---- choices and parts

pub either_way : {A G : Type 0} (b : Bool) (x y z : A) → (if b then x else y) ≡ z → (b ≡ true → x ≡ z → G) → (b ≡ false → y ≡ z → G) → G
either_way true x y z e first second = first refl e
either_way false x y z e first second = second refl e

-- a choice that reads nothing where its test fails
pub if_so : {A G : Type 0} (b : Bool) (o : Option A) (z : A) → (if b then o else None) ≡ Some z → (b ≡ true → o ≡ Some z → G) → G
if_so true o z e so = so refl e
if_so false o z e so = absurd (none-some z e)

pub as_found : {A : Type 0} (write : A → List ℕ) (Fits : A → Type 0) (bytes : List ℕ) (x y : A) (s t : List ℕ) → ◌≡◌ {A = Option (A × List ℕ)} (Some (x, s)) (Some (y, t)) → IsRead write Fits bytes x s → IsRead write Fits bytes y t
as_found {A} write Fits bytes x y s t e h =
    let p = some_pair_parts x y s t e in
    subst (λ (z : A). IsRead write Fits bytes z t) p.0 (subst (λ (r : List ℕ). IsRead write Fits bytes x r) p.1 h)

-- two parts, one after the other
pub in_turn : (bytes first middle second rest : List ℕ) → bytes ≡ first ++ middle → middle ≡ second ++ rest → bytes ≡ (first ++ second) ++ rest
in_turn bytes first middle second rest e f = e ∙ ap (λ t. first ++ t) f ∙ sym (append_assoc first second rest)

pub at_number : {A : Type 0} (n m : ℕ) (number_of : A → ℕ) (write : A → List ℕ) (Fits : A → Type 0) (bytes : List ℕ) (x : A) (rest : List ℕ) → n ≡ m → IsRead write (HasNumber m number_of Fits) bytes x rest → IsRead write (HasNumber n number_of Fits) bytes x rest
at_number n m number_of write Fits bytes x rest e h = subst (λ k. IsRead write (HasNumber k number_of Fits) bytes x rest) (sym e) h

-- ---- bytes

first_byte : (b : ℕ) (bytes : List ℕ) → AreBytes (b ∷ bytes) → b < 256
first_byte b bytes h = All-get_or (λ x. x < 256) (b ∷ bytes) 0 0 (omega arith) h

pub other_bytes : (b : ℕ) (bytes : List ℕ) → AreBytes (b ∷ bytes) → AreBytes bytes
other_bytes b bytes h = All-drop (λ x. x < 256) 1 (b ∷ bytes) h

each_byte_by : (bs : List ℕ) → AreBytes bs → (i : ℕ) → (b : Bool) → nat_lt i (length bs) ≡ b → get_or bs i 0 < 256
each_byte_by bs h i true e = All-get_or (λ x. x < 256) bs i 0 (ltb-true i (length bs) e) h
each_byte_by bs h i false e = let none = get_or-eq_default bs 0 (ltb-false i (length bs) e) in omega (arith, none)

each_byte : (bs : List ℕ) → AreBytes bs → (i : ℕ) → get_or bs i 0 < 256
each_byte bs h i = each_byte_by bs h i (nat_lt i (length bs)) refl

-- ---- numbers

-- a number in so many bytes, at least so much
record IsWide (w : Width) (least n : ℕ) (bytes rest : List ℕ) : Type 0 where
  pub long : byte_len w ≤ length bytes
  pub some : least ≤ n
  pub is : n ≡ from_be_bytes w (take (byte_len w) bytes)
  pub behind : rest ≡ drop (byte_len w) bytes

wide_exact : (w : Width) (least n : ℕ) (bytes rest : List ℕ) → wide_at w least bytes ≡ Some (n, rest) → IsWide w least n bytes rest
wide_exact w least n bytes rest e =
    if_so (nat_le (byte_len w) (length bytes)) _ _ e λ long given.
    if_so (nat_le least (from_be_bytes w (take (byte_len w) bytes))) _ _ given λ some found.
    let p = some_pair_parts _ _ _ _ found in
    record {
      long = leb-true _ _ long;
      some = subst (λ m. least ≤ m) p.0 (leb-true _ _ some);
      is = sym p.0;
      behind = sym p.1;
    }

two_exact : (n : ℕ) (bytes rest : List ℕ) → AreBytes bytes → IsWide w16 254 n bytes rest → (bytes ≡ to_be_bytes w16 n ++ rest) × (n < 65536)
two_exact n bytes rest h e =
    let small : (i : ℕ) → get_or (take 2 bytes) i 0 < 256 = each_byte (take 2 bytes) (All-take (λ x. x < 256) 2 bytes h) in
    let first : to_be_bytes w16 n ≡ take 2 bytes = be_bytes_2 (take 2 bytes) n (length-take-le 2 bytes e.long) small e.is in (
      sym (take-append-drop 2 bytes) ∙ ap (λ t. t ++ drop 2 bytes) (sym first) ∙ ap (λ t. to_be_bytes w16 n ++ t) (sym e.behind),
      omega (arith, e.is, small 0, small 1),
    )

eight_exact : (n : ℕ) (bytes rest : List ℕ) → AreBytes bytes → IsWide w64 65536 n bytes rest → (bytes ≡ to_be_bytes w64 n ++ rest) × (n < 2 ^ 64)
eight_exact n bytes rest h e =
    let small : (i : ℕ) → get_or (take 8 bytes) i 0 < 256 = each_byte (take 8 bytes) (All-take (λ x. x < 256) 8 bytes h) in
    let first : to_be_bytes w64 n ≡ take 8 bytes = be_bytes_8 (take 8 bytes) n (length-take-le 8 bytes e.long) small e.is in (
      sym (take-append-drop 8 bytes) ∙ ap (λ t. t ++ drop 8 bytes) (sym first) ∙ ap (λ t. to_be_bytes w64 n ++ t) (sym e.behind),
      omega (arith, e.is, small 0, small 1, small 2, small 3, small 4, small 5, small 6, small 7),
    )

short_read : (b : ℕ) (bytes : List ℕ) → AreBytes bytes → nat_lt b 254 ≡ true → IsRead number_bytes FitsNumber (b ∷ bytes) b bytes
unfolding number_bytes
short_read b bytes h low =
    let below : b < 254 = ltb-true b 254 low in
    record { written = rw low refl; fits = record { fits = omega arith }; others = h }

two_read : (b n : ℕ) (bytes rest : List ℕ) → AreBytes bytes → b ≡ 254 → IsWide w16 254 n bytes rest → IsRead number_bytes FitsNumber (b ∷ bytes) n rest
unfolding number_bytes
two_read b n bytes rest h is e =
    let all = two_exact n bytes rest h e in
    let some : 254 ≤ n = e.some in
    let few : n < 65536 = all.1 in
    let long : nat_lt n 254 ≡ false = grind (arith, nat_tests) in
    let short : nat_lt n 65536 ≡ true = grind (arith, nat_tests) in
    record {
      written = rw (long, short, is) (ap (λ t. 254 ∷ t) all.0);
      fits = record { fits = omega arith };
      others = subst AreBytes (sym e.behind) (All-drop (λ x. x < 256) 2 bytes h);
    }

eight_read : (b n : ℕ) (bytes rest : List ℕ) → AreBytes bytes → b ≡ 255 → IsWide w64 65536 n bytes rest → IsRead number_bytes FitsNumber (b ∷ bytes) n rest
unfolding number_bytes
eight_read b n bytes rest h is e =
    let all = eight_exact n bytes rest h e in
    let some : 65536 ≤ n = e.some in
    let long : nat_lt n 254 ≡ false = grind (arith, nat_tests) in
    let longer : nat_lt n 65536 ≡ false = grind (arith, nat_tests) in
    record {
      written = rw (long, longer, is) (ap (λ t. 255 ∷ t) all.0);
      fits = record { fits = all.1 };
      others = subst AreBytes (sym e.behind) (All-drop (λ x. x < 256) 8 bytes h);
    }

last_byte : (b : ℕ) → b < 256 → nat_lt b 254 ≡ false → (b == 254) ≡ false → b ≡ 255
last_byte b h low other = grind (arith, nat_tests)

pub number_exact : IsExact number_at number_bytes FitsNumber
unfolding number_at
number_exact [] rest n h e = absurd (none-some _ e)
number_exact (b ∷ bytes) rest n h e =
    either_way (nat_lt b 254) _ _ _ e
    (λ low found. as_found number_bytes FitsNumber (b ∷ bytes) b n bytes rest found (short_read b bytes (other_bytes b bytes h) low))
    λ low given. either_way (b == 254) _ _ _ given
    (λ is found. two_read b n bytes rest (other_bytes b bytes h) (eqb-true b 254 is) (wide_exact w16 254 n bytes rest found))
    λ other found. eight_read b n bytes rest (other_bytes b bytes h) (last_byte b (first_byte b bytes h) low other) (wide_exact w64 65536 n bytes rest found)

-- ---- strings and references

part_read : (bytes middle s rest : List ℕ) (n : ℕ) → IsRead number_bytes FitsNumber bytes n middle → n ≤ length middle → take n middle ≡ s → drop n middle ≡ rest → IsRead string_bytes FitsString bytes s rest
part_read bytes middle s rest n h long e f =
    let size : length s ≡ n = ap length (sym e) ∙ length-take-le n middle long in
    let some : n < 2 ^ 64 = h.fits.fits in
    let front : bytes ≡ number_bytes (length s) ++ middle = h.written ∙ ap (λ m. number_bytes m ++ middle) (sym size) in
    let parts : middle ≡ s ++ rest = sym (take-append-drop n middle) ∙ ap (λ t. t ++ drop n middle) e ∙ ap (λ t. s ++ t) f in
    record {
      written = in_turn bytes (number_bytes (length s)) middle s rest front parts;
      fits = record { fits = subst (λ m. m < 2 ^ 64) (sym size) some };
      others = subst AreBytes f (All-drop (λ x. x < 256) n middle h.others);
    }

pub string_exact : IsExact string_at string_bytes FitsString
unfolding string_at
string_exact bytes rest s h e =
    option_and_then_some _ (number_at bytes) _ e λ n number given.
    if_so (nat_le n.0 (length n.1)) _ _ given λ long found.
    let p = some_pair_parts _ _ _ _ found in
    part_read bytes n.1 s rest n.0 (number_exact bytes n.1 n.0 h number) (leb-true _ _ long) p.0 p.1

key_exact : (bytes : List ℕ) (r : Reference) → key_at bytes ≡ Some r → IsFaultless r × (bytes ≡ key_of r)
unfolding key_at
key_exact bytes r e =
    if_so (is_key bytes) _ _ e λ known found.
    let is : reference_of bytes ≡ r = same_Some _ _ found in
    let means = key_means bytes known in
    (subst IsFaultless is means.0, means.1 ∙ ap key_of is)

-- as the key with the end byte, or as a whole one
ended_by : (bytes : List ℕ) (r : Reference) (o : Option Reference) → key_at (bytes ++ 0 ∷ []) ≡ o → option_or o (endless_at bytes) ≡ Some r → IsFaultless r × (bytes ≡ without_end (key_of r))
unfolding endless_at
ended_by bytes r (Some x) ended e =
    let k = key_exact (bytes ++ 0 ∷ []) r (ended ∙ e) in
    (k.0, sym (without_back bytes) ∙ ap without_end k.1)
ended_by bytes r None ended e =
    either_way (has_end bytes) _ _ _ e
    (λ has none. absurd (none-some _ none))
    λ endless found.
    let k = key_exact bytes r found in
    (k.0, sym (endless_back bytes endless) ∙ ap without_end k.1)

ended_exact : (bytes : List ℕ) (r : Reference) → ended_at bytes ≡ Some r → IsFaultless r × (bytes ≡ without_end (key_of r))
unfolding ended_at
ended_exact bytes r e = ended_by bytes r (key_at (bytes ++ 0 ∷ [])) refl e

reference_read : (bytes s rest : List ℕ) (r : Reference) → IsRead string_bytes FitsString bytes s rest → ended_at s ≡ Some r → IsRead reference_bytes FitsReference bytes r rest
reference_read bytes s rest r h e =
    let k = ended_exact s r e in
    record {
      written = h.written ∙ ap (λ t. string_bytes t ++ rest) k.1;
      fits = record { form = k.0; fits = subst (λ (t : List ℕ). length t < 2 ^ 64) k.1 h.fits.fits };
      others = h.others;
    }

pub reference_exact : IsExact reference_at reference_bytes FitsReference
unfolding reference_at
reference_exact bytes rest r h e =
    option_and_then_some _ (string_at bytes) _ e λ s string given.
    option_and_then_some _ (ended_at s.0) _ given λ x key found.
    as_found reference_bytes FitsReference bytes x r s.1 rest found (reference_read bytes s.0 s.1 x (string_exact bytes s.1 s.0 h string) key)

-- ---- lists

pub list_exact : {A : Type 0} (f : List ℕ → Option (A × List ℕ)) (g : A → List ℕ) (P : A → Type 0) → IsExact f g P → (n : ℕ) → IsExact (list_at f n) (flat_map g) (HasNumber n length (Each P))
list_exact f g P exact zero bytes rest xs h e = as_found (flat_map g) (HasNumber zero length (Each P)) bytes [] xs bytes rest e (record { written = refl; fits = record { is = refl; fits = tt }; others = h })
list_exact f g P exact (suc n) bytes rest xs h e =
    option_and_then_some _ (f bytes) _ e λ x first given.
    option_and_then_some _ (list_at f n x.1) _ given λ ys more found.
    let a = exact bytes x.1 x.0 h first in
    let b = list_exact f g P exact n x.1 ys.1 ys.0 a.others more in
    as_found (flat_map g) (HasNumber (suc n) length (Each P)) bytes (x.0 ∷ ys.0) xs ys.1 rest found (record {
      written = in_turn bytes (g x.0) x.1 (flat_map g ys.0) ys.1 a.written b.written;
      fits = record { is = ap suc b.fits.is; fits = (a.fits, b.fits.fits) };
      others = b.others;
    })
