-- What is left of a line grows shorter.
use Rattle.std.proofs.Common.{◌≡◌, ◌≤◌, ℕ, List, ◌++◌, length, Option, Some, None, refl, ap, arith, length-append}
use Rattle.std.proofs.lemmas.Option.{same_Some}
use Rattle.collation.specs.Reference.{Reference}
use Rattle.m_text.specs.Reading.{rest_of}
use Rattle.m_text.specs.Literal.{literal_at}
use Rattle.m_text.specs.Place.{place_at}
use Rattle.m_text.specs.laws.Literal.{literal_found}
use Rattle.m_text.specs.laws.Place.{place_found}

behind : (all text rest : List ℕ) → all ≡ text ++ rest → length rest ≤ length all
behind all text rest e = omega (arith, ap length e, length-append text rest)

-- after a literal
pub past_literal : (text s rest : List ℕ) → literal_at text ≡ Some (s, rest) → length rest ≤ length text
past_literal text s rest e = let found = literal_found text s rest e in behind text found.text rest found.parts

pub rest_of_literal : (text rest : List ℕ) → rest_of (literal_at text) ≡ Some rest → length rest ≤ length text
rest_of_literal text rest e = at (literal_at text) e (λ s r f. past_literal text s r f)
  where
    at : (read : Option (List ℕ × List ℕ)) → rest_of read ≡ Some rest → ((s r : List ℕ) → read ≡ Some (s, r) → length r ≤ length text) → length rest ≤ length text
    at None f h = absurd cc
    at (Some x) f h = let shorter = h x.0 x.1 refl in omega (arith, shorter, ap length (same_Some x.1 rest f))

-- after a reference or place
pub rest_of_place : (text rest : List ℕ) → rest_of (place_at text) ≡ Some rest → length rest ≤ length text
rest_of_place text rest e = at (place_at text) e (λ r t f. let found = place_found text r t f in behind text found.text t found.parts)
  where
    at : (read : Option (Reference × List ℕ)) → rest_of read ≡ Some rest → ((r : Reference) (t : List ℕ) → read ≡ Some (r, t) → length t ≤ length text) → length rest ≤ length text
    at None f h = absurd cc
    at (Some x) f h = let shorter = h x.0 x.1 refl in omega (arith, shorter, ap length (same_Some x.1 rest f))

pub ruleset shorter = (past_literal, rest_of_literal, rest_of_place)
