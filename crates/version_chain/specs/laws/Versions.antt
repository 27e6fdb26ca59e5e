-- Laws of what is seen at a stamp, for callers. Read at_head, at_of-before and at_settled.
use Rattle.std.proofs.Common.{◌≡◌, ℕ, suc, ◌<◌, ◌≤◌, List, [], ◌∷◌, Option, refl, sym, ap, subst, arith}
use Rattle.std.specs.Prelude.{leb, cond}
use mathlib.Core.Bool.{Bool, true, false}
use lib.Dec.{T, leb→le, le→leb}
use Rattle.version_chain.specs.Versions.{Entry, at_of, IsAbove}

true_of : (b : Bool) → T b → b ≡ true
true_of true t = refl
true_of false t = absurd t

pub leb_yes : (a h : ℕ) → a ≤ h → leb a h ≡ true
leb_yes a h le = true_of (leb a h) (le→leb a h le)

pub leb_no : (a h : ℕ) (b : Bool) → leb a h ≡ b → h < a → b ≡ false
leb_no a h true e lt = absurd (omega (arith, leb→le a h (subst T (sym e) tt)))
leb_no a h false e lt = refl

pub below_of : (a h : ℕ) → leb a h ≡ true → a ≤ h
below_of a h e = leb→le a h (subst T (sym e) tt)

module _ {V : Type 0} where
  -- at its own stamp the newest version is seen
  pub at_head : (s : ℕ) (x : Option V) (vs : List (Entry V)) → at_of s ((s, x) ∷ vs) ≡ x
  at_head s x vs = ap (λ b. cond b x (at_of s vs)) (leb_yes s s (omega arith))

  -- a version changes nothing that is seen before it
  pub at_of-before : (s stamp : ℕ) (x : Option V) (vs : List (Entry V)) → s < stamp → at_of s ((stamp, x) ∷ vs) ≡ at_of s vs
  at_of-before s stamp x vs before = ap (λ b. cond b x (at_of s vs)) (leb_no stamp s (leb stamp s) refl before)

  -- from a stamp on that no version is after, the same is seen
  pub at_settled : (now s : ℕ) (vs : List (Entry V)) → IsAbove (suc now) vs → now ≤ s → at_of s vs ≡ at_of now vs
  at_settled now s [] low le = refl
  at_settled now s (v ∷ vs) low le = rw (leb_yes v.0 s (omega (arith, low, le)), leb_yes v.0 now (omega (arith, low))) refl
