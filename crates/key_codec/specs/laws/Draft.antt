-- How the faults of subscripts go on with one more.
use Rattle.std.proofs.Common.{◌≡◌, ℕ, Bool, true, false, cond, List, [], ◌∷◌, ◌++◌, length, Option, Some, None, refl, ap, sym, ◌∙◌}
use Rattle.std.specs.Prelude.{◌==◌, nat_lt}
use Rattle.std.specs.Option.{option_or}
use Rattle.canonic_number.specs.Number.{limit}
use Rattle.refusal.specs.declared.Refusal.{Refusal}
use Rattle.refusal.specs.declared.Refusal.TheVariants.{EmptySubscript, SubscriptTooLong}
use Rattle.key_codec.specs.Draft.{open_fault}
use Rattle.collation.specs.Faults.{subscripts_fault, ends_open, closed_part}

pub ends_open-more : (ss : List (List ℕ)) (s : List ℕ) → ends_open (ss ++ s ∷ []) ≡ (length s == 0)
ends_open-more [] s = refl
ends_open-more (t ∷ []) s = refl
ends_open-more (t ∷ u ∷ ss) s = ends_open-more (u ∷ ss) s

pub closed_part-more : (ss : List (List ℕ)) (s : List ℕ) → closed_part (ss ++ s ∷ []) ≡ cond (length s == 0) ss (ss ++ s ∷ [])
closed_part-more [] s = refl
closed_part-more (t ∷ []) s = at (length s == 0)
  where
    at : (b : Bool) → t ∷ cond b [] (s ∷ []) ≡ cond b (t ∷ []) (t ∷ s ∷ [])
    at true = refl
    at false = refl
closed_part-more (t ∷ u ∷ ss) s = ap (λ x. t ∷ x) (closed_part-more (u ∷ ss) s) ∙ at (length s == 0)
  where
    at : (b : Bool) → t ∷ cond b (u ∷ ss) (u ∷ (ss ++ s ∷ [])) ≡ cond b (t ∷ u ∷ ss) (t ∷ u ∷ (ss ++ s ∷ []))
    at true = refl
    at false = refl

pub closed_part-whole : (ss : List (List ℕ)) → ends_open ss ≡ false → closed_part ss ≡ ss
closed_part-whole [] e = refl
closed_part-whole (s ∷ []) e = rw e refl
closed_part-whole (s ∷ t ∷ ss) e = ap (λ x. s ∷ x) (closed_part-whole (t ∷ ss) e)

by_first : (a b : Bool) (rest : Option Refusal) → cond a (Some EmptySubscript) (cond b (Some SubscriptTooLong) rest) ≡ option_or (cond a (Some EmptySubscript) (cond b (Some SubscriptTooLong) None)) rest
by_first true b rest = refl
by_first false true rest = refl
by_first false false rest = refl

or_assoc : (a b c : Option Refusal) → option_or a (option_or b c) ≡ option_or (option_or a b) c
or_assoc None b c = refl
or_assoc (Some x) b c = refl

or_none : (a : Option Refusal) → option_or a None ≡ a
or_none None = refl
or_none (Some x) = refl

fault-first : (s : List ℕ) (ss : List (List ℕ)) → subscripts_fault (s ∷ ss) ≡ option_or (subscripts_fault (s ∷ [])) (subscripts_fault ss)
fault-first s ss = by_first (length s == 0) (nat_lt limit (length s)) (subscripts_fault ss)

pub fault-more : (ss : List (List ℕ)) (s : List ℕ) → subscripts_fault (ss ++ s ∷ []) ≡ option_or (subscripts_fault ss) (subscripts_fault (s ∷ []))
fault-more [] s = refl
fault-more (t ∷ ss) s =
    fault-first t (ss ++ s ∷ []) ∙ ap (option_or (subscripts_fault (t ∷ []))) (fault-more ss s)
    ∙ or_assoc (subscripts_fault (t ∷ [])) (subscripts_fault ss) (subscripts_fault (s ∷ [])) ∙ ap (λ f. option_or f (subscripts_fault (s ∷ []))) (sym (fault-first t ss))

-- all subscripts, by those without an empty last one
pub fault-closed : (ss : List (List ℕ)) → subscripts_fault ss ≡ option_or (subscripts_fault (closed_part ss)) (open_fault (ends_open ss))
fault-closed [] = refl
fault-closed (s ∷ []) = at (length s == 0) refl
  where
    at : (b : Bool) → (length s == 0) ≡ b → subscripts_fault (s ∷ []) ≡ option_or (subscripts_fault (cond b [] (s ∷ []))) (open_fault b)
    at true e = rw e refl
    at false e = sym (or_none (subscripts_fault (s ∷ [])))
fault-closed (s ∷ t ∷ ss) =
    fault-first s (t ∷ ss) ∙ ap (option_or (subscripts_fault (s ∷ []))) (fault-closed (t ∷ ss))
    ∙ or_assoc (subscripts_fault (s ∷ [])) (subscripts_fault (closed_part (t ∷ ss))) (open_fault (ends_open (t ∷ ss)))
    ∙ ap (λ f. option_or f (open_fault (ends_open (t ∷ ss)))) (sym (fault-first s (closed_part (t ∷ ss))))

-- the fault with one more that isn't empty
pub fault-pushed : (ss : List (List ℕ)) (s : List ℕ) → (length s == 0) ≡ false → subscripts_fault (closed_part (ss ++ s ∷ [])) ≡ option_or (option_or (subscripts_fault (closed_part ss)) (open_fault (ends_open ss))) (subscripts_fault (s ∷ []))
fault-pushed ss s e =
    ap subscripts_fault (closed_part-more ss s ∙ ap (λ b. cond b ss (ss ++ s ∷ [])) e) ∙ fault-more ss s ∙ ap (λ f. option_or f (subscripts_fault (s ∷ []))) (fault-closed ss)

-- and with an empty one
pub fault-opened : (ss : List (List ℕ)) (s : List ℕ) → (length s == 0) ≡ true → subscripts_fault (closed_part (ss ++ s ∷ [])) ≡ option_or (subscripts_fault (closed_part ss)) (open_fault (ends_open ss))
fault-opened ss s e = ap subscripts_fault (closed_part-more ss s ∙ ap (λ b. cond b ss (ss ++ s ∷ [])) e) ∙ fault-closed ss

-- nothing is at fault
pub record AreFaultless (f : Option Refusal) (is_open : Bool) : Type 0 where
  pub fault : f ≡ None
  pub closed : is_open ≡ false

pub faultless : (f : Option Refusal) (is_open : Bool) → option_or f (open_fault is_open) ≡ None → AreFaultless f is_open
faultless None false e = record { fault = refl; closed = refl }
faultless None true e = cc
faultless (Some x) b e = cc

pub or_left : (a b : Option Refusal) → option_or a b ≡ None → a ≡ None
or_left None b e = refl
or_left (Some x) b e = cc
