-- The runs of a string are its longest: together they are the string, and where two meet the kind of byte changes.
use Rattle.std.proofs.Common.{◌≡◌, ℕ, Bool, true, false, cond, List, [], ◌∷◌, refl, sym, ap, subst, ◌∙◌}
use Rattle.std.proofs.lemmas.Bool.{and_from}
use Rattle.std.specs.Prelude.{◌≢◌}
use Rattle.std.specs.List.{list_all, flat_map}
use Rattle.std.specs.Bool.{beq}
use Rattle.m_text.specs.Written.{is_plain, put_before, runs}
use Rattle.m_text.specs.Statements.{kind_of, IsOfOneKind, AreRuns}

same_kind : (a b : Bool) → beq a b ≡ true → a ≡ b
same_kind true true e = refl
same_kind false false e = refl
same_kind true false e = absurd cc
same_kind false true e = absurd cc

other_kind : (a b : Bool) → beq a b ≡ false → a ≢ b
other_kind true true e = absurd cc
other_kind false false e = absurd cc
other_kind true false e = λ p. absurd cc
other_kind false true e = λ p. absurd cc

same_itself : (a : Bool) → beq a a ≡ true
same_itself true = refl
same_itself false = refl

-- a byte of the first run's kind goes before it
one_more : (b c : ℕ) (r : List ℕ) → is_plain b ≡ is_plain c → IsOfOneKind (c ∷ r) → IsOfOneKind (b ∷ c ∷ r)
one_more b c r e h = subst (λ (k : Bool). list_all (λ x. beq (is_plain x) k) (c ∷ r) ≡ true) (sym e) (and_from _ _ (same_itself (is_plain c)) h)

joined : (b c : ℕ) (r : List ℕ) (rs : List (List ℕ)) → is_plain b ≡ is_plain c → AreRuns ((c ∷ r) ∷ rs) → AreRuns ((b ∷ c ∷ r) ∷ rs)
joined b c r [] e h = one_more b c r e h
joined b c r (q ∷ rs) e h = (one_more b c r e h.0, subst (λ (k : Bool). k ≢ kind_of q) (sym e) h.1, h.2)

put_runs : (b : ℕ) (rs : List (List ℕ)) → AreRuns rs → AreRuns (put_before b rs)
put_runs b [] h = refl
put_runs b ([] ∷ []) h = absurd h
put_runs b ([] ∷ q ∷ rs) h = absurd h.0
put_runs b ((c ∷ r) ∷ rs) h = at (beq (is_plain b) (is_plain c)) refl
  where
    at : (t : Bool) → beq (is_plain b) (is_plain c) ≡ t → AreRuns (cond t ((b ∷ c ∷ r) ∷ rs) ((b ∷ []) ∷ (c ∷ r) ∷ rs))
    at true e = joined b c r rs (same_kind _ _ e) h
    at false e = (refl, other_kind _ _ e, h)

pub runs_are_runs : (s : List ℕ) → AreRuns (runs s)
runs_are_runs [] = tt
runs_are_runs (b ∷ bs) = put_runs b (runs bs) (runs_are_runs bs)

-- what the runs are together
put_joined : (b : ℕ) (rs : List (List ℕ)) → flat_map (λ (r : List ℕ). r) (put_before b rs) ≡ b ∷ flat_map (λ (r : List ℕ). r) rs
put_joined b [] = refl
put_joined b ([] ∷ rs) = refl
put_joined b ((c ∷ r) ∷ rs) = at (beq (is_plain b) (is_plain c))
  where
    at : (t : Bool) → flat_map (λ (r : List ℕ). r) (cond t ((b ∷ c ∷ r) ∷ rs) ((b ∷ []) ∷ (c ∷ r) ∷ rs)) ≡ b ∷ flat_map (λ (r : List ℕ). r) ((c ∷ r) ∷ rs)
    at true = refl
    at false = refl

pub runs_joined : (s : List ℕ) → flat_map (λ (r : List ℕ). r) (runs s) ≡ s
runs_joined [] = refl
runs_joined (b ∷ bs) = put_joined b (runs bs) ∙ ap (λ xs. b ∷ xs) (runs_joined bs)
