-- Keys that have one value alone may be left out of a turn: no cut changes them.
use Rattle.std.proofs.Common.{◌≡◌, ℕ, List, [], ◌∷◌, length, refl, sym, ap, ◌∙◌, arith}
use Rattle.std.specs.Prelude.{Bool, true, false, not, ◌&&◌, cond, filter, min, Option, Some, None}
use Rattle.std.specs.FinMap as finmap
use Rattle.collation.specs.Reference.{Reference}
use Rattle.version_chain.specs.Chains.{listed}
use Rattle.version_chain.specs.Cut.{left_after}
use Rattle.version_chain.specs.Versions.{is_one_value}
use Rattle.version_chain.specs.laws.Cut.{left_after-one}
use Rattle.version_store.specs.Versions.{Row, Versions, versions_of, is_bare, is_worth_a_cut, last_or}
use Rattle.collector.specs.declared.turning.Progress.{Progress}
use Rattle.collector.specs.Turn.{kept, is_among, row_left, versions_gone, keys_gone, IsProgress, AreAllPlaced}
use Rattle.collector.proofs.NextLemmas.{among_filter}

kept_one : (vs : Row) → is_one_value vs ≡ true → kept vs ≡ Some vs
kept_one [] e = absurd (cc)
kept_one (v ∷ vs) e = refl

same_row : (h : ℕ) (o : Option Row) → is_one_value (listed o) ≡ true → kept (left_after h (listed o)) ≡ o
same_row h None e = absurd (cc)
same_row h (Some vs) e = ap kept (left_after-one h vs e) ∙ kept_one vs e

pub row_worth : (h : ℕ) (m : Versions) (rs : List Reference) (r : Reference) → row_left h (filter (is_worth_a_cut m) rs) m r ≡ row_left h rs m r
row_worth h m rs r =
    ap (λ b. cond b (kept (left_after h (versions_of m r))) (finmap.get m r)) (among_filter (is_worth_a_cut m) r rs) ∙ by_test (is_one_value (versions_of m r)) (is_among rs r) refl
  where
    by_test : (b t : Bool) → is_one_value (versions_of m r) ≡ b → cond (not b && t) (kept (left_after h (versions_of m r))) (finmap.get m r) ≡ cond t (kept (left_after h (versions_of m r))) (finmap.get m r)
    by_test true true e = sym (same_row h (finmap.get m r) e)
    by_test true false e = refl
    by_test false t e = refl

gone_worth : (h : ℕ) (m : Versions) (rs : List Reference) → versions_gone h m (filter (is_worth_a_cut m) rs) ≡ versions_gone h m rs
gone_worth h m [] = refl
gone_worth h m (r ∷ rs) = by_test (is_one_value (versions_of m r)) refl (gone_worth h m rs)
  where
    rest : List Reference
    rest = filter (is_worth_a_cut m) rs

    by_test : (b : Bool) → is_one_value (versions_of m r) ≡ b → versions_gone h m rest ≡ versions_gone h m rs → versions_gone h m (cond (not b) (r ∷ rest) rest) ≡ versions_gone h m (r ∷ rs)
    by_test true e same = let none = ap (λ (vs : Row). length vs) (left_after-one h (versions_of m r) e) in omega (arith, same, none)
    by_test false e same = omega (arith, same)

not_bare : (vs : Row) → is_one_value vs ≡ true → is_bare (Some vs) ≡ false
not_bare [] e = absurd (cc)
not_bare (v ∷ vs) e = refl

keys_worth : (h : ℕ) (m : Versions) (rs : List Reference) → keys_gone h m (filter (is_worth_a_cut m) rs) ≡ keys_gone h m rs
keys_worth h m [] = refl
keys_worth h m (r ∷ rs) = by_test (is_one_value (versions_of m r)) refl (keys_worth h m rs)
  where
    rest : List Reference
    rest = filter (is_worth_a_cut m) rs

    bare : List Reference → List Reference
    bare = filter (λ q. is_bare (Some (left_after h (versions_of m q))))

    by_bare : (t : Bool) → length (bare rest) ≡ length (bare rs) → length (cond t (r ∷ bare rest) (bare rest)) ≡ length (cond t (r ∷ bare rs) (bare rs))
    by_bare true same = omega (arith, same)
    by_bare false same = same

    by_test : (b : Bool) → is_one_value (versions_of m r) ≡ b → length (bare rest) ≡ length (bare rs) → length (bare (cond (not b) (r ∷ rest) rest)) ≡ length (bare (r ∷ rs))
    by_test true e same =
        let stays = ap (λ vs. is_bare (Some vs)) (left_after-one h (versions_of m r) e) ∙ not_bare (versions_of m r) e in
        same ∙ sym (ap (λ t. length (cond t (r ∷ bare rs) (bare rs))) stays)
    by_test false e same = by_bare (is_bare (Some (left_after h (versions_of m r)))) same

-- what the visits of the others do is what all visits do
pub progress_worth : (h : ℕ) (m : Versions) (rs ks : List Reference) (each : Progress) (n : ℕ) → ks ≡ filter (is_worth_a_cut m) rs → n ≡ length rs → IsProgress h ks m each → IsProgress h rs m (record each { visited = n })
progress_worth h m rs ks each n worth visited is =
    record {
      visited = visited;
      dropped = is.dropped ∙ ap (λ l. min 18446744073709551615 (versions_gone h m l)) worth ∙ ap (min 18446744073709551615) (gone_worth h m rs);
      removed = is.removed ∙ ap (keys_gone h m) worth ∙ keys_worth h m rs;
      left = is.left;
    }

pub placed_filter : (P : Reference → Bool) (m : Versions) (rs : List Reference) → AreAllPlaced m rs → AreAllPlaced m (filter P rs)
placed_filter P m [] are = tt
placed_filter P m (r ∷ rs) are = by_test (P r) (placed_filter P m rs are.1)
  where
    by_test : (b : Bool) → AreAllPlaced m (filter P rs) → AreAllPlaced m (cond b (r ∷ filter P rs) (filter P rs))
    by_test true rest = (are.0, rest)
    by_test false rest = rest

last_there : (r : Reference) (rs : List Reference) → last_or (Some r) rs ≡ None → ⊥
last_there r [] e = cc
last_there r (q ∷ qs) e = last_there q qs e

-- the mark, where there is a last one and where there is none
pub marked_some : (mark : Option Reference) (rs : List Reference) (k : Reference) → last_or None rs ≡ Some k → last_or mark rs ≡ Some k
marked_some mark [] k e = absurd (cc)
marked_some mark (r ∷ rs) k e = e

pub marked_none : (mark : Option Reference) (rs : List Reference) → last_or None rs ≡ None → last_or mark rs ≡ mark
marked_none mark [] e = refl
marked_none mark (r ∷ rs) e = absurd (last_there r rs e)
