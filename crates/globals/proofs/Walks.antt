-- A walk from member to member, as the list of what is left.
use Rattle.std.proofs.Common.{◌≡◌, ℕ, List, [], ◌∷◌, ◌++◌, Bor, sym, ap, subst, ◌∙◌, Some, length, drop, ◌<◌, arith}
use Rattle.std.specs.Prelude.{not}
use Rattle.globals.specs.declared.cut.Cut.TheVariants.{After}
use Rattle.std.specs.FinMap as finmap
use Rattle.collation.specs.Reference.{Reference}
use Rattle.collation.specs.Database.{Database}
use Rattle.globals.specs.declared.cut.Cut.{Cut}
use Rattle.globals.specs.Cuts.{stands_before, first_from_cut, entries_from, IsFront}
use Rattle.globals.specs.laws.Steps.{walk_step, head_found, tails}

-- the first of a list is one less left
pub shorter : {A : Type 0} (xs ys : List A) (x : A) → xs ≡ x ∷ ys → length ys < length xs
shorter xs ys x e = let n : length xs ≡ length (x ∷ ys) = ap length e in omega (arith, n)

-- ---- what is at hand

-- the first at hand is the first from the cut on, and the others are at hand after it
pub taken : (cut : Cut) (m : Database) (run rest : List (Reference × List ℕ)) (e : Bor Reference × Bor (List ℕ)) → IsFront run (entries_from cut m) → run ≡ (e.0.now, e.1.now) ∷ rest → (first_from_cut cut m ≡ Some (e.0.now, e.1.now)) × IsFront rest (entries_from (After e.0) m)
taken cut m run rest x front h =
    let all : entries_from cut m ≡ (x.0.now, x.1.now) ∷ (rest ++ front.rest) = front.parts ∙ ap (λ (l : List (Reference × List ℕ)). l ++ front.rest) h in
    let first : first_from_cut cut m ≡ Some (x.0.now, x.1.now) = head_found (λ e. not (stands_before cut e.0)) (finmap.entries m) (rest ++ front.rest) (x.0.now, x.1.now) all in
    (first, record { rest = front.rest; parts = tails _ _ _ _ (sym (walk_step cut m (x.0.now, x.1.now) first) ∙ all) })

pub passed : (cut : Cut) (m : Database) (run rest : List (Reference × List ℕ)) (e : Bor Reference × Bor (List ℕ)) → IsFront run (entries_from cut m) → run ≡ (e.0.now, e.1.now) ∷ drop 1 run → rest ≡ drop 1 run → IsFront rest (entries_from (After e.0) m)
passed cut m run rest e front h is = subst (λ l. IsFront l (entries_from (After e.0) m)) (sym is) (taken cut m run (drop 1 run) e front h).1

pub nothing_ahead : (run all : List (Reference × List ℕ)) → run ≡ [] → IsFront run all
nothing_ahead run all is = record { rest = all; parts = ap (λ (l : List (Reference × List ℕ)). l ++ all) (sym is) }
