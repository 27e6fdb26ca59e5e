-- Cells, as they go from versions to what is spare and back.
use Rattle.std.proofs.Common.{◌≡◌, ℕ, List, [], ◌∷◌, refl, sym, ap, ◌∙◌, subst, arith}
use Rattle.std.specs.Prelude.{true, false, cond, Option, Some, None, Result, Ok, Err, OnOk, OnErr}
use Rattle.std.specs.Ordering.{eq_by_cmp}
use Rattle.std.specs.Cmp.{eq_by_cmp_equiv}
use Rattle.std.specs.FinMap as finmap
use Rattle.std.specs.FinMap.{find, is_sorted, get, get-insert, get-remove}
use Rattle.collation.specs.Reference.{Reference}
use Rattle.collation.specs.Order.{ref_cmp}
use Rattle.collation.specs.laws.Order.{ref_cmp_total}
use Rattle.collation.specs.Changes.{Change, AreOnce}
use Rattle.btree.specs.Order.{without}
use Rattle.version_chain.specs.Versions.{cells_of}
use Rattle.version_chain.specs.Chains.{listed, chain_at, cells_at, Updates}
use Rattle.version_store.specs.Versions.{Row, Versions, Stored, versions_of, cells_under, cells_over, KeepsCells, with_version, written, written_and_cut, row_after, row_cut}
use Rattle.version_store.specs.laws.Content.{rows_written}
use Rattle.version_store.specs.laws.Cutting.{rows_cut, other_key, other_keys}
use Rattle.version_store.specs.Tied.{versions_in, IsTied}
use Rattle.version_store.proofs.TiedLemmas.{State, Pairs, row_in, versions_without}

itself : (r : Reference) → eq_by_cmp ref_cmp r r ≡ true
itself r = let laws = eq_by_cmp_equiv ref_cmp_total in laws.refl r

-- a placed reference has the cells of its chain
pub cells_in : (c : State) (ps : Pairs) (k : Reference) (id : ℕ) → is_sorted ref_cmp ps ≡ true → Some id ≡ find ref_cmp k ps → cells_under (versions_in c ps) k ≡ cells_at c id
cells_in c ps k id sorted at = ap (λ (vs : Row). cells_of vs) (row_in c ps k id sorted at)

-- one that isn't has none
pub no_cells : (m : Versions) (k : Reference) → get m k ≡ None → cells_under m k ≡ 0
no_cells m k none = ap (λ (o : Option Row). cells_of (listed o)) none

-- nor has a chain that was opened for it
pub no_cells_at : (c : State) (id : ℕ) → chain_at c id ≡ Some [] → cells_at c id ≡ 0
no_cells_at c id fresh = ap (λ (o : Option Row). cells_of (listed o)) fresh

-- nor one that was taken out
pub no_cells_left : (c d : State) (ps : Pairs) (now id : ℕ) (k : Reference) → IsTied ps c now → Some id ≡ find ref_cmp k ps → Updates c d id None → cells_under (versions_in d (without ref_cmp k ps)) k ≡ 0
no_cells_left c d ps now id k tied at closing =
    ap (λ (m : Versions). cells_under m k) (versions_without c d ps now id k tied at closing)
    ∙ no_cells (finmap.remove (versions_in c ps) k) k (get-remove ref_cmp_total (versions_in c ps) k k ∙ ap (λ b. cond b None (get (versions_in c ps) k)) (itself k))

-- cells are kept where it was done, and where all is as it was
pub cells_either : {T E : Type 0} (r : Result T E) (k : Reference) (old new : Stored) → OnOk r (KeepsCells k old new) → OnErr r (new ≡ old) → KeepsCells k old new
cells_either (Ok x) k old new done kept = done
cells_either (Err e) k old new done kept = subst (λ s. KeepsCells k old s) (sym kept) refl

-- ---- a list of changes

-- the others have as many as before
pub cells_elsewhere : (k : Reference) (m n : Versions) (cs : List Change) → ((q : Reference) → eq_by_cmp ref_cmp q k ≡ false → get n q ≡ get m q) → find ref_cmp k cs ≡ None → cells_over cs n ≡ cells_over cs m
cells_elsewhere k m n [] same none = refl
cells_elsewhere k m n (c ∷ cs) same none =
    let first : cells_under n c.0 ≡ cells_under m c.0 = ap (λ (o : Option Row). cells_of (listed o)) (same c.0 (other_key k c cs none)) in
    let rest = cells_elsewhere k m n cs same (other_keys k c cs none) in
    omega (arith, first, rest)

pub get_with : (stamp : ℕ) (c : Change) (m : Versions) (q : Reference) → eq_by_cmp ref_cmp q c.0 ≡ false → get (with_version stamp c m) q ≡ get m q
get_with stamp c m q other = get-insert ref_cmp_total m c.0 ((stamp, c.1) ∷ versions_of m c.0) q ∙ ap (λ b. cond b (Some ((stamp, c.1) ∷ versions_of m c.0)) (get m q)) other

-- what is written later is of other references
pub cells_last : (stamp : ℕ) (cs : List Change) (n all : Versions) (k : Reference) → AreOnce cs → find ref_cmp k cs ≡ None → written stamp cs n ≡ all → cells_under all k ≡ cells_under n k
cells_last stamp cs n all k apart none is =
    ap (λ (m : Versions). cells_under m k) (sym is)
    ∙ ap (λ (vs : Row). cells_of vs) (rows_written stamp cs n k apart ∙ ap (λ o. row_after stamp o (versions_of n k)) none)

pub cells_last_cut : (stamp horizon : ℕ) (cs : List Change) (n all : Versions) (k : Reference) → AreOnce cs → find ref_cmp k cs ≡ None → written_and_cut stamp horizon cs n ≡ all → cells_under all k ≡ cells_under n k
cells_last_cut stamp horizon cs n all k apart none is =
    ap (λ (m : Versions). cells_under m k) (sym is)
    ∙ ap (λ (vs : Row). cells_of vs) (rows_cut stamp horizon cs n k apart ∙ ap (λ o. row_cut stamp horizon o (versions_of n k)) none)
