-- One reference that is set to a value.
use Rattle.std.proofs.Common.{◌≡◌, ℕ, suc, ◌<◌, ◌≤◌, List, [], ◌∷◌, refl, sym, ap, ◌∙◌, subst, arith}
use Rattle.std.specs.Prelude.{Bool, true, false, cond, leb, Option, Some, None, Result, Ok, Err, OnOk}
use Rattle.std.specs.Ordering.{eq_by_cmp}
use Rattle.std.specs.Cmp.{eq_by_cmp_equiv}
use Rattle.std.specs.FinMap as finmap
use Rattle.std.specs.FinMap.{find, put, get, get-insert, get-remove, same_map}
use Rattle.std.specs.FinMap.Entries.{find-put}
use Rattle.collation.specs.Reference.{Reference}
use Rattle.collation.specs.Order.{ref_cmp}
use Rattle.collation.specs.laws.Order.{ref_cmp_total, ref_cmp-IsAntisymmetric}
use Rattle.version_chain.specs.Versions.{IsAbove}
use Rattle.version_chain.specs.laws.Versions.{leb_yes}
use Rattle.version_chain.specs.Cut.{left_after, cut_of}
use Rattle.version_chain.specs.laws.Cut.{left_after-cut_of}
use Rattle.version_chain.specs.Chains.{listed, chain_at, versions_at, Updates}
use Rattle.collation.specs.Changes.{Change, set_to, changed}
use Rattle.version_store.specs.Versions.{Row, Versions, Stored, versions_of, content_at, with_version, row_cut, is_bare, tidied, IsSetAt}
use Rattle.version_store.specs.laws.Content.{content_written, content_before, content_settled}
use Rattle.version_store.specs.laws.Cutting.{rows_cut, content_cut_at}
use Rattle.version_store.specs.Tied.{versions_in, IsTied}
use Rattle.version_store.proofs.TiedLemmas.{State, Pairs, pushed, tied_update}

pub above_at : (now stamp : ℕ) (vs : Row) → now < stamp → IsAbove (suc now) vs → IsAbove stamp vs
above_at now stamp [] later low = tt
above_at now stamp (v ∷ vs) later low = omega (arith, later, low)

itself : (r : Reference) → eq_by_cmp ref_cmp r r ≡ true
itself r = let laws = eq_by_cmp_equiv ref_cmp_total in laws.refl r

-- a reference is found in a map that it was put into
get_put : (m : Versions) (k : Reference) (vs : Row) → get (finmap.insert m k vs) k ≡ Some vs
get_put m k vs = get-insert ref_cmp_total m k vs k ∙ ap (λ b. cond b (Some vs) (get m k)) (itself k)

-- what is put there twice
put_twice : (m : Versions) (k : Reference) (us vs : Row) → finmap.insert (finmap.insert m k us) k vs ≡ finmap.insert m k vs
put_twice m k us vs = same_map ref_cmp_total ref_cmp-IsAntisymmetric _ _ (λ q.
    get-insert ref_cmp_total (finmap.insert m k us) k vs q
    ∙ ap (cond (eq_by_cmp ref_cmp q k) (Some vs)) (get-insert ref_cmp_total m k us q)
    ∙ by_tie (eq_by_cmp ref_cmp q k) (get m q) ∙ sym (get-insert ref_cmp_total m k vs q))
  where
    by_tie : (t : Bool) (o : Option Row) → cond t (Some vs) (cond t (Some us) o) ≡ cond t (Some vs) o
    by_tie true o = refl
    by_tie false o = refl

-- a value that is newest is never dropped
value_left : (h stamp : ℕ) (v : List ℕ) (vs : Row) → is_bare (Some (left_after h ((stamp, Some v) ∷ vs))) ≡ false
value_left h stamp v vs = ap (λ ws. is_bare (Some ws)) (left_after-cut_of h ((stamp, Some v) ∷ vs)) ∙ by_age (leb stamp h)
  where
    by_age : (t : Bool) → is_bare (Some (cond t ((stamp, Some v) ∷ []) ((stamp, Some v) ∷ cut_of h vs))) ≡ false
    by_age true = refl
    by_age false = refl

-- alone it is all that is left
value_alone : (h stamp : ℕ) (v : List ℕ) → left_after h ((stamp, Some v) ∷ []) ≡ (stamp, Some v) ∷ []
value_alone h stamp v = left_after-cut_of h ((stamp, Some v) ∷ []) ∙ by_age (leb stamp h)
  where
    by_age : (t : Bool) → cond {A = Row} t ((stamp, Some v) ∷ []) ((stamp, Some v) ∷ []) ≡ (stamp, Some v) ∷ []
    by_age true = refl
    by_age false = refl

-- the rows once a value is written and cut
tidied_value : (h stamp : ℕ) (k : Reference) (v : List ℕ) (m : Versions) → tidied h k (with_version stamp (k, Some v) m) ≡ finmap.insert m k (left_after h ((stamp, Some v) ∷ versions_of m k))
tidied_value h stamp k v m =
    let new : Row = (stamp, Some v) ∷ versions_of m k in
    let row : versions_of (finmap.insert m k new) k ≡ new = ap listed (get_put m k new) in
    ap (λ vs. cond (is_bare (get (finmap.insert (finmap.insert m k new) k (left_after h vs)) k)) (finmap.remove (finmap.insert (finmap.insert m k new) k (left_after h vs)) k) (finmap.insert (finmap.insert m k new) k (left_after h vs))) row
    ∙ ap (λ o. cond (is_bare o) (finmap.remove (finmap.insert (finmap.insert m k new) k (left_after h new)) k) (finmap.insert (finmap.insert m k new) k (left_after h new))) (get_put (finmap.insert m k new) k (left_after h new))
    ∙ ap (λ b. cond b (finmap.remove (finmap.insert (finmap.insert m k new) k (left_after h new)) k) (finmap.insert (finmap.insert m k new) k (left_after h new))) (value_left h stamp v (versions_of m k))
    ∙ put_twice m k new (left_after h new)

-- nothing is left where an absence is newest and nobody asks for older versions
absence_left : (h stamp : ℕ) (vs : Row) → stamp ≤ h → left_after h ((stamp, None) ∷ vs) ≡ []
absence_left h stamp vs le =
    left_after-cut_of h ((stamp, None) ∷ vs) ∙ ap (λ b. cond {A = Row} b [] ((stamp, None) ∷ cut_of h vs)) (leb_yes stamp h le)

-- what was put there is taken out as what stood there
remove_put : (m : Versions) (k : Reference) (vs : Row) → finmap.remove (finmap.insert m k vs) k ≡ finmap.remove m k
remove_put m k vs = same_map ref_cmp_total ref_cmp-IsAntisymmetric _ _ (λ q.
    get-remove ref_cmp_total (finmap.insert m k vs) k q
    ∙ ap (cond (eq_by_cmp ref_cmp q k) None) (get-insert ref_cmp_total m k vs q)
    ∙ by_tie (eq_by_cmp ref_cmp q k) (get m q) ∙ sym (get-remove ref_cmp_total m k q))
  where
    by_tie : (t : Bool) (o : Option Row) → cond t None (cond t (Some vs) o) ≡ cond t None o
    by_tie true o = refl
    by_tie false o = refl

-- the rows once an absence is written that nobody asks for
pub tidied_absence : (h stamp : ℕ) (k : Reference) (m : Versions) → stamp ≤ h → tidied h k (with_version stamp (k, None) m) ≡ finmap.remove m k
tidied_absence h stamp k m le =
    let new : Row = (stamp, None) ∷ versions_of m k in
    let both = finmap.insert (finmap.insert m k new) k [] in
    ap (λ vs. cond (is_bare (get (finmap.insert (finmap.insert m k new) k (left_after h vs)) k)) (finmap.remove (finmap.insert (finmap.insert m k new) k (left_after h vs)) k) (finmap.insert (finmap.insert m k new) k (left_after h vs))) (ap listed (get_put m k new))
    ∙ ap (λ vs. cond (is_bare (get (finmap.insert (finmap.insert m k new) k vs) k)) (finmap.remove (finmap.insert (finmap.insert m k new) k vs) k) (finmap.insert (finmap.insert m k new) k vs)) (absence_left h stamp (versions_of m k) le)
    ∙ ap (λ o. cond (is_bare o) (finmap.remove both k) both) (get_put (finmap.insert m k new) k [])
    ∙ remove_put (finmap.insert m k new) k []
    ∙ remove_put m k new

-- a placed reference
pub set_there : (h stamp : ℕ) (k : Reference) (v : List ℕ) (m n : Versions) → n ≡ finmap.insert (with_version stamp (k, Some v) m) k (left_after h (versions_of (with_version stamp (k, Some v) m) k)) → n ≡ tidied h k (with_version stamp (k, Some v) m)
set_there h stamp k v m n is =
    let new : Row = (stamp, Some v) ∷ versions_of m k in
    is ∙ ap (λ vs. finmap.insert (finmap.insert m k new) k (left_after h vs)) (ap listed (get_put m k new)) ∙ put_twice m k new (left_after h new) ∙ sym (tidied_value h stamp k v m)

-- one that was placed for it
set_fresh : (h stamp : ℕ) (k : Reference) (v : List ℕ) (m : Versions) → get m k ≡ None → with_version stamp (k, Some v) (finmap.insert m k []) ≡ tidied h k (with_version stamp (k, Some v) m)
set_fresh h stamp k v m none =
    ap (λ vs. finmap.insert (finmap.insert m k []) k ((stamp, Some v) ∷ vs)) (ap listed (get_put m k []))
    ∙ put_twice m k [] ((stamp, Some v) ∷ [])
    ∙ ap (finmap.insert m k) (sym (value_alone h stamp v))
    ∙ ap (λ vs. finmap.insert m k (left_after h ((stamp, Some v) ∷ vs))) (sym (ap listed none))
    ∙ sym (tidied_value h stamp k v m)

-- a version that is pushed to an empty chain is left by the cut
pub pushed_fresh : (d e : State) (id stamp h : ℕ) (v : List ℕ) → chain_at d id ≡ Some [] → Updates d e id (Some (left_after h ((stamp, Some v) ∷ versions_at d id))) → Updates d e id (Some ((stamp, Some v) ∷ versions_at d id))
pushed_fresh d e id stamp h v fresh updates =
    subst (λ (vs : Row). Updates d e id (Some vs))
    (ap (λ (us : Row). left_after h ((stamp, Some v) ∷ us)) (ap listed fresh) ∙ value_alone h stamp v ∙ sym (ap (λ (us : Row). (stamp, Some v) ∷ us) (ap listed fresh))) updates

-- the key that was put is found
pub found_put : (k : Reference) (id : ℕ) (ps : Pairs) → Some id ≡ find ref_cmp k (put ref_cmp k id ps)
found_put k id ps = sym (find-put ref_cmp ref_cmp_total k k id ps ∙ ap (λ b. cond b (Some id) (find ref_cmp k ps)) (itself k))

module _ (d e : State) (ps : Pairs) (now id stamp h : ℕ) (k : Reference) (v : List ℕ) (tied : IsTied (put ref_cmp k id ps) d now) (updates : Updates d e id (Some ((stamp, Some v) ∷ versions_at d id))) where
  pub versions_set : (m : Versions) → versions_in d (put ref_cmp k id ps) ≡ finmap.insert m k [] → get m k ≡ None → versions_in e (put ref_cmp k id ps) ≡ tidied h k (with_version stamp (k, Some v) m)
  versions_set m is none =
      pushed d e (put ref_cmp k id ps) now id stamp k (Some v) tied (found_put k id ps) updates
      ∙ ap (with_version stamp (k, Some v)) is ∙ set_fresh h stamp k v m none

  pub tied_set : 0 < stamp → stamp ≤ now → chain_at d id ≡ Some [] → IsTied (put ref_cmp k id ps) e now
  tied_set first low fresh =
      let above : IsAbove stamp (versions_at d id) = subst (λ (o : Option Row). IsAbove stamp (listed o)) (sym fresh) tt in
      tied_update d e (put ref_cmp k id ps) now id k ((stamp, Some v) ∷ versions_at d id) tied (sym (found_put k id ps)) updates (omega (arith, low)) (λ z. absurd (omega (arith, first, low, z))) (above, tied.falls k id (sym (found_put k id ps)))

-- what follows where it was done does so where it may have been done
pub where_done : {T E : Type 0} {P Q : Type 0} (r : Result T E) → OnOk r P → (P → Q) → OnOk r Q
where_done (Ok x) done f = f done
where_done (Err e) done f = tt

module _ (old new : Stored) (stamp cut : ℕ) (c : Change) (is : IsSetAt stamp cut c old new) (within : cut ≤ stamp) where
  pub set_content : ((q : Reference) → IsAbove (suc old.present) (versions_of old.versions q)) → old.present < stamp → content_at new.versions stamp ≡ set_to c.0 c.1 (content_at old.versions old.present)
  set_content low later =
      ap (λ m. content_at m stamp) is.versions ∙ content_cut_at stamp cut stamp (c ∷ []) old.versions (refl, tt) within
      ∙ content_written stamp (c ∷ []) old.versions ∙ ap (changed (c ∷ [])) (content_settled old.versions old.present stamp low (omega (arith, later)))

  pub set_before : (s : ℕ) → new.cut ≤ s → s < stamp → content_at new.versions s ≡ content_at old.versions s
  set_before s from less =
      let at = is.cut_is in
      ap (λ m. content_at m s) is.versions ∙ content_cut_at stamp cut s (c ∷ []) old.versions (refl, tt) (omega (arith, from, at)) ∙ content_before stamp s (c ∷ []) old.versions less

  pub set_rows : (r : Reference) → versions_of new.versions r ≡ row_cut stamp new.cut (find ref_cmp r (c ∷ [])) (versions_of old.versions r)
  set_rows r =
      ap (λ m. versions_of m r) is.versions ∙ rows_cut stamp cut (c ∷ []) old.versions r (refl, tt)
      ∙ ap (λ h. row_cut stamp h (find ref_cmp r (c ∷ [])) (versions_of old.versions r)) (sym is.cut_is)
