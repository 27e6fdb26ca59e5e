-- The same ids under new keys.
use Rattle.std.proofs.Common.{◌≡◌, ℕ, [], ◌∷◌, ◌++◌, refl, ap, ◌∙◌, append_assoc}
use Rattle.std.specs.Prelude.{true}
use Rattle.std.specs.declared.cmp.Ordering.{Ordering}
use Rattle.std.specs.declared.cmp.Ordering.TheVariants.{Less, Equal, Greater}
use Rattle.std.specs.Ordering.{is_lt, ordering_reverse}
use Rattle.std.specs.Cmp.{first_so, second_so}
use Rattle.std.specs.FinMap.{put, is_sorted}
use Rattle.std.specs.FinMap.Entries.{below_all, by_order}
use Rattle.collation.specs.Reference.{Reference}
use Rattle.collation.specs.Order.{ref_cmp}
use Rattle.collation.specs.laws.Order.{ref_cmp_total}
use Rattle.version_store.proofs.TiedLemmas.{Pairs}

is_less : (o : Ordering) → is_lt o ≡ true → o ≡ Less
is_less Less e = refl
is_less Equal e = absurd (cc)
is_less Greater e = absurd (cc)

-- a key that stands after another, behind more
after : (y k : Reference) (id : ℕ) (xs ys : Pairs) → below_all ref_cmp y (xs ++ (k, id) ∷ ys) ≡ true → ref_cmp k y ≡ Greater
after y k id [] ys h =
    let laws = ref_cmp_total in
    laws.antisymm k y ∙ ap ordering_reverse (is_less (ref_cmp y k) (first_so (is_lt (ref_cmp y k)) _ h))
after y k id (x ∷ xs) ys h = after y k id xs ys (second_so (is_lt (ref_cmp y x.0)) _ h)

-- the next of some pairs in order goes after those before it
pub put_last : (xs : Pairs) (k : Reference) (id : ℕ) (ys : Pairs) → is_sorted ref_cmp (xs ++ (k, id) ∷ ys) ≡ true → put ref_cmp k id xs ≡ xs ++ (k, id) ∷ []
put_last [] k id ys h = refl
put_last (x ∷ xs) k id ys h =
    ap (λ o. by_order o ((k, id) ∷ x ∷ xs) ((x.0, id) ∷ xs) (x ∷ put ref_cmp k id xs)) (after x.0 k id xs ys (first_so (below_all ref_cmp x.0 (xs ++ (k, id) ∷ ys)) _ h))
    ∙ ap (λ t. x ∷ t) (put_last xs k id ys (second_so (below_all ref_cmp x.0 (xs ++ (k, id) ∷ ys)) _ h))

-- with those that are left these will be all
pub one_put : (old new all ys : Pairs) (k : Reference) (id : ℕ) → is_sorted ref_cmp all ≡ true → old ++ (k, id) ∷ ys ≡ all → new ≡ put ref_cmp k id old → new ++ ys ≡ all
one_put old new all ys k id sorted is e =
    ap (λ t. t ++ ys) (e ∙ put_last old k id ys (ap (is_sorted ref_cmp) is ∙ sorted)) ∙ append_assoc old ((k, id) ∷ []) ys ∙ is
