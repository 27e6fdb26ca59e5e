-- References at and under one, taken out with all their versions.
use Rattle.std.proofs.Common.{◌≡◌, ℕ, suc, ◌+◌, ◌<◌, ◌≤◌, List, [], ◌∷◌, ◌++◌, refl, sym, ap, ◌∙◌, subst, arith}
use Rattle.std.proofs.lemmas.List.Elements.{filter-append}
use Rattle.std.specs.Prelude.{Bool, true, false, not, cond, ◌&&◌, Option, Some, None}
use Rattle.std.specs.List.{filter}
use Rattle.std.specs.Ordering.{is_eq, is_lt, eq_by_cmp}
use Rattle.std.specs.declared.cmp.Ordering.TheVariants.{Less, Equal}
use Rattle.std.specs.Cmp.{first_so, second_so, eq_by_cmp_equiv}
use Rattle.std.specs.Option.{option_map, option_and_then}
use Rattle.std.specs.FinMap as finmap
use Rattle.std.specs.FinMap.{find, is_sorted, get, get-remove, get-retain_keys, same_map, retain_keys}
use Rattle.std.specs.FinMap.Entries.{below_all, find-where_key}
use Rattle.collation.specs.Reference.{Reference}
use Rattle.collation.specs.Order.{ref_cmp, ref_eq}
use Rattle.collation.specs.Database.{is_under}
use Rattle.collation.specs.Levels.{is_before}
use Rattle.collation.specs.laws.Order.{ref_cmp_total, ref_cmp-IsAntisymmetric, ref_ties, is_less, is_equal}
use Rattle.globals.specs.laws.Nearest.{still_fails}
use Rattle.globals.specs.laws.Cuts.{under_between, before_end-earlier}
use Rattle.btree.specs.Order.{Each, without}
use Rattle.version_chain.specs.Versions.{at_of, IsAbove}
use Rattle.version_chain.specs.Chains.{versions_at, cells_at, listed, IsOpen, Updates}
use Rattle.version_store.specs.declared.kill.Placed.{Placed}
use Rattle.version_store.specs.declared.kill.Placed.TheVariants.{Nothing, Itself, More}
use Rattle.version_store.specs.Killed.{with_one, Tells}
use Rattle.version_store.specs.Versions.{Row, Versions, content_at, versions_of, cells_in}
use Rattle.version_store.specs.laws.Content.{get_content, content_settled}
use Rattle.version_store.specs.Tied.{versions_in, rows, IsTied}
use Rattle.version_store.proofs.TiedLemmas.{State, Pairs, get_in, tied_without, versions_without, rows_without}

-- ---- lists

each_append : {A : Type 0} (P : A → Type 0) (xs ys : List A) → Each P xs → Each P ys → Each P (xs ++ ys)
each_append P [] ys a b = b
each_append P (x ∷ xs) ys a b = (a.0, each_append P xs ys a.1 b)

each_map : {A : Type 0} (P Q : A → Type 0) → ((x : A) → P x → Q x) → (xs : List A) → Each P xs → Each Q xs
each_map P Q f [] a = tt
each_map P Q f (x ∷ xs) a = (f x a.0, each_map P Q f xs a.1)

each_kept : {A : Type 0} (p : A → Bool) (xs : List A) → Each (λ x. p x ≡ true) (filter p xs)
each_kept p [] = tt
each_kept p (x ∷ xs) = by_test (p x) refl (each_kept p xs)
  where
    by_test : (t : Bool) → p x ≡ t → Each (λ x. p x ≡ true) (filter p xs) → Each (λ x. p x ≡ true) (cond t (x ∷ filter p xs) (filter p xs))
    by_test true e rest = (e, rest)
    by_test false e rest = rest

all_kept : {A : Type 0} (p : A → Bool) (xs : List A) → Each (λ x. p x ≡ true) xs → filter p xs ≡ xs
all_kept p [] a = refl
all_kept p (x ∷ xs) a = ap (λ b. cond b (x ∷ filter p xs) (filter p xs)) a.0 ∙ ap (λ ys. x ∷ ys) (all_kept p xs a.1)

not_true : (b : Bool) → not b ≡ true → b ≡ false
not_true true e = absurd (cc)
not_true false e = refl

not_false : (b : Bool) → b ≡ false → not b ≡ true
not_false b e = ap not e

-- ---- pairs in order

all_below : (x : Reference) (es : Pairs) → below_all ref_cmp x es ≡ true → Each (λ (e : Reference × ℕ). ref_cmp x e.0 ≡ Less) es
all_below x [] h = tt
all_below x (e ∷ es) h = (is_less _ (first_so (is_lt (ref_cmp x e.0)) (below_all ref_cmp x es) h), all_below x es (second_so (is_lt (ref_cmp x e.0)) (below_all ref_cmp x es) h))

-- what stands before a point and then what doesn't are all
pub parted : (p : Reference → Bool) → ((x y : Reference) → ref_cmp x y ≡ Less → p y ≡ true → p x ≡ true) → (es : Pairs) → is_sorted ref_cmp es ≡ true → filter (λ e. p e.0) es ++ filter (λ e. not (p e.0)) es ≡ es
parted p down [] h = refl
parted p down (e ∷ es) h = by_test (p e.0) refl (parted p down es (second_so (below_all ref_cmp e.0 es) (is_sorted ref_cmp es) h)) (all_below e.0 es (first_so (below_all ref_cmp e.0 es) (is_sorted ref_cmp es) h))
  where
    none_pass : (fs : Pairs) → Each (λ (f : Reference × ℕ). p f.0 ≡ false) fs → (filter (λ e. p e.0) fs ≡ []) × (filter (λ e. not (p e.0)) fs ≡ fs)
    none_pass [] a = (refl, refl)
    none_pass (f ∷ fs) a =
        let rest = none_pass fs a.1 in (
          ap (λ b. cond b (f ∷ filter (λ e. p e.0) fs) (filter (λ e. p e.0) fs)) a.0 ∙ rest.0,
          ap (λ b. cond (not b) (f ∷ filter (λ e. not (p e.0)) fs) (filter (λ e. not (p e.0)) fs)) a.0 ∙ ap (λ gs. f ∷ gs) rest.1,
        )

    by_test : (t : Bool) → p e.0 ≡ t → filter (λ e. p e.0) es ++ filter (λ e. not (p e.0)) es ≡ es → Each (λ (f : Reference × ℕ). ref_cmp e.0 f.0 ≡ Less) es
        → cond t (e ∷ filter (λ e. p e.0) es) (filter (λ e. p e.0) es) ++ cond (not t) (e ∷ filter (λ e. not (p e.0)) es) (filter (λ e. not (p e.0)) es) ≡ e ∷ es
    by_test true t rest below = ap (λ fs. e ∷ fs) rest
    by_test false t rest below =
        let n = none_pass es (each_map (λ (f : Reference × ℕ). ref_cmp e.0 f.0 ≡ Less) (λ (f : Reference × ℕ). p f.0 ≡ false) (λ f l. still_fails ref_cmp p down e.0 f.0 t l) es below) in
        ap (λ fs. fs ++ e ∷ filter (λ e. not (p e.0)) es) n.0 ∙ ap (λ fs. e ∷ fs) n.1

-- a pair between others is the one of its key
module _ (k : Reference) (id : ℕ) (es : Pairs) where
  other_front : (f : Reference × ℕ) (fs : Pairs) → below_all ref_cmp f.0 (fs ++ (k, id) ∷ es) ≡ true → eq_by_cmp ref_cmp k f.0 ≡ false
  other_front f [] h = (let laws = eq_by_cmp_equiv ref_cmp_total in laws.symm k f.0) ∙ ap is_eq (is_less _ (first_so (is_lt (ref_cmp f.0 k)) (below_all ref_cmp f.0 es) h))
  other_front f (g ∷ fs) h = other_front f fs (second_so (is_lt (ref_cmp f.0 g.0)) (below_all ref_cmp f.0 (fs ++ (k, id) ∷ es)) h)

  pub found_here : (fs : Pairs) → is_sorted ref_cmp (fs ++ (k, id) ∷ es) ≡ true → Some id ≡ find ref_cmp k (fs ++ (k, id) ∷ es)
  found_here [] h = sym (ap (λ b. cond b (Some id) (find ref_cmp k es)) (let laws = eq_by_cmp_equiv ref_cmp_total in laws.refl k))
  found_here (f ∷ fs) h =
      found_here fs (second_so (below_all ref_cmp f.0 (fs ++ (k, id) ∷ es)) (is_sorted ref_cmp (fs ++ (k, id) ∷ es)) h)
      ∙ sym (ap (λ b. cond b (Some f.1) (find ref_cmp k (fs ++ (k, id) ∷ es))) (other_front f fs (first_so (below_all ref_cmp f.0 (fs ++ (k, id) ∷ es)) (is_sorted ref_cmp (fs ++ (k, id) ∷ es)) h)))

  none_later : (gs : Pairs) → Each (λ (e : Reference × ℕ). ref_cmp k e.0 ≡ Less) gs → without ref_cmp k gs ≡ gs
  none_later [] a = refl
  none_later (g ∷ gs) a = ap (λ r. cond (not (is_eq r)) (g ∷ without ref_cmp k gs) (without ref_cmp k gs)) a.0 ∙ ap (λ hs. g ∷ hs) (none_later gs a.1)

  pub without_here : (fs : Pairs) → is_sorted ref_cmp (fs ++ (k, id) ∷ es) ≡ true → without ref_cmp k (fs ++ (k, id) ∷ es) ≡ fs ++ es
  without_here [] h =
      ap (λ b. cond (not b) ((k, id) ∷ without ref_cmp k es) (without ref_cmp k es)) (let laws = eq_by_cmp_equiv ref_cmp_total in laws.refl k)
      ∙ none_later es (all_below k es (first_so (below_all ref_cmp k es) (is_sorted ref_cmp es) h))
  without_here (f ∷ fs) h =
      ap (λ b. cond (not b) (f ∷ without ref_cmp k (fs ++ (k, id) ∷ es)) (without ref_cmp k (fs ++ (k, id) ∷ es))) (other_front f fs (first_so (below_all ref_cmp f.0 (fs ++ (k, id) ∷ es)) (is_sorted ref_cmp (fs ++ (k, id) ∷ es)) h))
      ∙ ap (λ gs. f ∷ gs) (without_here fs (second_so (below_all ref_cmp f.0 (fs ++ (k, id) ∷ es)) (is_sorted ref_cmp (fs ++ (k, id) ∷ es)) h))

  -- what is told once it is gone
  told_on : (r : Reference) (all fs : Pairs) → is_sorted ref_cmp (fs ++ (k, id) ∷ es) ≡ true → (p : Placed) (b : Bool) → b ≡ ref_eq k r → Tells p r all (fs ++ (k, id) ∷ es) → Tells (with_one p b) r all (fs ++ es)
  told_on r all fs h Nothing true e told =
      let same : k ≡ r = ref_cmp-IsAntisymmetric k r (is_equal (ref_cmp k r) (sym (ref_ties k r) ∙ sym e)) in
      sym (without_here fs h) ∙ (λ i. without ref_cmp (same i) (told i))
  told_on r all fs h Nothing false e told = tt
  told_on r all fs h Itself b e told = tt
  told_on r all fs h More b e told = tt

-- the cells of a pair between others
cells_between : (c : State) (k : Reference) (id : ℕ) (fs es : Pairs) → cells_in (rows c (fs ++ (k, id) ∷ es)) ≡ cells_at c id + cells_in (rows c (fs ++ es))
cells_between c k id [] es = refl
cells_between c k id (f ∷ fs) es = let rest = cells_between c k id fs es in omega (arith, rest)

-- ---- maps without what is under a reference

module _ (r : Reference) where
  abbrev pub stays : Reference → Bool
  stays x = not (is_under r x)

  alike : (q x : Reference) → ref_cmp q x ≡ Equal → stays x ≡ stays q
  alike q x e = ap stays (sym (ref_cmp-IsAntisymmetric q x e))

  pub get_stays : (m : Versions) (q : Reference) → get (retain_keys m stays) q ≡ cond (stays q) (get m q) None
  get_stays m q = get-retain_keys m stays q (alike q)

  -- one of them taken out before
  removed_stays : (m : Versions) (k : Reference) → is_under r k ≡ true → retain_keys (finmap.remove m k) stays ≡ retain_keys m stays
  removed_stays m k under = same_map ref_cmp_total ref_cmp-IsAntisymmetric _ _ (λ q.
      get_stays (finmap.remove m k) q ∙ ap (λ o. cond (stays q) o None) (get-remove ref_cmp_total m k q) ∙ by_tie q (eq_by_cmp ref_cmp q k) refl ∙ sym (get_stays m q))
    where
      gone : (q : Reference) → ref_cmp q k ≡ Equal → stays q ≡ false
      gone q e = ap not (ap (is_under r) (ref_cmp-IsAntisymmetric q k e) ∙ under)

      by_tie : (q : Reference) (t : Bool) → eq_by_cmp ref_cmp q k ≡ t → cond (stays q) (cond t None (get m q)) None ≡ cond (stays q) (get m q) None
      by_tie q true t = let none = gone q (is_equal _ t) in ap (λ b. cond {A = Option Row} b None None) none ∙ sym (ap (λ b. cond b (get m q) None) none)
      by_tie q false t = refl

  -- the content at a stamp
  pub content_stays : (m : Versions) (s : ℕ) → content_at (retain_keys m stays) s ≡ retain_keys (content_at m s) stays
  content_stays m s = same_map ref_cmp_total ref_cmp-IsAntisymmetric _ _ (λ q.
      get_content (retain_keys m stays) s q ∙ ap (option_and_then (at_of s)) (get_stays m q) ∙ by_test (stays q) (get m q)
      ∙ ap (λ o. cond (stays q) o None) (sym (get_content m s q)) ∙ sym (get-retain_keys (content_at m s) stays q (alike q)))
    where
      by_test : (t : Bool) (o : Option Row) → option_and_then (at_of s) (cond t o None) ≡ cond t (option_and_then (at_of s) o) None
      by_test true o = refl
      by_test false o = refl

  pub rows_stay : (m : Versions) (q : Reference) → versions_of (retain_keys m stays) q ≡ cond (is_under r q) [] (versions_of m q)
  rows_stay m q = ap listed (get_stays m q) ∙ by_test (is_under r q) (get m q)
    where
      by_test : (t : Bool) (o : Option Row) → listed (cond (not t) o None) ≡ cond t [] (listed o)
      by_test true o = refl
      by_test false o = refl

  pub content_killed : (m : Versions) (now stamp : ℕ) → ((q : Reference) → IsAbove (suc now) (versions_of m q)) → now < stamp → content_at (retain_keys m stays) stamp ≡ retain_keys (content_at m now) stays
  content_killed m now stamp low less = content_stays m stamp ∙ ap (λ d. retain_keys d stays) (content_settled m now stamp low (omega (arith, less)))

-- ---- chains closed one after another

-- of all pairs these are left to look at: what stands in front of them is not under r, the chains of what is gone are closed, and
-- what is gone is told
pub record IsClosing (r : Reference) (all : Pairs) (c : State) (rest : Pairs) (d : State) (p : Placed) : Type 0 where
  pub front : Pairs
  pub ahead : Each (λ (e : Reference × ℕ). stays r e.0 ≡ true) front
  pub behind : Each (λ (e : Reference × ℕ). is_lt (ref_cmp e.0 r) ≡ false) rest
  pub tied : (now : ℕ) → IsTied all c now → IsTied (front ++ rest) d now
  pub same : filter (λ e. stays r e.0) (front ++ rest) ≡ filter (λ e. stays r e.0) all
  pub versions : retain_keys (versions_in d (front ++ rest)) (stays r) ≡ retain_keys (versions_in c all) (stays r)
  pub told : Tells p r all (front ++ rest)
  pub spare : c.spare ≤ d.spare
  pub cells : d.spare + cells_in (rows d (front ++ rest)) ≡ c.spare + cells_in (rows c all)

module _ (r : Reference) (all : Pairs) (c : State) where
  before_stays : (x : Reference) → is_lt (ref_cmp x r) ≡ true → stays r x ≡ true
  before_stays x l = ap not (under_between r x ∙ ap (λ b. not b && is_before true r x) l)

  pub closing_begun : (now : ℕ) → IsTied all c now → IsClosing r all c (filter (λ e. not (is_lt (ref_cmp e.0 r))) all) c Nothing
  closing_begun now tied =
      let down : (x y : Reference) → ref_cmp x y ≡ Less → is_lt (ref_cmp y r) ≡ true → is_lt (ref_cmp x r) ≡ true = λ x y l h. ap is_lt (ref_cmp_total.trans x y r l (is_less _ h)) in
      let whole = parted (λ x. is_lt (ref_cmp x r)) down all tied.sorted in
      record {
        front = filter (λ e. is_lt (ref_cmp e.0 r)) all;
        ahead = each_map (λ (e : Reference × ℕ). is_lt (ref_cmp e.0 r) ≡ true) (λ (e : Reference × ℕ). stays r e.0 ≡ true) (λ e h. before_stays e.0 h) _ (each_kept (λ e. is_lt (ref_cmp e.0 r)) all);
        behind = each_map (λ (e : Reference × ℕ). not (is_lt (ref_cmp e.0 r)) ≡ true) (λ (e : Reference × ℕ). is_lt (ref_cmp e.0 r) ≡ false) (λ e h. not_true (is_lt (ref_cmp e.0 r)) h) _ (each_kept (λ e. not (is_lt (ref_cmp e.0 r))) all);
        tied = λ now t. subst (λ es. IsTied es c now) (sym whole) t;
        same = ap (filter (λ e. stays r e.0)) whole;
        versions = ap (λ es. retain_keys (versions_in c es) (stays r)) whole;
        told = whole;
        spare = omega arith;
        cells = ap (λ es. c.spare + cells_in (rows c es)) whole;
      }

  pub closing_on : (now : ℕ) → IsTied all c now → (rest more : Pairs) (k : Reference) (id : ℕ) (d e : State) (p : Placed) (b : Bool) → rest ≡ (k, id) ∷ more → is_under r k ≡ true → b ≡ ref_eq k r → IsClosing r all c rest d p → Updates d e id None → e.spare ≡ d.spare + cells_at d id → IsClosing r all c more e (with_one p b)
  closing_on now start rest more k id d e p b is under itself s closing spare =
      let whole : s.front ++ rest ≡ s.front ++ (k, id) ∷ more = ap (λ es. s.front ++ es) is in
      let tied = subst (λ es. IsTied es d now) whole (s.tied now start) in
      let at = found_here k id more s.front tied.sorted in
      let left = without_here k id more s.front tied.sorted in
      let q : Reference × ℕ → Bool = λ f. stays r f.0 in
      let gone : stays r k ≡ false = ap not under in
      let dropped : filter q (s.front ++ more) ≡ filter q (s.front ++ (k, id) ∷ more) =
      filter-append q s.front more ∙ sym (filter-append q s.front ((k, id) ∷ more) ∙ ap (λ b. filter q s.front ++ cond b ((k, id) ∷ filter q more) (filter q more)) gone) in
      let was = s.spare in
      let before = s.cells in
      let between = ap (λ es. cells_in (rows d es)) whole ∙ cells_between d k id s.front more in
      let now_is = ap cells_in (ap (rows e) (sym left) ∙ rows_without d e (s.front ++ (k, id) ∷ more) now id k tied at closing ∙ ap (rows d) left) in
      record {
        front = s.front;
        ahead = s.ahead;
        behind = (subst (Each (λ (e : Reference × ℕ). is_lt (ref_cmp e.0 r) ≡ false)) is s.behind).1;
        tied = λ now t.
            let before = subst (λ es. IsTied es d now) whole (s.tied now t) in
            subst (λ es. IsTied es e now) left (tied_without d e (s.front ++ (k, id) ∷ more) now id k before at closing);
        same = dropped ∙ sym (ap (filter q) whole) ∙ s.same;
        versions =
            ap (λ es. retain_keys (versions_in e es) (stays r)) (sym left)
            ∙ ap (λ m. retain_keys m (stays r)) (versions_without d e (s.front ++ (k, id) ∷ more) now id k tied at closing)
            ∙ removed_stays r (versions_in d (s.front ++ (k, id) ∷ more)) k under
            ∙ sym (ap (λ es. retain_keys (versions_in d es) (stays r)) whole) ∙ s.versions;
        told = told_on k id more r all s.front tied.sorted p b itself (subst (Tells p r all) whole s.told);
        spare = omega (arith, was, spare);
        cells = omega (arith, before, between, now_is, spare);
      }

  pub closing_open : (now : ℕ) → IsTied all c now → (rest more : Pairs) (k : Reference) (id : ℕ) (d : State) (p : Placed) → rest ≡ (k, id) ∷ more → IsClosing r all c rest d p → IsOpen d id
  closing_open now start rest more k id d p is s =
      let tied = subst (λ es. IsTied es d now) (ap (λ es. s.front ++ es) is) (s.tied now start) in
      tied.opened k id (sym (found_here k id more s.front tied.sorted))

  -- what is left once none of the rest is under r
  module _ (now : ℕ) (start : IsTied all c now) (rest : Pairs) (d : State) (p : Placed) (s : IsClosing r all c rest d p) (none : Each (λ (e : Reference × ℕ). stays r e.0 ≡ true) rest) where
    left_is : s.front ++ rest ≡ filter (λ e. stays r e.0) all
    left_is = sym (all_kept (λ e. stays r e.0) (s.front ++ rest) (each_append (λ (e : Reference × ℕ). stays r e.0 ≡ true) s.front rest s.ahead none)) ∙ s.same

    pub closed_tied : (now : ℕ) → IsTied all c now → IsTied (filter (λ e. stays r e.0) all) d now
    closed_tied now t = subst (λ es. IsTied es d now) left_is (s.tied now t)

    pub closed_told : Tells p r all (filter (λ e. stays r e.0) all)
    closed_told = subst (Tells p r all) left_is s.told

    pub closed_cells : d.spare + cells_in (rows d (filter (λ e. stays r e.0) all)) ≡ c.spare + cells_in (rows c all)
    closed_cells = subst (λ es. d.spare + cells_in (rows d es) ≡ c.spare + cells_in (rows c all)) left_is s.cells

    pub closed_versions : versions_in d (filter (λ e. stays r e.0) all) ≡ retain_keys (versions_in c all) (stays r)
    closed_versions =
        let sorted = (closed_tied now start).sorted in
        same_map ref_cmp_total ref_cmp-IsAntisymmetric _ _ (λ q.
        get_in d (filter (λ e. stays r e.0) all) q sorted
        ∙ ap (option_map (versions_at d)) (find-where_key ref_cmp (stays r) q (alike r q) all)
        ∙ by_test q (stays r q) refl
        ∙ sym (get_stays r (versions_in d (filter (λ e. stays r e.0) all)) q))
        ∙ ap (λ es. retain_keys (versions_in d es) (stays r)) (sym left_is) ∙ s.versions
      where
        by_test : (q : Reference) (t : Bool) → stays r q ≡ t → option_map (versions_at d) (cond (stays r q) (find ref_cmp q all) None) ≡ cond (stays r q) (get (versions_in d (filter (λ e. stays r e.0) all)) q) None
        by_test q true t =
            ap (λ b. option_map (versions_at d) (cond b (find ref_cmp q all) None)) t
            ∙ sym (ap (λ b. cond b (get (versions_in d (filter (λ e. stays r e.0) all)) q) None) t
            ∙ get_in d (filter (λ e. stays r e.0) all) q (closed_tied now start).sorted ∙ ap (option_map (versions_at d)) (find-where_key ref_cmp (stays r) q (alike r q) all)
            ∙ ap (λ b. option_map (versions_at d) (cond b (find ref_cmp q all) None)) t)
        by_test q false t = ap (λ b. option_map (versions_at d) (cond b (find ref_cmp q all) None)) t ∙ sym (ap (λ b. cond b (get (versions_in d (filter (λ e. stays r e.0) all)) q) None) t)

  -- from the first that is not under r on none is
  pub none_under : (now : ℕ) → IsTied all c now → (rest more : Pairs) (x : Reference × ℕ) (d : State) (p : Placed) → rest ≡ x ∷ more → is_under r x.0 ≡ false → IsClosing r all c rest d p → Each (λ (e : Reference × ℕ). stays r e.0 ≡ true) rest
  none_under now start rest more x d p is under s =
      let behind = subst (Each (λ (e : Reference × ℕ). is_lt (ref_cmp e.0 r) ≡ false)) is s.behind in
      let sorted = sorted_back s.front rest (s.tied now start).sorted in
      let order = subst (λ es. is_sorted ref_cmp es ≡ true) is sorted in
      let past : is_before true r x.0 ≡ false = sym (ap (λ b. not b && is_before true r x.0) behind.0) ∙ sym (under_between r x.0) ∙ under in
      subst (Each (λ (e : Reference × ℕ). stays r e.0 ≡ true)) (sym is)
      (not_false (is_under r x.0) under, each_map (λ (e : Reference × ℕ). ref_cmp x.0 e.0 ≡ Less) (λ (e : Reference × ℕ). stays r e.0 ≡ true) (λ e l. later e.0 past l) more (all_below x.0 more (first_so (below_all ref_cmp x.0 more) (is_sorted ref_cmp more) order)))
    where
      sorted_back : (fs es : Pairs) → is_sorted ref_cmp (fs ++ es) ≡ true → is_sorted ref_cmp es ≡ true
      sorted_back [] es h = h
      sorted_back (f ∷ fs) es h = sorted_back fs es (second_so (below_all ref_cmp f.0 (fs ++ es)) (is_sorted ref_cmp (fs ++ es)) h)

      later : (y : Reference) → is_before true r x.0 ≡ false → ref_cmp x.0 y ≡ Less → stays r y ≡ true
      later y past l =
          let after = still_fails ref_cmp (is_before true r) (before_end-earlier r) x.0 y past l in
          ap not (under_between r y ∙ ap (λ b. not (is_lt (ref_cmp y r)) && b) after ∙ and_false (not (is_lt (ref_cmp y r))))
        where
          and_false : (b : Bool) → (b && false) ≡ false
          and_false true = refl
          and_false false = refl
