-- The members before an end and from a floor on, and the beginnings of lists that are such.
use Rattle.std.proofs.Common.{◌≡◌, ℕ, Bool, true, false, List, [], ◌∷◌, ◌++◌, refl, sym, ap, ◌∙◌}
use Rattle.std.specs.Prelude.{cond, not, ◌&&◌, filter, is_some, reverse, Option, Some, None}
use Rattle.std.proofs.lemmas.List.{reverse-append}
use Rattle.std.specs.declared.cmp.Ordering.TheVariants.{Less, Equal}
use Rattle.std.specs.Ordering.{is_lt}
use Rattle.std.specs.Cmp.{first_so, second_so}
use Rattle.std.specs.Option.{option_or}
use Rattle.std.specs.List.{find, list_any}
use Rattle.globals.specs.Entries.{nearest_entry, find_last}
use Rattle.std.specs.FinMap as finmap
use Rattle.std.specs.FinMap.{is_sorted, entries-from_sorted}
use Rattle.std.specs.FinMap.Entries.{below_all, find-where_key, is_sorted-where_key}
use Rattle.collation.specs.Reference.{Reference}
use Rattle.collation.specs.Order.{ref_cmp}
use Rattle.collation.specs.laws.Order.{ref_cmp-IsAntisymmetric, is_less}
use Rattle.collation.specs.Database.{Database}
use Rattle.collation.specs.Levels.{is_before, is_below}
use Rattle.collation.specs.Answers.{subtree_of}
use Rattle.globals.specs.declared.cut.Cut.{Cut}
use Rattle.globals.specs.Cuts.{stands_before, stands_within, stands_under, up_to, down_to, entries_from, first_from_cut, last_before_cut, front_to, front_down_to}
use Rattle.globals.specs.laws.Nearest.{keep, any_nearest, none_pass, still_fails, true_of}
use Rattle.globals.specs.laws.Cuts.{stands_before-earlier, under_between}
use Rattle.globals.specs.laws.Seeks.{below_is_before}

-- ---- lists

all_pass : {A : Type 0} (es : List A) → filter (λ e. true) es ≡ es
all_pass [] = refl
all_pass (e ∷ es) = ap (λ l. e ∷ l) (all_pass es)

module _ {K X : Type 0} (P Q : K → Bool) where
  pub both_tests : (es : List (K × X)) → filter (λ e. Q e.0) (filter (λ e. P e.0) es) ≡ filter (λ e. P e.0 && Q e.0) es
  both_tests [] = refl
  both_tests (e ∷ es) = elim (P e.0) as (λ p. filter (λ e. Q e.0) (cond p (e ∷ filter (λ e. P e.0) es) (filter (λ e. P e.0) es)) ≡ cond (p && Q e.0) (e ∷ filter (λ e. P e.0 && Q e.0) es) (filter (λ e. P e.0 && Q e.0) es)) [
    | true ↦ elim (Q e.0) as (λ q. cond q (e ∷ filter (λ e. Q e.0) (filter (λ e. P e.0) es)) (filter (λ e. Q e.0) (filter (λ e. P e.0) es)) ≡ cond q (e ∷ filter (λ e. P e.0 && Q e.0) es) (filter (λ e. P e.0 && Q e.0) es)) [
      | true ↦ ap (λ l. e ∷ l) (both_tests es)
      | false ↦ both_tests es
    ]
    | false ↦ both_tests es
  ]

  -- what passes the second passes the first: the first is no matter
  find_kept : ((x : K) → Q x ≡ true → P x ≡ true) → (es : List (K × X)) → find (λ e. Q e.0) (filter (λ e. P e.0) es) ≡ find (λ e. Q e.0) es
  find_kept within [] = refl
  find_kept within (e ∷ es) = elim (P e.0) as (λ p. P e.0 ≡ p → find (λ e. Q e.0) (cond p (e ∷ filter (λ e. P e.0) es) (filter (λ e. P e.0) es)) ≡ cond (Q e.0) (Some e) (find (λ e. Q e.0) es)) [
    | true ↦ λ p. ap (λ o. cond (Q e.0) (Some e) o) (find_kept within es)
    | false ↦ λ p. elim (Q e.0) as (λ q. Q e.0 ≡ q → find (λ e. Q e.0) (filter (λ e. P e.0) es) ≡ cond q (Some e) (find (λ e. Q e.0) es)) [
      | true ↦ λ q. let t = within e.0 q in absurd (cc)
      | false ↦ λ q. find_kept within es
    ] refl
  ] refl

all_from : {X : Type 0} (P : Reference → Bool) (x : Reference) (es : List (Reference × X)) → ((y : Reference) → ref_cmp x y ≡ Less → P y ≡ true) → below_all ref_cmp x es ≡ true → filter (λ e. P e.0) es ≡ es
all_from P x [] passes h = refl
all_from P x (e ∷ es) passes h = rw (passes e.0 (is_less (ref_cmp x e.0) (first_so _ _ h))) (ap (λ l. e ∷ l) (all_from P x es passes (second_so (is_lt (ref_cmp x e.0)) _ h)))

-- ---- the members before an end

pub entries_to : (end : Option Cut) (m : Database) → finmap.entries (up_to end m) ≡ filter (λ e. stands_within end e.0) (finmap.entries m)
entries_to None m = sym (all_pass (finmap.entries m))
entries_to (Some end) m = entries-from_sorted ref_cmp (filter (λ e. stands_before end e.0) (finmap.entries m)) (is_sorted-where_key ref_cmp (stands_before end) (finmap.entries m) (finmap.entries_sorted m))

pub entries_down : (floor : Option Cut) (m : Database) → finmap.entries (down_to floor m) ≡ filter (λ e. not (stands_under floor e.0)) (finmap.entries m)
entries_down None m = sym (all_pass (finmap.entries m))
entries_down (Some floor) m = entries-from_sorted ref_cmp (filter (λ e. not (stands_before floor e.0)) (finmap.entries m)) (is_sorted-where_key ref_cmp (λ x. not (stands_before floor x)) (finmap.entries m) (finmap.entries_sorted m))

pub within-earlier : (end : Option Cut) (x y : Reference) → ref_cmp x y ≡ Less → stands_within end y ≡ true → stands_within end x ≡ true
within-earlier None x y l h = refl
within-earlier (Some end) x y l h = stands_before-earlier end x y l h

pub under-earlier : (floor : Option Cut) (x y : Reference) → ref_cmp x y ≡ Less → stands_under floor y ≡ true → stands_under floor x ≡ true
under-earlier None x y l h = absurd (cc)
under-earlier (Some floor) x y l h = stands_before-earlier floor x y l h

alike : (P : Reference → Bool) (q x : Reference) → ref_cmp q x ≡ Equal → P x ≡ P q
alike P q x e = ap P (sym (ref_cmp-IsAntisymmetric q x e))

pub get_to : (end : Option Cut) (m : Database) (q : Reference) → finmap.get (up_to end m) q ≡ cond (stands_within end q) (finmap.get m q) None
get_to end m q =
    finmap.get-entries (up_to end m) q ∙ ap (finmap.find ref_cmp q) (entries_to end m)
    ∙ find-where_key ref_cmp (stands_within end) q (alike (stands_within end) q) (finmap.entries m)
    ∙ ap (λ o. cond (stands_within end q) o None) (sym (finmap.get-entries m q))

pub get_down : (floor : Option Cut) (m : Database) (q : Reference) → finmap.get (down_to floor m) q ≡ cond (not (stands_under floor q)) (finmap.get m q) None
get_down floor m q =
    finmap.get-entries (down_to floor m) q ∙ ap (finmap.find ref_cmp q) (entries_down floor m)
    ∙ find-where_key ref_cmp (λ x. not (stands_under floor x)) q (alike (λ x. not (stands_under floor x)) q) (finmap.entries m)
    ∙ ap (λ o. cond (not (stands_under floor q)) o None) (sym (finmap.get-entries m q))

-- from the cut on, those before the end are a beginning
pub front_is : {X : Type 0} (end : Option Cut) (es : List (Reference × X)) → is_sorted ref_cmp es ≡ true → front_to end es ≡ filter (λ e. stands_within end e.0) es
front_is end [] h = refl
front_is end (e ∷ es) h = elim (stands_within end e.0) as (λ b. stands_within end e.0 ≡ b → cond b (e ∷ front_to end es) [] ≡ cond b (e ∷ filter (λ e. stands_within end e.0) es) (filter (λ e. stands_within end e.0) es)) [
  | true ↦ λ b. ap (λ l. e ∷ l) (front_is end es (second_so (below_all ref_cmp e.0 es) _ h))
  | false ↦ λ b. sym (none_pass ref_cmp (stands_within end) e.0 es (λ y l. still_fails ref_cmp (stands_within end) (within-earlier end) e.0 y b l) (first_so _ _ h))
] refl

-- one step along such a beginning
module _ {X : Type 0} (end : Option Cut) (left later : List (Reference × X)) (e : Reference × X) (first : left ≡ e ∷ later) where
  pub front_goes : stands_within end e.0 ≡ true → front_to end left ≡ e ∷ front_to end later
  front_goes h = ap (front_to end) first ∙ ap (λ b. cond b (e ∷ front_to end later) []) h

  pub front_stops : stands_within end e.0 ≡ false → front_to end left ≡ []
  front_stops h = ap (front_to end) first ∙ ap (λ b. cond b (e ∷ front_to end later) []) h

  pub back_goes_on : stands_under end e.0 ≡ false → front_down_to end left ≡ e ∷ front_down_to end later
  back_goes_on h = ap (front_down_to end) first ∙ ap (λ b. cond b [] (e ∷ front_down_to end later)) h

  pub back_stops_at : stands_under end e.0 ≡ true → front_down_to end left ≡ []
  back_stops_at h = ap (front_down_to end) first ∙ ap (λ b. cond b [] (e ∷ front_down_to end later)) h

-- ---- the first before an end

-- what passes W stands before what doesn't: the first that passes B is the first of all that do, or there is none
kept : {X : Type 0} (B W : Reference → Bool) (es : List (Reference × X)) → ((x y : Reference) → ref_cmp x y ≡ Less → W y ≡ true → W x ≡ true) → is_sorted ref_cmp es ≡ true
    → find (λ e. B e.0) (filter (λ e. W e.0) es) ≡ keep W (find (λ e. B e.0) es)
kept B W [] early h = refl
kept B W (e ∷ es) early h =
    let rest = kept B W es early (second_so (below_all ref_cmp e.0 es) _ h) in
    elim (W e.0) as (λ w. W e.0 ≡ w → find (λ e. B e.0) (cond w (e ∷ filter (λ e. W e.0) es) (filter (λ e. W e.0) es)) ≡ keep W (cond (B e.0) (Some e) (find (λ e. B e.0) es))) [
      | true ↦ λ w. elim (B e.0) as (λ b. cond b (Some e) (find (λ e. B e.0) (filter (λ e. W e.0) es)) ≡ keep W (cond b (Some e) (find (λ e. B e.0) es))) [
        | true ↦ sym (ap (λ b. cond b (Some e) None) w)
        | false ↦ rest
      ]
      | false ↦ λ w.
          let none : filter (λ e. W e.0) es ≡ [] = none_pass ref_cmp W e.0 es (λ y l. still_fails ref_cmp W early e.0 y w l) (first_so _ _ h) in
          elim (B e.0) as (λ b. find (λ e. B e.0) (filter (λ e. W e.0) es) ≡ keep W (cond b (Some e) (find (λ e. B e.0) es))) [
            | true ↦ ap (find (λ e. B e.0)) none ∙ sym (ap (λ b. cond b (Some e) None) w)
            | false ↦ rest
          ]
    ] refl

pub nearest_to : (P : Reference → Bool) (end : Option Cut) (m : Database) → nearest_entry true P (up_to end m) ≡ keep (stands_within end) (nearest_entry true P m)
nearest_to P end m =
    ap (find (λ e. P e.0)) (entries_to end m)
    ∙ kept P (stands_within end) (finmap.entries m) (within-earlier end) (true_of _ (finmap.entries_sorted m))

pub first_to : (cut : Cut) (end : Option Cut) (m : Database) → first_from_cut cut (up_to end m) ≡ keep (stands_within end) (first_from_cut cut m)
first_to cut end m = nearest_to (λ x. not (stands_before cut x)) end m

-- the same of the last from a floor on
last_kept : {X : Type 0} (B U : Reference → Bool) (es : List (Reference × X)) → ((x y : Reference) → ref_cmp x y ≡ Less → U y ≡ true → U x ≡ true) → is_sorted ref_cmp es ≡ true
    → find_last (λ e. B e.0) (filter (λ e. not (U e.0)) es) ≡ keep (λ x. not (U x)) (find_last (λ e. B e.0) es)
last_kept B U [] early h = refl
last_kept {X = X} B U (e ∷ es) early h =
    let rest = last_kept B U es early (second_so (below_all ref_cmp e.0 es) _ h) in
    elim (U e.0) as (λ u. U e.0 ≡ u → find_last (λ e. B e.0) (cond (not u) (e ∷ filter (λ e. not (U e.0)) es) (filter (λ e. not (U e.0)) es)) ≡ keep (λ x. not (U x)) (option_or (find_last (λ e. B e.0) es) (cond (B e.0) (Some e) None))) [
      | true ↦ λ u. rest ∙ sym (dropped u (find_last (λ e. B e.0) es) (B e.0))
      | false ↦ λ u.
          let all : filter (λ e. not (U e.0)) es ≡ es = all_from (λ x. not (U x)) e.0 es (λ y l. ap not (still_fails ref_cmp U early e.0 y u l)) (first_so _ _ h) in
          by_last u (find_last (λ e. B e.0) es) (B e.0) (ap (find_last (λ e. B e.0)) (sym all) ∙ rest) (ap (find_last (λ e. B e.0)) all)
    ] refl
  where
    dropped : U e.0 ≡ true → (o : Option (Reference × X)) (b : Bool) → keep (λ x. not (U x)) (option_or o (cond b (Some e) None)) ≡ keep (λ x. not (U x)) o
    dropped u (Some f) b = refl
    dropped u None true = ap (λ b. cond (not b) (Some e) None) u
    dropped u None false = refl

    by_last : U e.0 ≡ false → (o : Option (Reference × X)) (b : Bool) → o ≡ keep (λ x. not (U x)) o → find_last (λ e. B e.0) (filter (λ e. not (U e.0)) es) ≡ o
        → option_or (find_last (λ e. B e.0) (filter (λ e. not (U e.0)) es)) (cond b (Some e) None) ≡ keep (λ x. not (U x)) (option_or o (cond b (Some e) None))
    by_last u (Some f) b same is = ap (λ p. option_or p (cond b (Some e) None)) is ∙ same
    by_last u None true same is = ap (λ p. option_or p (Some e)) is ∙ sym (ap (λ b. cond (not b) (Some e) None) u)
    by_last u None false same is = ap (λ p. option_or p None) is

pub nearest_down : (P : Reference → Bool) (floor : Option Cut) (m : Database) → nearest_entry false P (down_to floor m) ≡ keep (λ x. not (stands_under floor x)) (nearest_entry false P m)
nearest_down P floor m =
    ap (find_last (λ e. P e.0)) (entries_down floor m)
    ∙ last_kept P (stands_under floor) (finmap.entries m) (under-earlier floor) (true_of _ (finmap.entries_sorted m))

pub last_to : (cut : Cut) (floor : Option Cut) (m : Database) → last_before_cut cut (down_to floor m) ≡ keep (λ x. not (stands_under floor x)) (last_before_cut cut m)
last_to cut floor m = nearest_down (stands_before cut) floor m

module _ (cut : Cut) (end : Option Cut) (m : Database) where
  pub found_to : (e : Reference × List ℕ) → first_from_cut cut m ≡ Some e → stands_within end e.0 ≡ true → first_from_cut cut (up_to end m) ≡ Some e
  found_to e is h = first_to cut end m ∙ ap (keep (stands_within end)) is ∙ ap (λ b. cond b (Some e) None) h

  pub found_beyond : (e : Reference × List ℕ) → first_from_cut cut m ≡ Some e → stands_within end e.0 ≡ false → first_from_cut cut (up_to end m) ≡ None
  found_beyond e is h = first_to cut end m ∙ ap (keep (stands_within end)) is ∙ ap (λ b. cond b (Some e) None) h

  pub nothing_to : first_from_cut cut m ≡ None → first_from_cut cut (up_to end m) ≡ None
  nothing_to is = first_to cut end m ∙ ap (keep (stands_within end)) is

  pub last_found_to : (e : Reference × List ℕ) → last_before_cut cut m ≡ Some e → stands_under end e.0 ≡ false → last_before_cut cut (down_to end m) ≡ Some e
  last_found_to e is h = last_to cut end m ∙ ap (keep (λ x. not (stands_under end x))) is ∙ ap (λ b. cond (not b) (Some e) None) h

  pub last_beyond : (e : Reference × List ℕ) → last_before_cut cut m ≡ Some e → stands_under end e.0 ≡ true → last_before_cut cut (down_to end m) ≡ None
  last_beyond e is h = last_to cut end m ∙ ap (keep (λ x. not (stands_under end x))) is ∙ ap (λ b. cond (not b) (Some e) None) h

  pub nothing_down : last_before_cut cut m ≡ None → last_before_cut cut (down_to end m) ≡ None
  nothing_down is = last_to cut end m ∙ ap (keep (λ x. not (stands_under end x))) is

and_turned : (a b : Bool) → (a && b) ≡ (b && a)
and_turned true true = refl
and_turned true false = refl
and_turned false true = refl
and_turned false false = refl

pub entries_between : (cut : Cut) (end : Option Cut) (m : Database) → entries_from cut (up_to end m) ≡ filter (λ e. stands_within end e.0) (entries_from cut m)
entries_between cut end m =
    ap (filter (λ e. not (stands_before cut e.0))) (entries_to end m)
    ∙ both_tests (stands_within end) (λ x. not (stands_before cut x)) (finmap.entries m)
    ∙ (λ i. filter (λ e. and_turned (stands_within end e.0) (not (stands_before cut e.0)) i) (finmap.entries m))
    ∙ sym (both_tests (λ x. not (stands_before cut x)) (stands_within end) (finmap.entries m))

pub front_between : (cut : Cut) (end : Option Cut) (m : Database) → front_to end (entries_from cut m) ≡ entries_from cut (up_to end m)
front_between cut end m =
    front_is end (entries_from cut m) (true_of _ (is_sorted-where_key ref_cmp (λ x. not (stands_before cut x)) (finmap.entries m) (finmap.entries_sorted m)))
    ∙ sym (entries_between cut end m)

-- the members at and under a reference lie between two cuts
pub subtree_between : (root : Reference) (before past : Cut) (m : Database) → ((x : Reference) → stands_before before x ≡ is_lt (ref_cmp x root)) → ((x : Reference) → stands_before past x ≡ is_before true root x)
    → entries_from before (up_to (Some past) m) ≡ subtree_of root m
subtree_between root before past m low high =
    entries_between before (Some past) m
    ∙ both_tests (λ x. not (stands_before before x)) (stands_before past) (finmap.entries m)
    ∙ (λ i. filter (λ e. not (low e.0 i) && high e.0 i) (finmap.entries m))
    ∙ (λ i. filter (λ e. sym (under_between root e.0) i) (finmap.entries m))

-- and no descendant lies behind
pub descendants_to : (root : Reference) (past : Cut) (m : Database) → ((x : Reference) → stands_before past x ≡ is_before true root x) → list_any (is_below root) (finmap.keys (up_to (Some past) m)) ≡ list_any (is_below root) (finmap.keys m)
descendants_to root past m high =
    any_nearest (is_below root) (up_to (Some past) m)
    ∙ ap is_some (ap (find (λ e. is_below root e.0)) (entries_to (Some past) m) ∙ find_kept (stands_before past) (is_below root) (λ x h. high x ∙ below_is_before root x h) (finmap.entries m))
    ∙ sym (any_nearest (is_below root) m)

-- ---- back

back_stops : {X : Type 0} (floor : Option Cut) (xs : List (Reference × X)) (e : Reference × X) → stands_under floor e.0 ≡ true → front_down_to floor (xs ++ e ∷ []) ≡ front_down_to floor xs
back_stops floor [] e h = ap (λ b. cond b [] (e ∷ [])) h
back_stops floor (x ∷ xs) e h = ap (λ l. cond (stands_under floor x.0) [] (x ∷ l)) (back_stops floor xs e h)

back_goes : {X : Type 0} (floor : Option Cut) (xs : List (Reference × X)) (e : Reference × X) → stands_under floor e.0 ≡ false → front_down_to floor xs ≡ xs → front_down_to floor (xs ++ e ∷ []) ≡ xs ++ e ∷ []
back_goes floor [] e h all = ap (λ b. cond b [] (e ∷ [])) h
back_goes floor (x ∷ xs) e h all = by_test (stands_under floor x.0) all (back_goes floor xs e h)
  where
    by_test : (b : Bool) → cond b [] (x ∷ front_down_to floor xs) ≡ x ∷ xs → (front_down_to floor xs ≡ xs → front_down_to floor (xs ++ e ∷ []) ≡ xs ++ e ∷ []) → cond b [] (x ∷ front_down_to floor (xs ++ e ∷ [])) ≡ x ∷ (xs ++ e ∷ [])
    by_test true all rest = absurd (cc)
    by_test false all rest = let same : front_down_to floor xs ≡ xs = cc in ap (λ l. x ∷ l) (rest same)

pub back_is : {X : Type 0} (floor : Option Cut) (es : List (Reference × X)) → is_sorted ref_cmp es ≡ true → front_down_to floor (reverse es) ≡ reverse (filter (λ e. not (stands_under floor e.0)) es)
back_is floor [] h = refl
back_is floor (e ∷ es) h =
    let rest : front_down_to floor (reverse es) ≡ reverse (filter (λ e. not (stands_under floor e.0)) es) = back_is floor es (second_so (below_all ref_cmp e.0 es) _ h) in
    ap (front_down_to floor) (reverse-append (e ∷ []) es) ∙
    (elim (stands_under floor e.0) as (λ b. stands_under floor e.0 ≡ b → front_down_to floor (reverse es ++ e ∷ []) ≡ reverse (cond (not b) (e ∷ filter (λ e. not (stands_under floor e.0)) es) (filter (λ e. not (stands_under floor e.0)) es))) [
      | true ↦ λ b. back_stops floor (reverse es) e b ∙ rest
      | false ↦ λ b.
          let all : filter (λ e. not (stands_under floor e.0)) es ≡ es = all_from (λ x. not (stands_under floor x)) e.0 es (λ y l. ap not (still_fails ref_cmp (stands_under floor) (under-earlier floor) e.0 y b l)) (first_so _ _ h) in
          back_goes floor (reverse es) e b (rest ∙ ap reverse all) ∙ sym (reverse-append (e ∷ []) es) ∙ ap (λ l. reverse (e ∷ l)) (sym all)
    ] refl)
