-- Writes laid over a database: what each reference has, and what one more write does.
use Rattle.std.proofs.Common.{◌≡◌, ℕ, Bool, true, false, List, [], ◌∷◌, ◌++◌, length, ◌⊎◌, refl, sym, ap, subst, ◌∙◌, inl, inr, arith}
use Rattle.std.specs.Prelude.{cond, not, ◌&&◌, ◌||◌, is_some, Option, Some, None}
use Rattle.std.proofs.lemmas.Bool.{and_from, or_left, or_right, false_from_ne_true}
use Rattle.std.specs.Option.{option_or}
use Rattle.std.specs.declared.cmp.Ordering.{Ordering}
use Rattle.std.specs.declared.cmp.Ordering.TheVariants.{Less, Equal, Greater}
use Rattle.std.specs.Ordering.{is_lt, eq_by_cmp}
use Rattle.std.specs.Cmp.{both_ways}
use Rattle.std.specs.List.{list_any}
use Rattle.std.specs.FinMap as finmap
use Rattle.std.specs.FinMap.{FinMap}
use Rattle.collation.specs.Reference.{Reference}
use Rattle.collation.specs.Order.{ref_cmp, ref_eq}
use Rattle.collation.specs.laws.Order.{ref_cmp_total, ref_cmp-IsAntisymmetric, ref_ties, ref_eq_decides, is_equal, turned}
use Rattle.std.proofs.lemmas.Option.{none-some, same_Some}
use Rattle.collation.specs.Database.{Database, is_under}
use Rattle.globals.specs.Entries.{nearest_entry}
use Rattle.collation.specs.Answers.{set_all}
use Rattle.globals.specs.laws.Nearest.{IsNearest, nearest_is, nearest_none}
use Rattle.globals.specs.laws.Cuts.{before_end-earlier}
use Rattle.globals.specs.laws.Under.{under_again, under_itself, not_before}
use Rattle.command.specs.Data.{takes}
use Rattle.command.specs.declared.access.Extent.{Extent}
use Rattle.command.specs.declared.access.Extent.TheVariants.{All, Value, Below}
use Rattle.globals.specs.Cuts.{taken_start, taken_end}
use Rattle.globals.specs.laws.Changing.{get_set, kill_taken}
use Rattle.globals.specs.laws.Nearest.{not_found_itself, true_of}
use Rattle.globals.specs.laws.Taken.{takes_between, takes_under}
use Rattle.globals.specs.laws.Telling.{below_so, child_under, under_child}
use Rattle.std.specs.Cmp.{first_so, second_so}
use Rattle.std.specs.FinMap.Entries.{below_all, is_sorted}
use Rattle.collation.specs.Levels.{below, child_of, is_below}
use Rattle.workspace.specs.Layers.{Layer, nothing_written, is_covered, is_killed, laid_over, decides, both, joined, with_killed, includes, NoneUnderAnother, IsKiller}

-- ---- what each reference has

found_in_two : (q : Reference) (es fs : List (Reference × List ℕ)) → finmap.find ref_cmp q (es ++ fs) ≡ option_or (finmap.find ref_cmp q es) (finmap.find ref_cmp q fs)
found_in_two q [] fs = refl
found_in_two q (e ∷ es) fs =
    elim (eq_by_cmp ref_cmp q e.0) as (λ b. cond b (Some e.1) (finmap.find ref_cmp q (es ++ fs)) ≡ option_or (cond b (Some e.1) (finmap.find ref_cmp q es)) (finmap.find ref_cmp q fs)) [
      | true ↦ refl
      | false ↦ found_in_two q es fs
    ]

turned_test : {A : Type 0} (b : Bool) (x y : A) → cond (not b) x y ≡ cond b y x
turned_test true x y = refl
turned_test false x y = refl

-- a written value counts, what is killed has none, and the rest has what it had
pub get_over : (w : Layer) (m : Database) (q : Reference) → finmap.get (laid_over w m) q ≡ option_or (finmap.get w.written q) (cond (is_killed w.killed q) None (finmap.get m q))
unfolding laid_over
get_over w m q =
    let left = finmap.retain_keys m (λ x. not (is_killed w.killed x)) in
    finmap.get-from_entries ref_cmp_total (finmap.entries w.written ++ finmap.entries left) q
    ∙ found_in_two q (finmap.entries w.written) (finmap.entries left)
    ∙ (λ i. option_or (sym (finmap.get-entries w.written q) i) (sym (finmap.get-entries left q) i))
    ∙ ap (option_or (finmap.get w.written q)) (finmap.get-retain_keys m (λ x. not (is_killed w.killed x)) q (λ x e. ap (λ z. not (is_killed w.killed z)) (sym (ref_cmp-IsAntisymmetric q x e))) ∙ turned_test (is_killed w.killed q) (finmap.get m q) None)

same : (m n : Database) → ((q : Reference) → finmap.get m q ≡ finmap.get n q) → m ≡ n
same = finmap.same_map ref_cmp_total ref_cmp-IsAntisymmetric

-- with nothing written the database is as it is
pub over_nothing : (m : Database) → laid_over nothing_written m ≡ m
over_nothing m = same _ _ (λ q. get_over nothing_written m q ∙ ap (λ o. option_or o (finmap.get m q)) (finmap.get-empty ref_cmp q))

-- ---- SET

chosen : {A : Type 0} (b : Bool) (v : A) (o rest : Option A) → option_or (cond b (Some v) o) rest ≡ cond b (Some v) (option_or o rest)
chosen true v o rest = refl
chosen false v o rest = refl

pub over_set : (w : Layer) (m : Database) (k : Reference) (v : List ℕ) → laid_over (record w { written = finmap.insert w.written k v }) m ≡ finmap.insert (laid_over w m) k v
over_set w m k v = same _ _ (λ q.
    let rest = cond (is_killed w.killed q) None (finmap.get m q) in
    get_over (record w { written = finmap.insert w.written k v }) m q
    ∙ ap (λ o. option_or o rest) (get_set w.written k v q)
    ∙ chosen (ref_eq q k) v (finmap.get w.written q) rest
    ∙ ap (cond (ref_eq q k) (Some v)) (sym (get_over w m q))
    ∙ sym (get_set (laid_over w m) k v q))

decided : {A : Type 0} (b k : Bool) (v : A) (o : Option A) → (is_some (cond b (Some v) o) || k) ≡ ((is_some o || k) || b)
decided true k v None = sym (or_right k true refl)
decided true k v (Some x) = refl
decided false k v o = sym (or_none (is_some o || k))
  where
    or_none : (b : Bool) → (b || false) ≡ b
    or_none true = refl
    or_none false = refl

pub decides_set : (w : Layer) (k : Reference) (v : List ℕ) (x : Reference) → decides (record w { written = finmap.insert w.written k v }) x ≡ (decides w x || ref_eq x k)
decides_set w k v x = ap (λ o. is_some o || is_killed w.killed x) (get_set w.written k v x) ∙ decided (ref_eq x k) (is_killed w.killed x) v (finmap.get w.written x)

-- ---- MERGE's copies

pub over_set_all : (es : List (Reference × List ℕ)) (w : Layer) (m : Database) → laid_over (record w { written = set_all es w.written }) m ≡ set_all es (laid_over w m)
over_set_all [] w m = refl
over_set_all (e ∷ es) w m = over_set_all es (record w { written = finmap.insert w.written e.0 e.1 }) m ∙ ap (set_all es) (over_set w m e.0 e.1)

or_assoc : (a b c : Bool) → ((a || b) || c) ≡ (a || (b || c))
or_assoc true b c = refl
or_assoc false b c = refl

or_nothing : (a : Bool) → a ≡ (a || false)
or_nothing true = refl
or_nothing false = refl

pub decides_set_all : (es : List (Reference × List ℕ)) (w : Layer) (x : Reference) → decides (record w { written = set_all es w.written }) x ≡ (decides w x || list_any (λ (e : Reference × List ℕ). ref_eq x e.0) es)
decides_set_all [] w x = or_nothing (decides w x)
decides_set_all (e ∷ es) w x =
    decides_set_all es (record w { written = finmap.insert w.written e.0 e.1 }) x
    ∙ ap (λ b. b || list_any (λ (e : Reference × List ℕ). ref_eq x e.0) es) (decides_set w e.0 e.1 x)
    ∙ or_assoc (decides w x) (ref_eq x e.0) _

-- ---- KILL

-- w is without what the kill takes, and that is killed
pub record KillsTaken (r : Reference) (extent : Extent) (w n : Layer) : Type 0 where
  pub written : n.written ≡ finmap.retain_keys w.written (λ x. not (takes extent r x))
  pub killed : (x : Reference) → is_killed n.killed x ≡ (is_killed w.killed x || takes extent r x)

killed_one : {A : Type 0} (u k : Bool) (o g : Option A) → option_or (cond u None o) (cond (k || u) None g) ≡ cond u None (option_or o (cond k None g))
killed_one true true o g = refl
killed_one true false o g = refl
killed_one false true o g = refl
killed_one false false o g = refl

pub over_kill : (r : Reference) (extent : Extent) (w n : Layer) → KillsTaken r extent w n → (m : Database) → laid_over n m ≡ finmap.retain_keys (laid_over w m) (λ x. not (takes extent r x))
over_kill r extent w n kills m = same _ _ (λ q.
    get_over n m q
    ∙ (λ i. option_or ((ap (λ a. finmap.get a q) kills.written ∙ kill_taken w.written r extent q) i) (cond (kills.killed q i) None (finmap.get m q)))
    ∙ killed_one (takes extent r q) (is_killed w.killed q) (finmap.get w.written q) (finmap.get m q)
    ∙ ap (cond (takes extent r q) None) (sym (get_over w m q))
    ∙ sym (kill_taken (laid_over w m) r extent q))

killed_decides : {A : Type 0} (u k : Bool) (o : Option A) → (is_some (cond u None o) || (k || u)) ≡ ((is_some o || k) || u)
killed_decides true true o = sym (or_right (is_some o || true) true refl)
killed_decides true false o = sym (or_right (is_some o || false) true refl)
killed_decides false k o = sym (or_assoc (is_some o) k false)

pub decides_kill : (r : Reference) (extent : Extent) (w n : Layer) → KillsTaken r extent w n → (x : Reference) → decides n x ≡ (decides w x || takes extent r x)
decides_kill r extent w n kills x =
    (λ i. is_some ((ap (λ a. finmap.get a x) kills.written ∙ kill_taken w.written r extent x) i) || kills.killed x i)
    ∙ killed_decides (takes extent r x) (is_killed w.killed x) (finmap.get w.written x)

-- ---- what kills take

or_itself : (b : Bool) → b ≡ (b || b)
or_itself true = refl
or_itself false = refl

-- a test that another implies
or_under : (u t : Bool) → (t ≡ true → u ≡ true) → u ≡ (u || t)
or_under true t within = refl
or_under false true within = within refl
or_under false false within = refl

under_or : (u t : Bool) → (t ≡ true → u ≡ true) → u ≡ (t || u)
under_or u true within = within refl
under_or u false within = refl

eq_turned : (r x : Reference) → ref_eq r x ≡ ref_eq x r
eq_turned r x = both_ways _ _ (λ e. (ref_eq_decides x r).1 (sym ((ref_eq_decides r x).0 e))) (λ e. (ref_eq_decides r x).1 (sym ((ref_eq_decides x r).0 e)))

-- what is at and under r is r, or is below it
value_or_below : (r x : Reference) → is_under r x ≡ (ref_eq x r || is_below r x)
value_or_below r x = by_test (is_under r x) (ref_eq x r) (takes_under Value r x) ∙ ap (λ b. ref_eq x r || b) (sym (below_so r x ∙ ap (λ b. is_under r x && not b) (eq_turned r x)))
  where
    by_test : (u e : Bool) → (e ≡ true → u ≡ true) → u ≡ (e || (u && not e))
    by_test u true within = within refl
    by_test true false within = refl
    by_test false false within = refl

or_turned : (a b : Bool) → (a || b) ≡ (b || a)
or_turned true true = refl
or_turned true false = refl
or_turned false true = refl
or_turned false false = refl

takes_both : (before extent : Extent) (r x : Reference) → takes (both before extent) r x ≡ (takes before r x || takes extent r x)
takes_both All All r x = or_itself (is_under r x)
takes_both All Value r x = or_under (is_under r x) (ref_eq x r) (takes_under Value r x)
takes_both All Below r x = or_under (is_under r x) (is_below r x) (takes_under Below r x)
takes_both Value All r x = under_or (is_under r x) (ref_eq x r) (takes_under Value r x)
takes_both Value Value r x = or_itself (ref_eq x r)
takes_both Value Below r x = value_or_below r x
takes_both Below All r x = under_or (is_under r x) (is_below r x) (takes_under Below r x)
takes_both Below Value r x = value_or_below r x ∙ or_turned (ref_eq x r) (is_below r x)
takes_both Below Below r x = or_itself (is_below r x)

-- what was killed of r before takes x
abbrev took : Option Extent → Reference → Reference → Bool
took None r x = false
took (Some before) r x = takes before r x

takes_joined : (o : Option Extent) (extent : Extent) (r x : Reference) → takes (joined o extent) r x ≡ (took o r x || takes extent r x)
takes_joined None extent r x = refl
takes_joined (Some before) extent r x = takes_both before extent r x

-- what is under another reference that a kill takes it takes too
pub takes_again : (extent : Extent) (r y x : Reference) → takes extent r y ≡ true → (r ≡ y → ⊥) → is_under y x ≡ true → takes extent r x ≡ true
takes_again All r y x taken apart under = under_again r y x taken under
takes_again Value r y x taken apart under = absurd (apart (sym ((ref_eq_decides y r).0 taken)))
takes_again Below r y x taken apart under = by_child (child_of r y) refl taken
  where
    by_child : (o : Option (List ℕ)) → child_of r y ≡ o → is_some o ≡ true → is_below r x ≡ true
    by_child None is h = absurd (cc)
    by_child (Some s) is h = ap is_some (under_child r x s (under_again (below r s) y x (child_under r y s is) under))

-- what stands between a reference and something that its kill takes the kill takes too
pub takes_earlier : (extent : Extent) (s f x : Reference) → takes extent s x ≡ true → ref_cmp s f ≡ Less → (ref_cmp f x ≡ Less) ⊎ (f ≡ x) → takes extent s f ≡ true
takes_earlier extent s f x taken after (inr same_one) = ap (takes extent s) same_one ∙ taken
takes_earlier extent s f x taken after (inl earlier) =
    takes_between extent s f ∙ and_from _ _ (begun extent) (ended extent (second_so (not (taken_start extent s x)) _ (sym (takes_between extent s x) ∙ taken)))
  where
    back : is_lt (ref_cmp f s) ≡ false
    back = ap is_lt (turned ref_cmp_total s f Less after)

    begun : (e : Extent) → not (taken_start e s f) ≡ true
    begun All = ap not back
    begun Value = ap not back
    begun Below = ap (λ o. not (not (is_lt o))) after

    ended : (e : Extent) → taken_end e s x ≡ true → taken_end e s f ≡ true
    ended All h = before_end-earlier s f x earlier h
    ended Value h =
        let later : is_lt (ref_cmp s x) ≡ true = ap is_lt (ref_cmp_total.trans s f x after earlier) in
        let no : false ≡ true = sym (ap not later) ∙ h in
        absurd (cc)
    ended Below h = before_end-earlier s f x earlier h

-- ---- killed references that stand apart

abbrev Kill : Type 0
Kill = Reference × Extent

nothing_there : {X : Type 0} (es : List (Reference × X)) → length es ≡ 0 → es ≡ []
nothing_there [] e = refl
nothing_there (x ∷ es) e = absurd (omega arith)

-- nothing is killed where no reference is
pub entries_of_empty : (X : Type 0) → finmap.entries (finmap.empty {X = X} {R = ref_cmp}) ≡ []
entries_of_empty X = nothing_there _ (sym (finmap.len-entries finmap.empty) ∙ finmap.len-empty ref_cmp X)

pub apart_empty : NoneUnderAnother finmap.empty
apart_empty = record { apart = λ r s e p q u. let none : None ≡ Some e = sym (finmap.get-empty ref_cmp r) ∙ p in absurd (cc) }

-- an entry that passes a test, and its value
any_there : (P : Kill → Bool) (es : List Kill) (r : Reference) (e : Extent) → finmap.find ref_cmp r es ≡ Some e → P (r, e) ≡ true → list_any P es ≡ true
any_there P [] r e is h = absurd (cc)
any_there P (k ∷ es) r e is h = by_test (eq_by_cmp ref_cmp r k.0) refl is (λ found. any_there P es r e found h)
  where
    by_test : (b : Bool) → eq_by_cmp ref_cmp r k.0 ≡ b → cond b (Some k.1) (finmap.find ref_cmp r es) ≡ Some e → (finmap.find ref_cmp r es ≡ Some e → list_any P es ≡ true) → (P k || list_any P es) ≡ true
    by_test true tied is rest =
        let r_is : r ≡ k.0 = ref_cmp-IsAntisymmetric r k.0 (is_equal (ref_cmp r k.0) tied) in
        let e_is : k.1 ≡ e = same_Some _ _ is in
        or_left (P k) _ ((λ i. P (sym r_is i, e_is i)) ∙ h)
    by_test false tied is rest = or_right (P k) _ (rest is)

-- the first entry is found, and what is found behind it
pub found_first : (k : Kill) (es : List Kill) → finmap.find ref_cmp k.0 (k ∷ es) ≡ Some k.1
found_first k es = ap (λ b. cond b (Some k.1) (finmap.find ref_cmp k.0 es)) (sym (ref_ties k.0 k.0) ∙ (ref_eq_decides k.0 k.0).1 refl)

pub found_behind : (k : Kill) (es : List Kill) → below_all ref_cmp k.0 es ≡ true → (r : Reference) (e : Extent) → finmap.find ref_cmp r es ≡ Some e → finmap.find ref_cmp r (k ∷ es) ≡ Some e
found_behind k es above r e is = by_test (eq_by_cmp ref_cmp r k.0) refl
  where
    by_test : (b : Bool) → eq_by_cmp ref_cmp r k.0 ≡ b → cond b (Some k.1) (finmap.find ref_cmp r es) ≡ Some e
    by_test true tied =
        let r_is : r ≡ k.0 = ref_cmp-IsAntisymmetric r k.0 (is_equal (ref_cmp r k.0) tied) in
        let none : None ≡ Some e = sym (not_found_itself ref_cmp ref_cmp_total ref_cmp-IsAntisymmetric k.0 es above) ∙ ap (λ z. finmap.find ref_cmp z es) (sym r_is) ∙ is in
        absurd (cc)
    by_test false tied = is

any_found : (P : Kill → Bool) (es : List Kill) → is_sorted ref_cmp es ≡ true → list_any P es ≡ true → (r : Reference) × (e : Extent) × (finmap.find ref_cmp r es ≡ Some e) × (P (r, e) ≡ true)
any_found P [] sorted h = absurd (cc)
any_found P (k ∷ es) sorted h = by_test (P k) refl h (any_found P es (second_so (below_all ref_cmp k.0 es) _ sorted))
  where
    by_test : (b : Bool) → P k ≡ b → (b || list_any P es) ≡ true → (list_any P es ≡ true → (r : Reference) × (e : Extent) × (finmap.find ref_cmp r es ≡ Some e) × (P (r, e) ≡ true))
        → (r : Reference) × (e : Extent) × (finmap.find ref_cmp r (k ∷ es) ≡ Some e) × (P (r, e) ≡ true)
    by_test true passes h rest = (k.0, k.1, found_first k es, passes)
    by_test false fails h rest = let f = rest h in (f.0, f.1, found_behind k es (first_so _ _ sorted) f.0 f.1 f.2, f.3)

-- a key whose kill takes x
pub record IsKilledBy (d : FinMap ref_cmp Extent) (x r : Reference) (e : Extent) : Type 0 where
  pub there : finmap.get d r ≡ Some e
  pub above : takes e r x ≡ true

pub killer : (d : FinMap ref_cmp Extent) (x : Reference) → is_killed (finmap.entries d) x ≡ true → (r : Reference) × (e : Extent) × IsKilledBy d x r e
killer d x is =
    let f = any_found (λ k. takes k.1 k.0 x) (finmap.entries d) (true_of _ (finmap.entries_sorted d)) is in
    (f.0, f.1, record { there = finmap.get-entries d f.0 ∙ f.2; above = f.3 })

pub killed_by : (d : FinMap ref_cmp Extent) (x r : Reference) (e : Extent) → IsKilledBy d x r e → is_killed (finmap.entries d) x ≡ true
killed_by d x r e by = any_there (λ k. takes k.1 k.0 x) (finmap.entries d) r e (sym (finmap.get-entries d r) ∙ by.there) by.above

-- the kill of another reference takes r
covered_by : (d : FinMap ref_cmp Extent) (r s : Reference) (e : Extent) → finmap.get d s ≡ Some e → takes e s r ≡ true → (s ≡ r → ⊥) → is_covered (finmap.entries d) r ≡ true
covered_by d r s e there taken apart =
    any_there (λ k. takes k.1 k.0 r && not (ref_eq k.0 r)) (finmap.entries d) s e (sym (finmap.get-entries d s) ∙ there)
    (and_from _ _ taken (ap not (false_from_ne_true _ (λ t. apart ((ref_eq_decides s r).0 t)))))

-- none does where r isn't killed, or is a killed reference of those that stand apart
pub free_unkilled : (ks : List Kill) (r : Reference) → is_killed ks r ≡ false → is_covered ks r ≡ false
free_unkilled [] r none = refl
free_unkilled (k ∷ ks) r none = by_test (takes k.1 k.0 r) none (free_unkilled ks r)
  where
    by_test : (t : Bool) → (t || is_killed ks r) ≡ false → (is_killed ks r ≡ false → is_covered ks r ≡ false) → ((t && not (ref_eq k.0 r)) || is_covered ks r) ≡ false
    by_test true none rest = absurd (cc)
    by_test false none rest = rest none

pub free_there : (d : FinMap ref_cmp Extent) (r : Reference) (e : Extent) → NoneUnderAnother d → finmap.get d r ≡ Some e → is_covered (finmap.entries d) r ≡ false
free_there d r e was there = false_from_ne_true _ (λ h.
    let f = any_found (λ k. takes k.1 k.0 r && not (ref_eq k.0 r)) (finmap.entries d) (true_of _ (finmap.entries_sorted d)) h in
    let one : f.0 ≡ r = was.apart f.0 r f.1 (finmap.get-entries d f.0 ∙ f.2) (ap is_some there) (first_so (takes f.1 f.0 r) _ f.3) in
    let t : true ≡ false = sym (second_so (takes f.1 f.0 r) (not (ref_eq f.0 r)) f.3) ∙ ap not ((ref_eq_decides f.0 r).1 one) in
    absurd (cc))

-- ---- one more kill

pub get_more : (d : FinMap ref_cmp Extent) (r : Reference) (extent : Extent) (x : Reference) → finmap.get (with_killed d r extent) x ≡ cond (ref_eq x r) (Some (joined (finmap.get d r) extent)) (cond (takes extent r x) None (finmap.get d x))
get_more d r extent x =
    let v = joined (finmap.get d r) extent in
    finmap.get-retain_keys (finmap.insert d r v) (λ y. ref_eq y r || not (takes extent r y)) x (λ y e. ap (λ z. ref_eq z r || not (takes extent r z)) (sym (ref_cmp-IsAntisymmetric x y e)))
    ∙ ap (λ o. cond (ref_eq x r || not (takes extent r x)) o None) (finmap.get-insert ref_cmp_total d r v x ∙ ap (λ b. cond b (Some v) (finmap.get d x)) (sym (ref_ties x r)))
    ∙ by_test (ref_eq x r) (takes extent r x) v (finmap.get d x)
  where
    by_test : (b u : Bool) (v : Extent) (o : Option Extent) → cond (b || not u) (cond b (Some v) o) None ≡ cond b (Some v) (cond u None o)
    by_test true u v o = refl
    by_test false true v o = refl
    by_test false false v o = refl

there_itself : (d : FinMap ref_cmp Extent) (r : Reference) (extent : Extent) → finmap.get (with_killed d r extent) r ≡ Some (joined (finmap.get d r) extent)
there_itself d r extent = get_more d r extent r ∙ ap (λ b. cond b (Some (joined (finmap.get d r) extent)) (cond (takes extent r r) None (finmap.get d r))) ((ref_eq_decides r r).1 refl)

-- a key is the new one, or an old one that the kill doesn't take
was_there : (d : FinMap ref_cmp Extent) (r : Reference) (extent : Extent) (x : Reference) (e : Extent) → finmap.get (with_killed d r extent) x ≡ Some e
    → ((x ≡ r) × (e ≡ joined (finmap.get d r) extent)) ⊎ ((finmap.get d x ≡ Some e) × (takes extent r x ≡ false))
was_there d r extent x e h = by_tests (ref_eq x r) (takes extent r x) refl refl (sym (get_more d r extent x) ∙ h)
  where
    by_tests : (b u : Bool) → ref_eq x r ≡ b → takes extent r x ≡ u → cond b (Some (joined (finmap.get d r) extent)) (cond u None (finmap.get d x)) ≡ Some e
        → ((x ≡ r) × (e ≡ joined (finmap.get d r) extent)) ⊎ ((finmap.get d x ≡ Some e) × (takes extent r x ≡ false))
    by_tests true u is taken t = inl ((ref_eq_decides x r).0 is, sym (same_Some _ _ t))
    by_tests false true is taken t = absurd (none-some _ t)
    by_tests false false is taken t = inr (t, taken)

still_there : (d : FinMap ref_cmp Extent) (r : Reference) (extent : Extent) (x : Reference) (e : Extent) → finmap.get d x ≡ Some e → ref_eq x r ≡ false → takes extent r x ≡ false → finmap.get (with_killed d r extent) x ≡ Some e
still_there d r extent x e h other untaken =
    get_more d r extent x ∙ ap (λ b. cond b (Some (joined (finmap.get d r) extent)) (cond (takes extent r x) None (finmap.get d x))) other
    ∙ ap (λ b. cond b None (finmap.get d x)) untaken ∙ h

-- what was killed of r, as a kill of the old ones
took_killed : (d : FinMap ref_cmp Extent) (r x : Reference) (o : Option Extent) → finmap.get d r ≡ o → took o r x ≡ true → is_killed (finmap.entries d) x ≡ true
took_killed d r x None is t = absurd (cc)
took_killed d r x (Some e) is t = killed_by d x r e (record { there = is; above = t })

pub killed_more : (d : FinMap ref_cmp Extent) (r : Reference) (extent : Extent) (x : Reference) → is_killed (finmap.entries (with_killed d r extent)) x ≡ (is_killed (finmap.entries d) x || takes extent r x)
killed_more d r extent x = both_ways _ _ onward (λ h. back (takes extent r x) refl h)
  where
    n : FinMap ref_cmp Extent
    n = with_killed d r extent

    new_takes : (s : Reference) (e : Extent) → s ≡ r → e ≡ joined (finmap.get d r) extent → takes e s x ≡ true → (took (finmap.get d r) r x || takes extent r x) ≡ true
    new_takes s e s_is e_is t = sym (takes_joined (finmap.get d r) extent r x) ∙ (λ i. takes (sym e_is i) (sym s_is i) x) ∙ t

    either_old : (a b : Bool) → a ≡ took (finmap.get d r) r x → (a || b) ≡ true → b ≡ takes extent r x → (is_killed (finmap.entries d) x || takes extent r x) ≡ true
    either_old true b a_is h b_is = or_left (is_killed (finmap.entries d) x) _ (took_killed d r x (finmap.get d r) refl (sym a_is))
    either_old false b a_is h b_is = or_right (is_killed (finmap.entries d) x) _ (sym b_is ∙ h)

    onward : is_killed (finmap.entries (with_killed d r extent)) x ≡ true → (is_killed (finmap.entries d) x || takes extent r x) ≡ true
    onward h =
        let by = killer (with_killed d r extent) x h in
        elim (was_there d r extent by.0 by.1 by.2.there) [
          | inl new ↦ either_old (took (finmap.get d r) r x) (takes extent r x) refl (new_takes by.0 by.1 new.0 new.1 by.2.above) refl
          | inr old ↦ or_left (is_killed (finmap.entries d) x) _ (killed_by d x by.0 by.1 (record { there = old.0; above = by.2.above }))
        ]

    by_itself : (took (finmap.get d r) r x || takes extent r x) ≡ true → is_killed (finmap.entries (with_killed d r extent)) x ≡ true
    by_itself h = killed_by (with_killed d r extent) x r (joined (finmap.get d r) extent) (record { there = there_itself d r extent; above = takes_joined (finmap.get d r) extent r x ∙ h })

    old_stays : (s : Reference) (e : Extent) → finmap.get d s ≡ Some e → takes e s x ≡ true → takes extent r x ≡ false → (b : Bool) → ref_eq s r ≡ b → is_killed (finmap.entries (with_killed d r extent)) x ≡ true
    old_stays s e there taken untaken true is =
        let s_is : s ≡ r = (ref_eq_decides s r).0 is in
        by_itself (or_left (took (finmap.get d r) r x) _ (ap (λ o. took o r x) (ap (finmap.get d) (sym s_is) ∙ there) ∙ ap (λ z. takes e z x) (sym s_is) ∙ taken))
    old_stays s e there taken untaken false is =
        let beside : takes extent r s ≡ false = false_from_ne_true _ (λ u.
        let t = takes_again extent r s x u (λ same_one. let no : true ≡ false = sym ((ref_eq_decides s r).1 (sym same_one)) ∙ is in absurd (cc)) (takes_under e s x taken) in
        absurd (cc)) in
        killed_by (with_killed d r extent) x s e (record { there = still_there d r extent s e there is beside; above = taken })

    back : (u : Bool) → takes extent r x ≡ u → (is_killed (finmap.entries d) x || takes extent r x) ≡ true → is_killed (finmap.entries (with_killed d r extent)) x ≡ true
    back true is h = by_itself (or_right (took (finmap.get d r) r x) _ is)
    back false is h =
        let old : is_killed (finmap.entries d) x ≡ true = or_nothing (is_killed (finmap.entries d) x) ∙ ap (λ b. is_killed (finmap.entries d) x || b) (sym is) ∙ h in
        let by = killer d x old in
        old_stays by.0 by.1 by.2.there by.2.above is (ref_eq by.0 r) refl

-- where all that a kill takes is killed, it kills no more
pub killed_covers : (ks : List Kill) (r : Reference) (extent : Extent) (x : Reference) → ((y : Reference) → takes extent r y ≡ true → is_killed ks y ≡ true) → is_killed ks x ≡ (is_killed ks x || takes extent r x)
killed_covers ks r extent x all = or_under (is_killed ks x) (takes extent r x) (all x)

pub apart_more : (d : FinMap ref_cmp Extent) (r : Reference) (extent : Extent) → NoneUnderAnother d → is_covered (finmap.entries d) r ≡ false → NoneUnderAnother (with_killed d r extent)
apart_more d r extent was free = record { apart = λ a b e p q u. by_end a b e u (was_there d r extent a e p) (finmap.get (with_killed d r extent) b) refl q }
  where
    old_one : (a b : Reference) (e : Extent) → finmap.get d a ≡ Some e → takes e a b ≡ true → (b ≡ r) ⊎ (finmap.contains_key d b ≡ true) → (c : Bool) → ref_eq a r ≡ c → a ≡ b
    old_one a b e there u (inr here) c is = was.apart a b e there here u
    old_one a b e there u (inl b_is) true is = (ref_eq_decides a r).0 is ∙ sym b_is
    old_one a b e there u (inl b_is) false is =
        let t : true ≡ false = sym (covered_by d r a e there (ap (takes e a) (sym b_is) ∙ u) (λ same_one. let no : true ≡ false = sym ((ref_eq_decides a r).1 same_one) ∙ is in absurd (cc))) ∙ free in
        absurd (cc)

    new_one : (b : Reference) → (took (finmap.get d r) r b || takes extent r b) ≡ true → (b ≡ r) ⊎ ((finmap.contains_key d b ≡ true) × (takes extent r b ≡ false)) → (o : Option Extent) → finmap.get d r ≡ o → took o r b ≡ took (finmap.get d r) r b → r ≡ b
    new_one b h (inl b_is) o is t = sym b_is
    new_one b h (inr (here, untaken)) None is t =
        let no : false ≡ true = (λ i. t i || sym untaken i) ∙ h in
        absurd (cc)
    new_one b h (inr (here, untaken)) (Some e) is t =
        let taken : takes e r b ≡ true = or_nothing (takes e r b) ∙ (λ i. t i || sym untaken i) ∙ h in
        was.apart r b e is here taken

    by_b : (b : Reference) (f : Extent) → ((b ≡ r) × (f ≡ joined (finmap.get d r) extent)) ⊎ ((finmap.get d b ≡ Some f) × (takes extent r b ≡ false)) → (b ≡ r) ⊎ ((finmap.contains_key d b ≡ true) × (takes extent r b ≡ false))
    by_b b f (inl p) = inl p.0
    by_b b f (inr p) = inr (ap is_some p.0, p.1)

    just_there : (b : Reference) → (b ≡ r) ⊎ ((finmap.contains_key d b ≡ true) × (takes extent r b ≡ false)) → (b ≡ r) ⊎ (finmap.contains_key d b ≡ true)
    just_there b (inl p) = inl p
    just_there b (inr p) = inr p.0

    by_end : (a b : Reference) (e : Extent) → takes e a b ≡ true → ((a ≡ r) × (e ≡ joined (finmap.get d r) extent)) ⊎ ((finmap.get d a ≡ Some e) × (takes extent r a ≡ false))
        → (o : Option Extent) → finmap.get (with_killed d r extent) b ≡ o → is_some (finmap.get (with_killed d r extent) b) ≡ true → a ≡ b
    by_end a b e u from None is q = let no : false ≡ true = sym (ap is_some is) ∙ q in absurd (cc)
    by_end a b e u (inl p) (Some f) is q =
        p.0 ∙ new_one b (sym (takes_joined (finmap.get d r) extent r b) ∙ (λ i. takes (sym p.1 i) (sym p.0 i) b) ∙ u) (by_b b f (was_there d r extent b f is)) (finmap.get d r) refl refl
    by_end a b e u (inr p) (Some f) is q = old_one a b e p.0 u (just_there b (by_b b f (was_there d r extent b f is))) (ref_eq a r) refl

-- ---- the killed reference whose kill takes one

pub none_killed : (d : FinMap ref_cmp Extent) (x : Reference) → nearest_entry false (λ r. not (is_lt (ref_cmp x r))) d ≡ None → is_killed (finmap.entries d) x ≡ false
none_killed d x is = false_from_ne_true _ (λ h.
    let by = killer d x h in
    let none : None ≡ Some by.1 = sym (nearest_none ref_cmp ref_cmp_total ref_cmp-IsAntisymmetric false (λ r. not (is_lt (ref_cmp x r))) d is by.0 (not_before by.0 x (takes_under by.1 by.0 x by.2.above))) ∙ by.2.there in
    absurd (cc))

-- where killed references stand apart, the last that doesn't stand after x is the one whose kill takes x, if there is one
pub last_kills : (d : FinMap ref_cmp Extent) (x : Reference) (f : Kill) → NoneUnderAnother d → nearest_entry false (λ r. not (is_lt (ref_cmp x r))) d ≡ Some f → is_killed (finmap.entries d) x ≡ takes f.1 f.0 x
last_kills d x f was is = both_ways _ _ onward (λ u. killed_by d x f.0 f.1 (record { there = found.there; above = u }))
  where
    found : IsNearest false (λ r. not (is_lt (ref_cmp x r))) d f
    found = nearest_is ref_cmp ref_cmp_total ref_cmp-IsAntisymmetric false (λ r. not (is_lt (ref_cmp x r))) d f is

    -- f isn't after x
    place : (o : Ordering) → ref_cmp f.0 x ≡ o → (ref_cmp f.0 x ≡ Less) ⊎ (f.0 ≡ x)
    place Less e = inl e
    place Equal e = inr (ref_cmp-IsAntisymmetric f.0 x e)
    place Greater e = let after = turned ref_cmp_total f.0 x Greater e in let no : false ≡ true = sym (ap (λ o. not (is_lt o)) after) ∙ found.passes in absurd (cc)

    one : (s : Reference) (e : Extent) → IsKilledBy d x s e → f.0 ≡ s → takes f.1 f.0 x ≡ true
    one s e by same_one =
        let e_is : f.1 ≡ e = same_Some _ _ (sym found.there ∙ ap (finmap.get d) same_one ∙ by.there) in
        (λ i. takes (e_is i) (same_one i) x) ∙ by.above

    by_order : (s : Reference) (e : Extent) → IsKilledBy d x s e → (o : Ordering) → ref_cmp f.0 s ≡ o → takes f.1 f.0 x ≡ true
    by_order s e by Less less = absurd (found.none_nearer s (not_before s x (takes_under e s x by.above)) (ap is_some by.there) less)
    by_order s e by Equal equal = one s e by (ref_cmp-IsAntisymmetric f.0 s equal)
    by_order s e by Greater greater =
        let taken : takes e s f.0 ≡ true = takes_earlier e s f.0 x by.above (turned ref_cmp_total f.0 s Greater greater) (place (ref_cmp f.0 x) refl) in
        one s e by (sym (was.apart s f.0 e by.there (ap is_some found.there) taken))

    onward : is_killed (finmap.entries d) x ≡ true → takes f.1 f.0 x ≡ true
    onward h = let by = killer d x h in by_order by.0 by.1 by.2 (ref_cmp f.0 by.0) refl

pub kills_all : (d : FinMap ref_cmp Extent) (x r : Reference) (extent : Extent) → NoneUnderAnother d → finmap.get d r ≡ Some extent → takes extent r x ≡ true → IsKiller (finmap.entries d) x r extent
kills_all d x r extent was there u = record { above = u; all = λ y v. killed_by d y r extent (record { there = there; above = v }); free = free_there d r extent was there }

pub last_there : (d : FinMap ref_cmp Extent) (x : Reference) (f : Kill) → nearest_entry false (λ r. not (is_lt (ref_cmp x r))) d ≡ Some f → finmap.get d f.0 ≡ Some f.1
last_there d x f is = let found = nearest_is ref_cmp ref_cmp_total ref_cmp-IsAntisymmetric false (λ r. not (is_lt (ref_cmp x r))) d f is in found.there

-- ---- whether a killer covers another kill

pub covers_beside : (ks : List Kill) (r k : Reference) (extent all : Extent) → IsKiller ks r k all → (k ≡ r → ⊥) → (x : Reference) → takes extent r x ≡ true → is_killed ks x ≡ true
covers_beside ks r k extent all by apart x h = by.all x (takes_again all k r x by.above apart (takes_under extent r x h))

includes_takes : (all extent : Extent) (r x : Reference) → includes all extent ≡ true → takes extent r x ≡ true → takes all r x ≡ true
includes_takes All extent r x inc h = takes_under extent r x h
includes_takes Value All r x inc h = absurd (cc)
includes_takes Value Value r x inc h = h
includes_takes Value Below r x inc h = absurd (cc)
includes_takes Below All r x inc h = absurd (cc)
includes_takes Below Value r x inc h = absurd (cc)
includes_takes Below Below r x inc h = h

pub covers_same : (ks : List Kill) (r k : Reference) (extent all : Extent) → IsKiller ks r k all → k ≡ r → includes all extent ≡ true → (x : Reference) → takes extent r x ≡ true → is_killed ks x ≡ true
covers_same ks r k extent all by same_one inc x h = by.all x (ap (λ z. takes all z x) same_one ∙ includes_takes all extent r x inc h)

pub free_killer : (ks : List Kill) (r k : Reference) (all : Extent) → IsKiller ks r k all → k ≡ r → is_covered ks r ≡ false
free_killer ks r k all by same_one = ap (is_covered ks) (sym same_one) ∙ by.free

-- two keys that a test tells apart, or not
pub apart_of : (k r : Reference) → not (ref_eq k r) ≡ true → k ≡ r → ⊥
apart_of k r h same_one = let no : false ≡ true = sym (ap not ((ref_eq_decides k r).1 same_one)) ∙ h in absurd (cc)

pub same_of : (k r : Reference) → not (ref_eq k r) ≡ false → k ≡ r
same_of k r h = (ref_eq_decides k r).0 (by_test (ref_eq k r) h)
  where
    by_test : (b : Bool) → not b ≡ false → b ≡ true
    by_test true h = refl
    by_test false h = absurd (cc)

-- ---- what is taken out of a map

-- below a reference is what is at and under it, without itself
below_left : (r x : Reference) → (ref_eq x r || not (is_under r x)) ≡ not (takes Below r x)
below_left r x = by_test (is_under r x) (ref_eq x r) ∙ ap not (sym (below_so r x ∙ ap (λ b. is_under r x && not b) (eq_turned r x)))
  where
    by_test : (u e : Bool) → (e || not u) ≡ not (u && not e)
    by_test true true = refl
    by_test true false = refl
    by_test false true = refl
    by_test false false = refl

pub left_below : {X : Type 0} (m : FinMap ref_cmp X) (r : Reference) → finmap.retain_keys m (λ x. ref_eq x r || not (is_under r x)) ≡ finmap.retain_keys m (λ x. not (takes Below r x))
left_below m r = λ i. finmap.retain_keys m (λ x. below_left r x i)

pub kept_below : {X : Type 0} (m : FinMap ref_cmp X) (r : Reference) → finmap.retain_keys m (λ x. ref_eq x r || not (is_under r x)) ≡ finmap.retain_keys m (λ x. ref_eq x r || not (takes Below r x))
kept_below m r = λ i. finmap.retain_keys m (λ x. (by_test (ref_eq x r) (not (is_under r x)) ∙ ap (λ b. ref_eq x r || b) (below_left r x)) i)
  where
    by_test : (e n : Bool) → (e || n) ≡ (e || (e || n))
    by_test true n = refl
    by_test false n = refl

-- one is taken out
pub left_alone : (m : Database) (r : Reference) → finmap.remove m r ≡ finmap.retain_keys m (λ x. not (takes Value r x))
left_alone m r = same _ _ (λ q. finmap.get-remove ref_cmp_total m r q ∙ ap (λ b. cond b None (finmap.get m q)) (sym (ref_ties q r)) ∙ sym (kill_taken m r Value q))

-- none is
pub kept_alone : {X : Type 0} (m : FinMap ref_cmp X) (r : Reference) → m ≡ finmap.retain_keys m (λ x. ref_eq x r || not (takes Value r x))
kept_alone {X} m r = finmap.same_map ref_cmp_total ref_cmp-IsAntisymmetric _ _ (λ q.
    sym (finmap.get-retain_keys m (λ x. ref_eq x r || not (takes Value r x)) q (λ y e. ap (λ z. ref_eq z r || not (takes Value r z)) (sym (ref_cmp-IsAntisymmetric q y e))) ∙ by_test (ref_eq q r) (finmap.get m q)))
  where
    by_test : (b : Bool) (o : Option X) → cond (b || not b) o None ≡ o
    by_test true o = refl
    by_test false o = refl
