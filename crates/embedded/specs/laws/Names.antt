-- The nearest name, by the nearest entry of the map, and by the member that a look-up from a cut gives.
use borrow.Author.Tests.{eqb-true}
use Rattle.std.proofs.Common.{◌≡◌, ℕ, zero, suc, ◌≤◌, ◌<◌, Bool, true, false, List, [], ◌∷◌, length, refl, sym, ap, ◌∙◌, arith}
use Rattle.std.proofs.lemmas.Bool.Decides.{nat_tests}
use Rattle.std.specs.Prelude.{◌==◌, not, ◌&&◌, ◌||◌, cond, map, filter, nat_eq, nat_le, Option, Some, None}
use Rattle.std.specs.Char.{is_ascii_digit, is_ascii_alphabetic}
use Rattle.std.specs.Cmp.{first_so, second_so}
use Rattle.std.specs.Cmp.Lexicographic.{slice_cmp, pointwise, nat_list_cmp_total, bytes_decides}
use Rattle.std.specs.FinMap as finmap
use Rattle.std.specs.FinMap.{slice_cmp-IsAntisymmetric, nat_cmp-IsAntisymmetric}
use Rattle.std.specs.List.{find, last_or, list_all}
use Rattle.std.specs.Option.{option_or, option_map}
use Rattle.std.specs.declared.cmp.Ordering.{Ordering}
use Rattle.std.specs.declared.cmp.Ordering.TheVariants.{Less, Equal, Greater}
use Rattle.std.specs.Ordering.{nat_cmp, is_lt, is_eq, ordering_then}
use Rattle.collation.specs.Bytes.{percent}
use Rattle.collation.specs.Database.{Database}
use Rattle.collation.specs.Levels.{is_before}
use Rattle.collation.specs.Name.{is_name, is_letter_or_digit}
use Rattle.collation.specs.Order.{ref_cmp, subscript_cmp}
use Rattle.collation.specs.Reference.{Reference}
use Rattle.collation.specs.laws.Order.{ties_of}
use Rattle.globals.specs.Cuts.{is_past, next_to, stands_before}
use Rattle.globals.specs.Entries.{find_last, nearest_entry}
use Rattle.globals.specs.declared.cut.Cut.{Cut}
use Rattle.globals.specs.declared.cut.Cut.TheVariants.{Start}
use Rattle.globals.specs.laws.Cuts.{not_before_end}
use Rattle.globals.specs.laws.Nearest.{nearest_passes}
use Rattle.embedded.specs.Names.{bare, greatest_name, is_name_beyond, name_cmp, name_next, sought_name}

abbrev Node : Type 0
Node = Reference × List ℕ

-- ---- the nearest name, by the nearest entry

over_some : {X : Type 0} (o d : Option X) (x : X) → option_or o (Some x) ≡ option_or (option_or o (Some x)) d
over_some None d x = refl
over_some (Some y) d x = refl

last_over : {X : Type 0} (d : Option X) (xs : List X) → last_or d xs ≡ option_or (last_or None xs) d
last_over d [] = refl
last_over d (x ∷ xs) = last_over (Some x) xs ∙ over_some (last_or None xs) d x ∙ ap (λ o. option_or o d) (sym (last_over (Some x) xs))

or_none : {X : Type 0} (o : Option X) → option_or o None ≡ o
or_none None = refl
or_none (Some x) = refl

name_over : (o : Option Node) (e : Node) → option_or (option_map (λ e. e.0.name) o) (Some e.0.name) ≡ option_map (λ e. e.0.name) (option_or o (Some e))
name_over None e = refl
name_over (Some f) e = refl

first_name : (P : List ℕ → Bool) (es : List Node) → find (λ n. true) (filter P (map (λ (r : Reference). r.name) (map (λ (e : Node). e.0) es))) ≡ option_map (λ e. e.0.name) (find (λ e. P e.0.name) es)
first_name P [] = refl
first_name P (e ∷ es) = elim (P e.0.name) as (λ b. find (λ n. true) (cond b (e.0.name ∷ filter P (map (λ (r : Reference). r.name) (map (λ (e : Node). e.0) es))) (filter P (map (λ (r : Reference). r.name) (map (λ (e : Node). e.0) es)))) ≡ option_map (λ e. e.0.name) (cond b (Some e) (find (λ e. P e.0.name) es))) [
  | true ↦ refl
  | false ↦ first_name P es
]

last_name : (P : List ℕ → Bool) (es : List Node) → last_or None (filter P (map (λ (r : Reference). r.name) (map (λ (e : Node). e.0) es))) ≡ option_map (λ e. e.0.name) (find_last (λ e. P e.0.name) es)
last_name P [] = refl
last_name P (e ∷ es) = elim (P e.0.name) as (λ b. last_or None (cond b (e.0.name ∷ filter P (map (λ (r : Reference). r.name) (map (λ (e : Node). e.0) es))) (filter P (map (λ (r : Reference). r.name) (map (λ (e : Node). e.0) es)))) ≡ option_map (λ e. e.0.name) (option_or (find_last (λ e. P e.0.name) es) (cond b (Some e) None))) [
  | true ↦ last_over (Some e.0.name) (filter P (map (λ (r : Reference). r.name) (map (λ (e : Node). e.0) es))) ∙ ap (λ o. option_or o (Some e.0.name)) (last_name P es) ∙ name_over (find_last (λ e. P e.0.name) es) e
  | false ↦ last_name P es ∙ ap (option_map (λ (e : Node). e.0.name)) (sym (or_none (find_last (λ e. P e.0.name) es)))
]

pub name_is : (forward : Bool) (start : List ℕ) (m : Database) → name_next forward start m ≡ option_map (λ e. e.0.name) (nearest_entry forward (λ x. is_name_beyond forward start x.name) m)
name_is true start m = first_name (is_name_beyond true start) (finmap.entries m)
name_is false start m = last_name (is_name_beyond false start) (finmap.entries m)

-- ---- the member that a look-up from a cut gives

map_twice : (o : Option Node) → option_map (λ (r : Reference). r.name) (option_map (λ e. e.0) o) ≡ option_map (λ e. e.0.name) o
map_twice None = refl
map_twice (Some e) = refl

-- forward, from a cut behind all whose names aren't beyond the start
pub name_after : (start : List ℕ) (cut : Cut) (m : Database) (k : Option Reference) → ((x : Reference) → not (stands_before cut x) ≡ is_name_beyond true start x.name) → k ≡ option_map (λ e. e.0) (next_to true cut m) → option_map (λ r. r.name) k ≡ name_next true start m
name_after start cut m k so is =
    ap (option_map (λ (r : Reference). r.name)) is ∙ map_twice (next_to true cut m)
    ∙ (λ i. option_map (λ e. e.0.name) (nearest_entry true (λ x. so x i) m)) ∙ sym (name_is true start m)

-- backward, from a cut before which all stand whose names are beyond it
pub name_before : (start : List ℕ) (cut : Cut) (m : Database) (k : Option Reference) → ((x : Reference) → stands_before cut x ≡ is_name_beyond false start x.name) → k ≡ option_map (λ e. e.0) (next_to false cut m) → option_map (λ r. r.name) k ≡ name_next false start m
name_before start cut m k so is =
    ap (option_map (λ (r : Reference). r.name)) is ∙ map_twice (next_to false cut m)
    ∙ (λ i. option_map (λ e. e.0.name) (nearest_entry false (λ x. so x i) m)) ∙ sym (name_is false start m)

-- ---- where the cuts of a bare name stand

same_name : (a b : List ℕ) → pointwise nat_eq a b ≡ is_eq (name_cmp a b)
same_name = ties_of nat_list_cmp_total (slice_cmp-IsAntisymmetric nat_cmp-IsAntisymmetric) bytes_decides

none_less : (xs : List (List ℕ)) → is_lt (slice_cmp subscript_cmp xs []) ≡ false
none_less [] = refl
none_less (x ∷ xs) = refl

by_name : (o rest : Ordering) → (not (is_eq o && true) && is_lt (ordering_then o rest)) ≡ is_lt o
by_name Less rest = refl
by_name Equal rest = refl
by_name Greater rest = refl

by_name_back : (o rest : Ordering) → is_lt rest ≡ false → is_lt (ordering_then o rest) ≡ is_lt o
by_name_back Less rest none = refl
by_name_back Equal rest none = none
by_name_back Greater rest none = refl

-- behind all of a name stand those of the names after it
pub past_name : (n : List ℕ) (x : Reference) → not (is_before true (bare n) x) ≡ is_lt (name_cmp n x.name)
unfolding ref_cmp
past_name n x = not_before_end (bare n) x ∙ ap (λ b. not (b && true) && is_lt (ref_cmp (bare n) x)) (same_name n x.name) ∙ by_name (name_cmp n x.name) (slice_cmp subscript_cmp [] x.subscripts)

-- before the bare name stand those of the names before it
pub before_name : (n : List ℕ) (x : Reference) → is_lt (ref_cmp x (bare n)) ≡ is_lt (name_cmp x.name n)
unfolding ref_cmp
before_name n x = by_name_back (name_cmp x.name n) (slice_cmp subscript_cmp x.subscripts []) (none_less x.subscripts)

-- ---- the greatest name

-- no letter and no digit comes after z
low_byte : (b : ℕ) → is_letter_or_digit b ≡ true → is_lt (nat_cmp 122 b) ≡ false
low_byte b h = grind (arith, nat_tests, h)

byte_then : (b : ℕ) (rest : Ordering) → is_letter_or_digit b ≡ true → is_lt rest ≡ false → is_lt (ordering_then (nat_cmp 122 b) rest) ≡ false
byte_then b rest h none = by_order (nat_cmp 122 b) (low_byte b h)
  where
    by_order : (o : Ordering) → is_lt o ≡ false → is_lt (ordering_then o rest) ≡ false
    by_order Less e = absurd (cc)
    by_order Equal e = none
    by_order Greater e = refl

-- n times z
abbrev zs : ℕ → List ℕ
zs zero = []
zs (suc n) = 122 ∷ zs n

not_beyond : (n : ℕ) (name : List ℕ) → list_all is_letter_or_digit name ≡ true → length name ≤ n → is_lt (name_cmp (zs n) name) ≡ false
not_beyond zero [] h l = refl
not_beyond zero (b ∷ bs) h l = absurd (omega (arith, l))
not_beyond (suc n) [] h l = refl
not_beyond (suc n) (b ∷ bs) h l = byte_then b (name_cmp (zs n) bs) (first_so _ _ h) (not_beyond n bs (second_so (is_letter_or_digit b) _ h) (omega (arith, l)))

-- the first byte of a name may be a % too
first_byte : (b : ℕ) → (b == percent || is_ascii_alphabetic b) ≡ true → is_lt (nat_cmp 122 b) ≡ false
first_byte b h = grind (arith, nat_tests, h)

-- no name comes after the greatest
pub none_beyond : (name : List ℕ) → is_name name ≡ true → is_lt (name_cmp greatest_name name) ≡ false
none_beyond [] h = refl
none_beyond (b ∷ bs) h = by_order (nat_cmp 122 b) (first_byte b (first_so _ _ h)) (not_beyond 30 bs (first_so _ _ (second_so (b == percent || is_ascii_alphabetic b) _ h)) (few (second_so (list_all is_letter_or_digit bs) _ (second_so (b == percent || is_ascii_alphabetic b) _ h))))
  where
    few : nat_le (length (b ∷ bs)) 31 ≡ true → length bs ≤ 30
    few e = grind (arith, nat_tests, e)

    by_order : (o : Ordering) → is_lt o ≡ false → is_lt (name_cmp (zs 30) bs) ≡ false → is_lt (ordering_then o (name_cmp (zs 30) bs)) ≡ false
    by_order Less e none = absurd (cc)
    by_order Equal e none = none
    by_order Greater e none = refl

-- where no member stands behind the greatest name all stand before its end
pub behind_greatest : (start : List ℕ) (cut : Cut) (m : Database) (k : Option Reference) → ((x : Reference) → not (stands_before cut x) ≡ is_lt (name_cmp greatest_name x.name)) → next_to true cut m ≡ None → k ≡ option_map (λ e. e.0) (next_to false cut m) → option_map (λ r. r.name) k ≡ name_next false [] m
behind_greatest start cut m k so none is =
    ap (option_map (λ (r : Reference). r.name)) is ∙ map_twice (next_to false cut m)
    ∙ ap (option_map (λ (e : Node). e.0.name)) (all_pass (stands_before cut) (finmap.entries m) none) ∙ sym (name_is false [] m)
  where
    all_pass : (B : Reference → Bool) (es : List Node) → find (λ e. not (B e.0)) es ≡ None → find_last (λ e. B e.0) es ≡ find_last (λ e. true) es
    all_pass B [] none = refl
    all_pass B (e ∷ es) none = elim (B e.0) as (λ b. cond (not b) (Some e) (find (λ e. not (B e.0)) es) ≡ None → option_or (find_last (λ e. B e.0) es) (cond b (Some e) None) ≡ option_or (find_last (λ e. true) es) (Some e)) [
      | true ↦ λ n. ap (λ o. option_or o (Some e)) (all_pass B es n)
      | false ↦ λ n. absurd (cc)
    ] none

-- no member stands there
pub none_behind : (cut : Cut) (m : Database) (e : Node) → ((x : Reference) → not (stands_before cut x) ≡ is_lt (name_cmp greatest_name x.name)) → next_to true cut m ≡ Some e → is_name e.0.name ≡ true → ⊥
none_behind cut m e so is named =
    let passes : not (stands_before cut e.0) ≡ true = nearest_passes ref_cmp true (λ x. not (stands_before cut x)) m e is in
    let low : is_lt (name_cmp greatest_name e.0.name) ≡ false = none_beyond e.0.name named in
    let high : is_lt (name_cmp greatest_name e.0.name) ≡ true = sym (so e.0) ∙ passes in
    absurd (cc)

-- ---- where a search begins, by its start

some_bytes : (b : ℕ) (bs : List ℕ) → (length (b ∷ bs) == 0) ≡ true → ⊥
some_bytes b bs e = let none : length (b ∷ bs) ≡ 0 = eqb-true (length (b ∷ bs)) 0 e in omega (arith, none)

module _ (m : Database) (k : Option Reference) where
  -- forward from the first member
  pub from_first : (start : List ℕ) → (length start == 0) ≡ true → k ≡ option_map (λ e. e.0) (next_to true Start m) → option_map (λ r. r.name) k ≡ name_next true start m
  from_first [] none is = name_after [] Start m k (λ x. refl) is
  from_first (b ∷ bs) none is = absurd (some_bytes b bs none)

  -- forward behind all of the start's name
  pub from_past : (start : List ℕ) (r : Reference) (cut : Cut) → (length start == 0) ≡ false → r ≡ bare (sought_name start) → k ≡ option_map (λ e. e.0) (next_to true cut m) → ((x : Reference) → stands_before cut x ≡ is_before true r x) → option_map (λ r. r.name) k ≡ name_next true start m
  from_past [] r cut some at is so = absurd (cc)
  from_past (b ∷ bs) r cut some at is so = name_after (b ∷ bs) cut m k (λ x. ap not (so x ∙ ap (λ q. is_before true q x) at) ∙ past_name (b ∷ bs) x) is

  -- backward from the start's name
  pub from_before : (start : List ℕ) (r : Reference) (cut : Cut) → (length start == 0) ≡ false → r ≡ bare (sought_name start) → k ≡ option_map (λ e. e.0) (next_to false cut m) → ((x : Reference) → stands_before cut x ≡ is_lt (ref_cmp x r)) → option_map (λ r. r.name) k ≡ name_next false start m
  from_before [] r cut some at is so = absurd (cc)
  from_before (b ∷ bs) r cut some at is so = name_before (b ∷ bs) cut m k (λ x. so x ∙ ap (λ q. is_lt (ref_cmp x q)) at ∙ before_name (b ∷ bs) x) is

  -- backward from the last member
  pub from_last : (start : List ℕ) → (length start == 0) ≡ true → option_map (λ r. r.name) k ≡ name_next false [] m → option_map (λ r. r.name) k ≡ name_next false start m
  from_last [] none is = is
  from_last (b ∷ bs) none is = absurd (some_bytes b bs none)
