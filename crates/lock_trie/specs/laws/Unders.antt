-- Lock names at and under another, in their order.
use Rattle.std.proofs.Common.{◌≡◌, ◌≤◌, ℕ, Bool, true, false, length, take, refl, sym, ap, ◌∙◌}
use Rattle.std.specs.Prelude.{◌&&◌, nat_eq}
use Rattle.std.specs.Bool.{beq}
use Rattle.std.specs.Cmp.{first_so, second_so, tied_itself}
use Rattle.std.specs.Cmp.Lexicographic.{slice_cmp, pointwise, nat_list_cmp_total}
use Rattle.std.specs.declared.cmp.Ordering.{Ordering}
use Rattle.std.specs.declared.cmp.Ordering.TheVariants.{Less, Equal, Greater}
use Rattle.std.specs.Ordering.{nat_cmp, bool_cmp, is_gt, is_lt, ordering_then, ordering_reverse}
use Rattle.std.specs.FinMap.{nat_cmp-IsAntisymmetric, slice_cmp-IsAntisymmetric}
use Rattle.std.proofs.lemmas.Bool.{and_from}
use Rattle.collation.specs.Reference.{Reference, Resource}
use Rattle.collation.specs.Database.{is_under}
use Rattle.collation.specs.Order.{subscript_cmp, ref_cmp}
use Rattle.lock_name.specs.Locks.{resource_cmp}
use Rattle.lock_name.specs.laws.Counting.{resource_cmp_total}
use Rattle.lock_trie.specs.Names.{beginning, is_at_or_under}
use Rattle.lock_trie.specs.laws.Begins.{same_text, equal_texts, text_itself, begins_fewer, begins_is, take_begins, whole_begins, not_before, squeezed, between}

caret_itself : (c : Bool) → beq c c ≡ true
caret_itself true = refl
caret_itself false = refl

same_caret : (c d : Bool) → beq c d ≡ true → c ≡ d
same_caret true true e = refl
same_caret true false e = absurd (cc)
same_caret false true e = absurd (cc)
same_caret false false e = refl

-- ---- one comparison and the other way round

turned_less : (q : Ordering) → is_lt (ordering_reverse q) ≡ is_gt q
turned_less Less = refl
turned_less Equal = refl
turned_less Greater = refl

pub before_turned : (x n : Resource) → is_lt (resource_cmp x n) ≡ is_gt (resource_cmp n x)
before_turned x n = ap is_lt (resource_cmp_total.antisymm x n) ∙ turned_less (resource_cmp n x)

-- ---- what is at or under a name doesn't stand before it

refs_not_before : (r x : Reference) → is_under r x ≡ true → is_gt (ref_cmp r x) ≡ false
unfolding ref_cmp
refs_not_before r x b =
    let t : x.name ≡ r.name = sym (same_text r.name x.name (first_so _ _ b)) in
    let e : slice_cmp nat_cmp r.name x.name ≡ Equal = ap (slice_cmp nat_cmp r.name) t ∙ tied_itself nat_list_cmp_total r.name in
    rw e (not_before r.subscripts x.subscripts (second_so (pointwise nat_eq r.name x.name) _ b))

then_not_before : (c d : Bool) (o : Ordering) → beq c d ≡ true → is_gt o ≡ false → is_gt (ordering_then (bool_cmp c d) o) ≡ false
then_not_before true true o e h = h
then_not_before true false o e h = absurd (cc)
then_not_before false true o e h = absurd (cc)
then_not_before false false o e h = h

pub under_not_above : (r x : Resource) → is_at_or_under r x ≡ true → is_gt (resource_cmp r x) ≡ false
unfolding resource_cmp
under_not_above r x b = then_not_before r.has_caret x.has_caret _ (first_so _ _ b) (refs_not_before r.reference x.reference (second_so (beq r.has_caret x.has_caret) _ b))

pub under_not_before : (r x : Resource) → is_at_or_under r x ≡ true → is_lt (resource_cmp x r) ≡ false
under_not_before r x b = before_turned x r ∙ under_not_above r x b

-- ---- what lies between a name and one under it is under it

refs_between : (r x y : Reference) → is_gt (ref_cmp r x) ≡ false → ref_cmp x y ≡ Less → is_under r y ≡ true → is_under r x ≡ true
unfolding ref_cmp
refs_between r x y low high b =
    let t : y.name ≡ r.name = sym (same_text r.name y.name (first_so _ _ b)) in
    let turned : slice_cmp nat_cmp x.name y.name ≡ ordering_reverse (slice_cmp nat_cmp r.name x.name) = ap (slice_cmp nat_cmp x.name) t ∙ nat_list_cmp_total.antisymm x.name r.name in
    let s = squeezed (slice_cmp nat_cmp r.name x.name) (slice_cmp subscript_cmp r.subscripts x.subscripts) (slice_cmp subscript_cmp x.subscripts y.subscripts) low (rw turned at high) in
    and_from _ _ (equal_texts r.name x.name (slice_cmp-IsAntisymmetric nat_cmp-IsAntisymmetric r.name x.name s.same))
    (between r.subscripts x.subscripts y.subscripts s.low s.high (second_so (pointwise nat_eq r.name y.name) _ b))

carets_between : (r x y : Bool) (a b : Ordering) (P Q : Bool) → (is_gt a ≡ false → b ≡ Less → P ≡ true → Q ≡ true) → is_gt (ordering_then (bool_cmp r x) a) ≡ false → ordering_then (bool_cmp x y) b ≡ Less → (beq r y && P) ≡ true → (beq r x && Q) ≡ true
carets_between true true true a b P Q f low high h = f low high h
carets_between true true false a b P Q f low high h = absurd (cc)
carets_between true false y a b P Q f low high h = absurd (cc)
carets_between false false false a b P Q f low high h = f low high h
carets_between false false true a b P Q f low high h = absurd (cc)
carets_between false true true a b P Q f low high h = absurd (cc)
carets_between false true false a b P Q f low high h = absurd (cc)

pub under_between : (r x y : Resource) → is_gt (resource_cmp r x) ≡ false → resource_cmp x y ≡ Less → is_at_or_under r y ≡ true → is_at_or_under r x ≡ true
unfolding resource_cmp
under_between r x y low high b = carets_between r.has_caret x.has_caret y.has_caret (ref_cmp r.reference x.reference) (ref_cmp x.reference y.reference) (is_under r.reference y.reference) (is_under r.reference x.reference) (refs_between r.reference x.reference y.reference) low high b

-- behind what is not under a name and not before it nothing is under it
pub not_under_behind : (r x y : Resource) → is_lt (resource_cmp x r) ≡ false → is_at_or_under r x ≡ false → resource_cmp x y ≡ Less → is_at_or_under r y ≡ false
not_under_behind r x y low no_ high = by_test (is_at_or_under r y) refl
  where
    by_test : (b : Bool) → is_at_or_under r y ≡ b → is_at_or_under r y ≡ false
    by_test true e = let t : true ≡ false = sym (under_between r x y (sym (before_turned x r) ∙ low) high e) ∙ no_ in absurd (cc)
    by_test false e = e

-- ---- a name and its beginnings

-- a name under its beginning
pub under_beginning : (n : Resource) (i : ℕ) → is_at_or_under (beginning n i) n ≡ true
under_beginning n i = and_from _ _ (caret_itself n.has_caret) (and_from _ _ (text_itself n.reference.name) (take_begins i n.reference.subscripts))

-- a name above another is its beginning
pub is_beginning : (x n : Resource) → is_at_or_under x n ≡ true → x ≡ beginning n (length x.reference.subscripts)
is_beginning x n b =
    let c : x.has_caret ≡ n.has_caret = same_caret _ _ (first_so _ _ b) in
    let u : is_under x.reference n.reference ≡ true = second_so (beq x.has_caret n.has_caret) _ b in
    let a : x.reference.name ≡ n.reference.name = same_text _ _ (first_so _ _ u) in
    let p : x.reference.subscripts ≡ take (length x.reference.subscripts) n.reference.subscripts = begins_is _ _ (second_so (pointwise nat_eq x.reference.name n.reference.name) _ u) in
    λ i. record { has_caret = c i; reference = record { name = a i; subscripts = p i } }

-- what is under a beginning is under each shorter one
pub under_fewer : (n p : Resource) (i k : ℕ) → i ≤ k → is_at_or_under (beginning n k) p ≡ true → is_at_or_under (beginning n i) p ≡ true
under_fewer n p i k l b =
    let u : is_under (beginning n k).reference p.reference ≡ true = second_so (beq n.has_caret p.has_caret) _ b in
    and_from _ _ (first_so _ _ b) (and_from _ _ (first_so _ _ u) (begins_fewer i k p.reference.subscripts n.reference.subscripts l (second_so (pointwise nat_eq n.reference.name p.reference.name) _ u)))

pub turned_caret : (c d : Bool) → beq c d ≡ true → beq d c ≡ true
turned_caret true true e = refl
turned_caret true false e = absurd (cc)
turned_caret false true e = absurd (cc)
turned_caret false false e = refl

-- a name above another with as many subscripts is under it too
pub whole_under : (x n : Resource) → is_at_or_under x n ≡ true → length n.reference.subscripts ≤ length x.reference.subscripts → is_at_or_under n x ≡ true
whole_under x n b all =
    let u : is_under x.reference n.reference ≡ true = second_so (beq x.has_caret n.has_caret) _ b in
    and_from _ _ (turned_caret x.has_caret n.has_caret (first_so _ _ b))
    (and_from _ _ (equal_texts n.reference.name x.reference.name (sym (same_text x.reference.name n.reference.name (first_so _ _ u))))
    (whole_begins n.reference.subscripts x.reference.subscripts (second_so (pointwise nat_eq x.reference.name n.reference.name) _ u) all))
