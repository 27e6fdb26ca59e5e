-- What a job wants, told by what it holds.
use Rattle.std.proofs.Common.{◌≡◌, ◌≤◌, ◌+◌, List, true, refl, sym, ap, subst, ◌∙◌, arith}
use Rattle.std.specs.Prelude.{◌-◌, min}
use Rattle.collation.specs.Reference.{Resource}
use Rattle.lock_name.specs.Locks.{Counts, count_of, more_of, fewer_of, HasNoZeros}
use Rattle.lock_name.specs.LockStatements.{times}
use Rattle.lock_name.specs.laws.Counting.{counts_tell}
use Rattle.lock_name.specs.laws.Zeros.{none_more, none_fewer, same_counts}
use Rattle.lock_table.specs.Counted.{less, is_listed}
use Rattle.lock_table.specs.Rows.{want_of, told_by, asked}
use Rattle.lock_table.specs.declared.wanted.Wanted.{Wanted}
use Rattle.lock_table.specs.declared.wanted.Wanted.TheVariants.{AllBut, Just}
use Rattle.lock_table.proofs.Less.{counted_less, none_less}

-- of each name those are held more times that are not held beyond what is wanted
abbrev pub IsOver : List Resource → List Resource → Counts → Counts → Type 0
IsOver over ns held want = (x : Resource) → times x over ≡ times x ns - (count_of held x - count_of want x)

pub want_held : (held : Counts) (w : Wanted) → ((x : Resource) → count_of (told_by w) x ≤ count_of held x) → (x : Resource) → count_of (want_of held w) x ≤ count_of held x
want_held held (AllBut fewer) low x = let l : count_of (less held fewer) x ≡ count_of held x - count_of fewer x = counted_less held fewer x in omega arith
want_held held (Just want) low x = low x

pub none_wanted : (held : Counts) (w : Wanted) → HasNoZeros held → HasNoZeros (told_by w) → HasNoZeros (want_of held w)
none_wanted held (AllBut fewer) none none_told = none_less held fewer none
none_wanted held (Just want) none none_told = none_told

-- what is held and left out is held and not wanted
pub out_spare : (held fewer some : Counts) (w : Wanted) (ns : List Resource) → w ≡ AllBut fewer → ((x : Resource) → count_of (told_by w) x ≤ count_of held x) → ((x : Resource) → is_listed x ns ≡ true → count_of some x ≡ count_of fewer x) → (x : Resource) → is_listed x ns ≡ true → count_of some x ≡ count_of held x - count_of (want_of held w) x
out_spare held fewer some w ns w_is low is x named =
    let s : count_of some x ≡ count_of fewer x = is x named in
    let h : count_of fewer x ≤ count_of held x = subst (λ v. count_of (told_by v) x ≤ count_of held x) w_is (low x) in
    let l : count_of (want_of held w) x ≡ count_of held x - count_of fewer x = ap (λ v. count_of (want_of held v) x) w_is ∙ counted_less held fewer x in
    omega arith

pub just_spare : (held want some : Counts) (w : Wanted) (ns : List Resource) → w ≡ Just want → ((x : Resource) → is_listed x ns ≡ true → count_of some x ≡ count_of (less held want) x) → (x : Resource) → is_listed x ns ≡ true → count_of some x ≡ count_of held x - count_of (want_of held w) x
just_spare held want some w ns w_is is x named = is x named ∙ counted_less held want x ∙ ap (λ v. count_of held x - count_of (want_of held v) x) (sym w_is)

pub none_out : (held fewer : Counts) (w : Wanted) → w ≡ AllBut fewer → ((x : Resource) → count_of fewer x ≡ 0) → (x : Resource) → count_of held x ≤ count_of (want_of held w) x
none_out held fewer w w_is none x =
    let n : count_of fewer x ≡ 0 = none x in
    let l : count_of (want_of held w) x ≡ count_of held x - count_of fewer x = ap (λ v. count_of (want_of held v) x) w_is ∙ counted_less held fewer x in
    omega arith

pub over_all : (held want : Counts) (ns : List Resource) → ((x : Resource) → count_of held x ≤ count_of want x) → IsOver ns ns held want
over_all held want ns low x = let l : count_of held x ≤ count_of want x = low x in omega arith

-- ---- one more of each name

pub asked_want : (held held2 : Counts) (w : Wanted) (ns over : List Resource) → HasNoZeros held → ((x : Resource) → count_of (told_by w) x ≤ count_of held x) → IsOver over ns held (want_of held w) → held2 ≡ more_of over held → want_of held2 (asked ns w) ≡ more_of ns (want_of held w)
asked_want held held2 (Just want) ns over none low is held_is = refl
asked_want held held2 (AllBut f) ns over none low is held_is = same_counts (less held2 (fewer_of ns f)) (more_of ns (less held f)) (none_less held2 (fewer_of ns f) (subst HasNoZeros (sym held_is) (none_more over held none))) (none_more ns (less held f) (none_less held f none)) (λ x.
    let laws = counts_tell x in
    let l2 : count_of (less held2 (fewer_of ns f)) x ≡ count_of held2 x - count_of (fewer_of ns f) x = counted_less held2 (fewer_of ns f) x in
    let h2_x : count_of held2 x ≡ count_of held x + times x over = ap (λ c. count_of c x) held_is ∙ laws.more over held in
    let f2_x : count_of (fewer_of ns f) x ≡ count_of f x - times x ns = laws.fewer ns f in
    let o : times x over ≡ times x ns - (count_of held x - count_of (less held f) x) = is x in
    let m : count_of (more_of ns (less held f)) x ≡ count_of (less held f) x + times x ns = laws.more ns (less held f) in
    let l : count_of (less held f) x ≡ count_of held x - count_of f x = counted_less held f x in
    let h : count_of f x ≤ count_of held x = low x in
    omega arith)

pub asked_within : (held held2 : Counts) (w : Wanted) (ns over : List Resource) → ((x : Resource) → count_of (told_by w) x ≤ count_of held x) → IsOver over ns held (want_of held w) → held2 ≡ more_of over held → (x : Resource) → count_of (told_by (asked ns w)) x ≤ count_of held2 x
asked_within held held2 (Just want) ns over low is held_is x =
    let laws = counts_tell x in
    let h2_x : count_of held2 x ≡ count_of held x + times x over = ap (λ c. count_of c x) held_is ∙ laws.more over held in
    let w2_x : count_of (more_of ns want) x ≡ count_of want x + times x ns = laws.more ns want in
    let o : times x over ≡ times x ns - (count_of held x - count_of want x) = is x in
    let h : count_of want x ≤ count_of held x = low x in
    omega arith
asked_within held held2 (AllBut f) ns over low is held_is x =
    let laws = counts_tell x in
    let h2_x : count_of held2 x ≡ count_of held x + times x over = ap (λ c. count_of c x) held_is ∙ laws.more over held in
    let f2_x : count_of (fewer_of ns f) x ≡ count_of f x - times x ns = laws.fewer ns f in
    let h : count_of f x ≤ count_of held x = low x in
    omega arith

-- ---- one fewer of each name

pub left_out : (h f f2 : Counts) (ns gone : List Resource) → HasNoZeros h → ((x : Resource) → count_of f x ≤ count_of h x) → ((x : Resource) → times x gone ≡ min (times x ns) (count_of (less h f) x)) → f2 ≡ more_of gone f → less h f2 ≡ fewer_of ns (less h f)
left_out h f f2 ns gone none low is f_is = same_counts (less h f2) (fewer_of ns (less h f)) (none_less h f2 none) (none_fewer ns (less h f) (none_less h f none)) (λ x.
    let laws = counts_tell x in
    let l2 : count_of (less h f2) x ≡ count_of h x - count_of f2 x = counted_less h f2 x in
    let f2_x : count_of f2 x ≡ count_of f x + times x gone = ap (λ c. count_of c x) f_is ∙ laws.more gone f in
    let g : times x gone ≡ min (times x ns) (count_of (less h f) x) = is x in
    let l : count_of (less h f) x ≡ count_of h x - count_of f x = counted_less h f x in
    let m : count_of (fewer_of ns (less h f)) x ≡ count_of (less h f) x - times x ns = laws.fewer ns (less h f) in
    omega arith)

pub out_within : (h f f2 : Counts) (ns gone : List Resource) → ((x : Resource) → count_of f x ≤ count_of h x) → ((x : Resource) → times x gone ≡ min (times x ns) (count_of (less h f) x)) → f2 ≡ more_of gone f → (x : Resource) → count_of f2 x ≤ count_of h x
out_within h f f2 ns gone low is f_is x =
    let laws = counts_tell x in
    let f2_x : count_of f2 x ≡ count_of f x + times x gone = ap (λ c. count_of c x) f_is ∙ laws.more gone f in
    let g : times x gone ≡ min (times x ns) (count_of (less h f) x) = is x in
    let l : count_of (less h f) x ≡ count_of h x - count_of f x = counted_less h f x in
    let h_x : count_of f x ≤ count_of h x = low x in
    omega arith

pub just_within : (h want want2 : Counts) (w : Wanted) (ns : List Resource) → w ≡ Just want → ((x : Resource) → count_of (told_by w) x ≤ count_of h x) → want2 ≡ fewer_of ns want → (x : Resource) → count_of want2 x ≤ count_of h x
just_within h want want2 w ns w_is low is x =
    let laws = counts_tell x in
    let w2 : count_of want2 x ≡ count_of want x - times x ns = ap (λ c. count_of c x) is ∙ laws.fewer ns want in
    let l : count_of want x ≤ count_of h x = subst (λ v. count_of (told_by v) x ≤ count_of h x) w_is (low x) in
    omega arith
