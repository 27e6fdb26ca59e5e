-- Cuts respect the order, and what is under a reference lies between two cuts.
use Rattle.std.specs.Prelude.{◌≡◌, Bool, true, false, not, ◌&&◌, ◌||◌}
use Rattle.std.proofs.Common.{refl, sym, ap, ◌∙◌}
use Rattle.std.proofs.Math.Bool.{not-not}
use Rattle.std.specs.declared.cmp.Ordering.TheVariants.{Less}
use Rattle.std.specs.Ordering.{is_lt}
use Rattle.collation.specs.Reference.{Reference}
use Rattle.collation.specs.Order.{subscript_cmp, ref_cmp}
use Rattle.collation.specs.laws.Order.{subscript_cmp_total, ref_cmp_total, is_less}
use Rattle.collation.specs.Database.{is_under}
use Rattle.collation.specs.Levels.{is_before}
use Rattle.globals.specs.Cuts.{is_past, stands_before}
use Rattle.globals.specs.declared.cut.Cut.{Cut}
use Rattle.globals.specs.declared.cut.Cut.TheVariants.{Start, Before, After, Past, End}
use Rattle.globals.specs.laws.Sequences.{not_passed_so, passed_on, begins_not_before}
use Rattle.globals.specs.laws.Paths.{path, cmp_path, under_path, past_path, before_path}

-- a test that is false wherever another is, which is false
still_false : (a b : Bool) → (b ≡ true → a ≡ true) → not a ≡ true → not b ≡ true
still_false a true f h = let e = f refl in absurd (cc)
still_false a false f h = refl

-- what doesn't stand before the end of all under r stands past r
pub not_before_end : (r x : Reference) → not (is_before true r x) ≡ is_past r x
not_before_end r x = ap not (before_path r x ∙ not_passed_so subscript_cmp subscript_cmp_total (path r) (path x)) ∙ not-not _ ∙ sym (past_path r x)

past_on : (r x y : Reference) → ref_cmp x y ≡ Less → is_past r x ≡ true → is_past r y ≡ true
past_on r x y l h = past_path r y ∙ passed_on subscript_cmp subscript_cmp_total (path r) (path x) (path y) (sym (past_path r x) ∙ h) (sym (cmp_path x y) ∙ l)

true_unless : (a b : Bool) → (not a ≡ true → not b ≡ true) → b ≡ true → a ≡ true
true_unless true b f h = refl
true_unless false b f h = let e = f refl in absurd (cc)

-- what comes before something that stands before the end of all under r stands before it too
pub before_end-earlier : (r x y : Reference) → ref_cmp x y ≡ Less → is_before true r y ≡ true → is_before true r x ≡ true
before_end-earlier r x y l h =
    true_unless (is_before true r x) (is_before true r y) (λ e. not_before_end r y ∙ past_on r x y l (sym (not_before_end r x) ∙ e)) h

-- what comes before something that stands before the cut stands before it too
pub stands_before-earlier : (cut : Cut) (x y : Reference) → ref_cmp x y ≡ Less → stands_before cut y ≡ true → stands_before cut x ≡ true
stands_before-earlier Start x y l h = absurd (cc)
stands_before-earlier (Before r) x y l h = ap is_lt (ref_cmp_total.trans x y r.now l (is_less _ h))
stands_before-earlier (After r) x y l h = still_false (is_lt (ref_cmp r.now y)) (is_lt (ref_cmp r.now x)) (λ e. ap is_lt (ref_cmp_total.trans r.now x y (is_less _ e) l)) h
stands_before-earlier (Past r) x y l h = before_end-earlier r.now x y l h
stands_before-earlier End x y l h = refl

-- what is under r stands from r on and before the end of all under r
pub under_between : (r x : Reference) → is_under r x ≡ (not (is_lt (ref_cmp x r)) && is_before true r x)
under_between r x = by_test (is_under r x) (is_lt (ref_cmp x r)) (λ e. ap is_lt (cmp_path x r) ∙ begins_not_before subscript_cmp subscript_cmp_total (path r) (path x) (sym (under_path r x) ∙ e))
  where
    by_test : (u l : Bool) → (u ≡ true → l ≡ false) → u ≡ (not l && (u || l))
    by_test true l f = rw (f refl) refl
    by_test false true f = refl
    by_test false false f = refl
