-- A killed range is passed over by one look-up.
use Rattle.std.proofs.Common.{◌≡◌, ◌<◌, Bool, true, false, List, length, refl, sym, ap, subst, ◌∙◌}
use Rattle.std.specs.Prelude.{not, ◌&&◌, filter, is_some, Some, None}
use Rattle.std.proofs.lemmas.Bool.{and_from, false_from_ne_true}
use Rattle.std.specs.declared.cmp.Ordering.{Ordering}
use Rattle.std.specs.declared.cmp.Ordering.TheVariants.{Less, Equal, Greater}
use Rattle.std.specs.Ordering.{is_lt}
use Rattle.std.specs.Cmp.{both_ways, first_so, second_so}
use Rattle.std.specs.FinMap as finmap
use Rattle.collation.specs.Reference.{Reference}
use Rattle.collation.specs.Order.{ref_cmp}
use Rattle.collation.specs.laws.Order.{ref_cmp_total, ref_cmp-IsAntisymmetric, is_less, turned}
use Rattle.collation.specs.Database.{Database}
use Rattle.command.specs.Data.{takes}
use Rattle.command.specs.declared.access.Extent.{Extent}
use Rattle.command.specs.declared.access.Extent.TheVariants.{All, Value, Below}
use Rattle.globals.specs.Entries.{nearest_entry}
use Rattle.globals.specs.laws.Nearest.{IsNearest}
use Rattle.globals.specs.laws.Cuts.{stands_before-earlier, before_end-earlier}
use Rattle.globals.specs.laws.Taken.{takes_between}
use Rattle.globals.specs.declared.cut.Cut.{Cut}
use Rattle.globals.specs.Cuts.{stands_before, taken_start, taken_end}
use Rattle.workspace.specs.Layers.{is_killed, IsKiller}
use Rattle.overlay_view.specs.Merging.{toward, is_beyond_cut, is_left}
use Rattle.overlay_view.proofs.Nearness.{Node, found, none_found, is_nearest, none_nearest, nearest_alike, fewer}

true_unless : (b : Bool) → (b ≡ false → ⊥) → b ≡ true
true_unless true h = refl
true_unless false h = absurd (h refl)

not_false : (b : Bool) → not b ≡ true → b ≡ false
not_false true h = absurd (cc)
not_false false h = refl

-- what follows something beyond a cut is beyond it too
pub beyond_on : (forward : Bool) (cut : Cut) (x y : Reference) → toward forward x y ≡ Less → is_beyond_cut forward cut x ≡ true → is_beyond_cut forward cut y ≡ true
beyond_on true cut x y l h = ap not (false_from_ne_true (stands_before cut y) (λ b. let c = stands_before-earlier cut x y l b in let d = not_false _ h in absurd (cc)))
beyond_on false cut x y l h = stands_before-earlier cut y x l h

-- ---- where what a kill takes begins and ends

-- what stands before something that r isn't before, r isn't before either
not_after : (r x y : Reference) → ref_cmp x y ≡ Less → not (is_lt (ref_cmp r y)) ≡ true → not (is_lt (ref_cmp r x)) ≡ true
not_after r x y l h = ap not (false_from_ne_true _ (λ t.
    let later : is_lt (ref_cmp r y) ≡ true = ap is_lt (ref_cmp_total.trans r x y (is_less _ t) l) in
    let none = not_false _ h in
    absurd (cc)))

end_earlier : (extent : Extent) (r x y : Reference) → ref_cmp x y ≡ Less → taken_end extent r y ≡ true → taken_end extent r x ≡ true
end_earlier All r x y l h = before_end-earlier r x y l h
end_earlier Value r x y l h = not_after r x y l h
end_earlier Below r x y l h = before_end-earlier r x y l h

less_through : (r x y : Reference) → ref_cmp x y ≡ Less → is_lt (ref_cmp y r) ≡ true → is_lt (ref_cmp x r) ≡ true
less_through r x y l h = ap is_lt (ref_cmp_total.trans x y r l (is_less _ h))

start_earlier : (extent : Extent) (r x y : Reference) → ref_cmp x y ≡ Less → taken_start extent r y ≡ true → taken_start extent r x ≡ true
start_earlier All r x y l h = less_through r x y l h
start_earlier Value r x y l h = less_through r x y l h
start_earlier Below r x y l h = not_after r x y l h

begun : (extent : Extent) (r e : Reference) → takes extent r e ≡ true → taken_start extent r e ≡ false
begun extent r e u = not_false _ (first_so (not (taken_start extent r e)) _ (sym (takes_between extent r e) ∙ u))

ended : (extent : Extent) (r e : Reference) → takes extent r e ≡ true → taken_end extent r e ≡ true
ended extent r e u = second_so (not (taken_start extent r e)) _ (sym (takes_between extent r e) ∙ u)

-- x stands after all that the kill of r takes, or (not forward) before it
abbrev pub has_left : Bool → Reference → Extent → Reference → Bool
has_left true r extent x = not (taken_end extent r x)
has_left false r extent x = taken_start extent r x

-- what has left the killed range comes after each of it
pub left_after : (forward : Bool) (r : Reference) (extent : Extent) (e x : Reference) → takes extent r e ≡ true → has_left forward r extent x ≡ true → toward forward e x ≡ Less
left_after true r extent e x u h = by_order (ref_cmp e x) refl
  where
    out : taken_end extent r x ≡ false
    out = not_false _ h

    by_order : (o : Ordering) → ref_cmp e x ≡ o → o ≡ Less
    by_order Less is = refl
    by_order Equal is = let t : taken_end extent r x ≡ true = subst (λ z. taken_end extent r z ≡ true) (ref_cmp-IsAntisymmetric e x is) (ended extent r e u) in absurd (cc)
    by_order Greater is = let t = end_earlier extent r x e (turned ref_cmp_total e x Greater is) (ended extent r e u) in absurd (cc)
left_after false r extent e x u h = by_order (ref_cmp x e) refl
  where
    by_order : (o : Ordering) → ref_cmp x e ≡ o → o ≡ Less
    by_order Less is = refl
    by_order Equal is = let t : taken_start extent r e ≡ true = subst (λ z. taken_start extent r z ≡ true) (ref_cmp-IsAntisymmetric x e is) h in let n = begun extent r e u in absurd (cc)
    by_order Greater is = let t = start_earlier extent r e x (turned ref_cmp_total x e Greater is) h in let n = begun extent r e u in absurd (cc)

-- what isn't before one of the range and isn't taken has left it
pub has_left_so : (forward : Bool) (r : Reference) (extent : Extent) (e x : Reference) → takes extent r e ≡ true → takes extent r x ≡ false → (toward forward x e ≡ Less → ⊥) → has_left forward r extent x ≡ true
has_left_so true r extent e x u n never = ap not (false_from_ne_true _ (λ t. never (left_after false r extent e x u (by_parts (taken_start extent r x) (taken_end extent r x) (sym (takes_between extent r x) ∙ n) t))))
  where
    by_parts : (s t : Bool) → (not s && t) ≡ false → t ≡ true → s ≡ true
    by_parts true t h is = refl
    by_parts false t h is = absurd (cc)
has_left_so false r extent e x u n never = true_unless _ (λ s. never (left_after true r extent e x u (ap not (by_parts (taken_start extent r x) (taken_end extent r x) (sym (takes_between extent r x) ∙ n) s))))
  where
    by_parts : (s t : Bool) → (not s && t) ≡ false → s ≡ false → t ≡ false
    by_parts true t h is = absurd (cc)
    by_parts false t h is = h

-- e is nearest beyond the cut, and killed with all that the kill of r takes: what is left beyond the cut is what is left beyond the next one, behind that
module _ (forward : Bool) (cut next : Cut) (ks : List (Reference × Extent)) (m : Database) (e : Node) (r : Reference) (extent : Extent) (is : nearest_entry forward (is_beyond_cut forward cut) m ≡ Some e) (kills : IsKiller ks e.0 r extent) (behind : (x : Reference) → is_beyond_cut forward next x ≡ has_left forward r extent x) where
  e_is : IsNearest forward (is_beyond_cut forward cut) m e
  e_is = found forward (is_beyond_cut forward cut) m e is

  within : (x : Reference) → is_beyond_cut forward next x ≡ true → is_beyond_cut forward cut x ≡ true
  within x h = beyond_on forward cut e.0 x (left_after forward r extent e.0 x kills.above (sym (behind x) ∙ h)) e_is.passes

  same_left : (x : Reference) → finmap.contains_key m x ≡ true → is_left forward cut ks x ≡ is_left forward next ks x
  same_left x there = both_ways _ _
      (λ h. and_from _ _ (onward (first_so (is_beyond_cut forward cut x) _ h) (not_false _ (second_so (is_beyond_cut forward cut x) _ h))) (second_so (is_beyond_cut forward cut x) _ h))
      (λ h. and_from _ _ (within x (first_so (is_beyond_cut forward next x) _ h)) (second_so (is_beyond_cut forward next x) _ h))
    where
      onward : is_beyond_cut forward cut x ≡ true → is_killed ks x ≡ false → is_beyond_cut forward next x ≡ true
      onward b free =
          let beside : takes extent r x ≡ false = false_from_ne_true _ (λ u. let k = kills.all x u in absurd (cc)) in
          behind x ∙ has_left_so forward r extent e.0 x kills.above beside (λ l. e_is.none_nearer x b there l)

  pub skipped : nearest_entry forward (is_left forward cut ks) m ≡ nearest_entry forward (is_left forward next ks) m
  skipped = nearest_alike forward (is_left forward cut ks) (is_left forward next ks) m same_left

  gone : (f : Bool) → has_left f r extent e.0 ≡ false
  gone true = ap not (ended extent r e.0 kills.above)
  gone false = begun extent r e.0 kills.above

  pub fewer_left : length (filter (λ (f : Node). is_beyond_cut forward next f.0) (finmap.entries m)) < length (filter (λ (f : Node). is_beyond_cut forward cut f.0) (finmap.entries m))
  fewer_left = fewer (is_beyond_cut forward cut) (is_beyond_cut forward next) within m e.0 e_is.passes (behind e.0 ∙ gone forward) (ap is_some e_is.there)

-- where nothing is beyond the cut nothing is left there
pub none_left : (forward : Bool) (cut : Cut) (ks : List (Reference × Extent)) (m : Database) → nearest_entry forward (is_beyond_cut forward cut) m ≡ None → nearest_entry forward (is_left forward cut ks) m ≡ None
none_left forward cut ks m is = none_nearest forward (is_left forward cut ks) m (λ x p there. none_found forward (is_beyond_cut forward cut) m is x (first_so (is_beyond_cut forward cut x) _ p) there)

-- the nearest beyond the cut is left, where it isn't killed
pub first_left : (forward : Bool) (cut : Cut) (ks : List (Reference × Extent)) (m : Database) (e : Node) → nearest_entry forward (is_beyond_cut forward cut) m ≡ Some e → is_killed ks e.0 ≡ false → nearest_entry forward (is_left forward cut ks) m ≡ Some e
first_left forward cut ks m e is free =
    let e_is = found forward (is_beyond_cut forward cut) m e is in
    is_nearest forward (is_left forward cut ks) m e (record {
      passes = and_from _ _ e_is.passes (ap not free);
      there = e_is.there;
      none_nearer = λ x p there l. e_is.none_nearer x (first_so (is_beyond_cut forward cut x) _ p) there l;
    })
