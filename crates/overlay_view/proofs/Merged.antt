-- The nearest of writes laid over a database.
use Rattle.std.proofs.Common.{◌≡◌, ℕ, Bool, true, false, List, ◌⊎◌, refl, sym, ap, subst, ◌∙◌, inl, inr}
use Rattle.std.specs.Prelude.{cond, not, ◌&&◌, is_some, Option, Some, None, MatchOption}
use Rattle.std.proofs.lemmas.Bool.{and_from}
use Rattle.std.specs.Option.{option_or}
use Rattle.std.specs.declared.cmp.Ordering.{Ordering}
use Rattle.std.specs.declared.cmp.Ordering.TheVariants.{Less, Equal, Greater}
use Rattle.std.specs.Ordering.{is_lt}
use Rattle.std.specs.Cmp.{first_so, second_so}
use Rattle.std.specs.FinMap as finmap
use Rattle.collation.specs.Reference.{Reference}
use Rattle.collation.specs.laws.Order.{is_less}
use Rattle.collation.specs.Database.{Database}
use Rattle.globals.specs.Entries.{nearest_entry}
use Rattle.globals.specs.laws.Nearest.{IsNearest}
use Rattle.workspace.specs.Layers.{Layer, is_killed, laid_over}
use Rattle.workspace.specs.laws.Layering.{get_over}
use denote.Ref.{Bor}
use Rattle.globals.specs.declared.cut.Cut.{Cut}
use Rattle.overlay_view.specs.Merging.{toward, nearer, is_beyond_cut, is_left, lent_node}
use Rattle.overlay_view.proofs.Nearness.{Node, toward_same, toward_turned, toward_trans, found, none_found, is_nearest, none_nearest}

module _ (w : Layer) (m : Database) where
  abbrev Has : Reference → Type 0
  Has x = finmap.contains_key (laid_over w m) x ≡ true

  -- x has a value below that isn't killed, and none is written
  record IsBelow (x : Reference) : Type 0 where
    unwritten : finmap.get w.written x ≡ None
    unkilled : is_killed w.killed x ≡ false
    there : finmap.contains_key m x ≡ true

  written_there : (x : Reference) (v : List ℕ) → finmap.get w.written x ≡ Some v → finmap.get (laid_over w m) x ≡ Some v
  written_there x v is = get_over w m x ∙ ap (λ o. option_or o (cond (is_killed w.killed x) None (finmap.get m x))) is

  below_there : (x : Reference) → finmap.get w.written x ≡ None → is_killed w.killed x ≡ false → finmap.get (laid_over w m) x ≡ finmap.get m x
  below_there x none free = get_over w m x ∙ (λ i. option_or (none i) (cond (free i) None (finmap.get m x)))

  where_from : (x : Reference) → Has x → (finmap.contains_key w.written x ≡ true) ⊎ IsBelow x
  where_from x h = by_parts (finmap.get w.written x) (is_killed w.killed x) refl refl (sym (ap is_some (get_over w m x)) ∙ h)
    where
      by_parts : (o : Option (List ℕ)) (k : Bool) → finmap.get w.written x ≡ o → is_killed w.killed x ≡ k → is_some (option_or o (cond k None (finmap.get m x))) ≡ true → (finmap.contains_key w.written x ≡ true) ⊎ IsBelow x
      by_parts (Some v) k is free t = inl (ap is_some is)
      by_parts None true is free t = absurd (cc)
      by_parts None false is free t = inr (record { unwritten = is; unkilled = free; there = t })

  module _ (forward : Bool) (P : Reference → Bool) where
    -- the nearest written one, where none is left below before it
    written_first : (e : Node) → IsNearest forward P w.written e → ((x : Reference) → P x ≡ true → IsBelow x → toward forward x e.0 ≡ Less → ⊥) → IsNearest forward P (laid_over w m) e
    written_first e is never = record {
      passes = is.passes;
      there = written_there e.0 e.1 is.there;
      none_nearer = λ x p h l. elim (where_from x h) [
        | inl own ↦ is.none_nearer x p own l
        | inr below ↦ never x p below l
      ];
    }

    -- the nearest one left below, where it isn't written and none is written before it
    below_first : (f : Node) → IsNearest forward (λ x. P x && not (is_killed w.killed x)) m f → finmap.get w.written f.0 ≡ None → ((x : Reference) → P x ≡ true → finmap.contains_key w.written x ≡ true → toward forward x f.0 ≡ Less → ⊥) → IsNearest forward P (laid_over w m) f
    below_first f is none never =
        let free : is_killed w.killed f.0 ≡ false = unkilled_of (is_killed w.killed f.0) (second_so (P f.0) _ is.passes) in
        record {
          passes = first_so (P f.0) _ is.passes;
          there = below_there f.0 none free ∙ is.there;
          none_nearer = λ x p h l. elim (where_from x h) [
            | inl own ↦ never x p own l
            | inr below ↦ is.none_nearer x (and_from _ _ p (ap not below.unkilled)) below.there l
          ];
        }
      where
        unkilled_of : (b : Bool) → not b ≡ true → b ≡ false
        unkilled_of true h = absurd (cc)
        unkilled_of false h = refl

    unwritten_before : (e f : Node) → IsNearest forward P w.written e → P f.0 ≡ true → toward forward f.0 e.0 ≡ Less → finmap.get w.written f.0 ≡ None
    unwritten_before e f is p l = by_value (finmap.get w.written f.0) refl
      where
        by_value : (o : Option (List ℕ)) → finmap.get w.written f.0 ≡ o → o ≡ None
        by_value None h = refl
        by_value (Some v) h = absurd (is.none_nearer f.0 p (ap is_some h) l)

    -- what stands before e stands before what isn't before e
    before_both : (e f : Node) (x : Reference) → is_lt (toward forward f.0 e.0) ≡ false → toward forward x e.0 ≡ Less → toward forward x f.0 ≡ Less
    before_both e f x n l = by_order (toward forward f.0 e.0) refl n
      where
        by_order : (o : Ordering) → toward forward f.0 e.0 ≡ o → is_lt o ≡ false → toward forward x f.0 ≡ Less
        by_order Less is n = absurd (cc)
        by_order Equal is n = subst (λ z. toward forward x z ≡ Less) (sym (toward_same forward f.0 e.0 is)) l
        by_order Greater is n = toward_trans forward x e.0 f.0 l (toward_turned forward f.0 e.0 is)

    pub nearest_over : (own below : Option Node) → nearest_entry forward P w.written ≡ own → nearest_entry forward (λ x. P x && not (is_killed w.killed x)) m ≡ below → nearest_entry forward P (laid_over w m) ≡ nearer forward own below
    nearest_over None None a b = none_nearest forward P (laid_over w m) (λ x p h. elim (where_from x h) [
      | inl own ↦ none_found forward P w.written a x p own
      | inr below ↦ none_found forward (λ x. P x && not (is_killed w.killed x)) m b x (and_from _ _ p (ap not below.unkilled)) below.there
    ])
    nearest_over None (Some f) a b =
        let is = found forward (λ x. P x && not (is_killed w.killed x)) m f b in
        is_nearest forward P (laid_over w m) f (below_first f is (unwritten (finmap.get w.written f.0) refl (first_so (P f.0) _ is.passes)) (λ x p own l. none_found forward P w.written a x p own))
      where
        unwritten : (o : Option (List ℕ)) → finmap.get w.written f.0 ≡ o → P f.0 ≡ true → o ≡ None
        unwritten None h p = refl
        unwritten (Some v) h p = absurd (none_found forward P w.written a f.0 p (ap is_some h))
    nearest_over (Some e) None a b =
        let is = found forward P w.written e a in
        is_nearest forward P (laid_over w m) e (written_first e is (λ x p below l. none_found forward (λ x. P x && not (is_killed w.killed x)) m b x (and_from _ _ p (ap not below.unkilled)) below.there))
    nearest_over (Some e) (Some f) a b = by_test (is_lt (toward forward f.0 e.0)) refl
      where
        e_is : IsNearest forward P w.written e
        e_is = found forward P w.written e a

        f_is : IsNearest forward (λ x. P x && not (is_killed w.killed x)) m f
        f_is = found forward (λ x. P x && not (is_killed w.killed x)) m f b

        by_test : (t : Bool) → is_lt (toward forward f.0 e.0) ≡ t → nearest_entry forward P (laid_over w m) ≡ cond t (Some f) (Some e)
        by_test true t =
            let less = is_less (toward forward f.0 e.0) t in
            is_nearest forward P (laid_over w m) f (below_first f f_is (unwritten_before e f e_is (first_so (P f.0) _ f_is.passes) less) (λ x p own l. e_is.none_nearer x p own (toward_trans forward x f.0 e.0 l less)))
        by_test false t =
            is_nearest forward P (laid_over w m) e (written_first e e_is (λ x p below l. f_is.none_nearer x (and_from _ _ p (ap not below.unkilled)) below.there (before_both e f x t l)))

-- ---- what one reference has

pub over_written : (w : Layer) (m : Database) (q : Reference) (v : List ℕ) → Some v ≡ finmap.get w.written q → Some v ≡ finmap.get (laid_over w m) q
over_written w m q v is = sym (written_there w m q v (sym is))

pub over_killed : (w : Layer) (m : Database) (q : Reference) → None ≡ finmap.get w.written q → is_killed w.killed q ≡ true → None ≡ finmap.get (laid_over w m) q
over_killed w m q none k = sym (get_over w m q ∙ (λ i. option_or (sym none i) (cond (k i) None (finmap.get m q))))

pub over_below : (w : Layer) (m : Database) (q : Reference) (o : Option (List ℕ)) → None ≡ finmap.get w.written q → is_killed w.killed q ≡ false → o ≡ finmap.get m q → o ≡ finmap.get (laid_over w m) q
over_below w m q o none free is = is ∙ sym (below_there w m q (sym none) free)

-- ---- what look-ups lend

abbrev Lent : Type 0
Lent = Option (Bor Reference × Bor (List ℕ))

lent_is : (n : Option Node) (o : Lent) → MatchOption o (n ≡ None) (λ e. n ≡ Some (e.0.now, e.1.now)) → n ≡ lent_node o
lent_is n None h = h
lent_is n (Some e) h = h

is_lent : (n : Option Node) (o : Lent) → n ≡ lent_node o → MatchOption o (n ≡ None) (λ e. n ≡ Some (e.0.now, e.1.now))
is_lent n None h = h
is_lent n (Some e) h = h

pub looked : (forward : Bool) (cut : Cut) (w : Layer) (m a : Database) (own below result : Lent) → a ≡ w.written
    → MatchOption own (nearest_entry forward (is_beyond_cut forward cut) a ≡ None) (λ e. nearest_entry forward (is_beyond_cut forward cut) a ≡ Some (e.0.now, e.1.now))
    → MatchOption below (nearest_entry forward (is_left forward cut w.killed) m ≡ None) (λ e. nearest_entry forward (is_left forward cut w.killed) m ≡ Some (e.0.now, e.1.now))
    → lent_node result ≡ nearer forward (lent_node own) (lent_node below)
    → MatchOption result (nearest_entry forward (is_beyond_cut forward cut) (laid_over w m) ≡ None) (λ e. nearest_entry forward (is_beyond_cut forward cut) (laid_over w m) ≡ Some (e.0.now, e.1.now))
looked forward cut w m a own below result is h k n =
    is_lent _ result (nearest_over w m forward (is_beyond_cut forward cut) (lent_node own) (lent_node below)
    (ap (nearest_entry forward (is_beyond_cut forward cut)) (sym is) ∙ lent_is _ own h) (lent_is _ below k) ∙ sym n)
