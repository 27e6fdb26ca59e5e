-- Ends: what is laid over what stands before an end, and a look below that ends at a written node.
use denote.Ref.{Bor}
use Rattle.std.proofs.Common.{◌≡◌, ℕ, Bool, true, false, List, [], ◌∷◌, ◌++◌, ◌-◌, suc, length, take, drop, get_or, drop-cons, append_assoc, arith, refl, sym, ap, subst, ◌∙◌}
use Rattle.std.specs.Prelude.{cond, not, filter, Option, Some, None, MatchOption}
use Rattle.std.specs.Option.{option_or}
use Rattle.std.proofs.Math.Bool.{not-not}
use Rattle.std.proofs.lemmas.List.{take-append-drop, drop_all}
use Rattle.std.proofs.lemmas.List.Elements.{filter-append}
use Rattle.std.proofs.lemmas.Bool.{and_from}
use Rattle.std.specs.FinMap.Entries.{by_order}
use Rattle.std.specs.declared.cmp.Ordering.{Ordering}
use Rattle.std.specs.declared.cmp.Ordering.TheVariants.{Less, Equal, Greater}
use Rattle.std.specs.Ordering.{is_lt}
use Rattle.std.specs.FinMap as finmap
use Rattle.std.specs.FinMap.{is_sorted}
use Rattle.std.specs.Cmp.{first_so, second_so, tied_itself}
use Rattle.std.specs.FinMap.Entries.{below_all, is_sorted-where_key}
use Rattle.collation.specs.Reference.{Reference}
use Rattle.collation.specs.Order.{ref_cmp}
use Rattle.collation.specs.laws.Order.{ref_cmp_total, ref_cmp-IsAntisymmetric, is_less, turned}
use Rattle.collation.specs.Database.{Database}
use Rattle.globals.specs.Entries.{nearest_entry}
use Rattle.globals.specs.declared.cut.Cut.{Cut}
use Rattle.globals.specs.declared.cut.Cut.TheVariants.{Before, After}
use Rattle.globals.specs.Cuts.{stands_before, stands_within, stands_under, up_to, down_to, entries_from, first_from_cut, last_before_cut, IsFront, IsRun}
use Rattle.globals.specs.laws.Nearest.{keep, none_pass, still_fails, true_of}
use Rattle.globals.specs.laws.Ends.{entries_between, nearest_to, nearest_down, get_to, get_down, within-earlier, under-earlier}
use Rattle.workspace.specs.Layers.{Layer, is_killed, laid_over}
use Rattle.workspace.specs.laws.Layering.{get_over}
use Rattle.overlay_view.specs.Merging.{toward, nearer, is_beyond_cut, is_left, lent_node, end_by_own, floor_by_own, joined, without_killed, IsLastEnd}
use Rattle.overlay_view.proofs.Nearness.{Node}
use Rattle.overlay_view.proofs.Merged.{nearest_over}
use Rattle.overlay_view.proofs.Together.{nodes_over}

-- the layer without what was written beyond the end
abbrev pub layer_to : Option Cut → Layer → Layer
layer_to end w = record { written = up_to end w.written; killed = w.killed }

abbrev pub layer_down : Option Cut → Layer → Layer
layer_down floor w = record { written = down_to floor w.written; killed = w.killed }

by_tests : (t k : Bool) (own below : Option (List ℕ)) → option_or (cond t own None) (cond k None (cond t below None)) ≡ cond t (option_or own (cond k None below)) None
by_tests true k own below = refl
by_tests false true own below = refl
by_tests false false own below = refl

pub laid_to : (end : Option Cut) (w : Layer) (m : Database) → laid_over (layer_to end w) (up_to end m) ≡ up_to end (laid_over w m)
laid_to end w m = finmap.same_map ref_cmp_total ref_cmp-IsAntisymmetric _ _ (λ q.
    get_over (layer_to end w) (up_to end m) q
    ∙ (λ i. option_or (get_to end w.written q i) (cond (is_killed w.killed q) None (get_to end m q i)))
    ∙ by_tests (stands_within end q) (is_killed w.killed q) (finmap.get w.written q) (finmap.get m q)
    ∙ ap (λ o. cond (stands_within end q) o None) (sym (get_over w m q)) ∙ sym (get_to end (laid_over w m) q))

pub laid_down : (floor : Option Cut) (w : Layer) (m : Database) → laid_over (layer_down floor w) (down_to floor m) ≡ down_to floor (laid_over w m)
laid_down floor w m = finmap.same_map ref_cmp_total ref_cmp-IsAntisymmetric _ _ (λ q.
    get_over (layer_down floor w) (down_to floor m) q
    ∙ (λ i. option_or (get_down floor w.written q i) (cond (is_killed w.killed q) None (get_down floor m q i)))
    ∙ by_tests (not (stands_under floor q)) (is_killed w.killed q) (finmap.get w.written q) (finmap.get m q)
    ∙ ap (λ o. cond (not (stands_under floor q)) o None) (sym (get_over w m q)) ∙ sym (get_down floor (laid_over w m) q))

-- ---- the nearest before an end

keeps : (W : Reference → Bool) (o : Option Node) (e : Node) → keep W o ≡ Some e → W e.0 ≡ true
keeps W None e is = absurd (cc)
keeps W (Some f) e is = by_test (W f.0) refl is
  where
    by_test : (b : Bool) → W f.0 ≡ b → cond b (Some f) None ≡ Some e → W e.0 ≡ true
    by_test true w is = let same : f ≡ e = cc in ap (λ (z : Node). W z.0) (sym same) ∙ w
    by_test false w is = absurd (cc)

-- what is nearest below matters only before the written node that was found
chosen : (forward : Bool) (e : Node) (n : Option Node) (W V : Reference → Bool) → ((x : Reference) → V x ≡ is_lt (toward forward x e.0)) → ((x : Reference) → toward forward x e.0 ≡ Less → W x ≡ true)
    → nearer forward (Some e) (keep V n) ≡ nearer forward (Some e) (keep W n)
chosen forward e None W V is within = refl
chosen forward e (Some f) W V is within = by_test (is_lt (toward forward f.0 e.0)) refl
  where
    late : (b : Bool) → is_lt (toward forward f.0 e.0) ≡ false → Some e ≡ nearer forward (Some e) (cond b (Some f) None)
    late true t = sym (ap (λ b. cond b (Some f) (Some e)) t)
    late false t = refl

    by_test : (t : Bool) → is_lt (toward forward f.0 e.0) ≡ t → nearer forward (Some e) (cond (V f.0) (Some f) None) ≡ nearer forward (Some e) (cond (W f.0) (Some f) None)
    by_test true t = ap (λ b. nearer forward (Some e) (cond b (Some f) None)) (is f.0 ∙ t ∙ sym (within f.0 (is_less _ t)))
    by_test false t = ap (λ b. nearer forward (Some e) (cond b (Some f) None)) (is f.0 ∙ t) ∙ late (W f.0) t

abbrev Lent : Type 0
Lent = Option (Bor Reference × Bor (List ℕ))

lent_is : (n : Option Node) (o : Lent) → MatchOption o (n ≡ None) (λ e. n ≡ Some (e.0.now, e.1.now)) → n ≡ lent_node o
lent_is n None h = h
lent_is n (Some e) h = h

is_lent : (n : Option Node) (o : Lent) → n ≡ lent_node o → MatchOption o (n ≡ None) (λ e. n ≡ Some (e.0.now, e.1.now))
is_lent n None h = h
is_lent n (Some e) h = h

module _ (end : Option Cut) (cut : Cut) (w : Layer) (m : Database) where
  abbrev left : Reference → Bool
  left = is_left true cut w.killed

  by_own : (own : Lent) (n : Option Node) → first_from_cut cut (up_to end w.written) ≡ lent_node own → nearest_entry true left (up_to (end_by_own own end) m) ≡ n
      → nearer true (lent_node own) (nearest_entry true left (up_to end m)) ≡ nearer true (lent_node own) n
  by_own None n is h = h
  by_own (Some e) n is h =
      let node : Node = (e.0.now, e.1.now) in
      let in_it : stands_within end e.0.now ≡ true = keeps (stands_within end) (first_from_cut cut w.written) node (sym (nearest_to (λ x. not (stands_before cut x)) end w.written) ∙ is) in
      ap (nearer true (Some node)) (nearest_to left end m)
      ∙ sym (chosen true node (nearest_entry true left m) (stands_within end) (stands_within (Some (Before e.0))) (λ x. refl) (λ x l. within-earlier end x e.0.now l in_it))
      ∙ ap (nearer true (Some node)) (sym (nearest_to left (Some (Before e.0)) m) ∙ h)

  pub looked_to : (a : Database) (own below result : Lent) → a ≡ w.written
      → MatchOption own (first_from_cut cut (up_to end a) ≡ None) (λ e. first_from_cut cut (up_to end a) ≡ Some (e.0.now, e.1.now))
      → MatchOption below (nearest_entry true left (up_to (end_by_own own end) m) ≡ None) (λ e. nearest_entry true left (up_to (end_by_own own end) m) ≡ Some (e.0.now, e.1.now))
      → lent_node result ≡ nearer true (lent_node own) (lent_node below)
      → MatchOption result (first_from_cut cut (up_to end (laid_over w m)) ≡ None) (λ e. first_from_cut cut (up_to end (laid_over w m)) ≡ Some (e.0.now, e.1.now))
  looked_to a own below result is h k n =
      let found : first_from_cut cut (up_to end w.written) ≡ lent_node own = ap (λ d. first_from_cut cut (up_to end d)) (sym is) ∙ lent_is _ own h in
      is_lent _ result (
      ap (first_from_cut cut) (sym (laid_to end w m))
      ∙ nearest_over (layer_to end w) (up_to end m) true (is_beyond_cut true cut) (lent_node own) (nearest_entry true left (up_to end m)) found refl
      ∙ by_own own (lent_node below) found (lent_is _ below k) ∙ sym n)

-- ---- backward

not_true : (b : Bool) → not b ≡ true → b ≡ false
not_true true h = absurd (cc)
not_true false h = refl

module _ (floor : Option Cut) (cut : Cut) (w : Layer) (m : Database) where
  abbrev left_back : Reference → Bool
  left_back = is_left false cut w.killed

  back_by_own : (own : Lent) (n : Option Node) → last_before_cut cut (down_to floor w.written) ≡ lent_node own → nearest_entry false left_back (down_to (floor_by_own own floor) m) ≡ n
      → nearer false (lent_node own) (nearest_entry false left_back (down_to floor m)) ≡ nearer false (lent_node own) n
  back_by_own None n is h = h
  back_by_own (Some e) n is h =
      let node : Node = (e.0.now, e.1.now) in
      let above : not (stands_under floor e.0.now) ≡ true = keeps (λ x. not (stands_under floor x)) (last_before_cut cut w.written) node (sym (nearest_down (stands_before cut) floor w.written) ∙ is) in
      ap (nearer false (Some node)) (nearest_down left_back floor m)
      ∙ sym (chosen false node (nearest_entry false left_back m) (λ x. not (stands_under floor x)) (λ x. not (stands_under (Some (After e.0)) x)) (λ x. not-not (is_lt (ref_cmp e.0.now x)))
      (λ x l. ap not (still_fails ref_cmp (stands_under floor) (under-earlier floor) e.0.now x (not_true _ above) l)))
      ∙ ap (nearer false (Some node)) (sym (nearest_down left_back (Some (After e.0)) m) ∙ h)

  pub looked_down : (a : Database) (own below result : Lent) → a ≡ w.written
      → MatchOption own (last_before_cut cut (down_to floor a) ≡ None) (λ e. last_before_cut cut (down_to floor a) ≡ Some (e.0.now, e.1.now))
      → MatchOption below (nearest_entry false left_back (down_to (floor_by_own own floor) m) ≡ None) (λ e. nearest_entry false left_back (down_to (floor_by_own own floor) m) ≡ Some (e.0.now, e.1.now))
      → lent_node result ≡ nearer false (lent_node own) (lent_node below)
      → MatchOption result (last_before_cut cut (down_to floor (laid_over w m)) ≡ None) (λ e. last_before_cut cut (down_to floor (laid_over w m)) ≡ Some (e.0.now, e.1.now))
  looked_down a own below result is h k n =
      let found : last_before_cut cut (down_to floor w.written) ≡ lent_node own = ap (λ d. last_before_cut cut (down_to floor d)) (sym is) ∙ lent_is _ own h in
      is_lent _ result (
      ap (last_before_cut cut) (sym (laid_down floor w m))
      ∙ nearest_over (layer_down floor w) (down_to floor m) false (is_beyond_cut false cut) (lent_node own) (nearest_entry false left_back (down_to floor m)) found refl
      ∙ back_by_own own (lent_node below) found (lent_is _ below k) ∙ sym n)

-- ---- runs

-- with its last node as the end a run is one of those before that end
module _ (cut : Cut) (end last : Option Cut) (d : Database) (most : ℕ) (run : List Node) where
  -- those before an earlier end begin those before a later one
  all_within : ((x : Reference) → stands_within last x ≡ true → stands_within end x ≡ true) → (es : List Node) → is_sorted ref_cmp es ≡ true
      → IsFront (filter (λ e. stands_within last e.0) es) (filter (λ e. stands_within end e.0) es)
  all_within within [] h = record { rest = []; parts = refl }
  all_within within (e ∷ es) h = by_test (stands_within last e.0) refl (all_within within es (second_so (below_all ref_cmp e.0 es) _ h))
    where
      by_test : (b : Bool) → stands_within last e.0 ≡ b → IsFront (filter (λ e. stands_within last e.0) es) (filter (λ e. stands_within end e.0) es)
          → IsFront (cond b (e ∷ filter (λ e. stands_within last e.0) es) (filter (λ e. stands_within last e.0) es)) (cond (stands_within end e.0) (e ∷ filter (λ e. stands_within end e.0) es) (filter (λ e. stands_within end e.0) es))
      by_test true b front = record { rest = front.rest; parts = ap (λ t. cond t (e ∷ filter (λ e. stands_within end e.0) es) (filter (λ e. stands_within end e.0) es)) (within e.0 b) ∙ ap (λ l. e ∷ l) front.parts }
      by_test false b front =
          let none : filter (λ e. stands_within last e.0) es ≡ [] = none_pass ref_cmp (stands_within last) e.0 es (λ y l. still_fails ref_cmp (stands_within last) (within-earlier last) e.0 y b l) (first_so _ _ h) in
          record { rest = cond (stands_within end e.0) (e ∷ filter (λ e. stands_within end e.0) es) (filter (λ e. stands_within end e.0) es); parts = ap (λ (l : List Node). l ++ cond (stands_within end e.0) (e ∷ filter (λ e. stands_within end e.0) es) (filter (λ e. stands_within end e.0) es)) (sym none) }

  sorted_from : is_sorted ref_cmp (entries_from cut d) ≡ true
  sorted_from = true_of _ (is_sorted-where_key ref_cmp (λ x. not (stands_before cut x)) (finmap.entries d) (finmap.entries_sorted d))

  front_earlier : ((x : Reference) → stands_within last x ≡ true → stands_within end x ≡ true) → IsFront (entries_from cut (up_to last d)) (entries_from cut (up_to end d))
  front_earlier within =
      let front = all_within within (entries_from cut d) sorted_from in
      record { rest = front.rest; parts = entries_between cut end d ∙ front.parts ∙ ap (λ (l : List Node). l ++ front.rest) (sym (entries_between cut last d)) }

  -- a run before the earlier end, which isn't empty, is one before the later
  pub run_later : ((x : Reference) → stands_within last x ≡ true → stands_within end x ≡ true) → (run ≡ [] → ⊥) → IsRun most run (entries_from cut (up_to last d)) → IsRun most run (entries_from cut (up_to end d))
  run_later within some is =
      let front = front_earlier within in
      record {
        front = record { rest = is.front.rest ++ front.rest; parts = front.parts ∙ ap (λ (l : List Node). l ++ front.rest) is.front.parts ∙ append_assoc run is.front.rest front.rest };
        bounded = is.bounded;
        ends = λ none. absurd (some none);
      }

-- ---- the last of a run

filter_twice : (P Q : Reference → Bool) → ((x : Reference) → Q x ≡ true → P x ≡ true) → (es : List Node) → filter (λ e. Q e.0) (filter (λ e. P e.0) es) ≡ filter (λ e. Q e.0) es
filter_twice P Q within [] = refl
filter_twice P Q within (e ∷ es) = by_test (P e.0) (Q e.0) refl refl (filter_twice P Q within es)
  where
    by_test : (p q : Bool) → P e.0 ≡ p → Q e.0 ≡ q → filter (λ e. Q e.0) (filter (λ e. P e.0) es) ≡ filter (λ e. Q e.0) es → filter (λ e. Q e.0) (cond p (e ∷ filter (λ e. P e.0) es) (filter (λ e. P e.0) es)) ≡ cond q (e ∷ filter (λ e. Q e.0) es) (filter (λ e. Q e.0) es)
    by_test true true p q rest = ap (λ b. cond b (e ∷ filter (λ e. Q e.0) (filter (λ e. P e.0) es)) (filter (λ e. Q e.0) (filter (λ e. P e.0) es))) q ∙ ap (λ l. e ∷ l) rest
    by_test true false p q rest = ap (λ b. cond b (e ∷ filter (λ e. Q e.0) (filter (λ e. P e.0) es)) (filter (λ e. Q e.0) (filter (λ e. P e.0) es))) q ∙ rest
    by_test false true p q rest = let t = within e.0 q in absurd (cc)
    by_test false false p q rest = rest

joined_some : (a : Node) (xs ys : List Node) → joined (a ∷ xs) ys ≡ [] → ⊥
joined_some a xs [] is = absurd (cc)
joined_some a xs (b ∷ ys) is = by_test (ref_cmp a.0 b.0) is
  where
    by_test : (o : Ordering) → by_order o (a ∷ joined xs (b ∷ ys)) (a ∷ joined xs ys) (b ∷ joined (a ∷ xs) ys) ≡ [] → ⊥
    by_test Less is = absurd (cc)
    by_test Equal is = absurd (cc)
    by_test Greater is = absurd (cc)

kept_at : (P : Reference → Bool) (es init rest : List Node) (e : Node) → filter (λ f. P f.0) es ≡ init ++ e ∷ rest → P e.0 ≡ true
kept_at P [] [] rest e is = absurd (cc)
kept_at P [] (x ∷ init) rest e is = absurd (cc)
kept_at P (f ∷ es) init rest e is = by_test (P f.0) refl init is (λ init is. kept_at P es init rest e is)
  where
    by_test : (b : Bool) → P f.0 ≡ b → (init : List Node) → cond b (f ∷ filter (λ g. P g.0) es) (filter (λ g. P g.0) es) ≡ init ++ e ∷ rest → ((init : List Node) → filter (λ g. P g.0) es ≡ init ++ e ∷ rest → P e.0 ≡ true) → P e.0 ≡ true
    by_test true b [] is on = let same : f ≡ e = cc in ap (λ (z : Node). P z.0) (sym same) ∙ b
    by_test true b (x ∷ init) is on = let rest_is : filter (λ g. P g.0) es ≡ init ++ e ∷ rest = cc in on init rest_is
    by_test false b init is on = on init is

below_front : (x : Reference) (xs ys : List Node) → below_all ref_cmp x (xs ++ ys) ≡ true → below_all ref_cmp x xs ≡ true
below_front x [] ys h = refl
below_front x (a ∷ xs) ys h = and_from _ _ (first_so _ _ h) (below_front x xs ys (second_so (is_lt (ref_cmp x a.0)) _ h))

sorted_front : (xs ys : List Node) → is_sorted ref_cmp (xs ++ ys) ≡ true → is_sorted ref_cmp xs ≡ true
sorted_front [] ys h = refl
sorted_front (a ∷ xs) ys h = and_from _ _ (below_front a.0 xs ys (first_so _ _ h)) (sorted_front xs ys (second_so (below_all ref_cmp a.0 (xs ++ ys)) _ h))

below_last : (x : Reference) (xs : List Node) (e : Node) → below_all ref_cmp x (xs ++ e ∷ []) ≡ true → ref_cmp x e.0 ≡ Less
below_last x [] e h = is_less _ (first_so _ _ h)
below_last x (a ∷ xs) e h = below_last x xs e (second_so (is_lt (ref_cmp x a.0)) _ h)

-- none of a run stands after its last
none_after : (W : Reference → Bool) (e : Node) → ((x : Reference) → W x ≡ not (is_lt (ref_cmp e.0 x))) → (init : List Node) → is_sorted ref_cmp (init ++ e ∷ []) ≡ true → filter (λ f. W f.0) (init ++ e ∷ []) ≡ init ++ e ∷ []
none_after W e is [] h = ap (λ b. cond b (e ∷ []) []) (is e.0 ∙ ap (λ o. not (is_lt o)) (tied_itself ref_cmp_total e.0))
none_after W e is (a ∷ init) h =
    let back = turned ref_cmp_total a.0 e.0 Less (below_last a.0 init e (first_so _ _ h)) in
    ap (λ b. cond b (a ∷ filter (λ f. W f.0) (init ++ e ∷ [])) (filter (λ f. W f.0) (init ++ e ∷ []))) (is a.0 ∙ ap (λ o. not (is_lt o)) back)
    ∙ ap (λ l. a ∷ l) (none_after W e is init (second_so (below_all ref_cmp a.0 (init ++ e ∷ [])) _ h))

last_there : (a : Node) (xs : List Node) → (e : Node) × (drop (length (a ∷ xs) - 1) (a ∷ xs) ≡ e ∷ [])
last_there a xs = (
  get_or (a ∷ xs) (length (a ∷ xs) - 1) a,
  drop-cons (a ∷ xs) (length (a ∷ xs) - 1) a (omega arith) ∙ ap (λ l. get_or (a ∷ xs) (length (a ∷ xs) - 1) a ∷ l) (drop_all (suc (length (a ∷ xs) - 1)) (a ∷ xs) (omega arith)),
)

laid : (cut : Cut) (w : Layer) (m : Database) (z : Option Cut) → joined (entries_from cut (up_to z w.written)) (without_killed w.killed (entries_from cut (up_to z m))) ≡ entries_from cut (up_to z (laid_over w m))
laid cut w m z = nodes_over (layer_to z w) (up_to z m) cut ∙ ap (entries_from cut) (laid_to z w m)

-- a run that isn't empty, and its last node e
module _ (cut : Cut) (end last : Option Cut) (w : Layer) (most : ℕ) (own : List Node) (own_run : IsRun most own (entries_from cut (up_to end w.written))) (e : Node) (at : drop (length own - 1) own ≡ e ∷ [])
    (test : (x : Reference) → stands_within last x ≡ not (is_lt (ref_cmp e.0 x))) (some : own ≡ [] → ⊥) where
  abbrev others : List Node
  others = filter (λ f. stands_within last f.0) own_run.front.rest

  own_as : own ≡ take (length own - 1) own ++ e ∷ []
  own_as = sym (take-append-drop (length own - 1) own) ∙ ap (λ l. take (length own - 1) own ++ l) at

  all : filter (λ f. stands_within end f.0) (entries_from cut w.written) ≡ own ++ own_run.front.rest
  all = sym (entries_between cut end w.written) ∙ own_run.front.parts

  e_within : stands_within end e.0 ≡ true
  e_within = kept_at (stands_within end) (entries_from cut w.written) (take (length own - 1) own) own_run.front.rest e
      (all ∙ ap (λ (l : List Node). l ++ own_run.front.rest) own_as ∙ append_assoc (take (length own - 1) own) (e ∷ []) own_run.front.rest)

  within : (x : Reference) → stands_within last x ≡ true → stands_within end x ≡ true
  within x h = by_sign (ref_cmp e.0 x) refl (sym (test x) ∙ h)
    where
      by_sign : (o : Ordering) → ref_cmp e.0 x ≡ o → not (is_lt o) ≡ true → stands_within end x ≡ true
      by_sign Less l n = absurd (cc)
      by_sign Equal l n = subst (λ y. stands_within end y ≡ true) (ref_cmp-IsAntisymmetric e.0 x l) e_within
      by_sign Greater l n = within-earlier end x e.0 (turned ref_cmp_total e.0 x Greater l) e_within

  sorted : is_sorted ref_cmp own ≡ true
  sorted = sorted_front own own_run.front.rest (ap (is_sorted ref_cmp) (sym own_run.front.parts) ∙ true_of _ (is_sorted-where_key ref_cmp (λ x. not (stands_before cut x)) (finmap.entries (up_to end w.written)) (finmap.entries_sorted (up_to end w.written))))

  kept_own : filter (λ f. stands_within last f.0) own ≡ own
  kept_own = ap (filter (λ f. stands_within last f.0)) own_as ∙ none_after (stands_within last) e test (take (length own - 1) own) (ap (is_sorted ref_cmp) (sym own_as) ∙ sorted) ∙ sym own_as

  parts_to_last : entries_from cut (up_to last w.written) ≡ own ++ others
  parts_to_last =
      entries_between cut last w.written ∙ sym (filter_twice (stands_within end) (stands_within last) within (entries_from cut w.written))
      ∙ ap (filter (λ f. stands_within last f.0)) all ∙ filter-append (λ f. stands_within last f.0) own own_run.front.rest
      ∙ ap (λ (l : List Node). l ++ others) kept_own

  run_to_last : IsRun most own (entries_from cut (up_to last w.written))
  run_to_last = record { front = record { rest = others; parts = parts_to_last }; bounded = own_run.bounded; ends = λ none. absurd (some none) }

  some_joined : (ys : List Node) → joined (entries_from cut (up_to last w.written)) ys ≡ [] → ⊥
  some_joined ys none = by_list own refl
    where
      by_list : (xs : List Node) → own ≡ xs → ⊥
      by_list [] none_own = some none_own
      by_list (x ∷ xs) is_own = joined_some x (xs ++ others) ys (ap (λ (l : List Node). joined (l ++ others) ys) (sym is_own) ∙ ap (λ (l : List Node). joined l ys) (sym parts_to_last) ∙ none)

  pub gathered_some : (m : Database) (below result : List Node) → IsRun most below (without_killed w.killed (entries_from cut (up_to last m)))
      → ((a b : List Node) → IsRun most own a → IsRun most below b → IsRun most result (joined a b))
      → IsRun most result (entries_from cut (up_to end (laid_over w m)))
  gathered_some m below result below_is joins =
      let left = without_killed w.killed (entries_from cut (up_to last m)) in
      let run : IsRun most result (joined (entries_from cut (up_to last w.written)) left) = joins _ _ run_to_last below_is in
      run_later cut end last (laid_over w m) most result within (λ none. some_joined left (run.ends none)) (subst (IsRun most result) (laid cut w m last) run)

pub gathered : (cut : Cut) (end last : Option Cut) (w : Layer) (m : Database) (most : ℕ) (a : Database) (own below result : List Node) → a ≡ w.written → IsRun most own (entries_from cut (up_to end a)) → IsLastEnd own end last
    → IsRun most below (without_killed w.killed (entries_from cut (up_to last m)))
    → ((a b : List Node) → IsRun most own a → IsRun most below b → IsRun most result (joined a b))
    → IsRun most result (entries_from cut (up_to end (laid_over w m)))
gathered cut end last w m most a own below result is own_is ends below_is joins = by_run own refl
  where
    own_run : IsRun most own (entries_from cut (up_to end w.written))
    own_run = subst (λ (d : Database). IsRun most own (entries_from cut (up_to end d))) is own_is

    by_run : (xs : List Node) → own ≡ xs → IsRun most result (entries_from cut (up_to end (laid_over w m)))
    by_run [] none =
        subst (IsRun most result) (laid cut w m end)
        (joins _ _ own_run (subst (λ (z : Option Cut). IsRun most below (without_killed w.killed (entries_from cut (up_to z m)))) (ends.none none) below_is))
    by_run (x ∷ xs) is_own =
        let l = last_there x xs in
        let at = ap (λ (ys : List Node). drop (length ys - 1) ys) is_own ∙ l.1 in
        gathered_some cut end last w most own own_run l.0 at (ends.some l.0 at) (λ none. let bad : [] ≡ x ∷ xs = sym none ∙ is_own in absurd (cc)) m below result below_is joins
