-- A workspace holds what the commands done in it have written.
use Rattle.std.proofs.Common.{◌≡◌, Bool, true, false, List, [], ◌∷◌, ◌++◌, refl, sym, ap, ◌∙◌}
use Rattle.std.specs.Prelude.{cond, not, ◌&&◌, ◌||◌, is_some, Option, Some, None}
use Rattle.std.specs.Option.{option_or}
use Rattle.std.specs.FinMap as finmap
use Rattle.command.specs.declared.access.DataCommand.TheVariants.{Set, Kill, Merge, Increment, Look}
use Rattle.collation.specs.Reference.{Reference}
use Rattle.collation.specs.Order.{ref_cmp, ref_eq}
use Rattle.collation.specs.laws.Order.{ref_cmp_total, ref_cmp-IsAntisymmetric}
use Rattle.collation.specs.Database.{Database, is_under}
use Rattle.collation.specs.Answers.{merged, moved, set_all}
use Rattle.command.specs.Data.{data_after, sum_at, takes}
use Rattle.globals.specs.laws.Changing.{get_set, kill_taken, contains_merged}
use Rattle.journal.specs.declared.unit.Exchange.{Exchange}
use Rattle.journal.specs.History.{all_after}
use Rattle.journal.specs.Touching.{sets, kills, has_read, has_written}
use Rattle.serial.specs.Agreeing.{Agree}
use Rattle.serial.specs.Committing.{GrowsBy}
use Rattle.serial.specs.laws.Committing.{grows_by, commits_on}
use Rattle.workspace.specs.Layers.{Layer, nothing_written, is_killed, laid_over, decides}
use Rattle.workspace.specs.laws.Layering.{get_over, over_nothing, over_set, over_set_all, over_kill, decides_set, decides_kill}
use Rattle.followed.specs.Following.{HoldsWrites, HoldsAlways, ChangesAreTouched}

or_nothing : (a : Bool) → (a || false) ≡ a
or_nothing true = refl
or_nothing false = refl

-- ---- one more command

pub holds_nothing : (m : Database) → HoldsWrites nothing_written [] m
holds_nothing m = record {
  seen = over_nothing m;
  decided = λ x. ap (λ o. is_some o || false) (finmap.get-empty ref_cmp x);
  left_set = λ x. ap is_some (finmap.get-empty ref_cmp x);
}

-- by what the workspace is after the command
next_holds : (w n : Layer) (es : List Exchange) (m : Database) (e : Exchange) → HoldsWrites w es m → laid_over n m ≡ data_after e.command (laid_over w m)
    → ((x : Reference) → decides n x ≡ (decides w x || (sets e.command (all_after es m) x || kills e.command x)))
    → ((x : Reference) → finmap.contains_key n.written x ≡ (sets e.command (all_after es m) x || (finmap.contains_key w.written x && not (kills e.command x)))) → HoldsWrites n (es ++ e ∷ []) m
next_holds w n es m e was seen decided left_set =
    let any : GrowsBy es e m (record { name = []; subscripts = [] }) = grows_by es e m (record { name = []; subscripts = [] }) in
    record {
      seen = seen ∙ ap (data_after e.command) was.seen ∙ sym any.seen;
      decided = λ x. let more = grows_by es e m x in decided x ∙ ap (λ b. b || (sets e.command (all_after es m) x || kills e.command x)) (was.decided x) ∙ sym more.written;
      left_set = λ x. let more = grows_by es e m x in left_set x ∙ ap (λ b. sets e.command (all_after es m) x || (b && not (kills e.command x))) (was.left_set x) ∙ sym more.left_set;
    }

decided_none : (d : Bool) → d ≡ (d || (false || false))
decided_none true = refl
decided_none false = refl

left_none : (l : Bool) → l ≡ (l && true)
left_none true = refl
left_none false = refl

one_set : {A : Type 0} (b : Bool) (v : A) (o : Option A) → is_some (cond b (Some v) o) ≡ (b || (is_some o && true))
one_set true v o = refl
one_set false v o = left_none (is_some o)

one_killed : {A : Type 0} (b : Bool) (o : Option A) → is_some (cond b None o) ≡ (is_some o && not b)
one_killed true None = refl
one_killed true (Some x) = refl
one_killed false o = left_none (is_some o)

copied_decides : (s l k : Bool) → ((s || l) || k) ≡ ((l || k) || (s || false))
copied_decides true true k = refl
copied_decides true false true = refl
copied_decides true false false = refl
copied_decides false true k = refl
copied_decides false false true = refl
copied_decides false false false = refl

pub holds_always : HoldsAlways
holds_always w es m was answer = record {
  look = λ l.
      next_holds w w es m (record { command = Look l; answer = answer }) was refl
      (λ x. decided_none (decides w x))
      (λ x. left_none (finmap.contains_key w.written x));
  set = λ r v.
      next_holds w (record w { written = finmap.insert w.written r v }) es m (record { command = Set r v; answer = answer }) was (over_set w m r v)
      (λ x. decides_set w r v x ∙ ap (λ b. decides w x || b) (sym (or_nothing (ref_eq x r))))
      (λ x. ap is_some (get_set w.written r v x) ∙ one_set (ref_eq x r) v (finmap.get w.written x));
  kill = λ r extent n kills.
      next_holds w n es m (record { command = Kill r extent; answer = answer }) was (over_kill r extent w n kills m)
      (λ x. decides_kill r extent w n kills x)
      (λ x. ap (λ a. finmap.contains_key a x) kills.written ∙ ap is_some (kill_taken w.written r extent x) ∙ one_killed (takes extent r x) (finmap.get w.written x));
  increment = λ r k.
      let v = sum_at r k (laid_over w m) in
      next_holds w (record w { written = finmap.insert w.written r v }) es m (record { command = Increment r k; answer = answer }) was (over_set w m r v)
      (λ x. decides_set w r v x ∙ ap (λ b. decides w x || b) (sym (or_nothing (ref_eq x r))))
      (λ x. ap is_some (get_set w.written r v x) ∙ one_set (ref_eq x r) v (finmap.get w.written x));
  merge = λ a b.
      let copies = merged a b (laid_over w m) in
      let set_by : (x : Reference) → (not (ref_eq a b) && (is_under a x && finmap.contains_key (laid_over w m) (moved b a x))) ≡ sets (Merge a b) (all_after es m) x =
      λ x. ap (λ d. not (ref_eq a b) && (is_under a x && finmap.contains_key d (moved b a x))) was.seen in
      let there : (x : Reference) → finmap.contains_key (set_all copies w.written) x ≡ (sets (Merge a b) (all_after es m) x || finmap.contains_key w.written x) =
      λ x. contains_merged a b x (laid_over w m) w.written ∙ ap (λ t. t || finmap.contains_key w.written x) (set_by x) in
      next_holds w (record w { written = set_all copies w.written }) es m (record { command = Merge a b; answer = answer }) was (over_set_all copies w m)
      (λ x. ap (λ t. t || is_killed w.killed x) (there x) ∙ copied_decides (sets (Merge a b) (all_after es m) x) (finmap.contains_key w.written x) (is_killed w.killed x))
      (λ x. there x ∙ ap (λ t. sets (Merge a b) (all_after es m) x || t) (left_none (finmap.contains_key w.written x)));
}

-- ---- the changes at the commit

by_decided : {A : Type 0} (o g h : Option A) (k : Bool) → option_or o (cond k None g) ≡ cond (is_some o || k) (option_or o (cond k None h)) g
by_decided (Some x) g h k = refl
by_decided None g h true = refl
by_decided None g h false = refl

-- the writes over a database that agrees on what was read are what the commands leave there
pub over_commit : (w : Layer) (es : List Exchange) (m n : Database) → HoldsWrites w es m → ((x : Reference) → has_read es m x ≡ true → Agree m n x) → laid_over w n ≡ all_after es n
over_commit w es m n was reading = finmap.same_map ref_cmp_total ref_cmp-IsAntisymmetric (laid_over w n) (all_after es n) (λ x.
    let there = commits_on es m n reading x in
    get_over w n x ∙ by_decided (finmap.get w.written x) (finmap.get n x) (finmap.get m x) (is_killed w.killed x)
    ∙ (λ i. cond (was.decided x i) (sym (get_over w m x) i) (finmap.get n x)) ∙ ap (λ d. cond (has_written es m x) (finmap.get d x) (finmap.get n x)) was.seen ∙ sym there.value)

pub changes_are_touched : ChangesAreTouched
changes_are_touched w es m n was reading cs changes =
    let over = over_commit w es m n was reading in
    record {
      leave = changes.leave ∙ over;
      touched = λ x.
          let there = commits_on es m n reading x in
          changes.touched x ∙ (λ i. (was.left_set x ∙ sym there.left_set) i || (finmap.contains_key n x && not (finmap.contains_key (over i) x)));
      once = changes.once;
    }
