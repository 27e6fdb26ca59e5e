-- What commands touch, told by the last that writes.
use Rattle.std.proofs.Common.{◌≡◌, ℕ, Bool, true, false, List, [], ◌∷◌, ◌++◌, refl, ap, ◌∙◌}
use Rattle.std.specs.Prelude.{◌&&◌, ◌||◌, not, cond, Option, None, is_some}
use Rattle.std.specs.List.{list_any}
use Rattle.std.specs.FinMap as finmap
use Rattle.collation.specs.Reference.{Reference}
use Rattle.collation.specs.Database.{Database}
use Rattle.command.specs.Data.{data_after}
use Rattle.journal.specs.declared.unit.Exchange.{Exchange}
use Rattle.journal.specs.History.{all_after}
use Rattle.journal.specs.laws.History.{all_after-append}
use Rattle.journal.specs.Touching.{sets, kills, own_after, own_by, leaves_set, touched_by}
use Rattle.serial.specs.Touches.{TouchesWhatItWrites}
use Rattle.serial.specs.laws.Untouched.{neither, not_set}
use Rattle.serial.specs.laws.Overtaken.{touched_is_there}
use Rattle.serial.specs.laws.Committing.{own_stays, unwritten, left_more}

-- ---- what isn't written

none_set : (es : List Exchange) (m : Database) (own : Reference → Bool) (x : Reference) → own_by es m own x ≡ false → leaves_set es m x ≡ false
none_set [] m own x h = refl
none_set (e ∷ es) m own x h =
    let now = neither (own x) (sets e.command m x || kills e.command x) (own_stays es (data_after e.command m) (own_after e.command m own) x h) in
    let parts = neither (sets e.command m x) (kills e.command x) now.1 in
    λ i. (parts.0 i && not (list_any (λ (later : Exchange). kills later.command x) es)) || none_set es (data_after e.command m) (own_after e.command m own) x h i

kept : (b : Bool) → (b && not b) ≡ false
kept true = refl
kept false = refl

untouched_unwritten : (es : List Exchange) (m : Database) (x : Reference) → own_by es m (λ y. false) x ≡ false → touched_by es m x ≡ false
untouched_unwritten es m x h =
    (λ i. none_set es m (λ y. false) x h i || (finmap.contains_key m x && not (is_some (unwritten es m (λ y. false) x h i))))
    ∙ kept (finmap.contains_key m x)

-- ---- the last command

last_touches : (es : List Exchange) (m : Database) (x : Reference) (e : Exchange) → touched_by (es ++ e ∷ []) m x ≡ (sets e.command (all_after es m) x || cond (kills e.command x) (finmap.contains_key m x) (touched_by es m x))
last_touches es m x e =
    (λ i. left_more es e m x i || (finmap.contains_key m x && not (finmap.contains_key (all_after-append es (e ∷ []) m i) x)))
    ∙ by_set (sets e.command (all_after es m) x) refl
  where
    by_kill : (k left had has : Bool) → ((left && not k) || (had && not (cond k false has))) ≡ cond k had (left || (had && not has))
    by_kill true true true has = refl
    by_kill true true false has = refl
    by_kill true false true has = refl
    by_kill true false false has = refl
    by_kill false true had has = refl
    by_kill false false had has = refl

    some_unless : (k : Bool) (o : Option (List ℕ)) → is_some (cond k None o) ≡ cond k false (is_some o)
    some_unless true o = refl
    some_unless false o = refl

    by_set : (s : Bool) → sets e.command (all_after es m) x ≡ s →
        ((s || (leaves_set es m x && not (kills e.command x))) || (finmap.contains_key m x && not (finmap.contains_key (data_after e.command (all_after es m)) x)))
        ≡ (s || cond (kills e.command x) (finmap.contains_key m x) (touched_by es m x))
    by_set true is = refl
    by_set false is =
        ap (λ b. (leaves_set es m x && not (kills e.command x)) || (finmap.contains_key m x && not b))
        (ap is_some (not_set e.command (all_after es m) x is) ∙ some_unless (kills e.command x) (finmap.get (all_after es m) x))
        ∙ by_kill (kills e.command x) (leaves_set es m x) (finmap.contains_key m x) (finmap.contains_key (all_after es m) x)

pub touches : (es : List Exchange) (m : Database) (x : Reference) → TouchesWhatItWrites es m x
touches es m x = record {
  written = untouched_unwritten es m x;
  there = touched_is_there es m x;
  last = last_touches es m x;
}
