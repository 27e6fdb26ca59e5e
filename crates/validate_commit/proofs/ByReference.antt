-- A SET and a $GET of which key and value are lent, as the commands that they stand for.
use Rattle.std.proofs.Common.{◌≡◌, ◌<◌, ℕ, Bool, true, false, List, [], ◌∷◌, ◌++◌, length, refl, sym, ap, subst, ◌∙◌}
use Rattle.std.specs.Prelude.{cond, ◌||◌, is_some, Option, None, Some, Result, Ok, Err, OnOk, unwrap_or}
use Rattle.std.specs.Option.{option_or}
use Rattle.std.specs.FinMap as finmap
use Rattle.std.proofs.Math.Bool.{or-false}
use Rattle.collation.specs.Reference.{Reference}
use Rattle.collation.specs.Database.{Database}
use Rattle.command.specs.declared.access.DataCommand.TheVariants.{Set, Look}
use Rattle.command.specs.declared.access.Look.TheVariants.{Get}
use Rattle.command.specs.declared.access.Answer.{Answer}
use Rattle.command.specs.declared.access.Answer.TheVariants.{Done, Value, Number, Found}
use Rattle.journal.specs.declared.unit.Exchange.{Exchange}
use Rattle.workspace.specs.Layers.{is_killed, decides}
use Rattle.workspace.specs.laws.Layering.{get_over}
use Rattle.read_ranges.specs.declared.range.ReadRange.{ReadRange}
use Rattle.read_ranges.specs.Ranges.{is_in_one, IsNoted}
use Rattle.stretches.specs.Empty.{AreEmpty}
use Rattle.validate_commit.specs.Working.{Working, IsWorkOn, IsKept, StayEmpty, seen, value_seen}
use Rattle.validate_commit.specs.laws.Working.{work_next, kept_alone, own_answer}

text_of : Answer → List ℕ
text_of Done = []
text_of (Value v) = v
text_of (Number n) = []
text_of (Found r) = []

-- what is seen where the writes decide
pub own_value : (w : Working) (m : Database) (r : Reference) → IsWorkOn w m → decides w.layer r ≡ true → unwrap_or (finmap.get w.layer.written r) [] ≡ value_seen r w m
unfolding text_of
own_value w m r is own = ap text_of (own_answer w m r None is own)

below : (o : Option (List ℕ)) (b : Bool) (p : Option (List ℕ)) → (is_some o || b) ≡ false → p ≡ option_or o (cond b None p)
below None false p e = refl
below None true p e = absurd (cc)
below (Some v) b p e = absurd (cc)

-- and where they don't
pub value_below : (w : Working) (m : Database) (r : Reference) → IsWorkOn w m → decides w.layer r ≡ false → unwrap_or (finmap.get m r) [] ≡ value_seen r w m
value_below w m r is none =
    ap (λ o. unwrap_or o []) (below (finmap.get w.layer.written r) (is_killed w.layer.killed r) (finmap.get m r) none ∙ sym (get_over w.layer m r))
    ∙ ap (λ (n : Database). unwrap_or (finmap.get n r) []) is.holds.seen

-- a $GET is kept with what is seen
pub got_next : (w n : Working) (m : Database) (r : Reference) (value : List ℕ) (decided : Bool) → IsWorkOn w m → value ≡ value_seen r w m → decides w.layer r ≡ decided
    → n.exchanges ≡ w.exchanges ++ record { command = Look (Get r None); answer = Value value } ∷ [] → IsNoted w.ranges n.ranges (Look (Get r None)) (Value value) decided → n.layer ≡ w.layer → n.stretches ≡ w.stretches → IsWorkOn n m
got_next w n m r value decided was is own more noted layer stretches =
    work_next w n m (Look (Get r None)) (Value value) [] was refl (ap Value is) refl more (λ mine same. noted mine (sym (same r) ∙ own)) layer
    (subst (λ rs. AreEmpty rs (seen w m)) (sym stretches) was.empty)

pub on_ok_both : {A E : Type 0} {P Q R : Type 0} (r : Result A E) → (P → Q → R) → OnOk r P → OnOk r Q → OnOk r R
on_ok_both (Ok a) f p q = f p q
on_ok_both (Err e) f p q = tt

-- a SET is kept
pub kept_set : (w n : Working) (r : Reference) (value : List ℕ) → length w.exchanges < 65535 → n.exchanges ≡ w.exchanges ++ record { command = Set r value; answer = Done } ∷ [] → n.ranges ≡ w.ranges
    → n.layer ≡ record w.layer { written = finmap.insert w.layer.written r value } → StayEmpty (Set r value) None w.stretches n.stretches → n.job ≡ w.job → n.start ≡ w.start → IsKept (Set r value) w n
kept_set w n r value few more ranges layer stay job start =
    kept_alone w n (Set r value) [] None (λ m. tt) tt refl few more (λ own same x. ap (λ (rs : List ReadRange). is_in_one rs x) ranges ∙ sym (or-false (is_in_one w.ranges x))) layer stay job start
