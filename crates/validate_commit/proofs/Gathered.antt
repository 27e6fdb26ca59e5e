-- Store and journal agree on many $GETs more, which change no reference.
use Rattle.std.proofs.Common.{◌≡◌, ℕ, ◌+◌, ◌-◌, ◌^◌, ◌≤◌, ◌<◌, suc, List, [], ◌∷◌, ◌++◌, length, max, refl, sym, ap, subst, ◌∙◌, arith, length-append, append_assoc, append-nil}
use Rattle.std.specs.Prelude.{Bool, true, false, not, ◌&&◌, ◌||◌, Option, Some, None, is_some}
use Rattle.std.specs.FinMap as finmap
use Rattle.std.specs.List.{All}
use Rattle.std.proofs.lemmas.List.Elements.{All-head, All-tail}
use Rattle.collation.specs.Reference.{Reference}
use Rattle.collation.specs.Changes.{Change}
use Rattle.collation.specs.Database.{Database}
use Rattle.command.specs.declared.access.DataCommand.TheVariants.{Look}
use Rattle.command.specs.declared.access.Look.TheVariants.{Get}
use Rattle.command.specs.declared.access.Answer.TheVariants.{Value}
use Rattle.journal.specs.declared.unit.Unit.{Unit as JournalUnit}
use Rattle.journal.specs.Gathered.{got}
use Rattle.journal.specs.History.{State, initial, after}
use Rattle.journal.specs.laws.History.{after-unit}
use Rattle.version_chain.specs.Versions.{IsAbove, IsFalling}
use Rattle.version_store.specs.Versions.{Stored, Row, content_at, versions_of}
use Rattle.version_store.specs.laws.Content.{content_settled}
use Rattle.validate_commit.specs.Agreement.{Agreement, AreChangesOfUnit, IsNext}
use Rattle.validate_commit.specs.Gathering.{IsRightGet, AreRightGets}
use Rattle.validate_commit.specs.laws.Agreement.{HasWritten, agreed_next}

-- a store at a later now
abbrev pub later : Stored → ℕ → Stored
later s now = record s { present = now }

-- a right $GET is next, and changes nothing
get_next : (units : List JournalUnit) (unit : JournalUnit) → IsRightGet (after units initial).map unit → IsNext [] unit units
get_next units unit right =
    subst (λ u. IsNext [] u units) (sym right.3) (record { legal = (refl, right.4); changes = record { leave = refl; references = λ x. looked (is_some (finmap.get (after units initial).map x)); once = tt } })
  where
    looked : (g : Bool) → false ≡ (((false && true) || false) || (g && not g))
    looked true = refl
    looked false = refl

-- it leaves the map
map_same : (units : List JournalUnit) (unit : JournalUnit) → IsRightGet (after units initial).map unit → (after (units ++ unit ∷ []) initial).map ≡ (after units initial).map
map_same units unit right = ap (λ (s : State). s.map) (after-unit units unit initial) ∙ ap (λ u. (after (u ∷ []) (after units initial)).map) right.3

above_later : (now stamp : ℕ) (vs : Row) → now ≤ stamp → IsAbove (suc now) vs → IsAbove (suc stamp) vs
above_later now stamp [] le low = tt
above_later now stamp (v ∷ vs) le low = omega (arith, le, low)

get_agreed : (s : Stored) (units : List JournalUnit) (unit : JournalUnit) → Agreement s units → ((x : Reference) → IsAbove (suc s.present) (versions_of s.versions x)) → ((x : Reference) → IsFalling (versions_of s.versions x))
    → IsRightGet (after units initial).map unit → length units < 2 ^ 64 - 1 → Agreement (later s (length units + 1)) (units ++ unit ∷ [])
get_agreed s units unit is settled falls right room =
    let cs : List Change = [] in
    let written : HasWritten s (later s (length units + 1)) (length units + 1) cs = record {
      present = refl;
      rises = omega arith;
      within = omega (arith, is.cut);
      content = content_settled s.versions s.present (length units + 1) settled (omega (arith, is.present));
      before = λ n from less. refl;
      rows = λ n x from. refl;
    } in
    agreed_next s (later s (length units + 1)) units unit cs is (get_next units unit right) settled falls written room

pub gets_agreed : (s : Stored) (units gets : List JournalUnit) → Agreement s units → ((x : Reference) → IsAbove (suc s.present) (versions_of s.versions x)) → ((x : Reference) → IsFalling (versions_of s.versions x))
    → AreRightGets (after units initial).map gets → length units + length gets < 2 ^ 64 → Agreement (later s (length units + length gets)) (units ++ gets)
gets_agreed s units [] is settled falls right room =
    let same : later s (length units + 0) ≡ s = ap (later s) (omega (arith, is.present)) in
    subst (λ us. Agreement (later s (length units + 0)) us) (sym (append-nil units)) (subst (λ t. Agreement t units) (sym same) is)
gets_agreed s units (unit ∷ gets) is settled falls right room =
    let first = All-head (IsRightGet (after units initial).map) unit gets right in
    let next = later s (length units + 1) in
    let more = units ++ unit ∷ [] in
    let one = get_agreed s units unit is settled falls first (omega (arith, room)) in
    let long = length-append units (unit ∷ []) in
    let rest = subst (λ m. AreRightGets m gets) (sym (map_same units unit first)) (All-tail (IsRightGet (after units initial).map) unit gets right) in
    let all = gets_agreed next more gets one (λ x. above_later s.present (length units + 1) (versions_of s.versions x) (omega (arith, is.present)) (settled x)) falls rest (omega (arith, room, long)) in
    let stamp : length more + length gets ≡ length units + length (unit ∷ gets) = omega (arith, long) in
    subst (λ n. Agreement (later s n) (units ++ unit ∷ gets)) stamp (subst (λ us. Agreement (later s (length more + length gets)) us) (append_assoc units (unit ∷ []) gets) all)

-- a cut that is raised
pub agreed_cut : (s : Stored) (units : List JournalUnit) (cut : ℕ) → Agreement s units → s.cut ≤ cut → cut ≤ length units → Agreement (record s { cut = cut }) units
agreed_cut s units cut is rises within = record {
  legal = is.legal;
  counted = is.counted;
  present = is.present;
  cut = within;
  content = λ n from le. is.content n (omega (arith, rises, from)) le;
  stamps = λ n u after from at x. is.stamps n u after (omega (arith, rises, from)) at x;
}
