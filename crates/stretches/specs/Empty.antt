-- Stretches of references in which no member of a database stands.
use Rattle.std.specs.Prelude.{◌≡◌, ⊤, ◌≤◌, ℕ, Bool, true, false, not, ◌&&◌, ◌||◌, List, [], ◌∷◌, length, take, drop, Option}
use Rattle.std.specs.FinMap as finmap
use Rattle.collation.specs.Reference.{Reference}
use Rattle.collation.specs.Database.{Database}
use Rattle.globals.specs.declared.cut.Cut.{Cut}
use Rattle.globals.specs.Cuts.{stands_before, stands_within, stands_under}
use Rattle.read_ranges.specs.declared.range.ReadRange.{ReadRange}
use Rattle.stretches.specs.declared.left.Left.{Left}
use Rattle.stretches.specs.declared.left.Left.TheVariants.{All, Without, Nothing}
use Rattle.read_ranges.specs.Ranges.{begins_after, between, ends_after, is_in, is_in_one, AreEarlier}

-- no member stands in the stretch
abbrev pub IsEmpty : ReadRange → Database → Type 0
IsEmpty stretch m = (x : Reference) → is_in stretch x ≡ true → finmap.contains_key m x ≡ false

-- no member stands in one of the stretches
abbrev pub AreEmpty : List ReadRange → Database → Type 0
AreEmpty stretches m = (x : Reference) → is_in_one stretches x ≡ true → finmap.contains_key m x ≡ false

-- what stands in the new stretches stood in one of the old ones or stands in the one that came
abbrev pub AreNoMore : ReadRange → List ReadRange → List ReadRange → Type 0
AreNoMore more old new = (x : Reference) → is_in_one new x ≡ true → (is_in_one old x || is_in more x) ≡ true

-- what stands in the new stretches stood in one of the old ones, and doesn't stand between two cuts
abbrev pub AreLeft : Cut → Cut → List ReadRange → List ReadRange → Type 0
AreLeft low high old new = (x : Reference) → is_in_one new x ≡ true → (is_in_one old x && not (between low high x)) ≡ true

-- ---- what a command leaves

-- what stands at x stays in the stretches
abbrev pub stays : Left → Reference → Bool
stays All x = true
stays (Without range) x = not (is_in range x)
stays Nothing x = false

-- no member stands in what is left of the stretches
abbrev pub AreEmptyBut : Left → List ReadRange → Database → Type 0
AreEmptyBut left stretches m = (x : Reference) → is_in_one stretches x ≡ true → stays left x ≡ true → finmap.contains_key m x ≡ false

-- ---- the order in which they are kept

-- what stands before the beginning of the stretch stands before its end
abbrev pub IsRightWay : ReadRange → Type 0
IsRightWay r = (x : Reference) → begins_after r x ≡ true → ends_after r x ≡ true

-- the first stretch ends where the second begins, or before
abbrev pub IsAhead : ReadRange → ReadRange → Type 0
IsAhead r s = (x : Reference) → ends_after r x ≡ true → begins_after s x ≡ true

-- the stretch is ahead of all of these
abbrev pub IsAheadOf : ReadRange → List ReadRange → Type 0
IsAheadOf r [] = ⊤
IsAheadOf r (s ∷ ss) = IsAhead r s × IsAheadOf r ss

-- all of these are ahead of the stretch
abbrev pub AreAhead : List ReadRange → ReadRange → Type 0
AreAhead [] r = ⊤
AreAhead (s ∷ ss) r = IsAhead s r × AreAhead ss r

-- each ends where the next begins, or before
abbrev pub AreInOrder : List ReadRange → Type 0
AreInOrder [] = ⊤
AreInOrder (r ∷ rs) = IsRightWay r × (IsAheadOf r rs × AreInOrder rs)

-- those that are kept: 1,024 at most, in order
pub record AreKept (stretches : List ReadRange) : Type 0 where
  pub few : length stretches ≤ 1024
  pub ordered : AreInOrder stretches

-- the stretches end at the cut or before it
abbrev pub AreEndedBy : Cut → List ReadRange → Type 0
AreEndedBy low [] = ⊤
AreEndedBy low (s ∷ ss) = ((x : Reference) → ends_after s x ≡ true → stands_before low x ≡ true) × AreEndedBy low ss

-- the stretches begin at the cut or behind it
abbrev pub BeginFrom : Cut → List ReadRange → Type 0
BeginFrom high [] = ⊤
BeginFrom high (s ∷ ss) = ((x : Reference) → stands_before high x ≡ true → begins_after s x ≡ true) × BeginFrom high ss

-- what lies between two cuts lies between the stretches before one place and those from another on
pub record Fits (first last : ℕ) (low high : Cut) (stretches : List ReadRange) : Type 0 where
  pub order : first ≤ last
  pub within : last ≤ length stretches
  pub before : AreEndedBy low (take first stretches)
  pub behind : BeginFrom high (drop last stretches)

-- the same of a stretch
pub record FitsIn (first last : ℕ) (stretch : ReadRange) (stretches : List ReadRange) : Type 0 where
  pub before : AreAhead (take first stretches) stretch
  pub behind : IsAheadOf stretch (drop last stretches)

-- what stands in the new stretches stood in an old one before one place or from another on, or stands in the one that came
abbrev pub ArePut : ℕ → ℕ → ReadRange → List ReadRange → List ReadRange → Type 0
ArePut first last more old new = (x : Reference) → is_in_one new x ≡ true → ((is_in_one (take first old) x || is_in_one (drop last old) x) || is_in more x) ≡ true

-- ---- cuts

-- two cuts with no member between them
abbrev pub PartAlike : Cut → Cut → Database → Type 0
PartAlike a b m = (x : Reference) → finmap.contains_key m x ≡ true → stands_before a x ≡ stands_before b x

-- the cut lies in the stretch or at one of its ends
pub record LiesIn (cut : Cut) (stretch : ReadRange) : Type 0 where
  pub begun : (x : Reference) → begins_after stretch x ≡ true → stands_before cut x ≡ true
  pub ended : (x : Reference) → stands_before cut x ≡ true → ends_after stretch x ≡ true

-- no member stands between two cuts
abbrev pub IsFree : Cut → Cut → Database → Type 0
IsFree low high m = (x : Reference) → between low high x ≡ true → finmap.contains_key m x ≡ false

-- the second cut doesn't stand before the first, nor behind the end
pub record StartsBetween (cut start : Cut) (end : Option Cut) : Type 0 where
  pub behind : AreEarlier cut start
  pub within : (x : Reference) → stands_before start x ≡ true → stands_within end x ≡ true

-- the second cut doesn't stand behind the first, nor before the floor
pub record EndsBetween (cut end : Cut) (floor : Option Cut) : Type 0 where
  pub ahead : AreEarlier end cut
  pub within : (x : Reference) → stands_under floor x ≡ true → stands_before end x ≡ true
