-- What is left of a log when its first units are dropped.
use Rattle.std.proofs.Common.{take, drop, length-append, ◌≡◌, ℕ, ◌+◌, ◌-◌, List, [], ◌++◌, length, ap, sym, ◌∙◌, subst, arith}
use Rattle.std.proofs.lemmas.List.{take_all, drop_all}
use Rattle.std.proofs.Math.Seq.{drop-append_seam}
use Rattle.journal.specs.declared.unit.Unit.{Unit as JournalUnit}
use Rattle.journal.specs.Log.{units_in, Stands, KeepsUnits}
use Rattle.journal.specs.laws.Log.{units_again}

-- the rest of a log
pub record Kept (rest : List ℕ) (left : ℕ) (later : List JournalUnit) : Type 0 where
  pub keeps : KeepsUnits rest (length rest) left
  pub units : units_in left (take (length rest) rest) ≡ later
  pub behind : drop (length rest) rest ≡ []

pub rest_kept : (rest : List ℕ) (left : ℕ) (later : List JournalUnit) → Stands rest left later → Kept rest left later
rest_kept rest left later stands =
    let whole : take (length rest) rest ≡ rest = take_all (length rest) rest (omega arith) in
    let again : units_in left (take (length rest) rest) ≡ later = ap (units_in left) whole ∙ units_again rest left later stands in
    record {
      keeps = record {
        within = omega arith;
        stands = subst (Stands (take (length rest) rest) left) (sym again) (subst (λ t. Stands t left later) (sym whole) stands);
      };
      units = again;
      behind = drop_all (length rest) rest (omega arith);
    }

pub rest_is : (rest : List ℕ) (left : ℕ) (us dropped later : List JournalUnit) → us ≡ dropped ++ later → Stands rest left later → later ≡ drop (length us - left) us
rest_is rest left us dropped later joined stands =
    let n : left ≡ length later = stands.number in
    let l : length us ≡ length dropped + length later = ap length joined ∙ length-append dropped later in
    let k : length dropped ≡ length us - left = omega arith in
    sym (drop-append_seam dropped later) ∙ ap (drop (length dropped)) (sym joined) ∙ ap (λ n. drop n us) k
