-- Room that transactions which are over leave.
use Rattle.std.proofs.Common.{◌≡◌, ◌≤◌, ℕ, [], ◌∷◌, ◌++◌, List, sym, subst, arith}
use Rattle.std.specs.Prelude.{Option, option_to_list}
use Rattle.validate_commit.specs.Working.{Working, just_begun}
use Rattle.job_core.specs.Sessions.{AreEmpty, IsSpare}

empty_more : (works : List Working) (w : Working) → AreEmpty works → w ≡ just_begun w.job 0 → AreEmpty (works ++ w ∷ [])
empty_more [] w all is = (is, tt)
empty_more (v ∷ works) w all is = (all.0, empty_more works w all.1 is)

empty_front : (works more : List Working) → AreEmpty (works ++ more) → AreEmpty works
empty_front [] more all = tt
empty_front (v ∷ works) more all = (all.0, empty_front works more all.1)

-- one more, in as much room
pub spare_more : (room same : ℕ) (works new : List Working) (w : Working) → new ≡ works ++ w ∷ [] → w ≡ just_begun w.job 0 → same ≡ room → IsSpare room works → IsSpare same new
spare_more room same works new w longer is kept spare = record { few = omega (arith, spare.few, kept); empty = subst AreEmpty (sym longer) (empty_more works w spare.empty is) }

-- one is taken, if there is one
pub spare_less : (room same : ℕ) (works new : List Working) (o : Option Working) → works ≡ new ++ option_to_list o → same ≡ room → IsSpare room works → IsSpare same new
spare_less room same works new o shorter kept spare = record { few = omega (arith, spare.few, kept); empty = empty_front new (option_to_list o) (subst AreEmpty shorter spare.empty) }

-- other room for the same
pub spare_room : (room other : ℕ) (works new : List Working) → other ≤ 16 → new ≡ works → IsSpare room works → IsSpare other new
spare_room room other works new few same spare = record { few = few; empty = subst AreEmpty (sym same) spare.empty }
