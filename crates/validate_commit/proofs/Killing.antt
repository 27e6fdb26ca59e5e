-- A node killed, where nobody asks for older content.
use Rattle.std.proofs.Common.{◌≡◌, ℕ, suc, ◌+◌, ◌-◌, ◌<◌, ◌^◌, List, [], ◌∷◌, ◌++◌, length, refl, sym, ap, subst, ◌∙◌, arith}
use Rattle.std.specs.Prelude.{Bool, true, false, not, cond, Option, Some, None, IsSome, IfSome}
use Rattle.std.specs.FinMap as finmap
use Rattle.std.specs.FinMap.{find, retain_keys}
use Rattle.collation.specs.Reference.{Reference}
use Rattle.collation.specs.Order.{ref_cmp}
use Rattle.collation.specs.laws.Order.{ref_cmp-IsAntisymmetric}
use Rattle.collation.specs.Database.{is_under}
use Rattle.collation.specs.Changes.{changed}
use Rattle.journal.specs.declared.unit.Unit.{Unit as JournalUnit}
use Rattle.version_chain.specs.Versions.{IsAbove, IsFalling}
use Rattle.version_store.specs.Versions.{Row, Versions, Stored, content_at, versions_of, row_after, is_bare, AddsNoneBare}
use Rattle.validate_commit.specs.Agreement.{has_stamp, Agreement, IsNextKill}
use Rattle.validate_commit.specs.laws.Agreement.{HasWritten, agreed_now, agreed_next, has_stamp-above}

above : (now : ℕ) (vs : Row) (stamp : ℕ) → IsAbove (suc now) vs → now < stamp → IsAbove stamp vs
above now [] stamp low less = tt
above now (v ∷ vs) stamp low less = omega (arith, low, less)

-- no version has a stamp after the newest
none_later : (now s n : ℕ) (o : Option (Option (List ℕ))) (vs : Row) → IsAbove (suc now) vs → now < s → IsFalling vs → s < n → has_stamp n (row_after s o vs) ≡ false
none_later now s n None vs low less falls after = has_stamp-above n vs (above now vs n low (omega (arith, less, after))) falls
none_later now s n (Some x) vs low less falls after = has_stamp-above n ((s, x) ∷ vs) after (above now vs s low less, falls)

killed_row : (now n : ℕ) (t : Bool) (vs : Row) → IsAbove (suc now) vs → now < n → IsFalling vs → has_stamp n (cond t [] vs) ≡ false
killed_row now n true vs low less falls = refl
killed_row now n false vs low less falls = has_stamp-above n vs (above now vs n low less) falls

pub agreed_killed : (p : Option JournalUnit) (r : Reference) (old new : Stored) (units more : List JournalUnit) → IsSome p → IfSome p (λ u. more ≡ units ++ u ∷ []) → IfSome p (λ u. IsNextKill r u units) → Agreement old units
    → ((x : Reference) → IsAbove (suc old.present) (versions_of old.versions x)) → ((x : Reference) → IsFalling (versions_of old.versions x)) → new.present ≡ length units + 1 → new.cut ≡ length units + 1
    → content_at new.versions (length units + 1) ≡ retain_keys (content_at old.versions old.present) (λ x. not (is_under r x)) → ((x : Reference) → versions_of new.versions x ≡ cond (is_under r x) [] (versions_of old.versions x)) → length units < 2 ^ 64 - 1 → Agreement new more
agreed_killed None r old new units more some pushed next is settled falls present cut content rows room = absurd (cc)
agreed_killed (Some u) r old new units more some pushed k is settled falls present cut content rows room =
    let now = is.present in
    let old_cut = is.cut in
    let cs = k.changes in
    let wrote : HasWritten old new (length units + 1) cs = record {
      present = present;
      rises = omega (arith, old_cut, cut);
      within = omega (arith, cut);
      content = content ∙ ap (λ m. retain_keys m (λ x. not (is_under r x))) (agreed_now old units is) ∙ sym k.leaves ∙ sym k.next.changes.leave ∙ ap (changed cs) (sym (agreed_now old units is));
      before = λ n from less. absurd (omega (arith, from, less, cut));
      rows = λ n x from.
          ap (has_stamp n) (rows x) ∙ killed_row old.present n (is_under r x) (versions_of old.versions x) (settled x) (omega (arith, now, cut, from)) (falls x)
          ∙ sym (none_later old.present (length units + 1) n (find ref_cmp x cs) (versions_of old.versions x) (settled x) (omega (arith, now)) (falls x) (omega (arith, cut, from)));
    } in
    subst (Agreement new) (sym pushed) (agreed_next old new units u cs is k.next settled falls wrote room)

-- none is left bare that wasn't
pub none_bare : (r : Reference) (m : Versions) → AddsNoneBare m (retain_keys m (λ x. not (is_under r x)))
none_bare r m x bare =
    by_test (is_under r x) (finmap.get m x)
    (ap is_bare (sym (finmap.get-retain_keys m (λ x. not (is_under r x)) x (λ y e. ap (λ z. not (is_under r z)) (sym (ref_cmp-IsAntisymmetric x y e))))) ∙ bare)
  where
    by_test : (t : Bool) (o : Option Row) → is_bare (cond (not t) o None) ≡ true → is_bare o ≡ true
    by_test true o e = absurd (cc)
    by_test false o e = e
