use Rattle.std.proofs.Common.{◌≡◌, sym, ap, ◌∙◌, inl, inr, List, ℕ, [], ◌∷◌, ◌++◌, refl}
use Rattle.std.specs.Prelude.{map}
use Rattle.std.specs.List.{list_any, list_all}
use Rattle.collation.specs.Reference.{Reference}
use Rattle.collation.specs.Database.{is_under}
use Rattle.globals.specs.laws.Merging.{all_under, more_copied, no_more_copied, deep_found, still_shallow, first_under}
use Rattle.globals.specs.Copies.{copied, is_deep}
use Rattle.globals.proofs.merge.copies_of.Goals as goal

pub loop-key-init : goal.loop-key-init
loop-key-init g c =
    let it = c.into_iter-key-iterator.ensures.into_iter_gives ∙ c.subtree-key-items.ensures in
    record {
      all = rw c.new-copies.ensures.items (ap (map (copied c.args.target.now c.args.source.now)) it);
      under = ap (list_all (λ (e : Reference × List ℕ). is_under c.args.source.now e.0)) it ∙ all_under c.args.source.now _;
      shallow = rw c.new-copies.ensures.items refl;
    }

pub moved-requires : goal.moved-requires
moved-requires g c = (first_under c.args.source.now c.loop-key.key-iterator c.next.new.self (c.in-Some.key.now, c.in-Some.value.now) c.loop-key.invariant.under c.in-Some.ensures.steps).0

pub returns-clause-copies : goal.returns-clause-copies
returns-clause-copies g c = no_more_copied c.args.target.now c.args.source.now c.loop-key.copies.items c.loop-key.key-iterator _ c.loop-key.invariant.all c.in-None.ensures.steps.0

pub returns-clause-refused : goal.returns-clause-refused
returns-clause-refused g c =
    let all = no_more_copied c.args.target.now c.args.source.now c.loop-key.copies.items c.loop-key.key-iterator _ c.loop-key.invariant.all c.in-None.ensures.steps.0 in
    ap (list_any is_deep) (sym all) ∙ c.loop-key.invariant.shallow

pub loop-key-preserved : goal.loop-key-preserved
loop-key-preserved g c =
    let a = c.args.target.now in
    let b = c.args.source.now in
    let it = c.loop-key.key-iterator in
    let left = c.next.new.self in
    let e : Reference × List ℕ = (c.in-Some.key.now, c.in-Some.value.now) in
    let node : Reference × List ℕ = (c.in-Ok.copy, c.in_ok-clone-in-Ok.field-0) in
    let made : node ≡ copied a b e = λ i. (c.in-Ok.ensures.0 i, sym c.in_ok-clone-in-Ok.ensures.cases i) in
    let pushed = c.in_ok-push-in-Ok.ensures.items ∙ ap (λ (n : Reference × List ℕ). c.loop-key.copies.items ++ n ∷ []) made in
    let shallow = ap (λ (n : Reference × List ℕ). is_deep n) (sym made) ∙ c.in-Ok.ensures.1 in
    record {
      all = rw pushed (more_copied a b c.loop-key.copies.items it left _ e c.loop-key.invariant.all c.in-Some.ensures.steps);
      under = (first_under b it left e c.loop-key.invariant.under c.in-Some.ensures.steps).1;
      shallow = rw pushed (still_shallow c.loop-key.copies.items (copied a b e) c.loop-key.invariant.shallow shallow);
    }

pub returns-in-Err-clause-refused : goal.returns-in-Err-clause-refused
returns-in-Err-clause-refused g c =
    let a = c.args.target.now in
    let b = c.args.source.now in
    let e : Reference × List ℕ = (c.in-Some.key.now, c.in-Some.value.now) in
    elim c.in-Err.ensures [
      | inl memory ↦ inl memory
      | inr deep ↦ inr (deep.0, deep_found a b c.loop-key.copies.items c.loop-key.key-iterator c.next.new.self _ e c.loop-key.invariant.all c.in-Some.ensures.steps deep.1)
    ]
