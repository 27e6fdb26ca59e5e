use Rattle.std.proofs.Common.{◌≡◌, ◌∙◌, sym, inl, inr, true, false, None}
use Rattle.collation.specs.Faults.{ends_open}
use Rattle.key_codec.specs.Draft.{place_due, place_of}
use Rattle.key_codec.proofs.Children.{kept, reads_back}
use Rattle.key_codec.proofs.Drafting.{IsGood, good, good_form, good_bytes, reference_too, reference_good, closed_reference}
use Rattle.key_codec.proofs.draft.KeyDraft.key.Goals as goal

pub returns-then-self-clause-err : goal.returns-then-self-clause-err
returns-then-self-clause-err c = λ r is. inr (reference_good r true (good r (sym (c.place_fault.ensures r is) ∙ c.in-None.is)) (sym c.if-self.true ∙ is.open_end))

pub returns-then-self-clause-long : goal.returns-then-self-clause-long
returns-then-self-clause-long c = λ r is. inl (reference_good r true (good r (sym (c.place_fault.ensures r is) ∙ c.in-None.is)) (sym c.if-self.true ∙ is.open_end))

pub from_slice-requires : goal.from_slice-requires
from_slice-requires c =
    let r = c.requires.reference in
    let fine : IsGood r = good r (sym (c.place_fault.ensures r c.requires.draft) ∙ c.in-None.is) in
    kept c.as_slice-bytes.result.now (place_of r).reference (good_form r fine) (c.as_slice-bytes.ensures.value ∙ good_bytes c.args.self.now r c.requires.draft fine)

pub returns-in-Some-clause-err : goal.returns-in-Some-clause-err
returns-in-Some-clause-err c = λ r is. inr (reference_too r c.in-Some.fault (sym (c.place_fault.ensures r is) ∙ c.in-Some.is))

pub returns-in-Some-clause-long : goal.returns-in-Some-clause-long
returns-in-Some-clause-long c = λ r is. inl (reference_too r c.in-Some.fault (sym (c.place_fault.ensures r is) ∙ c.in-Some.is))

pub returns-in_ok-key-in-None-clause-ok : goal.returns-in_ok-key-in-None-clause-ok
returns-in_ok-key-in-None-clause-ok c = λ r is.
    let none : place_due r ≡ None = sym (c.place_fault.ensures r is) ∙ c.in-None.is in
    let fine : IsGood r = good r none in
    let shut : false ≡ ends_open r.subscripts = sym c.if-self.false ∙ is.open_end in (
      reference_good r false fine shut,
      c.in_ok-key-in-None.ensures.key ∙ reads_back c.as_slice-bytes.result.now (place_of r).reference (good_form r fine) (c.as_slice-bytes.ensures.value ∙ good_bytes c.args.self.now r is fine) ∙ closed_reference r (sym shut),
    )
