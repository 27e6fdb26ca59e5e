use Rattle.std.proofs.Common.{◌≡◌, ◌∙◌, sym, None}
use Rattle.key_codec.specs.Draft.{place_due, place_of}
use Rattle.key_codec.proofs.Children.{kept, reads_back}
use Rattle.key_codec.proofs.Drafting.{IsGood, good, good_form, good_bytes}
use Rattle.key_codec.proofs.draft.KeyDraft.place.Goals as goal

pub from_slice-requires : goal.from_slice-requires
from_slice-requires c =
    let r = c.requires.reference in
    let fine : IsGood r = good r (sym (c.place_fault.ensures r c.requires.draft) ∙ c.in-None.is) in
    kept c.as_slice.result.now (place_of r).reference (good_form r fine) (c.as_slice.ensures.value ∙ good_bytes c.args.self.now r c.requires.draft fine)

pub returns-in_ok-key-in-None-clause-ok : goal.returns-in_ok-key-in-None-clause-ok
returns-in_ok-key-in-None-clause-ok c = λ r is.
    let none : place_due r ≡ None = sym (c.place_fault.ensures r is) ∙ c.in-None.is in
    let fine : IsGood r = good r none in
    let same = c.in_ok-key-in-None.ensures.key ∙ reads_back c.as_slice.result.now (place_of r).reference (good_form r fine) (c.as_slice.ensures.value ∙ good_bytes c.args.self.now r is fine) in
    (none, c.new.ensures ∙ (λ i. record { reference = same i; is_open = is.open_end i }))
