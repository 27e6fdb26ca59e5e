use Rattle.std.proofs.Common.{sym, subst}
use Rattle.m_text.specs.Drafts.{DraftsSpelled}
use Rattle.m_text.proofs.Drafted.{place_is, no_place}
use Rattle.m_text.proofs.place.read_draft.Goals as goal

pub returns-in-Some : goal.returns-in-Some
returns-in-Some c = subst (DraftsSpelled c.read_named.new.draft c.read_named.result) (sym (place_is c.args.text.now c.in-Some.named.now c.in-Some.ensures.0 c.in-Some.ensures.1)) c.read_named.ensures

pub returns-in-None : goal.returns-in-None
returns-in-None c = no_place c.args.text.now c.in-None.ensures
