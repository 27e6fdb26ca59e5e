use Rattle.std.proofs.Common.{arith}
use Rattle.key_codec.proofs.Drafting.{last_due}
use Rattle.key_codec.proofs.draft.KeyDraft.place_fault.Goals as goal

pub returns : goal.returns
returns c = λ r is. last_due c.args.self.now r is c.if-not-self.false (omega (arith, c.if-self-gt-MOST_SUBSCRIPTS.false))
