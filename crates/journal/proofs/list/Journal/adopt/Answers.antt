use Rattle.std.proofs.Common.{◌∙◌, ap, sym}
use Rattle.journal.specs.Counting.{tally_in, tally_of}
use Rattle.journal.specs.laws.Adopted.{adopted_tally}
use Rattle.journal.proofs.list.Journal.adopt.Goals as goal

pub invariant_of-result : goal.invariant_of-result
invariant_of-result c = (c.adopt.ensures.behind, λ job some. ap (λ ts. tally_in ts job) c.new.ensures ∙ sym (ap (tally_of job) c.adopt.ensures.units ∙ adopted_tally c.args.number c.args.nodes.items job some))
