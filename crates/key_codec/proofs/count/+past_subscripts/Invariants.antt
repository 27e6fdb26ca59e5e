use Rattle.key_codec.proofs.count.+past_subscripts.Given as goal

abbrev pub decreases-past_subscripts : goal.decreases-past_subscripts
decreases-past_subscripts l = l.len
