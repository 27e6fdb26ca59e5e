use Rattle.version_chain.proofs.chains.Chains.latest.Goals as goal

pub returns : goal.returns
returns g c = rw (← c.self.view_is) (λ id. (c.self.invariant.1 id).0)
