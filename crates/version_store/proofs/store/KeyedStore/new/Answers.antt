use Rattle.std.proofs.Common.{◌≡◌, ◌∙◌, []}
use Rattle.std.specs.Prelude.{None}
use Rattle.std.specs.FinMap as finmap
use Rattle.version_store.specs.Versions.{Stored}
use Rattle.version_store.specs.Tied.{versions_in}
use Rattle.version_store.proofs.TiedLemmas.{State, Pairs, versions_none}
use Rattle.version_store.proofs.store.KeyedStore.new.Goals as goal

empty_store : (chains : State) (pairs : Pairs) → pairs ≡ [] → chains ≡ record { chains = []; spare = 0 }
    → ◌≡◌ {A = Stored} (record { versions = versions_in chains pairs; present = 0; cut = 0; spare = chains.spare; mark = None }) (record { versions = finmap.empty; present = 0; cut = 0; spare = 0; mark = None })
empty_store chains pairs p q = rw (p, q) (λ i. record { versions = versions_none (record { chains = []; spare = 0 }) i; present = 0; cut = 0; spare = 0; mark = None })

pub returns : goal.returns
returns c = c.of.ensures ∙ empty_store c.new-2.result c.new.result.pairs c.new.ensures.empty c.new-2.ensures
