use Rattle.std.proofs.Common.{[]}
use Rattle.std.specs.Prelude.{None}
use Rattle.version_store.proofs.TiedLemmas.{versions_none}
use Rattle.version_store.proofs.short.ShortStore.new.Goals as goal

pub returns : goal.returns
returns c = rw (c.new.ensures.empty, c.new-2.ensures) (λ i. record { versions = versions_none (record { chains = []; spare = 0 }) i; present = 0; cut = 0; spare = 0; mark = None })
