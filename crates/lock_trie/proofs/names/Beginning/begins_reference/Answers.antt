use Rattle.std.proofs.Common.{ap, ◌∙◌}
use Rattle.collation.specs.Reference.{Resource}
use Rattle.collation.specs.Database.{is_under}
use Rattle.key_codec.specs.Back.{reference_of}
use Rattle.lock_trie.proofs.Keys.{begun}
use Rattle.lock_trie.proofs.names.Beginning.begins_reference.Goals as goal

pub returns : goal.returns
returns c =
    begun c.as_slice.result.now c.self.inside.bytes.now c.key.result.now (reference_of c.self.inside.bytes.now) c.starts_with.result c.as_slice.ensures.value c.as_slice.ensures.form c.self.invariant c.starts_with.ensures.value
    ∙ (λ i. is_under (ap (λ (n : Resource). n.reference) c.self.view_is i) (c.key.ensures i))
