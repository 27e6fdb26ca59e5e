use Rattle.std.proofs.Common.{ap, ◌∙◌}
use Rattle.collation.specs.Reference.{Resource}
use Rattle.collation.specs.Order.{ref_cmp}
use Rattle.key_codec.specs.Back.{reference_of}
use Rattle.lock_trie.proofs.Keys.{compared}
use Rattle.lock_trie.proofs.names.Beginning.compare_reference.Goals as goal

pub returns : goal.returns
returns c =
    c.cmp.ensures
    ∙ compared c.as_slice-bytes.result.now c.self.inside.bytes.now c.key.result.now (reference_of c.self.inside.bytes.now) c.as_slice-bytes.ensures.value c.as_slice-bytes.ensures.form c.self.invariant
    ∙ (λ i. ref_cmp (c.key.ensures i) (ap (λ (n : Resource). n.reference) c.self.view_is i))
