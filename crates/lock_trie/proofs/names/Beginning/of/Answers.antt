use Rattle.std.proofs.Common.{◌≡◌, take, ap, ◌∙◌}
use Rattle.collation.specs.Reference.{Reference}
use Rattle.key_codec.specs.Back.{reference_of}
use Rattle.lock_trie.specs.Names.{beginning}
use Rattle.lock_trie.proofs.Keys.{keeps, stands_for}
use Rattle.lock_trie.proofs.names.Beginning.of.Goals as goal

pub invariant_of-result : goal.invariant_of-result
invariant_of-result c = keeps c.front.result.now _ c.front.ensures.value c.front.ensures.form

pub returns : goal.returns
returns c =
    let is : reference_of c.front.result.now ≡ (beginning c.args.name.now c.args.len).reference =
    stands_for c.front.result.now _ c.front.ensures.value c.front.ensures.form ∙ ap (λ (r : Reference). record { name = r.name; subscripts = take c.args.len r.subscripts }) c.key.ensures in
    λ i. record { has_caret = c.has_caret.ensures i; reference = is i }
