use Rattle.std.proofs.Common.{◌≡◌, true, false, ℕ, List, [], ◌++◌, ◌∷◌, ◌∙◌, ap, arith, length}
use Rattle.key_codec.proofs.Children.{kept, reads_back, root_is, name_short}
use Rattle.key_codec.proofs.key.Key.root.Goals as goal

pub invariant_of-result : goal.invariant_of-result
invariant_of-result c = kept c.in_ok-bytes.bytes _ (root_is c.args.self.now c.name.ensures.form) (c.in_ok-bytes.ensures.bytes ∙ ap (λ (n : List ℕ). n ++ 0 ∷ []) c.name.ensures.value)

pub returns-clause-key : goal.returns-clause-key
returns-clause-key c = reads_back c.in_ok-bytes.bytes _ (root_is c.args.self.now c.name.ensures.form) (c.in_ok-bytes.ensures.bytes ∙ ap (λ (n : List ℕ). n ++ 0 ∷ []) c.name.ensures.value)

pub returns-in_err-bytes-clause-sure : goal.returns-in_err-bytes-clause-sure
returns-in_err-bytes-clause-sure c =
    let clash : false ≡ true = c.in_err-bytes.ensures.short (omega (arith, name_short c.args.self.now.name c.name.ensures.form, ap length c.name.ensures.value)) in
    cc
