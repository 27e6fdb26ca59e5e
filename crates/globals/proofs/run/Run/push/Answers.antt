use Rattle.std.proofs.Common.{◌<◌, ◌∙◌, ◌++◌, ◌∷◌, [], sym, ap, subst, length, arith}
use Rattle.globals.specs.Runs.{AreLent, nodes_in}
use Rattle.globals.proofs.Runs.{nodes_length, nodes_push, lent_push}
use Rattle.globals.proofs.run.Run.push.Goals as goal

pub push-requires : goal.push-requires
push-requires c =
    let same = sym (nodes_length c.self.inside.places.items c.self.invariant) ∙ ap length c.self.view_is in
    let less = c.requires in
    (omega arith, subst (λ n. n < 32) (sym same) less)

pub invariant_of-self : goal.invariant_of-self
invariant_of-self c = subst AreLent (sym c.push.ensures.items) (lent_push c.self.inside.places.items (c.args.key, c.args.value) c.self.invariant)

pub returns : goal.returns
returns c =
    ap nodes_in c.push.ensures.items ∙ nodes_push c.self.inside.places.items (c.args.key, c.args.value)
    ∙ ap (λ l. l ++ (c.args.key.now, c.args.value.now) ∷ []) c.self.view_is
