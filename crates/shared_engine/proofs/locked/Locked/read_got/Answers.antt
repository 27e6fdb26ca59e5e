use Rattle.std.proofs.Common.{◌∙◌, ◌++◌, ◌∷◌, [], ap, length, length-append, arith}
use Rattle.command.specs.declared.access.Answer.TheVariants.{Value}
use Rattle.command.specs.declared.request.Reply.TheVariants.{Answered}
use Rattle.job_core.specs.Lent.{value_begun, got_answer}
use Rattle.shared_engine.specs.Blocks.{said}
use Rattle.shared_engine.specs.Holds.{get_of}
use Rattle.shared_engine.proofs.Holding.{got_told}
use Rattle.shared_engine.proofs.Serving.{get_first, inside_done, got_said}
use Rattle.shared_engine.proofs.locked.Locked.read_got.Goals as goal

pub invariant_of-told : goal.invariant_of-told
invariant_of-told c =
    let t = c.told.inside in
    let did = c.get_met-got.ensures in
    (got_told t.tags.items _ t.values.items _ (value_begun c.key.result.now c.args.self.now.core.units c.args.session.now.held.state) t.answers.items c.get_met-got.result (c.push_reserved.ensures.items ∙ ap (λ tag. t.tags.items ++ tag ∷ []) c.tag_of_got.ensures) did.size did.copied did.uncopied c.told.invariant).0

pub returns-clause-served : goal.returns-clause-served
returns-clause-served c =
    let first = c.requires.command in
    let key = c.key.ensures.get first.0 first.1 first.2 in
    let passed = c.pass_get.ensures.passed (get_of first.0) first.1 first.2 in
    let did = c.get_met-got.ensures in
    let t = c.told.inside in
    let told = got_told t.tags.items _ t.values.items _ (value_begun c.key.result.now c.args.self.now.core.units c.args.session.now.held.state) t.answers.items c.get_met-got.result (c.push_reserved.ensures.items ∙ ap (λ tag. t.tags.items ++ tag ∷ []) c.tag_of_got.ensures) did.size did.copied did.uncopied c.told.invariant in
    record {
      command = get_of c.key.result.now;
      reply = said (λ _. Answered (Value (value_begun c.key.result.now c.args.self.now.core.units c.args.session.now.held.state))) c.get_met-got.result;
      first = get_first _ _ _ _ _ first.2 key passed;
      done = inside_done _ (got_answer (value_begun c.key.result.now c.args.self.now.core.units c.args.session.now.held.state) c.get_met-got.result) _ _ _ _ (got_said _ _) c.requires.level did.begun did.answered did.same did.others c.requires.seen;
      replied = told.1 ∙ ap (λ x. x.served ++ said (λ _. Answered (Value (value_begun c.key.result.now c.args.self.now.core.units c.args.session.now.held.state))) c.get_met-got.result ∷ []) c.told.view_is;
      room = omega (arith, ap (λ x. x.room) c.told.view_is, c.push_reserved.ensures.capacity, ap length c.push_reserved.ensures.items, length-append c.told.inside.tags.items (c.tag_of_got.result ∷ []), c.requires.room.0);
      spare = c.pass_get.ensures.rest.0;
      answers = omega (arith, ap (λ x. x.answers) c.told.view_is, c.pass_get.ensures.rest.1);
    }
