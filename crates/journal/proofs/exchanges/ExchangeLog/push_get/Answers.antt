use Rattle.std.proofs.Common.{arith, ap, ◌∙◌, ◌++◌, ◌∷◌, []}
use Rattle.std.specs.Prelude.{None}
use Rattle.command.specs.declared.access.DataCommand.TheVariants.{Look}
use Rattle.command.specs.declared.access.Look.TheVariants.{Get}
use Rattle.command.specs.declared.access.Answer.TheVariants.{Value}
use Rattle.journal.specs.Format.{exchange_bytes}
use Rattle.journal.specs.laws.Exchanges.{tells_more, tells_itself, exchanges_again}
use Rattle.journal.proofs.exchanges.ExchangeLog.push_get.Goals as goal

pub invariant_of-self : goal.invariant_of-self
invariant_of-self c =
    tells_itself _ _ _ (tells_more c.self.inside.bytes.items c.push_get_done.new.bytes.items c.self.inside.count (record { command = Look (Get c.args.key.now None); answer = Value c.args.value.now })
    c.self.invariant (record { command = c.in-Ok.ensures.command_fits; answer = c.in-Ok.ensures.answer_fits }) (c.in-Ok.ensures.bytes ∙ ap (λ t. t ++ exchange_bytes (record { command = Look (Get c.args.key.now None); answer = Value c.args.value.now })) c.begin_room.ensures) (omega arith))

pub returns-in-Ok-clause-ok : goal.returns-in-Ok-clause-ok
returns-in-Ok-clause-ok c =
    exchanges_again _ _ _ (tells_more c.self.inside.bytes.items c.push_get_done.new.bytes.items c.self.inside.count (record { command = Look (Get c.args.key.now None); answer = Value c.args.value.now })
    c.self.invariant (record { command = c.in-Ok.ensures.command_fits; answer = c.in-Ok.ensures.answer_fits }) (c.in-Ok.ensures.bytes ∙ ap (λ t. t ++ exchange_bytes (record { command = Look (Get c.args.key.now None); answer = Value c.args.value.now })) c.begin_room.ensures) (omega arith))
    ∙ ap (λ es. es ++ (record { command = Look (Get c.args.key.now None); answer = Value c.args.value.now }) ∷ []) c.self.view_is
