use Rattle.std.proofs.Common.{arith, ap, ◌∙◌, ◌++◌, ◌∷◌, []}
use Rattle.command.specs.declared.access.DataCommand.TheVariants.{Set}
use Rattle.command.specs.declared.access.Answer.TheVariants.{Done}
use Rattle.journal.specs.Format.{exchange_bytes}
use Rattle.journal.specs.laws.Exchanges.{tells_more, tells_itself, exchanges_again}
use Rattle.journal.proofs.exchanges.ExchangeLog.push_set.Goals as goal

pub invariant_of-self : goal.invariant_of-self
invariant_of-self c =
    tells_itself _ _ _ (tells_more c.self.inside.bytes.items c.push_set_done.new.bytes.items c.self.inside.count (record { command = Set c.args.key.now c.args.value.now; answer = Done })
    c.self.invariant (record { command = c.in-Ok.ensures.fits; answer = tt }) (c.in-Ok.ensures.bytes ∙ ap (λ t. t ++ exchange_bytes (record { command = Set c.args.key.now c.args.value.now; answer = Done })) c.begin_room.ensures) (omega arith))

pub returns-in-Ok-clause-ok : goal.returns-in-Ok-clause-ok
returns-in-Ok-clause-ok c =
    exchanges_again _ _ _ (tells_more c.self.inside.bytes.items c.push_set_done.new.bytes.items c.self.inside.count (record { command = Set c.args.key.now c.args.value.now; answer = Done })
    c.self.invariant (record { command = c.in-Ok.ensures.fits; answer = tt }) (c.in-Ok.ensures.bytes ∙ ap (λ t. t ++ exchange_bytes (record { command = Set c.args.key.now c.args.value.now; answer = Done })) c.begin_room.ensures) (omega arith))
    ∙ ap (λ es. es ++ (record { command = Set c.args.key.now c.args.value.now; answer = Done }) ∷ []) c.self.view_is
