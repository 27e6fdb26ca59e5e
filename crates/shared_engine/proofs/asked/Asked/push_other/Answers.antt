use Rattle.std.proofs.Common.{◌≤◌, refl, ap, ◌∙◌, ◌∷◌, ◌++◌, [], drop, length, arith, length-append}
use Rattle.shared_engine.specs.declared.asked.Ask.TheVariants.{Other as ask_other}
use Rattle.shared_engine.specs.Holds.{AreJust}
use Rattle.shared_engine.proofs.Holding.{just_more, commands_more, behind, none_behind, room_left}
use Rattle.shared_engine.proofs.asked.Asked.push_other.Goals as goal

pub invariant_of-self : goal.invariant_of-self
invariant_of-self c =
    let s = c.self.inside in
    let was = c.self.invariant in
    let asks = c.push_reserved.ensures in
    let some : 1 ≤ s.spare = omega (arith, c.requires, ap (λ a. a.room) c.self.view_is) in
    let next : AreJust (ask_other ∷ []) [] [] (c.args.command ∷ []) = (refl, (refl, refl)) in (
      just_more (drop s.ask s.asks.items) (ask_other ∷ []) _ (drop s.key s.keys.items) ([]) _ (drop s.text s.texts.items) ([]) _ s.whole.items (c.args.command ∷ []) _ (behind s.ask s.asks.items _ _ was.1.0 asks.items) (none_behind _) (none_behind _) c.in-Ok.ensures.items was.0 next,
      (omega (arith, was.1.0, ap length asks.items, length-append s.asks.items (ask_other ∷ [])), was.1.1, was.1.2),
      (room_left _ _ _ s.spare _ _ asks.items asks.capacity some was.2.0, omega (arith, some, was.2.1), omega (arith, some, was.2.2)),
    )

pub returns-in-Ok-clause-commands : goal.returns-in-Ok-clause-commands
returns-in-Ok-clause-commands c =
    let s = c.self.inside in
    let was = c.self.invariant in
    commands_more (drop s.ask s.asks.items) (ask_other ∷ []) _ (drop s.key s.keys.items) ([]) _ (drop s.text s.texts.items) ([]) _ s.whole.items (c.args.command ∷ []) _ (behind s.ask s.asks.items _ _ was.1.0 c.push_reserved.ensures.items) (none_behind _) (none_behind _) c.in-Ok.ensures.items was.0
    ∙ ap (λ a. a.commands ++ c.args.command ∷ []) c.self.view_is
