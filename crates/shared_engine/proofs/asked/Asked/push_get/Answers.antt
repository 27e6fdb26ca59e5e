use Rattle.std.proofs.Common.{◌≤◌, refl, ap, ◌∙◌, ◌∷◌, ◌++◌, [], drop, length, arith, length-append}
use Rattle.shared_engine.specs.declared.asked.Ask.TheVariants.{Get as ask_get}
use Rattle.shared_engine.specs.Holds.{AreJust, get_of}
use Rattle.shared_engine.proofs.Holding.{just_more, commands_more, behind, none_behind, room_left}
use Rattle.shared_engine.proofs.asked.Asked.push_get.Goals as goal

pub invariant_of-self : goal.invariant_of-self
invariant_of-self c =
    let s = c.self.inside in
    let was = c.self.invariant in
    let keys = c.push_reserved.ensures in
    let asks = c.push_reserved-2.ensures in
    let some : 1 ≤ s.spare = omega (arith, c.requires, ap (λ a. a.room) c.self.view_is) in
    let next : AreJust (ask_get ∷ []) (c.args.key ∷ []) [] [] = (refl, (refl, refl)) in (
      just_more (drop s.ask s.asks.items) (ask_get ∷ []) _ (drop s.key s.keys.items) (c.args.key ∷ []) _ (drop s.text s.texts.items) ([]) _ s.whole.items ([]) _ (behind s.ask s.asks.items _ _ was.1.0 asks.items) (behind s.key s.keys.items _ _ was.1.1 keys.items) (none_behind _) (none_behind s.whole.items) was.0 next,
      (omega (arith, was.1.0, ap length asks.items, length-append s.asks.items (ask_get ∷ [])), omega (arith, was.1.1, ap length keys.items, length-append s.keys.items (c.args.key ∷ [])), was.1.2),
      (room_left _ _ _ s.spare _ _ asks.items asks.capacity some was.2.0, room_left _ _ _ s.spare _ _ keys.items keys.capacity some was.2.1, omega (arith, some, was.2.2)),
    )

pub returns-clause-commands : goal.returns-clause-commands
returns-clause-commands c =
    let s = c.self.inside in
    let was = c.self.invariant in
    commands_more (drop s.ask s.asks.items) (ask_get ∷ []) _ (drop s.key s.keys.items) (c.args.key ∷ []) _ (drop s.text s.texts.items) ([]) _ s.whole.items ([]) _ (behind s.ask s.asks.items _ _ was.1.0 c.push_reserved-2.ensures.items) (behind s.key s.keys.items _ _ was.1.1 c.push_reserved.ensures.items) (none_behind _) (none_behind s.whole.items) was.0
    ∙ ap (λ a. a.commands ++ get_of c.args.key ∷ []) c.self.view_is
