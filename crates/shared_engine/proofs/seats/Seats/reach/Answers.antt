use Rattle.std.proofs.Common.{rules, List, [], ◌∷◌, ◌++◌, Some, ap, sym, ◌∙◌}
use Rattle.std.specs.Prelude.{Option}
use Rattle.pin_board.specs.declared.view.PinView.{PinView}
use Rattle.pin_board.specs.Named.{FreeAt, free_at}
use Rattle.shared_engine.specs.Engines.{sessions_in}
use Rattle.shared_engine.proofs.Lending.{more_free, same_more, placed_more}
use Rattle.shared_engine.proofs.seats.Seats.reach.Goals as goal

pub deal-preserved : goal.deal-preserved
deal-preserved c =
    let items = c.push_reserved.ensures.items ∙ ap (λ (seats : List (Option FreeAt)). seats ++ Some c.set_down.result ∷ []) c.reserve.ensures.items in
    let place = c.set_down.ensures.1 ∙ (ap (λ (p : PinView). p.place) c.deal-pin.ensures.pin ∙ sym c.deal.invariant.dealt) in
    let table = c.set_down.ensures.0 ∙ (c.deal-pin.ensures.table.0 ∙ (c.deal.invariant.table ∙ c.requires.own.0)) in record {
      dealt = search rules;
      table = c.deal-pin.ensures.table.1 ∙ c.deal.invariant.table;
      desk = search rules;
      same = same_more _ c.deal.self-inside.places.items _ c.set_down.result c.deal.invariant.same items;
      as_many = ap sessions_in items ∙ more_free c.deal.self-inside.places.items c.set_down.result ∙ c.deal.invariant.as_many;
      longer = search rules;
      placed = placed_more c.args.board.now.table c.deal.self-inside.places.items _ c.set_down.result c.deal.invariant.placed (λ i. free_at (table i) (place i)) items;
    }
