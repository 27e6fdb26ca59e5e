use Rattle.std.proofs.Common.{sym, ap, ◌∙◌}
use Rattle.read_ranges.specs.Ranges.{is_in_one}
use Rattle.stretches.proofs.Places.{fewer_without}
use Rattle.stretches.proofs.stretches_kept.Stretches.make_room.Goals as goal

pub returns-then-turn-place : goal.returns-then-turn-place
returns-then-turn-place c = λ x h. ap (λ rs. is_in_one rs x) (sym c.self.view_is) ∙ fewer_without _ _ c.self.inside.list.items c.remove_between.new.self c.remove_between.ensures x h

pub returns-else-turn-place : goal.returns-else-turn-place
returns-else-turn-place c = λ x h. ap (λ rs. is_in_one rs x) (sym c.self.view_is) ∙ fewer_without _ _ c.self.inside.list.items c.remove_between.new.self c.remove_between.ensures x h
