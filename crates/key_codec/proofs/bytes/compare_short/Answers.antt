use Rattle.std.proofs.Common.{◌∙◌, sym}
use Rattle.key_codec.proofs.Padded.{filled_rooms, then_level, then_less, then_greater}
use Rattle.key_codec.proofs.bytes.compare_short.Goals as goal

pub returns-in-Less : goal.returns-in-Less
returns-in-Less c =
    filled_rooms c.args.len c.args.other_len c.args.room.now c.args.other_room.now _ c.told-room c.told-other_room c.requires.first c.requires.second
    (then_less _ _ (sym c.compare_rooms.ensures ∙ c.in-Less.is))

pub returns-in-Equal : goal.returns-in-Equal
returns-in-Equal c =
    filled_rooms c.args.len c.args.other_len c.args.room.now c.args.other_room.now _ c.told-room c.told-other_room c.requires.first c.requires.second
    (then_level _ _ _ (sym c.compare_rooms.ensures ∙ c.in-Equal.is) c.cmp.ensures)

pub returns-in-Greater : goal.returns-in-Greater
returns-in-Greater c =
    filled_rooms c.args.len c.args.other_len c.args.room.now c.args.other_room.now _ c.told-room c.told-other_room c.requires.first c.requires.second
    (then_greater _ _ (sym c.compare_rooms.ensures ∙ c.in-Greater.is))
