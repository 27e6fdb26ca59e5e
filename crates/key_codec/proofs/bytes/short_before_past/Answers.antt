use Rattle.key_codec.proofs.Past.{filled_past}
use Rattle.key_codec.proofs.bytes.short_before_past.Goals as goal

pub returns : goal.returns
returns c = λ len filled. filled_past len c.args.root_len c.args.room.now c.args.root.now _ c.told-room c.told-root filled c.requires c.room_before_past.ensures
