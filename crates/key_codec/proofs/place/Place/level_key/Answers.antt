use Rattle.std.proofs.Common.{◌≡◌, subst}
use Rattle.std.specs.Prelude.{IfOk}
use Rattle.collation.specs.Reference.{Reference}
use Rattle.collation.specs.Levels.{parent_of}
use Rattle.key_codec.proofs.Children.{kept, reads_back}
use Rattle.key_codec.proofs.place.Place.level_key.Goals as goal

pub from_slice-requires : goal.from_slice-requires
from_slice-requires c = kept c.level.result.now (parent_of c.args.self.now) c.level.ensures.form c.level.ensures.value

pub returns-clause-key : goal.returns-clause-key
returns-clause-key c = subst (λ (r : Reference). IfOk c.from_slice.result (λ key. key ≡ r)) (reads_back c.level.result.now (parent_of c.args.self.now) c.level.ensures.form c.level.ensures.value) c.from_slice.ensures.key
