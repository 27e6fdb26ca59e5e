use Rattle.loading.proofs.Sets.{from_first, loaded, legal_loaded}
use Rattle.loading.proofs.settings.load_with.Goals as goal

pub returns-in-Ok-clause-loaded : goal.returns-in-Ok-clause-loaded
returns-in-Ok-clause-loaded g c = loaded _ _ (from_first c.args.text.now _ _ _ c.new-settings.ensures c.new-core.ensures c.in-Ok.ensures.ok)

pub returns-in-Ok-clause-legal : goal.returns-in-Ok-clause-legal
returns-in-Ok-clause-legal g c = legal_loaded _ _ (from_first c.args.text.now _ _ _ c.new-settings.ensures c.new-core.ensures c.in-Ok.ensures.ok)
