use Rattle.loading.specs.laws.Reading.{asks_for_set}
use Rattle.loading.specs.laws.Databases.{nodes_make}
use Rattle.loading.specs.laws.Listings.{listings_ask, lists_back}
use Rattle.loading.proofs.laws.listings_load_back.Goals as goal

pub returns-clause-sets : goal.returns-clause-sets
returns-clause-sets c = asks_for_set

pub returns-clause-nodes : goal.returns-clause-nodes
returns-clause-nodes c = listings_ask

pub returns-clause-database : goal.returns-clause-database
returns-clause-database c = nodes_make

pub returns-clause-again : goal.returns-clause-again
returns-clause-again c = lists_back
