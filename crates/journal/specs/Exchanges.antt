-- What the bytes of an open transaction stand for.
use Rattle.std.specs.Prelude.{◌≡◌, ℕ, ◌<◌, ◌^◌, List, [], length, unwrap_or, option_map}
use Rattle.std.specs.List.{flat_map}
use Rattle.journal.specs.declared.unit.Exchange.{Exchange}
use Rattle.journal.specs.declared.exchanges.ExchangeMark.{ExchangeMark}
use Rattle.journal.specs.Format.{exchange_bytes}
use Rattle.journal.specs.Reading.{list_at, exchange_at}
use Rattle.journal.specs.Stored.{Each, FitsExchange}

-- the first so many exchanges of the bytes
unfoldable pub exchanges_in : ℕ → List ℕ → List Exchange
exchanges_in count bytes = unwrap_or (option_map (λ p. p.0) (list_at exchange_at count bytes)) []

-- bytes that stand for these exchanges, so many
pub record AreExchangeBytes (bytes : List ℕ) (count : ℕ) (es : List Exchange) : Type 0 where
  pub written : bytes ≡ flat_map exchange_bytes es
  pub number : count ≡ length es
  pub few : count < 2 ^ 64
  pub fit : Each FitsExchange es

-- the log went as far as these exchanges
pub record IsMarkOf (mark : ExchangeMark) (es : List Exchange) : Type 0 where
  pub bytes : mark.bytes ≡ length (flat_map exchange_bytes es)
  pub count : mark.count ≡ length es
