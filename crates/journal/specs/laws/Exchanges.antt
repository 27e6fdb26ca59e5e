-- The bytes of an open transaction, exchange by exchange.
use Rattle.std.specs.Prelude.{◌≡◌, ℕ, zero, suc, min, ◌+◌, ◌<◌, ◌≤◌, ◌^◌, List, [], ◌∷◌, ◌++◌, length, take, drop, Some}
use Rattle.std.specs.List.{flat_map}
use Rattle.std.proofs.Common.{ap, sym, ◌∙◌, append-nil, refl, arith, length-append, subst}
use Rattle.std.proofs.lemmas.List.{flat_map_more, take-append-drop, length-take}
use Rattle.std.proofs.lemmas.Grind.{flat_map-append}
use Rattle.std.proofs.Math.Seq.{take-append_seam}
use Rattle.journal.specs.declared.exchanges.ExchangeMark.{ExchangeMark}
use Rattle.journal.specs.declared.unit.Exchange.{Exchange}
use Rattle.journal.specs.Exchanges.{exchanges_in, AreExchangeBytes, IsMarkOf}
use Rattle.journal.specs.Format.{exchange_bytes}
use Rattle.journal.specs.Reading.{list_at, exchange_at}
use Rattle.journal.specs.Stored.{Each, FitsExchange, FitExchanges}
use Rattle.journal.specs.laws.Reading.{list_back, exchange_back}

pub exchanges_again : (bytes : List ℕ) (count : ℕ) (es : List Exchange) → AreExchangeBytes bytes count es → exchanges_in count bytes ≡ es
unfolding exchanges_in
exchanges_again bytes count es h =
    let back : list_at exchange_at (length es) (flat_map exchange_bytes es ++ []) ≡ Some (es, []) = list_back exchange_at exchange_bytes FitsExchange exchange_back es [] h.fit in
    let all : list_at exchange_at count bytes ≡ Some (es, []) = ap (λ n. list_at exchange_at n bytes) h.number ∙ ap (list_at exchange_at (length es)) (h.written ∙ sym (append-nil (flat_map exchange_bytes es))) ∙ back in
    rw all refl

Each-more : (es : List Exchange) (e : Exchange) → Each FitsExchange es → FitsExchange e → Each FitsExchange (es ++ e ∷ [])
Each-more [] e h k = (k, tt)
Each-more (d ∷ es) e h k = (h.0, Each-more es e h.1 k)

pub no_exchanges : (bytes : List ℕ) → exchanges_in 0 bytes ≡ []
unfolding exchanges_in
no_exchanges bytes = refl

pub tells_none : (bytes : List ℕ) → bytes ≡ [] → AreExchangeBytes bytes 0 (exchanges_in 0 bytes)
tells_none bytes e = subst (AreExchangeBytes bytes 0) (sym (no_exchanges bytes)) (record { written = e; number = refl; few = omega arith; fit = tt })

-- one more after them
pub tells_more : (old new : List ℕ) (count : ℕ) (e : Exchange) → AreExchangeBytes old count (exchanges_in count old) → FitsExchange e → new ≡ old ++ exchange_bytes e → count + 1 < 2 ^ 64 →
    AreExchangeBytes new (count + 1) (exchanges_in count old ++ e ∷ [])
tells_more old new count e h fits n few =
    let es = exchanges_in count old in
    record {
      written = n ∙ ap (λ t. t ++ exchange_bytes e) h.written ∙ flat_map_more exchange_bytes [] es e;
      number = omega (arith, h.number, length-append es (e ∷ []));
      few = few;
      fit = Each-more es e h.fit fits;
    }

pub tells_itself : (new : List ℕ) (count : ℕ) (es : List Exchange) → AreExchangeBytes new count es → AreExchangeBytes new count (exchanges_in count new)
tells_itself new count es h = subst (AreExchangeBytes new count) (sym (exchanges_again new count es h)) h

pub they_fit : (bytes : List ℕ) (count : ℕ) (es : List Exchange) → AreExchangeBytes bytes count es → FitExchanges es
they_fit bytes count es h = let n : count ≡ length es = h.number in let few : count < 2 ^ 64 = h.few in record { count = omega arith; each = h.fit }

Each-take : (n : ℕ) (es : List Exchange) → Each FitsExchange es → Each FitsExchange (take n es)
Each-take zero es h = tt
Each-take (suc n) [] h = tt
Each-take (suc n) (e ∷ es) h = (h.0, Each-take n es h.1)

-- a beginning of them
pub tells_front : (bytes : List ℕ) (mark : ExchangeMark) (count : ℕ) (es : List Exchange) → AreExchangeBytes bytes count es → IsMarkOf mark (take mark.count es) → AreExchangeBytes (take mark.bytes bytes) mark.count (take mark.count es)
tells_front bytes mark count es h at =
    let front = take mark.count es in
    let joined : bytes ≡ flat_map exchange_bytes front ++ flat_map exchange_bytes (drop mark.count es) = h.written ∙ ap (flat_map exchange_bytes) (sym (take-append-drop mark.count es)) ∙ flat_map-append exchange_bytes front (drop mark.count es) in
    let most : length front ≡ min mark.count (length es) = length-take mark.count es in
    let own : mark.count ≡ length front = at.count in
    let all : count ≡ length es = h.number in
    let few : count < 2 ^ 64 = h.few in
    let least : min mark.count (length es) ≤ length es = omega arith in
    record {
      written = (λ i. take (at.bytes i) (joined i)) ∙ take-append_seam (flat_map exchange_bytes front) (flat_map exchange_bytes (drop mark.count es));
      number = own;
      few = omega (arith, own, most, least, all, few);
      fit = Each-take mark.count es h.fit;
    }
