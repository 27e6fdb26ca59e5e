-- The value of a $GET ends the bytes of its exchange.
use Rattle.std.proofs.Common.{◌≡◌, ◌-◌, ℕ, List, [], ◌∷◌, ◌++◌, length, drop, sym, ap, ◌∙◌, arith, length-append, append-nil, append_assoc}
use Rattle.std.specs.Prelude.{None}
use Rattle.std.specs.List.{flat_map}
use Rattle.std.proofs.Math.Seq.{drop-append_seam}
use Rattle.std.proofs.lemmas.Grind.{flat_map-append}
use Rattle.collation.specs.Reference.{Reference}
use Rattle.command.specs.declared.access.DataCommand.TheVariants.{Look}
use Rattle.command.specs.declared.access.Look.TheVariants.{Get}
use Rattle.command.specs.declared.access.Answer.TheVariants.{Value}
use Rattle.journal.specs.declared.unit.Exchange.{Exchange}
use Rattle.journal.specs.Format.{exchange_bytes, number_bytes, reference_bytes}

abbrev got : Reference → List ℕ → Exchange
got key value = record { command = Look (Get key None); answer = Value value }

-- what stands before it
abbrev front_of : List Exchange → Reference → List ℕ → List ℕ
front_of before key value = flat_map exchange_bytes before ++ (17 ∷ (reference_bytes key ++ number_bytes (length value)))

ends : (bytes : List ℕ) (before es : List Exchange) (key : Reference) (value : List ℕ) → bytes ≡ flat_map exchange_bytes es → es ≡ before ++ got key value ∷ [] → bytes ≡ front_of before key value ++ value
ends bytes before es key value written is =
    let first = flat_map exchange_bytes before in
    written ∙ ap (flat_map exchange_bytes) is
    ∙ flat_map-append exchange_bytes before (got key value ∷ [])
    ∙ ap (λ bs. first ++ bs) (append-nil (exchange_bytes (got key value)) ∙ ap (λ bs. 17 ∷ bs) (sym (append_assoc (reference_bytes key) (number_bytes (length value)) value)))
    ∙ sym (append_assoc first (17 ∷ (reference_bytes key ++ number_bytes (length value))) value)

pub last_is : (bytes : List ℕ) (before es : List Exchange) (key : Reference) (value : List ℕ) (size start : ℕ) → bytes ≡ flat_map exchange_bytes es → es ≡ before ++ got key value ∷ [] → size ≡ length value → start ≡ length bytes - size
    → drop start bytes ≡ value
last_is bytes before es key value size start written is all from =
    let front = front_of before key value in
    let whole = ends bytes before es key value written is in
    let at : start ≡ length front = omega (arith, from, all, ap length whole, length-append front value) in
    ap (λ n. drop n bytes) at ∙ ap (drop (length front)) whole ∙ drop-append_seam front value
