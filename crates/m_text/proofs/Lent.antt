-- A quoted text whose string stands in it as it is.
use Rattle.std.proofs.Common.{◌≡◌, ℕ, Bool, true, false, List, [], ◌∷◌, length, drop, Some, refl, sym, ap, ◌∙◌}
use Rattle.std.proofs.lemmas.List.{append-nil}
use Rattle.std.specs.Prelude.{◌||◌}
use Rattle.m_text.specs.Reading.{with_front, begins_with_byte, parted_at}
use Rattle.m_text.specs.Literal.{quoted_at, part_at, literal_at}
use Rattle.m_text.specs.laws.Reading.{with_front-nil}
use Rattle.m_text.specs.laws.Loops.{reads_last}

closed_run : (rest : List ℕ) → begins_with_byte 34 rest ≡ false → quoted_at (34 ∷ rest) ≡ Some ([], rest)
unfolding quoted_at
closed_run [] e = refl
closed_run (c ∷ cs) e = rw e refl

part_is : (b : ℕ) (bs quoted : List ℕ) → begins_with_byte 34 (b ∷ bs) ≡ true → quoted ≡ drop 1 (b ∷ bs) → part_at (b ∷ bs) ≡ quoted_at quoted
unfolding part_at
part_is b bs quoted e q = rw e (ap quoted_at (sym q))

literal_is : (text : List ℕ) → begins_with_byte 34 text ≡ true → literal_at text ≡ parted_at part_at 95 text
unfolding literal_at
literal_is text e = rw e refl

neither : (a b : Bool) → (a || b) ≡ false → (a ≡ false) × (b ≡ false)
neither true b e = absurd cc
neither false b e = (refl, e)

pub lent : (text quoted run rest : List ℕ) → begins_with_byte 34 text ≡ true → quoted ≡ drop 1 text → quoted_at quoted ≡ with_front run (quoted_at (34 ∷ rest)) → (begins_with_byte 34 rest || begins_with_byte 95 rest) ≡ false → literal_at text ≡ Some (run, rest)
lent [] quoted run rest e q read ends = absurd cc
lent (b ∷ bs) quoted run rest e q read ends =
    let p = neither (begins_with_byte 34 rest) (begins_with_byte 95 rest) ends in
    let part : part_at (b ∷ bs) ≡ Some (run, rest) = part_is b bs quoted e q ∙ read ∙ ap (with_front run) (closed_run rest p.0) ∙ ap (λ xs. Some (xs, rest)) (append-nil run) in
    literal_is (b ∷ bs) e ∙ sym (with_front-nil (parted_at part_at 95 (b ∷ bs)))
    ∙ reads_last part_at 95 (length bs) (length (b ∷ bs)) [] run (b ∷ bs) rest (with_front [] (parted_at part_at 95 (b ∷ bs))) refl (with_front-nil (part_at (b ∷ bs)) ∙ part) p.1 refl
