-- A subscript as the parts of its key show it. Read shown_text.
use Rattle.std.specs.Prelude.{◌≡◌, ℕ, Bool, true, false, List, [], ◌∷◌, ◌++◌, Option, None, Some}
use Rattle.canonic_number.specs.Number.{is_canonic}
use Rattle.key_codec.specs.Key.{long_form, subscript_key, subscripts_key, IsSubscriptWithin, AreSubscriptsWithin}
use Rattle.key_codec.specs.Back.{unescaped, number_text_from}
use Rattle.key_codec.specs.declared.shown.Shown.{Shown}
use Rattle.key_codec.specs.declared.shown.Shown.TheVariants.{Zero, Number, Other}

-- the subscript
abbrev pub shown_text : Shown → List ℕ
shown_text Zero = 48 ∷ []
shown_text (Number negative word digits) = number_text_from negative word digits.now
shown_text (Other bytes) = unescaped bytes.now

abbrev pub shows_number : Shown → Bool
shows_number Zero = true
shows_number (Number negative word digits) = true
shows_number (Other bytes) = false

-- the parts tell whether it is a canonic number
pub record IsShown (shown : Shown) : Type 0 where
  pub kind : is_canonic (shown_text shown) ≡ shows_number shown

-- a subscript's key stands in front, or what is left of one behind its first byte
pub record HasFirst (bytes : List ℕ) : Type 0 where
  pub subscript : List ℕ
  pub rest : List ℕ
  pub form : IsSubscriptWithin long_form subscript
  pub key : bytes ≡ subscript_key long_form subscript ++ rest

-- the keys of some subscripts, one after the other
pub record AreKeys (bytes : List ℕ) : Type 0 where
  pub subscripts : List (List ℕ)
  pub form : AreSubscriptsWithin long_form subscripts
  pub keys : bytes ≡ subscripts_key long_form subscripts

-- the first of these
abbrev pub first : List (List ℕ) → Option (List ℕ)
first [] = None
first (s ∷ ss) = Some s
