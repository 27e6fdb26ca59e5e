-- The line of a node is read as its setting.
use Rattle.std.proofs.Common.{◌≡◌, ℕ, Bool, true, false, List, [], ◌∷◌, ◌++◌, refl, sym, ap, ◌∙◌}
use Rattle.std.proofs.lemmas.Bool.{and_parts}
use Rattle.std.proofs.lemmas.List.{append-nil}
use Rattle.std.specs.Prelude.{Option, Some, None, Ok}
use Rattle.std.specs.List.{list_all}
use Rattle.refusal.specs.declared.Refusal.{Refusal}
use Rattle.refusal.specs.declared.Refusal.TheVariants.{BadName}
use Rattle.collation.specs.Name.{is_name}
use Rattle.collation.specs.Reference.{Reference}
use Rattle.command.specs.declared.access.DataCommand.TheVariants.{Set}
use Rattle.command.specs.declared.request.Command.TheVariants.{Access}
use Rattle.m_text.specs.Literal.{literal_at}
use Rattle.m_text.specs.Place.{place_at, ref_fault}
use Rattle.m_text.specs.Written.{literal_text, reference_text}
use Rattle.m_text.specs.Forms.{are_bytes}
use Rattle.m_text.specs.laws.Place.{place_read}
use Rattle.m_text.specs.laws.Written.{literal_again, reference_form}
use Rattle.script.specs.Commands.{set_value_at, value_fault}
use Rattle.script.specs.Line.{reading_of}
use Rattle.loading.specs.Settings.{Setting, set_line, asked_in, setting_at}
use Rattle.loading.specs.Statements.{is_sound, is_reference, is_value, is_node}
use Rattle.loading.specs.laws.Reading.{operand, reading_is}
use Rattle.loading.specs.laws.Plain.{are_plain, both, literal_plain, reference_plain}

-- a node's line without its end
abbrev pub node_line : Setting → List ℕ
node_line s = reference_text s.0 ++ (61 ∷ literal_text s.1)

sound_none : (fault : Option Refusal) → is_sound fault ≡ true → fault ≡ None
sound_none None e = refl
sound_none (Some refusal) e = absurd cc

-- what is known of a node
pub record IsSound (s : Setting) : Type 0 where
  pub reference : ref_fault s.0 ≡ None
  pub bytes : list_all are_bytes s.0.subscripts ≡ true
  pub value : value_fault s.1 ≡ None
  pub value_bytes : are_bytes s.1 ≡ true

pub sound : (s : Setting) → is_node s ≡ true → IsSound s
sound s e =
    let p = and_parts (is_reference s.0) (is_value s.1) e in
    let r = and_parts (is_sound (ref_fault s.0)) _ p.0 in
    let v = and_parts (is_sound (value_fault s.1)) _ p.1 in
    record { reference = sound_none _ r.0; bytes = r.1; value = sound_none _ v.0; value_bytes = v.1 }

pub named : (r : Reference) → ref_fault r ≡ None → is_name r.name ≡ true
named r e = at (is_name r.name) refl
  where
    at : (t : Bool) → is_name r.name ≡ t → t ≡ true
    at true f = refl
    at false f = let g : ref_fault r ≡ Some BadName = rw f refl in absurd cc

place_is : (s : Setting) → IsSound s → place_at (operand (node_line s)) ≡ Some (s.0, 61 ∷ literal_text s.1)
place_is s h = place_read (reference_text s.0) s.0 (61 ∷ literal_text s.1) (reference_form s.0 (named s.0 h.reference) h.bytes) refl

value_is : (s : Setting) → IsSound s → set_value_at (61 ∷ literal_text s.1) ≡ Some (s.1, [])
unfolding set_value_at
value_is s h = ap literal_at (sym (append-nil (literal_text s.1))) ∙ literal_again s.1 [] h.value_bytes tt

node_step : (s : Setting) → IsSound s → reading_of (set_line (node_line s)) ≡ Ok (1, Access (Set s.0 s.1))
node_step s h = reading_is (node_line s) ∙ rw (place_is s h, value_is s h, h.reference, h.value) refl

pub node_read : (s : Setting) → is_node s ≡ true → setting_at (node_line s) ≡ Ok s
node_read s e = ap asked_in (node_step s (sound s e))

pub node_plain : (s : Setting) → is_node s ≡ true → are_plain (node_line s) ≡ true
node_plain s e = let h = sound s e in both (reference_text s.0) (61 ∷ literal_text s.1) (reference_plain s.0 (named s.0 h.reference) h.bytes) (literal_plain s.1 h.value_bytes)
