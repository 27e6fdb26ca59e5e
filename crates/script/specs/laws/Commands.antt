-- What stands after a command's word: what is read of it is spelled so, and what is spelled so is read.
use Rattle.std.proofs.Common.{◌≡◌, inl, inr, ℕ, ◌<◌, Bool, true, false, cond, List, [], ◌∷◌, ◌++◌, length, drop, Option, Some, None, refl, sym, ap, subst, ◌∙◌, append_assoc, arith}
use Rattle.std.proofs.lemmas.Bool.{eqb-true, and_parts, or_cases}
use Rattle.std.specs.Prelude.{◌==◌, codes}
use Rattle.std.specs.List.{list_all}
use Rattle.std.specs.Char.{is_ascii_alphabetic}
use Rattle.std.proofs.lemmas.Option.{some_pair_parts, cond_some}
use Rattle.std.specs.Option.{option_map}
use Rattle.collation.specs.Reference.{Reference}
use Rattle.collation.specs.declared.direction.Direction.{Direction}
use Rattle.collation.specs.declared.direction.Direction.TheVariants.{Forward}
use Rattle.command.specs.declared.access.DataCommand.{DataCommand}
use Rattle.command.specs.declared.access.DataCommand.TheVariants.{Set, Kill, Merge, Increment, Look}
use Rattle.command.specs.declared.access.Look.TheVariants.{Data, Get, Order, Query, Name}
use Rattle.canonic_number.specs.Number.{is_canonic}
use Rattle.m_text.specs.Reading.{◌>>=◌, begins_with_byte, after_byte}
use Rattle.m_text.specs.Literal.{literal_at, ends_letters, front_letters, past_letters}
use Rattle.m_text.specs.Place.{place_at, spot_of}
use Rattle.m_text.specs.Forms.{is_word_byte, IsLiteral, IsNamed, IsReference, IsBreak, IsReferenceBreak}
use Rattle.m_text.specs.laws.Front.{run_parts, run_is}
use Rattle.m_text.specs.laws.Parted.{begins}
use Rattle.m_text.specs.laws.Parts.{letters_kind, word_letters}
use Rattle.m_text.specs.laws.Literal.{literal_found, literal_read}
use Rattle.m_text.specs.laws.Place.{FoundOf, place_found, place_read}
use Rattle.script.specs.declared.word.DataWord.{DataWord}
use Rattle.script.specs.declared.word.DataWord.TheVariants as data_words
use Rattle.script.specs.Commands.{direction_of, canonic_of, set_value_at, source_at, default_at, direction_at, step_at, tail_at, placed_at, is_global, start_of, argument_at, names_at, structured_at, operands_by, operands_at}
use Rattle.script.specs.Grammar.{IsDefault, IsDirection, IsStep, IsTail, IsPlaced, AreNames, IsOperands}
use Rattle.script.specs.Grammar.IsStep.{no_step, step}
use Rattle.script.specs.Grammar.IsOperands.{placed, names_of}
use Rattle.script.specs.Grammar.IsDefault.{no_default, default}
use Rattle.script.specs.Grammar.IsDirection.{no_direction, direction}
use Rattle.script.specs.Grammar.IsTail.{set, kill, merge, increment, data_of, get_of, order_of, query_of}

pub and_then_some : {A B : Type 0} → (r : Option A) (f : A → Option B) (y : B) → (r >>= f) ≡ Some y → (x : A) × (r ≡ Some x) × (f x ≡ Some y)
and_then_some None f y e = absurd cc
and_then_some (Some x) f y e = (x, refl, e)

pub after_found : (b : ℕ) (text rest : List ℕ) → after_byte b text ≡ Some rest → text ≡ b ∷ rest
after_found b text rest e =
    let g = cond_some (begins_with_byte b text) (drop 1 text) rest e in
    begins b text g.0 ∙ ap (λ u. b ∷ u) g.1

-- one text before another
pub joined : (bytes t x u r : List ℕ) → bytes ≡ t ++ x → x ≡ u ++ r → bytes ≡ (t ++ u) ++ r
joined bytes t x u r e f = e ∙ ap (λ v. t ++ v) f ∙ sym (append_assoc t u r)

pub found_is : {A : Type 0} → (Form : List ℕ → A → Type 0) (bytes : List ℕ) (x c : A) (r rest : List ℕ) → x ≡ c → r ≡ rest → FoundOf Form bytes x r → FoundOf Form bytes c rest
found_is Form bytes x c r rest p q f = rw (← p, ← q) f

-- what is read of a form makes a command of a tail
then_found : {A : Type 0} → (read : List ℕ → Option (A × List ℕ)) (Form : List ℕ → A → Type 0) (Tail : List ℕ → DataCommand → Type 0) (make : A → DataCommand) →
    ((bytes : List ℕ) (x : A) (rest : List ℕ) → read bytes ≡ Some (x, rest) → FoundOf Form bytes x rest) → ((text : List ℕ) (x : A) → Form text x → Tail text (make x)) →
    (bytes : List ℕ) (c : DataCommand) (rest : List ℕ) → ◌>>=◌ {B = DataCommand × List ℕ} (read bytes) (λ x. Some (make x.0, x.1)) ≡ Some (c, rest) → FoundOf Tail bytes c rest
then_found read Form Tail make found form bytes c rest e =
    let a = and_then_some {B = DataCommand × List ℕ} (read bytes) (λ x. Some (make x.0, x.1)) (c, rest) e in
    let of = found bytes a.0.0 a.0.1 a.1 in
    let p = some_pair_parts (make a.0.0) c a.0.1 rest a.2 in
    found_is Tail bytes (make a.0.0) c a.0.1 rest p.0 p.1 (record { text = of.text; form = form of.text a.0.0 of.form; parts = of.parts })

-- the byte b, and a form after it
record IsBehind {A : Type 0} (b : ℕ) (Form : List ℕ → A → Type 0) (text : List ℕ) (x : A) : Type 0 where
  inner : List ℕ
  form : Form inner x
  parts : text ≡ b ∷ inner

behind_found : {A : Type 0} → (b : ℕ) (read : List ℕ → Option (A × List ℕ)) (Form : List ℕ → A → Type 0) → ((bytes : List ℕ) (x : A) (rest : List ℕ) → read bytes ≡ Some (x, rest) → FoundOf Form bytes x rest) →
    (bytes : List ℕ) (x : A) (rest : List ℕ) → (after_byte b bytes >>= λ more. read more) ≡ Some (x, rest) → FoundOf (IsBehind b Form) bytes x rest
behind_found b read Form found bytes x rest e =
    let a = and_then_some (after_byte b bytes) (λ more. read more) (x, rest) e in
    let of = found a.0 x rest a.2 in
    record { text = b ∷ of.text; form = record { inner = of.text; form = of.form; parts = refl }; parts = after_found b bytes a.0 a.1 ∙ ap (λ u. b ∷ u) of.parts }

literal_is : (bytes s rest : List ℕ) → literal_at bytes ≡ Some (s, rest) → FoundOf IsLiteral bytes s rest
literal_is bytes s rest e = let of = literal_found bytes s rest e in record { text = of.text; form = of.form; parts = of.parts }

value_found : (bytes s rest : List ℕ) → set_value_at bytes ≡ Some (s, rest) → FoundOf (IsBehind 61 IsLiteral) bytes s rest
unfolding set_value_at
value_found bytes s rest e = behind_found 61 literal_at IsLiteral literal_is bytes s rest e

source_found : (bytes : List ℕ) (s : Reference) (rest : List ℕ) → source_at bytes ≡ Some (s, rest) → FoundOf (IsBehind 61 IsReference) bytes s rest
unfolding source_at
source_found bytes s rest e = behind_found 61 place_at IsReference place_found bytes s rest e

default_found : (bytes : List ℕ) (d : Option (List ℕ)) (rest : List ℕ) → default_at bytes ≡ Some (d, rest) → FoundOf IsDefault bytes d rest
unfolding default_at
default_found bytes d rest e = at (begins_with_byte 44 bytes) (literal_at (drop 1 bytes)) refl refl e
  where
    at : (t : Bool) (r : Option (List ℕ × List ℕ)) → begins_with_byte 44 bytes ≡ t → literal_at (drop 1 bytes) ≡ r →
        ◌≡◌ {A = Option (Option (List ℕ) × List ℕ)} (cond t (option_map (λ x. (Some x.0, x.1)) r) (Some (None, bytes))) (Some (d, rest)) → FoundOf IsDefault bytes d rest
    at true None f g e = absurd cc
    at true (Some (value, behind)) f g e =
        let p = some_pair_parts (Some value) d behind rest e in
        let literal = literal_found (drop 1 bytes) value behind g in
        found_is IsDefault bytes (Some value) d behind rest p.0 p.1 (record { text = 44 ∷ literal.text; form = default literal.form; parts = begins 44 bytes f ∙ ap (λ u. 44 ∷ u) literal.parts })
    at false r f g e =
        let p = some_pair_parts None d bytes rest e in
        found_is IsDefault bytes None d bytes rest p.0 p.1 (record { text = []; form = no_default; parts = refl })

direction_found : (bytes : List ℕ) (d : Direction) (rest : List ℕ) → direction_at bytes ≡ Some (d, rest) → FoundOf IsDirection bytes d rest
unfolding direction_at
direction_found bytes d rest e = at (begins_with_byte 44 bytes) refl e
  where
    at : (t : Bool) → begins_with_byte 44 bytes ≡ t →
        ◌≡◌ {A = Option (Direction × List ℕ)} (cond t (literal_at (drop 1 bytes) >>= λ x. direction_of x.0 >>= λ direction. Some (direction, x.1)) (Some (Forward, bytes))) (Some (d, rest)) → FoundOf IsDirection bytes d rest
    at true f e =
        let a = and_then_some (literal_at (drop 1 bytes)) (λ x. direction_of x.0 >>= λ direction. Some (direction, x.1)) (d, rest) e in
        let b = and_then_some (direction_of a.0.0) (λ direction. Some (direction, a.0.1)) (d, rest) a.2 in
        let p = some_pair_parts b.0 d a.0.1 rest b.2 in
        let literal = literal_found (drop 1 bytes) a.0.0 a.0.1 a.1 in
        found_is IsDirection bytes b.0 d a.0.1 rest p.0 p.1 (record { text = 44 ∷ literal.text; form = direction literal.form b.1; parts = begins 44 bytes f ∙ ap (λ u. 44 ∷ u) literal.parts })
    at false f e =
        let p = some_pair_parts Forward d bytes rest e in
        found_is IsDirection bytes Forward d bytes rest p.0 p.1 (record { text = []; form = no_direction; parts = refl })

canonic_parts : (s n : List ℕ) → canonic_of s ≡ Some n → (is_canonic s ≡ true) × (s ≡ n)
canonic_parts s n e = cond_some (is_canonic s) s n e

step_found : (bytes n rest : List ℕ) → step_at bytes ≡ Some (n, rest) → FoundOf IsStep bytes n rest
unfolding step_at
step_found bytes n rest e = at (begins_with_byte 44 bytes) refl e
  where
    at : (t : Bool) → begins_with_byte 44 bytes ≡ t →
        ◌≡◌ {A = Option (List ℕ × List ℕ)} (cond t (literal_at (drop 1 bytes) >>= λ x. canonic_of x.0 >>= λ number. Some (number, x.1)) (Some (codes "1", bytes))) (Some (n, rest)) → FoundOf IsStep bytes n rest
    at true f e =
        let a = and_then_some {B = List ℕ × List ℕ} (literal_at (drop 1 bytes)) (λ x. canonic_of x.0 >>= λ number. Some (number, x.1)) (n, rest) e in
        let b = and_then_some {B = List ℕ × List ℕ} (canonic_of a.0.0) (λ number. Some (number, a.0.1)) (n, rest) a.2 in
        let p = some_pair_parts b.0 n a.0.1 rest b.2 in
        let canonic = canonic_parts a.0.0 b.0 b.1 in
        let literal = literal_found (drop 1 bytes) a.0.0 a.0.1 a.1 in
        found_is IsStep bytes a.0.0 n a.0.1 rest (canonic.1 ∙ p.0) p.1 (record { text = 44 ∷ literal.text; form = step literal.form canonic.0; parts = begins 44 bytes f ∙ ap (λ u. 44 ∷ u) literal.parts })
    at false f e =
        let p = some_pair_parts (codes "1") n bytes rest e in
        found_is IsStep bytes (codes "1") n bytes rest p.0 p.1 (record { text = []; form = no_step; parts = refl })

-- a tail that is its word alone
alone : (Tail : List ℕ → DataCommand → Type 0) (x c : DataCommand) (bytes rest : List ℕ) → Tail [] x → ◌≡◌ {A = Option (DataCommand × List ℕ)} (Some (x, bytes)) (Some (c, rest)) → FoundOf Tail bytes c rest
alone Tail x c bytes rest form e = let p = some_pair_parts x c bytes rest e in found_is Tail bytes x c bytes rest p.0 p.1 (record { text = []; form = form; parts = refl })

tail_found : (word : DataWord) (r : Reference) (bytes : List ℕ) (c : DataCommand) (rest : List ℕ) → tail_at word r bytes ≡ Some (c, rest) → FoundOf (IsTail word r) bytes c rest
tail_found data_words.Set r bytes c rest e = then_found set_value_at (IsBehind 61 IsLiteral) (IsTail data_words.Set r) (λ v. Set r v) value_found (λ text v h. rw h.parts (set h.form)) bytes c rest e
tail_found (data_words.Kill extent) r bytes c rest e = alone (IsTail (data_words.Kill extent) r) (Kill r extent) c bytes rest kill e
tail_found data_words.Merge r bytes c rest e = then_found source_at (IsBehind 61 IsReference) (IsTail data_words.Merge r) (λ s. Merge r s) source_found (λ text s h. rw h.parts (merge h.form)) bytes c rest e
tail_found data_words.Increment r bytes c rest e = then_found step_at IsStep (IsTail data_words.Increment r) (λ n. Increment r n) step_found (λ text n h. increment h) bytes c rest e
tail_found data_words.Data r bytes c rest e = alone (IsTail data_words.Data r) (Look (Data r)) c bytes rest data_of e
tail_found data_words.Get r bytes c rest e = then_found default_at IsDefault (IsTail data_words.Get r) (λ d. Look (Get r d)) default_found (λ text d h. get_of h) bytes c rest e
tail_found data_words.Order r bytes c rest e = then_found direction_at IsDirection (IsTail data_words.Order r) (λ d. Look (Order (spot_of r) d)) direction_found (λ text d h. order_of h) bytes c rest e
tail_found data_words.Query r bytes c rest e = then_found direction_at IsDirection (IsTail data_words.Query r) (λ d. Look (Query (spot_of r) d)) direction_found (λ text d h. query_of h) bytes c rest e

pub placed_found : (word : DataWord) (bytes : List ℕ) (c : DataCommand) (rest : List ℕ) → placed_at word bytes ≡ Some (c, rest) → FoundOf (IsPlaced word) bytes c rest
unfolding placed_at
placed_found word bytes c rest e =
    let a = and_then_some (place_at bytes) (λ place. tail_at word place.0 place.1) (c, rest) e in
    let place = place_found bytes a.0.0 a.0.1 a.1 in
    let tail = tail_found word a.0.0 a.0.1 c rest a.2 in
    record {
      text = place.text ++ tail.text;
      form = record { place = place.text; tail = tail.text; reference = a.0.0; spelled = place.form; wanted = tail.form; parts = refl };
      parts = joined bytes place.text a.0.1 tail.text rest place.parts tail.parts;
    }

-- ---- names of globals

-- the letters of ^$GLOBAL, and a literal in parentheses
record IsArgument (text value rest : List ℕ) : Type 0 where
  letters : List ℕ
  argument : List ℕ
  global : is_global letters ≡ true
  spelled : IsLiteral argument value
  parts : text ≡ letters ++ (40 ∷ (argument ++ (41 ∷ rest)))

argument_found : (text value rest : List ℕ) → argument_at text ≡ Some (value, rest) → IsArgument text value rest
unfolding argument_at
argument_found text value rest e = at (is_global (front_letters text)) refl e
  where
    at : (t : Bool) → is_global (front_letters text) ≡ t →
        cond {A = Option (List ℕ × List ℕ)} t (after_byte 40 (past_letters text) >>= λ rest. literal_at rest >>= λ x. after_byte 41 x.1 >>= λ rest. Some (x.0, rest)) None ≡ Some (value, rest) → IsArgument text value rest
    at true f e =
        let a = and_then_some {B = List ℕ × List ℕ} (after_byte 40 (past_letters text)) (λ rest. literal_at rest >>= λ x. after_byte 41 x.1 >>= λ rest. Some (x.0, rest)) (value, rest) e in
        let b = and_then_some {B = List ℕ × List ℕ} (literal_at a.0) (λ x. after_byte 41 x.1 >>= λ rest. Some (x.0, rest)) (value, rest) a.2 in
        let z = and_then_some {B = List ℕ × List ℕ} (after_byte 41 b.0.1) (λ rest. Some (b.0.0, rest)) (value, rest) b.2 in
        let p = some_pair_parts b.0.0 value z.0 rest z.2 in
        let literal = literal_found a.0 b.0.0 b.0.1 b.1 in
        let behind : b.0.1 ≡ 41 ∷ rest = after_found 41 b.0.1 z.0 z.1 ∙ ap (λ u. 41 ∷ u) p.1 in
        record {
          letters = front_letters text;
          argument = literal.text;
          global = f;
          spelled = subst (λ (v : List ℕ). IsLiteral literal.text v) p.0 literal.form;
          parts = run_parts ends_letters text ∙ ap (λ u. front_letters text ++ u) (after_found 40 (past_letters text) a.0 a.1 ∙ ap (λ u. 40 ∷ u) (literal.parts ∙ ap (λ u. literal.text ++ u) behind));
        }
    at false f e = absurd cc

regrouped : (letters argument tail rest : List ℕ) → letters ++ (40 ∷ (argument ++ (41 ∷ (tail ++ rest)))) ≡ (letters ++ (40 ∷ (argument ++ (41 ∷ tail)))) ++ rest
regrouped letters argument tail rest = sym (append_assoc letters (40 ∷ (argument ++ (41 ∷ tail))) rest ∙ ap (λ u. letters ++ (40 ∷ u)) (append_assoc argument (41 ∷ tail) rest))

names_found : (bytes : List ℕ) (c : DataCommand) (rest : List ℕ) → names_at bytes ≡ Some (c, rest) → FoundOf AreNames (94 ∷ (36 ∷ bytes)) c rest
unfolding names_at
names_found bytes c rest e =
    let a = and_then_some {B = DataCommand × List ℕ} (argument_at bytes) (λ argument. direction_at argument.1 >>= λ direction. Some (Look (Name (start_of argument.0) direction.0), direction.1)) (c, rest) e in
    let b = and_then_some {B = DataCommand × List ℕ} (direction_at a.0.1) (λ direction. Some (Look (Name (start_of a.0.0) direction.0), direction.1)) (c, rest) a.2 in
    let p = some_pair_parts (Look (Name (start_of a.0.0) b.0.0)) c b.0.1 rest b.2 in
    let argument = argument_found bytes a.0.0 a.0.1 a.1 in
    let towards = direction_found a.0.1 b.0.0 b.0.1 b.1 in
    let inner : List ℕ = argument.letters ++ (40 ∷ (argument.argument ++ (41 ∷ towards.text))) in
    record {
      text = 94 ∷ (36 ∷ inner);
      form = record {
        letters = argument.letters;
        argument = argument.argument;
        tail = towards.text;
        value = a.0.0;
        towards = b.0.0;
        global = argument.global;
        spelled = argument.spelled;
        directed = towards.form;
        asked = sym p.0;
        parts = refl;
      };
      parts = ap (λ u. 94 ∷ (36 ∷ u)) (argument.parts ∙ ap (λ u. argument.letters ++ (40 ∷ (argument.argument ++ (41 ∷ u)))) (towards.parts ∙ ap (λ u. towards.text ++ u) p.1)
          ∙ regrouped argument.letters argument.argument towards.text rest);
    }

-- "^$" stands behind $ORDER's word alone
structured_is : (word : DataWord) (bytes more : List ℕ) → structured_at word bytes ≡ Some more → (word ≡ data_words.Order) × (bytes ≡ 94 ∷ (36 ∷ more))
structured_is data_words.Set bytes more e = absurd cc
structured_is (data_words.Kill extent) bytes more e = absurd cc
structured_is data_words.Merge bytes more e = absurd cc
structured_is data_words.Increment bytes more e = absurd cc
structured_is data_words.Data bytes more e = absurd cc
structured_is data_words.Get bytes more e = absurd cc
structured_is data_words.Order bytes more e =
    let a = and_then_some (after_byte 94 bytes) (λ rest. after_byte 36 rest) more e in
    (refl, after_found 94 bytes a.0 a.1 ∙ ap (λ u. 94 ∷ u) (after_found 36 a.0 more a.2))
structured_is data_words.Query bytes more e = absurd cc

-- no reference begins so
word_no_dollar : (name more : List ℕ) → list_all is_word_byte name ≡ true → 0 < length name → begins_with_byte 36 (name ++ more) ≡ false
word_no_dollar [] more all some = absurd (omega (arith, some))
word_no_dollar (b ∷ bs) more all some = at (b == 36) refl
  where
    at : (t : Bool) → (b == 36) ≡ t → t ≡ false
    at true f = let w : is_word_byte 36 ≡ true = ap is_word_byte (sym (eqb-true b 36 f)) ∙ (and_parts (is_word_byte b) _ all).0 in absurd cc
    at false f = refl

named_no_dollar : (named : List ℕ) (r : Reference) (more : List ℕ) → IsNamed named r → begins_with_byte 36 (named ++ more) ≡ false
named_no_dollar named r more h = ap (λ u. begins_with_byte 36 (u ++ more)) h.parts ∙ ap (begins_with_byte 36) (append_assoc r.name h.texts more) ∙ word_no_dollar r.name (h.texts ++ more) h.word h.some

pub structured_none : (word : DataWord) (place : List ℕ) (r : Reference) (more : List ℕ) → IsReference place r → structured_at word (place ++ more) ≡ None
structured_none data_words.Set place r more h = refl
structured_none (data_words.Kill extent) place r more h = refl
structured_none data_words.Merge place r more h = refl
structured_none data_words.Increment place r more h = refl
structured_none data_words.Data place r more h = refl
structured_none data_words.Get place r more h = refl
structured_none data_words.Order place r more h = ap (λ u. after_byte 94 (u ++ more) >>= after_byte 36) h.parts ∙ ap (λ t. cond t (Some (drop 1 (h.named ++ more))) None) (named_no_dollar h.named r more h.spelled)
structured_none data_words.Query place r more h = refl

-- where a reference is read
pub placed_alone : (word : DataWord) (bytes : List ℕ) (r : Reference) (rest : List ℕ) → place_at bytes ≡ Some (r, rest) → operands_at word bytes ≡ placed_at word bytes
unfolding operands_at
placed_alone word bytes r rest e =
    let place = place_found bytes r rest e in
    ap (λ s. operands_by s word bytes) (ap (structured_at word) place.parts ∙ structured_none word place.text r rest place.form)

pub operands_found : (word : DataWord) (bytes : List ℕ) (c : DataCommand) (rest : List ℕ) → operands_at word bytes ≡ Some (c, rest) → FoundOf (IsOperands word) bytes c rest
unfolding operands_at
operands_found word bytes c rest e = at (structured_at word bytes) refl e
  where
    at : (s : Option (List ℕ)) → structured_at word bytes ≡ s → operands_by s word bytes ≡ Some (c, rest) → FoundOf (IsOperands word) bytes c rest
    at None f e = let found = placed_found word bytes c rest e in record { text = found.text; form = placed found.form; parts = found.parts }
    at (Some more) f e =
        let is = structured_is word bytes more f in
        let found = names_found more c rest e in
        record { text = found.text; form = subst (λ w. IsOperands w found.text c) (sym is.0) (names_of found.form); parts = is.1 ∙ found.parts }

-- what may follow operands
pub record Stops (rest : List ℕ) : Type 0 where
  pub literal : IsBreak rest
  pub reference : IsReferenceBreak rest
  pub comma : begins_with_byte 44 rest ≡ false

value_read : (text value rest : List ℕ) → IsLiteral text value → Stops rest → set_value_at (61 ∷ (text ++ rest)) ≡ Some (value, rest)
unfolding set_value_at
value_read text value rest literal stops = literal_read text value rest literal stops.literal

source_read : (text : List ℕ) (s : Reference) (rest : List ℕ) → IsReference text s → Stops rest → source_at (61 ∷ (text ++ rest)) ≡ Some (s, rest)
unfolding source_at
source_read text s rest form stops = place_read text s rest form stops.reference

default_read : {text : List ℕ} {d : Option (List ℕ)} (rest : List ℕ) → Stops rest → IsDefault text d → default_at (text ++ rest) ≡ Some (d, rest)
unfolding default_at
default_read rest stops no_default = rw stops.comma refl
default_read rest stops (default {text} {value} literal) = rw (literal_read text value rest literal stops.literal) refl

direction_read : {text : List ℕ} {d : Direction} (rest : List ℕ) → Stops rest → IsDirection text d → direction_at (text ++ rest) ≡ Some (d, rest)
unfolding direction_at
direction_read rest stops no_direction = rw stops.comma refl
direction_read rest stops (direction {text} {value} {d} literal of) = rw (literal_read text value rest literal stops.literal, of) refl

step_read : {text number : List ℕ} (rest : List ℕ) → Stops rest → IsStep text number → step_at (text ++ rest) ≡ Some (number, rest)
unfolding step_at
step_read rest stops no_step = rw stops.comma refl
step_read rest stops (step {text} {value} literal canonic) = rw (literal_read text value rest literal stops.literal, canonic) refl

tail_read : {word : DataWord} {r : Reference} {text : List ℕ} {c : DataCommand} (rest : List ℕ) → Stops rest → IsTail word r text c → tail_at word r (text ++ rest) ≡ Some (c, rest)
tail_read rest stops (set {r} {text} {value} literal) = rw (value_read text value rest literal stops) refl
tail_read rest stops kill = refl
tail_read rest stops (increment of) = rw (step_read rest stops of) refl
tail_read rest stops (merge {r} {s} {text} form) = rw (source_read text s rest form stops) refl
tail_read rest stops data_of = refl
tail_read rest stops (get_of of) = rw (default_read rest stops of) refl
tail_read rest stops (order_of of) = rw (direction_read rest stops of) refl
tail_read rest stops (query_of of) = rw (direction_read rest stops of) refl

default_breaks : {text : List ℕ} {d : Option (List ℕ)} (rest : List ℕ) → Stops rest → IsDefault text d → IsReferenceBreak (text ++ rest)
default_breaks rest stops no_default = stops.reference
default_breaks rest stops (default literal) = refl

direction_breaks : {text : List ℕ} {d : Direction} (rest : List ℕ) → Stops rest → IsDirection text d → IsReferenceBreak (text ++ rest)
direction_breaks rest stops no_direction = stops.reference
direction_breaks rest stops (direction literal of) = refl

step_breaks : {text number : List ℕ} (rest : List ℕ) → Stops rest → IsStep text number → IsReferenceBreak (text ++ rest)
step_breaks rest stops no_step = stops.reference
step_breaks rest stops (step literal canonic) = refl

-- a reference ends before its tail
tail_breaks : {word : DataWord} {r : Reference} {text : List ℕ} {c : DataCommand} (rest : List ℕ) → Stops rest → IsTail word r text c → IsReferenceBreak (text ++ rest)
tail_breaks rest stops (set literal) = refl
tail_breaks rest stops kill = stops.reference
tail_breaks rest stops (merge form) = refl
tail_breaks rest stops (increment of) = step_breaks rest stops of
tail_breaks rest stops data_of = stops.reference
tail_breaks rest stops (get_of of) = default_breaks rest stops of
tail_breaks rest stops (order_of of) = direction_breaks rest stops of
tail_breaks rest stops (query_of of) = direction_breaks rest stops of

pub placed_read : (word : DataWord) (text : List ℕ) (c : DataCommand) (rest : List ℕ) → IsPlaced word text c → Stops rest → placed_at word (text ++ rest) ≡ Some (c, rest)
unfolding placed_at
placed_read word text c rest h stops =
    let parted : text ++ rest ≡ h.place ++ (h.tail ++ rest) = ap (λ u. u ++ rest) h.parts ∙ append_assoc h.place h.tail rest in
    rw (parted, place_read h.place h.reference (h.tail ++ rest) h.spelled (tail_breaks rest stops h.wanted)) (tail_read rest stops h.wanted)

global_letters : (letters : List ℕ) → is_global letters ≡ true → list_all is_ascii_alphabetic letters ≡ true
global_letters letters e = elim (or_cases _ _ e) [ inl f ↦ word_letters (codes "G") letters refl f | inr f ↦ word_letters (codes "GLOBAL") letters refl f ]

argument_read : (letters argument value rest : List ℕ) → is_global letters ≡ true → IsLiteral argument value → argument_at (letters ++ (40 ∷ (argument ++ (41 ∷ rest)))) ≡ Some (value, rest)
unfolding argument_at
argument_read letters argument value rest global spelled =
    let p = run_is ends_letters is_ascii_alphabetic letters_kind letters (40 ∷ (argument ++ (41 ∷ rest))) (global_letters letters global) refl in
    rw (p.0, p.1, global, literal_read argument value (41 ∷ rest) spelled refl) refl

names_read : (text : List ℕ) (c : DataCommand) (rest : List ℕ) → AreNames text c → Stops rest → operands_at data_words.Order (text ++ rest) ≡ Some (c, rest)
unfolding operands_at names_at
names_read text c rest n stops =
    let inner : List ℕ = n.letters ++ (40 ∷ (n.argument ++ (41 ∷ n.tail))) in
    rw (n.parts, ← regrouped n.letters n.argument n.tail rest, argument_read n.letters n.argument n.value (n.tail ++ rest) n.global n.spelled, direction_read rest stops n.directed, n.asked) refl

pub operands_read : (word : DataWord) (text : List ℕ) (c : DataCommand) (rest : List ℕ) → IsOperands word text c → Stops rest → operands_at word (text ++ rest) ≡ Some (c, rest)
unfolding operands_at
operands_read word text c rest (placed h) stops =
    let parted : text ++ rest ≡ h.place ++ (h.tail ++ rest) = ap (λ u. u ++ rest) h.parts ∙ append_assoc h.place h.tail rest in
    ap (λ s. operands_by s word (text ++ rest)) (ap (structured_at word) parted ∙ structured_none word h.place h.reference (h.tail ++ rest) h.spelled) ∙ placed_read word text c rest h stops
operands_read word text c rest (names_of n) stops = names_read text c rest n stops

pub operands_begin : (word : DataWord) (text : List ℕ) (c : DataCommand) (rest : List ℕ) → IsOperands word text c → begins_with_byte 94 (text ++ rest) ≡ true
operands_begin word text c rest (placed h) = rw (h.parts, h.spelled.parts) refl
operands_begin word text c rest (names_of n) = rw n.parts refl
