-- The references of keys in an array, read one after the other.
use Rattle.std.proofs.Common.{◌≡◌, ◌∙◌, ℕ, ◌+◌, ◌<◌, ◌≤◌, Bool, true, false, List, [], ◌∷◌, ◌++◌, length, map, drop, get_or, set, refl, sym, ap, subst}
use Rattle.std.proofs.Math.Seq.{map-set_same}
use Rattle.std.proofs.lemmas.Iterator.Adapters.{option_map_id}
use Rattle.std.proofs.lemmas.List.{append_assoc, at_drop_all, at_drop_more, get_or-map, length-map, map-append}
use Rattle.std.specs.Option.{option_map}
use Rattle.std.specs.Prelude.{Option, None, Some}
use Rattle.collation.specs.Reference.{Reference, Resource}
use Rattle.typed_calls.specs.Commands.{caret_name}
use Rattle.vorgushan_c.specs.Several.{AreTheirs, IsNameAdded, all_there, asked_keys, held_in}
use Rattle.vorgushan_c.specs.declared.several.VgWholeKey.{VgWholeKey}

-- the names of the references so far, of which what is left are the others
pub record IsSoFar (held : List (Option Reference)) (i : ℕ) (names : List Resource) : Type 0 where
  pub references : List Reference
  pub named : names ≡ map caret_name references
  pub left : all_there held ≡ option_map (λ rs. references ++ rs) (all_there (drop i held))

pub begun : (held : List (Option Reference)) → IsSoFar held 0 []
begun held = record { references = []; named = refl; left = sym (option_map_id (all_there held)) }

twice : (rs : List Reference) (r : Reference) (o : Option (List Reference)) → option_map (λ xs. rs ++ xs) (option_map (λ xs. r ∷ xs) o) ≡ option_map (λ xs. (rs ++ r ∷ []) ++ xs) o
twice rs r None = refl
twice rs r (Some xs) = ap (λ (l : List Reference). Some l) (sym (append_assoc rs (r ∷ []) xs))

goes_on : (held : List (Option Reference)) (i : ℕ) (o : Option Reference) → i < length held → get_or held i None ≡ o → all_there (drop i held) ≡ all_there (o ∷ drop (i + 1) held)
goes_on held i o low is = at_drop_more all_there held i None low ∙ ap (λ (x : Option Reference). all_there (x ∷ drop (i + 1) held)) is

inside_at : (keys : List VgWholeKey) (i : ℕ) (d : VgWholeKey) → i < length keys → get_or (held_in keys) i None ≡ (get_or keys i d).key.inside
inside_at keys i d low = get_or-map (λ (k : VgWholeKey). k.key.inside) keys i d None low

some_held : (keys : List VgWholeKey) (i : ℕ) → i < length keys → i < length (held_in keys)
some_held keys i low = subst (λ (n : ℕ). i < n) (sym (length-map keys (λ k. k.key.inside))) low

-- where as much is held there are as many keys
pub low_too : (keys others : List VgWholeKey) (i : ℕ) → held_in keys ≡ held_in others → i < length others → i < length keys
low_too keys others i held low =
    let same : length keys ≡ length others = sym (length-map keys (λ (k : VgWholeKey). k.key.inside)) ∙ ap (λ (l : List (Option Reference)). length l) held ∙ length-map others (λ (k : VgWholeKey). k.key.inside) in
    subst (λ (n : ℕ). i < n) (sym same) low

-- a key that holds what it held can be put back
pub one_stays : (keys : List VgWholeKey) (i : ℕ) (d y : VgWholeKey) → y.key.inside ≡ (get_or keys i d).key.inside → held_in (set keys i y) ≡ held_in keys
one_stays keys i d y same = map-set_same (λ (k : VgWholeKey). k.key.inside) keys i y d same

pub one_more : (keys : List VgWholeKey) (i : ℕ) (d y : VgWholeKey) (is_there : Bool) (names new : List Resource) → i < length keys → IsSoFar (held_in keys) i names → y.key.inside ≡ (get_or keys i d).key.inside
    → IsNameAdded (get_or keys i d).key.inside is_there names new → is_there ≡ true → IsSoFar (held_in (set keys i y)) (i + 1) new
one_more keys i d y is_there names new low kept same added there = subst (λ (held : List (Option Reference)). IsSoFar held (i + 1) new) (sym (one_stays keys i d y same)) (at (get_or keys i d).key.inside (inside_at keys i d low) added)
  where
    at : (o : Option Reference) → get_or (held_in keys) i None ≡ o → IsNameAdded o is_there names new → IsSoFar (held_in keys) (i + 1) new
    at None is none = let wrong : true ≡ false = sym there ∙ none.0 in absurd (cc)
    at (Some r) is one = record {
      references = kept.references ++ r ∷ [];
      named = one.1 ∙ ap (λ (ns : List Resource). ns ++ caret_name r ∷ []) kept.named ∙ sym (map-append caret_name kept.references (r ∷ []));
      left = kept.left ∙ ap (option_map (λ rs. kept.references ++ rs)) (goes_on (held_in keys) i (Some r) (some_held keys i low) is)
          ∙ twice kept.references r (all_there (drop (i + 1) (held_in keys)));
    }

-- where one isn't there, not all are
pub one_lacks : (keys : List VgWholeKey) (i : ℕ) (d : VgWholeKey) (is_there : Bool) (names new : List Resource) → i < length keys → IsSoFar (held_in keys) i names → IsNameAdded (get_or keys i d).key.inside is_there names new
    → is_there ≡ false → asked_keys (held_in keys) ≡ None
one_lacks keys i d is_there names new low kept added lacks = at (get_or keys i d).key.inside (inside_at keys i d low) added
  where
    none : (held : List (Option Reference)) → all_there held ≡ None → asked_keys held ≡ None
    none [] is = refl
    none (h ∷ held) is = is

    at : (o : Option Reference) → get_or (held_in keys) i None ≡ o → IsNameAdded o is_there names new → asked_keys (held_in keys) ≡ None
    at None is added = none (held_in keys) (kept.left ∙ ap (option_map (λ rs. kept.references ++ rs)) (goes_on (held_in keys) i None (some_held keys i low) is))
    at (Some r) is one = let wrong : true ≡ false = sym one.0 ∙ lacks in absurd (cc)

append_none : (rs : List Reference) → rs ++ [] ≡ rs
append_none [] = refl
append_none (r ∷ rs) = ap (λ (l : List Reference). r ∷ l) (append_none rs)

all_so_far : (keys : List VgWholeKey) (i : ℕ) (names : List Resource) (kept : IsSoFar (held_in keys) i names) → length keys ≤ i → all_there (held_in keys) ≡ Some kept.references
all_so_far keys i names kept over =
    kept.left ∙ ap (option_map (λ rs. kept.references ++ rs)) (at_drop_all all_there (held_in keys) i (subst (λ (n : ℕ). n ≤ i) (sym (length-map keys (λ k. k.key.inside))) over))
    ∙ ap (λ (l : List Reference). Some l) (append_none kept.references)

no_names : (rs : List Reference) → [] ≡ map caret_name rs → rs ≡ []
no_names [] is = refl
no_names (r ∷ rs) is = absurd (cc)

none_asked : (held : List (Option Reference)) → all_there held ≡ Some [] → asked_keys held ≡ None
none_asked [] is = refl
none_asked (None ∷ held) is = absurd (cc)
none_asked (Some r ∷ held) is = at (all_there held) is
  where
    at : (o : Option (List Reference)) → option_map (λ rs. r ∷ rs) o ≡ Some [] → option_map (λ rs. r ∷ rs) o ≡ None
    at None is = refl
    at (Some rs) is = absurd (cc)

-- all were read, and there was none
pub none_read : (keys : List VgWholeKey) (i : ℕ) (names : List Resource) → IsSoFar (held_in keys) i names → length keys ≤ i → names ≡ [] → asked_keys (held_in keys) ≡ None
none_read keys i names kept over none =
    none_asked (held_in keys) (all_so_far keys i names kept over ∙ ap (λ (l : List Reference). Some l) (no_names kept.references (sym none ∙ kept.named)))

asked_there : (held : List (Option Reference)) (rs : List Reference) (names : List Resource) → all_there held ≡ Some rs → names ≡ map caret_name rs → (names ≡ [] → ⊥) → AreTheirs (asked_keys held) names
asked_there [] rs names is named some = absurd (some (named ∙ ap (map caret_name) (none_there rs is)))
  where
    none_there : (rs : List Reference) → Some [] ≡ Some rs → rs ≡ []
    none_there rs is = cc
asked_there (h ∷ held) rs names is named some = subst (λ (o : Option (List Reference)). AreTheirs o names) (sym is) named

-- all were read
pub all_read : (keys : List VgWholeKey) (i : ℕ) (names : List Resource) → IsSoFar (held_in keys) i names → length keys ≤ i → (names ≡ [] → ⊥) → AreTheirs (asked_keys (held_in keys)) names
all_read keys i names kept over some = asked_there (held_in keys) kept.references names (all_so_far keys i names kept over) kept.named some
