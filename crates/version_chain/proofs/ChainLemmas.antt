-- A chain is its newest version and the chain below.
use Rattle.std.proofs.Common.{◌≡◌, ℕ, ◌+◌, ◌<◌, ◌≤◌, List, [], ◌∷◌, length, Some, refl, sym, ap, ◌∙◌, subst, arith}
use Rattle.std.specs.Prelude.{Option}
use Rattle.std.specs.Prelude.{leb, cond, false}
use Rattle.std.specs.Borrow.{Bor}
use Rattle.version_chain.specs.Slots.{lent_held}
use denote.RawPtr.{Ptr}
use Rattle.cell_pool.specs.declared.cell.Cell.{Cell}
use Rattle.version_chain.specs.Versions.{Entry, is_one_value}
use Rattle.version_chain.specs.laws.Versions.{leb_yes, leb_no}
use Rattle.version_chain.specs.Cut.{cut_of, if_value, newest_value}
use Rattle.version_chain.specs.Links.{versions, entries_of, entry_step, newer_of, held_versions, from_version, pages, pages_behind, AllOf, back_onto, AllAfter, FromAtMost}
use Rattle.version_chain.specs.declared.version.Held.{Held}
use Rattle.version_chain.specs.declared.version.Held.TheVariants.{Absence, Value, AbsenceOver, ValueOver}
use Rattle.version_chain.specs.declared.version.Version.{Version}
use Rattle.version_chain.specs.declared.version.Version.TheFolds.{fold_out-Version}

pub all_at : (qs rs ps : List Ptr) → qs ≡ rs → AllOf rs ps → AllOf qs ps
all_at qs rs ps e h = subst (λ l. AllOf l ps) (sym e) h

module _ {V : Type 0} where
  -- the first version of a link, and the chain after it
  pub versions_next : (o : Option (Cell (Version V))) (c : Cell (Version V)) (v : Version V) (k : Entry V) (older : Option (Cell (Version V))) → o ≡ Some c → v ≡ c.value
      → from_version v ≡ k ∷ versions older → versions o ≡ k ∷ versions older
  versions_next o c v k older e same is = ap versions e ∙ sym (ap from_version same) ∙ is

  -- one version goes from the front of the link o to the front of the link t
  module _ (o : Option (Cell (Version V))) (c : Cell (Version V)) (v w : Version V) (t older : Option (Cell (Version V))) (m : Cell (Version V)) (k : Entry V) (e : o ≡ Some c) (same : v ≡ c.value)
      (made : m.value ≡ w) (is : from_version v ≡ k ∷ versions older) (turned : from_version w ≡ k ∷ versions t) where
    front : versions (Some m) ≡ k ∷ versions t
    front = ap from_version made ∙ turned

    pub moved_back : (ws : List (Entry V)) → back_onto (versions o) (versions t) ≡ ws → back_onto (versions older) (versions (Some m)) ≡ ws
    moved_back ws h = ap (back_onto (versions older)) front ∙ sym (ap (λ l. back_onto l (versions t)) (versions_next o c v k older e same is)) ∙ h

    pub moved_off : (ws : List (Entry V)) → back_onto (versions t) (versions o) ≡ ws → back_onto (versions (Some m)) (versions older) ≡ ws
    moved_off ws h = ap (λ l. back_onto l (versions older)) front ∙ sym (ap (back_onto (versions t)) (versions_next o c v k older e same is)) ∙ h

    pub after_off : (h : ℕ) → h < k.0 → AllAfter h (versions t) → AllAfter h (versions (Some m))
    after_off h late rest = subst (AllAfter h) (sym front) (late, rest)

    pub theirs_moved : (p : Ptr) → m.page ≡ p → p ≡ c.page → pages_behind v ≡ pages older → pages_behind w ≡ pages t
        → (qs : List Ptr) → AllOf qs (pages o) → AllOf qs (pages t) → AllOf qs (pages older) × AllOf qs (pages (Some m))
    theirs_moved p mp pc was now qs a b =
        let both = subst (AllOf qs) (ap pages e ∙ ap (λ l. c.page ∷ l) (sym (ap pages_behind same) ∙ was)) a in
        (both.1, subst (AllOf qs) (sym (ap (λ q. q ∷ pages_behind m.value) (mp ∙ pc) ∙ ap (λ l. c.page ∷ l) (ap pages_behind made ∙ now))) (both.0, b))

  pub from_here : (o : Option (Cell (Version V))) (c : Cell (Version V)) (qs : List Ptr) → o ≡ Some c → AllOf qs (pages o) → AllOf qs (pages (Some c))
  from_here o c qs e h = subst (λ l. AllOf qs (pages l)) e h

  -- two readings of one version begin with one entry
  pub same_front : (u v : Version V) (k l : Entry V) (ks ls : List (Entry V)) → u ≡ v → from_version u ≡ k ∷ ks → from_version v ≡ l ∷ ls → k ≡ l
  same_front u v k l ks ls e a b = let both : k ∷ ks ≡ l ∷ ls = sym a ∙ ap from_version e ∙ b in cc

  over_held : {L : Type 0} (s : ℕ) (x : V) (below : L → ℕ × List (Entry V)) (h : Held V L) → is_one_value ((s, Some x) ∷ entries_of below h) ≡ false
  over_held s x below (Absence stamp) = refl
  over_held s x below (Value stamp value) = refl
  over_held s x below (AbsenceOver older) = refl
  over_held s x below (ValueOver value older) = refl

  -- a version over another isn't the only one
  pub over_version : (s : ℕ) (x : V) (v : Version V) → is_one_value ((s, Some x) ∷ from_version v) ≡ false
  over_version s x v = ap (λ (p : ℕ × List (Entry V)). is_one_value ((s, Some x) ∷ p.1)) (fold_out-Version V (ℕ × List (Entry V)) entry_step v) ∙ over_held s x (λ c. c.value) _

  -- the same of one that is lent
  pub over_lent : (h : Held (Bor V) (Bor (Cell (Version V)))) (value : Bor V) (older : Bor (Cell (Version V))) → h ≡ ValueOver value older → false ≡ is_one_value (held_versions (lent_held h))
  over_lent h value older e = sym (ap (λ k. is_one_value (held_versions (lent_held k))) e ∙ over_version (newer_of older.now.value) value.now older.now.value)

  cut_skip : (h : ℕ) (k : Entry V) (rs : List (Entry V)) → h < k.0 → cut_of h (k ∷ rs) ≡ k ∷ cut_of h rs
  cut_skip h k rs lt = ap (λ b. cond b (if_value k k.1) (k ∷ cut_of h rs)) (leb_no k.0 h (leb k.0 h) refl lt)

  -- a cut passes over the versions after the horizon
  pub cut_past : (h : ℕ) (ks rs : List (Entry V)) → AllAfter h ks → cut_of h (back_onto ks rs) ≡ back_onto ks (cut_of h rs)
  cut_past h [] rs a = refl
  cut_past h (k ∷ ks) rs a = cut_past h ks (k ∷ rs) a.1 ∙ ap (back_onto ks) (cut_skip h k rs a.0)

  pub length-back_onto : (ks rs : List (Entry V)) → length (back_onto ks rs) ≡ length ks + length rs
  length-back_onto [] rs = omega arith
  length-back_onto (k ∷ ks) rs = let e = length-back_onto ks (k ∷ rs) in omega (arith, e)

  -- what is left from the first version on that is not after the horizon
  pub cut_here : (h : ℕ) (v : Entry V) (vs : List (Entry V)) → v.0 ≤ h → cut_of h (v ∷ vs) ≡ if_value v v.1
  cut_here h v vs le = ap (λ b. cond b (if_value v v.1) (v ∷ cut_of h vs)) (leb_yes v.0 h le)

  at_first : (h : ℕ) (rs : List (Entry V)) → FromAtMost h rs → cut_of h rs ≡ newest_value rs
  at_first h [] low = refl
  at_first h (v ∷ vs) low = cut_here h v vs low

  -- a cut, from its three steps
  pub cut_whole : (h : ℕ) (ks rs vs ls : List (Entry V)) → back_onto ks rs ≡ vs → AllAfter h ks → FromAtMost h rs → ls ≡ newest_value rs → back_onto ks ls ≡ cut_of h vs
  cut_whole h ks rs vs ls e a low first = ap (back_onto ks) (first ∙ sym (at_first h rs low)) ∙ sym (cut_past h ks rs a) ∙ ap (cut_of h) e
