-- What the answers of $DATA, $ORDER, $QUERY and $ORDER of names say of a database. The law functions of `laws.rt` prove each.
use Rattle.std.specs.Prelude.{◌≡◌, ℕ, Bool, true, false, not, ◌&&◌, ◌⊎◌, List, [], if◌then◌else◌, Option, MatchOption}
use Rattle.std.specs.declared.cmp.Ordering.TheVariants.{Less}
use Rattle.std.specs.FinMap as finmap
use Rattle.collation.specs.Reference.{Reference, Spot}
use Rattle.collation.specs.Order.{subscript_cmp, ref_cmp, ref_eq}
use Rattle.collation.specs.Database.{Database, is_under}
use Rattle.collation.specs.Levels.{is_below, parent_of, last, below}
use Rattle.collation.specs.Answers.{data_of, order_of, query_of}
use Rattle.collation.specs.Names.{is_name_beyond, name_cmp, name_next}

-- r has a value
abbrev pub HasValue : Database → Reference → Type 0
HasValue m r = finmap.contains_key m r ≡ true

-- a descendant of r has a value
abbrev pub HasDescendant : Database → Reference → Type 0
HasDescendant m r = (x : Reference) × (is_below r x ≡ true) × HasValue m x

-- a descendant of r is what is under r and isn't r
abbrev pub DescendantsAreUnder : Type 0
DescendantsAreUnder = (r x : Reference) → is_below r x ≡ (is_under r x && not (ref_eq r x))

-- $DATA is 1 for a value alone, 10 for descendants alone, 11 for both and 0 for neither
pub record DataTells (m : Database) (r : Reference) : Type 0 where
  pub neither : ¬ (HasValue m r) → ¬ (HasDescendant m r) → data_of r m ≡ 0
  pub value : HasValue m r → ¬ (HasDescendant m r) → data_of r m ≡ 1
  pub descendants : ¬ (HasValue m r) → HasDescendant m r → data_of r m ≡ 10
  pub both : HasValue m r → HasDescendant m r → data_of r m ≡ 11

-- at the place's level, a member stands at or under the subscript s
abbrev pub HasSibling : Spot → Database → List ℕ → Type 0
HasSibling p m s = (x : Reference) × (is_under (below (parent_of p) s) x ≡ true) × HasValue m x

-- in this direction t comes after s
abbrev pub ComesAfter : Bool → List ℕ → List ℕ → Type 0
ComesAfter true s t = subscript_cmp s t ≡ Less
ComesAfter false s t = subscript_cmp t s ≡ Less

-- the subscript t comes after the place's last one; an open place comes before all, and backward after all
abbrev pub IsBeyond : Bool → Spot → List ℕ → Type 0
IsBeyond forward p t = p.is_open ≡ false → ComesAfter forward (last p.reference.subscripts) t

-- t is a sibling beyond the start, and no sibling beyond the start comes before it (backward after it)
pub record IsNearestSibling (forward : Bool) (p : Spot) (m : Database) (t : List ℕ) : Type 0 where
  pub there : HasSibling p m t
  pub beyond : IsBeyond forward p t
  pub none_between : (s : List ℕ) → HasSibling p m s → IsBeyond forward p s → ComesAfter forward s t → ⊥

-- no sibling stands beyond the start
abbrev pub HasNoSibling : Bool → Spot → Database → Type 0
HasNoSibling forward p m = (s : List ℕ) → HasSibling p m s → IsBeyond forward p s → ⊥

-- $ORDER answers the nearest sibling, or the empty string where there is none
abbrev pub OrderTells : Bool → Spot → Database → Type 0
OrderTells forward p m = IsNearestSibling forward p m (order_of forward p m) ⊎ ((order_of forward p m ≡ []) × HasNoSibling forward p m)

-- x comes after the place's reference, or backward before it; backward an open place comes after all under its reference
abbrev pub StandsBeyond : Bool → Spot → Reference → Type 0
StandsBeyond true p x = ref_cmp p.reference x ≡ Less
StandsBeyond false p x = (ref_cmp x p.reference ≡ Less) ⊎ ((p.is_open ≡ true) × (is_under p.reference x ≡ true))

-- x has a value and the place's name, and follows the place
pub record IsFollowing (forward : Bool) (p : Spot) (m : Database) (x : Reference) : Type 0 where
  pub there : HasValue m x
  pub named : x.name ≡ p.reference.name
  pub beyond : StandsBeyond forward p x

-- r follows the place, and none that does stands before it (backward after it)
pub record IsNearestNode (forward : Bool) (p : Spot) (m : Database) (r : Reference) : Type 0 where
  pub found : IsFollowing forward p m r
  pub none_between : (x : Reference) → IsFollowing forward p m x → (if forward then ref_cmp x r else ref_cmp r x) ≡ Less → ⊥

-- $QUERY answers the nearest node that follows the place, or none where there is none
abbrev pub QueryTells : Bool → Spot → Database → Type 0
QueryTells forward p m = MatchOption (query_of forward p m) ((x : Reference) → IsFollowing forward p m x → ⊥) (IsNearestNode forward p m)

-- a node has the name
abbrev pub HasNode : Database → List ℕ → Type 0
HasNode m n = (x : Reference) × (x.name ≡ n) × HasValue m x

-- n comes after the start, and no name of a node that does comes before it (backward after it)
pub record IsNearestName (forward : Bool) (start : Option (List ℕ)) (m : Database) (n : List ℕ) : Type 0 where
  pub there : HasNode m n
  pub beyond : is_name_beyond forward start n ≡ true
  pub none_between : (k : List ℕ) → HasNode m k → is_name_beyond forward start k ≡ true → (if forward then name_cmp k n else name_cmp n k) ≡ Less → ⊥

-- $ORDER of names answers the nearest name that a node has, or none where there is none
abbrev pub NamesTell : Bool → Option (List ℕ) → Database → Type 0
NamesTell forward start m = MatchOption (name_next forward start m) ((n : List ℕ) → HasNode m n → is_name_beyond forward start n ≡ true → ⊥) (IsNearestName forward start m)
