-- A database as text. Source: docs/FORMATS.md, "Written literals, references, replies, listing".
use Rattle.std.specs.Prelude.{◌≡◌, ℕ, List, [], ◌∷◌, ◌++◌, Option}
use Rattle.std.specs.List.{flat_map}
use Rattle.std.specs.FinMap as finmap
use Rattle.collation.specs.Bytes as byte
use Rattle.collation.specs.Reference.{Reference}
use Rattle.collation.specs.Database.{Database}
use Rattle.m_text.specs.Written.{literal_text, reference_text}
use Rattle.listing.specs.Bytes.{WritesFront}

-- a line of a node: its reference, '=', its value as a literal, byte 10
abbrev pub node_text : Reference × List ℕ → List ℕ
node_text node = reference_text node.0 ++ (byte.equals_sign ∷ (literal_text node.1 ++ byte.line_feed ∷ []))

-- a line for each node, in the order of their references
abbrev pub listing_text : Database → List ℕ
listing_text m = flat_map node_text (finmap.entries m)

-- the whole lines of some nodes, in order from the first
pub record IsListedFront (m : Database) (text : List ℕ) : Type 0 where
  pub done : List (Reference × List ℕ)
  pub left : List (Reference × List ℕ)
  pub parts : done ++ left ≡ finmap.entries m
  pub lines : text ≡ flat_map node_text done

-- a text and such lines after it have been written in part, and the rest is gathered still
pub record HasListed (old new : Option (List ℕ)) (front : List ℕ) (m : Database) (gathered : List ℕ) : Type 0 where
  pub text : List ℕ
  pub listed : IsListedFront m text
  pub passes : WritesFront old new (front ++ text) gathered
