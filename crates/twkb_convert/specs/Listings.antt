-- The text that is written for the blobs of a stream.
use Rattle.std.specs.Prelude.{ℕ, ◌≡◌, ◌≤◌, ◌+◌, ◌/◌, ◌%◌, List, length, [], ◌∷◌, ◌++◌, decimal, flat_map, true, ◌⊎◌}
use Rattle.std.specs.Prelude.{map}
use Rattle.std.specs.Fmt.{digit_glyph, signed_decimal}
use Rattle.std.specs.Int.{cast_unsigned, to_le_bytes, w8, w32, w64}
use Rattle.twkb_tree.specs.Kind.{word_of}
use Rattle.twkb_grammar.specs.declared.span.Span.{Span}
use Rattle.twkb_tree.specs.Tree.{Tree}
use Rattle.twkb_tree.specs.Limits.{Allowance}
use Rattle.twkb_grammar.specs.Items.{Blob}
use Rattle.twkb_grammar.specs.Roles.{type_of}
use Rattle.twkb_grammar.specs.Fault.{Reason, StreamFault}
use Rattle.twkb_grammar.specs.Noting.{spans_of_blob}
use Rattle.twkb_blob.specs.declared.spans.Located.{Located}
use Rattle.twkb_table.specs.Record.{header}
use Rattle.twkb_table.specs.Text.{csvtext}
use Rattle.twkb_geojson.specs.Value.{line_of}
use Rattle.twkb_convert.specs.Outputs.{rows_text}

-- ==== The line of a TWKB header (profile).

-- a byte as two upper-case hexadecimal digits
abbrev pub hex_of : ℕ → List ℕ
hex_of byte = digit_glyph true (byte / 16) ∷ digit_glyph true (byte % 16) ∷ []

-- words with one space between them
abbrev pub spaced : List (List ℕ) → List ℕ
spaced [] = []
spaced (word ∷ []) = word
spaced (word ∷ next ∷ words) = (word ++ 32 ∷ []) ++ spaced (next ∷ words)

-- the words of a span: level, offset, kind, precision, metadata byte, length and points
abbrev pub span_words : Span → List (List ℕ)
span_words s = decimal s.level ∷ decimal s.offset ∷ word_of s.kind ∷ signed_decimal s.precision
    ∷ hex_of s.metadata ∷ decimal s.length ∷ decimal s.points ∷ []

-- the line of a span, ended by LF
abbrev pub span_line : Span → List ℕ
span_line s = spaced (span_words s) ++ 10 ∷ []

-- a line for each span
abbrev pub span_lines : List Span → List ℕ
span_lines spans = flat_map span_line spans

-- ==== A TWKB header in C's layout (profile).

-- the 32 bytes of a span: offset, length and points, of eight bytes each, and level, of four, the
-- lowest byte first; then the number of its type, its precision as an `i8`, its metadata byte, and 0
abbrev pub span_bytes : Span → List ℕ
span_bytes s = to_le_bytes w64 s.offset ++ (to_le_bytes w64 s.length ++ (to_le_bytes w64 s.points
    ++ (to_le_bytes w32 s.level ++ type_of s.kind ∷ cast_unsigned w8 s.precision ∷ s.metadata ∷ 0 ∷ [])))

-- the bytes of spans, one after another
abbrev pub spans_bytes : List Span → List ℕ
spans_bytes spans = flat_map span_bytes spans

-- ==== Bytes that were appended.

-- These bytes, at most so many, were appended.
pub record Adds (most : ℕ) (old bytes new : List ℕ) : Type 0 where
  pub appended : new ≡ old ++ bytes
  pub few : length new ≤ length old + most

-- ==== Blobs of a stream, with the spans that their bytes determine.

-- The bytes are a blob of this geometry, whose items have these spans at this offset of a stream.
pub record TellsSpans (l : Allowance) (offset : ℕ) (bytes : List ℕ) (b : Located) : Type 0 where
  pub blob : Blob l bytes b.geometry
  pub told : b.spans ≡ spans_of_blob offset blob

-- From this offset of a stream on, the bytes are these blobs, one after another, and nothing else.
abbrev pub LocatedStream : Allowance → (offset : ℕ) → List ℕ → List Located → Type 0
LocatedStream l offset bytes [] = bytes ≡ []
LocatedStream l offset bytes (b ∷ bs) = (front rest : List ℕ) × (bytes ≡ front ++ rest)
    × TellsSpans l offset front b × LocatedStream l (offset + length front) rest bs

-- the geometries of the blobs
abbrev pub geometries_of : List Located → List Tree
geometries_of bs = map (λ (b : Located). b.geometry) bs

-- the lines of one blob: one for each of its TWKB headers, in order (profile)
abbrev pub lines_of : Located → List ℕ
lines_of b = span_lines b.spans

-- the lines of blobs, one blob after another (profile)
abbrev pub lines_text : List Located → List ℕ
lines_text bs = flat_map lines_of bs

-- the headers of one blob in C's layout, in order (profile)
abbrev pub headers_of : Located → List ℕ
headers_of b = spans_bytes b.spans

-- the headers of blobs in C's layout, one blob after another (profile)
abbrev pub headers_bytes : List Located → List ℕ
headers_bytes bs = flat_map headers_of bs

-- The bytes begin with these blobs, the first of which is at a stream's start.
abbrev pub BeginLocated : Allowance → List ℕ → List Located → Type 0
BeginLocated l bytes bs = (front rest : List ℕ) × (bytes ≡ front ++ rest) × LocatedStream l 0 front bs

-- A stream is listed by this text: that of its blobs or, if an item is refused, of the blobs before
-- that item's (profile).
abbrev pub ListTo : (List Located → List ℕ) → Allowance → List ℕ → List ℕ → Type 0
ListTo text_of l bytes text =
    ((bs : List Located) × LocatedStream l 0 bytes bs × (text ≡ text_of bs))
    ⊎ ((offset : ℕ) × (reason : Reason) × (bs : List Located)
    × StreamFault l bytes (geometries_of bs) offset reason × BeginLocated l bytes bs × (text ≡ text_of bs))

-- a stream is shown by this text: the lines of its blobs
abbrev pub ShowTo : Allowance → List ℕ → List ℕ → Type 0
ShowTo = ListTo lines_text

-- ==== The text that is written for the blobs of a stream.

-- The parts of the text of a stream: what is written before the first blob, and for each blob.
pub record Layout : Type 0 where
  pub first : List ℕ
  pub text_of : Located → List ℕ

-- the text of blobs, one after another
abbrev pub blobs_text : Layout → List Located → List ℕ
blobs_text layout bs = flat_map layout.text_of bs

-- the text of a stream
abbrev pub listing_text : Layout → List Located → List ℕ
listing_text layout bs = layout.first ++ blobs_text layout bs

-- a table: the header's line, then the rows of each blob's geometry
abbrev pub table_layout : Layout
table_layout = record { first = csvtext (header ∷ []); text_of = λ b. rows_text (b.geometry ∷ []) }

-- the GeoJSON of each blob's geometry in a line, and nothing before them
abbrev pub geojson_layout : Layout
geojson_layout = record { first = []; text_of = λ b. line_of b.geometry }

-- what the spans of each blob are written as, and nothing before them
abbrev pub spans_layout : (List Span → List ℕ) → Layout
spans_layout text_of = record { first = []; text_of = λ b. text_of b.spans }
