-- What is reported of each geometry of a blob (profile), and a reader that notes it while it takes items.
use Rattle.std.specs.Prelude.{◌≡◌, ℕ, ℤ, suc, ◌+◌, Bool, true, false, List, [], ◌∷◌, ◌++◌, length, ⊤, zero, ◌-◌, ◌/◌}
use Rattle.std.specs.Prelude.{◌%◌}
use Rattle.twkb_tree.specs.declared.kind.Kind.{Kind}
use Rattle.twkb_tree.specs.declared.kind.Kind.TheVariants as kind
use Rattle.twkb_tree.specs.Tree.{Simple, point, line, polygon, multi_point, multi_line, multi_polygon, Tree, simple}
use Rattle.twkb_tree.specs.Tree.{collection, Trees, end, ◌▷◌, count, flat, precision_of}
use Rattle.twkb_tree.specs.Limits.{Allowance}
use Rattle.twkb_grammar.specs.Bits.{bit}
use Rattle.twkb_grammar.specs.Roles.{Header, Metadata, Count, Geometries, Item, AreFields, join, item, Role, End}
use Rattle.twkb_grammar.specs.Items.{header_byte, id_fields, Flags, Framed, Follow, BodyAt, Items, ItemsOfAll, Blob}
use Rattle.twkb_grammar.specs.declared.span.Span.{Span}
use Rattle.twkb_num.specs.Spelling.{unzigzag_of}
use Rattle.twkb_grammar.specs.Machine as machine
use Rattle.twkb_grammar.specs.Machine.{SimpleKind, CollectionKind, PointForm, LineForm, PolygonForm, MultiPointForm}
use Rattle.twkb_grammar.specs.Machine.{MultiLineForm, MultiPolygonForm, kind_at, Sums, nothing, added, Stack, Phase}
use Rattle.twkb_grammar.specs.Machine.{AtHeader, AtMetadata, AtOption}
use Rattle.twkb_grammar.specs.Reading.{Stands, frame_count}

-- ==== What is reported of each geometry of a blob: its place, what its header says, and what it
-- contains (profile).

-- The kind of a simple shape.
abbrev pub kind_of_shape : Simple → Kind
kind_of_shape (point o) = kind.Point
kind_of_shape (line ps) = kind.Linestring
kind_of_shape (polygon rings) = kind.Polygon
kind_of_shape (multi_point ids ps) = kind.MultiPoint
kind_of_shape (multi_line ids lines) = kind.MultiLinestring
kind_of_shape (multi_polygon ids areas) = kind.MultiPolygon

-- The kind of a geometry.
abbrev pub kind_of_geometry : Tree → Kind
kind_of_geometry (simple p s) = kind_of_shape s
kind_of_geometry (collection p ids gs) = kind.Collection

-- The span of a geometry inside `level` collections, with these items and this metadata byte,
-- whose type byte is at this offset: it is as long as its items, and has its members' points too.
abbrev pub span_of : (level offset : ℕ) → Tree → (meta : ℕ) → List Item → Span
span_of level offset g meta is = record {
  level = level;
  offset = offset;
  kind = kind_of_geometry g;
  precision = precision_of g;
  metadata = meta;
  length = length (join is);
  points = length (flat g);
}

-- The items of a geometry before its body.
abbrev pub before_body : {kind : ℕ} {precision : ℤ} {own : Flags} {Body : List Item → Type 0}
    {is : List Item} → Framed kind precision own Body is → List Item
before_body {kind} {precision} f = item Header (header_byte kind precision) ∷ item (Metadata kind)
    f.meta ∷ f.extended ++ (f.size ++ f.box)

-- The spans of members that come last in a body, if there is a body.
abbrev pub behind : (First Second : List Item → Type 0) → ℕ
    → ((offset : ℕ) (is : List Item) → Second is → List Span) → (bare : Bool) (body : List Item)
    → BodyAt bare (Follow First Second) body → List Span
behind First Second offset spans true body b = []
behind First Second offset spans false body b = spans (offset + length (join b.front)) b.rest b.second

-- The spans of a geometry with these items: its own, then those of its members, each after the
-- bytes of the items before it.
abbrev mutual
  pub spans : (level offset : ℕ) (g : Tree) (is : List Item) → Items level g is → List Span
  spans level offset (simple p s) is f = span_of level offset (simple p s) f.meta is ∷ []
  spans level offset (collection p ids gs) is f =
      span_of level offset (collection p ids gs) f.meta is
      ∷ behind (AreFields ((Count (Geometries level), count gs) ∷ id_fields ids))
      (ItemsOfAll (suc level) gs) (offset + length (join (before_body f)))
      (λ o js h. spans_of_all (suc level) o gs js h) (bit f.meta 4) f.body f.body_is

  -- The spans of members, one member after another.
  pub spans_of_all : (level offset : ℕ) (gs : Trees) (is : List Item) → ItemsOfAll level gs is → List Span
  spans_of_all level offset end is h = []
  spans_of_all level offset (g ▷ gs) is h = spans level offset g h.front h.first ++ spans_of_all
      level (offset + length (join h.front)) gs h.rest h.second

-- The spans of a blob that begins at this offset of a stream.
abbrev pub spans_of_blob : {limits : Allowance} {bytes : List ℕ} {g : Tree} → (offset : ℕ)
    → Blob limits bytes g → List Span
spans_of_blob {g = g} offset b = spans 0 offset g b.items b.are_items

-- The number of geometries in a geometry: itself and its members.
abbrev mutual
  pub geometries : Tree → ℕ
  geometries (simple p s) = 1
  geometries (collection p ids gs) = suc (geometries_of_all gs)

  -- The number of geometries in some members.
  pub geometries_of_all : Trees → ℕ
  geometries_of_all end = 0
  geometries_of_all (g ▷ gs) = geometries g + geometries_of_all gs

-- The first span is that of the whole blob: at level 0, from its start to its end.
pub record CoversBlob (offset : ℕ) (bytes : List ℕ) (g : Tree) (ss : List Span) : Type 0 where
  pub meta : ℕ
  pub more : List Span
  pub first : ss ≡ record {
    level = 0;
    offset = offset;
    kind = kind_of_geometry g;
    precision = precision_of g;
    metadata = meta;
    length = length bytes;
    points = length (flat g);
  }
      ∷ more

-- A span in a stream that has this many more bytes before it.
abbrev pub moved_span : ℕ → Span → Span
moved_span n s = record s { offset = n + s.offset }

-- ==== A reader that notes the spans of a blob while it takes its items. It is no part of the
-- format: code is proved against it, and the law `noting` relates it to the spans of blobs.

-- The kind of a type.
abbrev pub shown : machine.Kind → Kind
shown (SimpleKind PointForm) = kind.Point
shown (SimpleKind LineForm) = kind.Linestring
shown (SimpleKind PolygonForm) = kind.Polygon
shown (SimpleKind MultiPointForm) = kind.MultiPoint
shown (SimpleKind MultiLineForm) = kind.MultiLinestring
shown (SimpleKind MultiPolygonForm) = kind.MultiPolygon
shown CollectionKind = kind.Collection

-- The notes so far: the spans in the order of the headers, and the places in that list of the open
-- geometries, innermost first. Until a geometry ends, its span has no length, and counts the points
-- before the geometry in place of those in it.
pub record Notes : Type 0 where
  pub spans : List Span
  pub begun : List ℕ

-- The notes before anything was noted.
abbrev pub no_notes : Notes
no_notes = record { spans = []; begun = [] }

-- A list with the item at a place changed.
abbrev pub changed_at : {A : Type 0} → ℕ → (A → A) → List A → List A
changed_at n f [] = []
changed_at zero f (x ∷ xs) = f x ∷ xs
changed_at (suc n) f (x ∷ xs) = x ∷ changed_at n f xs

-- The notes after a type byte at this offset, which begins a geometry after `points` points.
abbrev pub note_header : (offset points number : ℕ) → Notes → Notes
note_header offset points number w = record {
  spans = w.spans ++ record {
    level = length w.begun;
    offset = offset;
    kind = shown (kind_at (number % 16));
    precision = unzigzag_of (number / 16);
    metadata = 0;
    length = 0;
    points = points;
  } ∷ [];
  begun = length w.spans ∷ w.begun;
}

-- The spans with that of the innermost geometry changed.
abbrev pub change_inner : (Span → Span) → List Span → List ℕ → List Span
change_inner f ss [] = ss
change_inner f ss (i ∷ is) = changed_at i f ss

-- The notes after the metadata byte of the innermost geometry.
abbrev pub note_metadata : ℕ → Notes → Notes
note_metadata number w = record {
  spans = change_inner (λ s. record s { metadata = number }) w.spans
      w.begun;
  begun = w.begun;
}

-- The list without its first item.
abbrev pub without_first : List ℕ → List ℕ
without_first [] = []
without_first (i ∷ is) = is

-- The notes after the end of the innermost geometry, at this offset and after `points` points in
-- all.
abbrev pub note_end : (offset points : ℕ) → Notes → Notes
note_end offset points w =
    record {
      spans = change_inner (λ s. record s {
        length = offset - s.offset;
        points = points - s.points;
      }) w.spans w.begun;
      begun = without_first w.begun;
    }

-- The items of this role are not noted.
abbrev pub IsQuiet : Role → Type 0
IsQuiet Header = ⊥
IsQuiet (Metadata kind) = ⊥
IsQuiet (End declared came) = ⊥
IsQuiet _ = ⊤

-- The notes after one more item of a blob that begins at offset `start`; the earlier items have
-- these sums.
abbrev pub noted_by : (start : ℕ) → Sums → Role → ℕ → Notes → Notes
noted_by start e Header n w = note_header (start + e.bytes) e.points n w
noted_by start e (Metadata kind) n w = note_metadata n w
noted_by start e (End declared came) n w = note_end (start + e.bytes) e.points w
noted_by start e _ n w = w

-- The notes after some items.
abbrev pub noted : (start : ℕ) → Sums → Notes → List Item → Notes
noted start e w [] = w
noted start e w (i ∷ is) = noted start (added e i) (noted_by start e i.role i.number w) is

-- The notes after the next byte, which is noted at once if it is a type byte or a metadata byte.
abbrev pub note_byte : Phase → (offset points byte : ℕ) → Notes → Notes
note_byte AtHeader offset points byte w = note_header offset points byte w
note_byte (AtMetadata k p) offset points byte w = note_metadata byte w
note_byte _ offset points byte w = w

-- The notes after the ends of this many geometries at one place.
abbrev pub note_ends : ℕ → (offset points : ℕ) → Notes → Notes
note_ends zero offset points w = w
note_ends (suc n) offset points w = note_end offset points (note_ends n offset points w)

-- The notes after ends of geometries that leave `left` of them open.
abbrev pub note_ends_to : (left offset points : ℕ) → Notes → Notes
note_ends_to left offset points w = note_ends (length w.begun - left) offset points w

-- The optional part expected next, if one is, is neither a header nor an end.
abbrev pub IsCalm : Phase → Type 0
IsCalm (AtOption k h r rs) = IsQuiet r
IsCalm _ = ⊤

-- The notes of a reader in this state.
abbrev pub notes_of : {limits : Allowance} {bytes held : List ℕ} {gs : List Tree} {e : Sums}
    {st : Stack} → (start : ℕ) → Stands limits bytes gs e st held → Notes
notes_of start s = noted start nothing no_notes s.reached.items

-- The notes in this state after this byte, which is noted at once if it is a type byte or a
-- metadata byte.
abbrev pub notes_with : {limits : Allowance} {bytes held : List ℕ} {gs : List Tree} {e : Sums}
    {st : Stack} → (start byte : ℕ) → Stands limits bytes gs e st held → Notes
notes_with {e = e} {st = st} start byte s = note_byte st.1 (start + e.bytes) e.points byte (notes_of start s)

-- After a byte with which the blob goes on, the notes are those of the byte and of the ends that
-- come with it.
abbrev pub NotesGoOn : {limits : Allowance} {bytes held : List ℕ} {e : Sums} {st : Stack}
    → Stands limits bytes [] e st held → Type 0
NotesGoOn {limits} {bytes} {st = st} s = (start byte : ℕ) (f : Sums) (su : Stack) (kept : List ℕ)
    (t : Stands limits (bytes ++ byte ∷ []) [] f su kept)
    → IsCalm st.1 → notes_of start t ≡ note_ends_to (frame_count su) (start + f.bytes) f.points
    (notes_with start byte s)

-- After the last byte of the blob, the notes are those of the byte and of the ends of all open
-- geometries, and they are the spans of the blob.
abbrev pub NotesEnd : {limits : Allowance} {bytes held : List ℕ} {e : Sums} {st : Stack}
    → Stands limits bytes [] e st held → Type 0
NotesEnd {limits} {bytes} {st = st} s = (start byte : ℕ) (g : Tree) (b : Blob limits (bytes ++ byte ∷ []) g)
    → IsCalm st.1 → spans_of_blob start b ≡ (note_ends_to 0 (start + length (bytes ++ byte ∷ []))
    (length (flat g)) (notes_with start byte s)).spans
