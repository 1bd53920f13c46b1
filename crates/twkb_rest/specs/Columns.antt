-- A stream of linestrings as a column of a CSV (profile).
use Rattle.std.specs.Prelude.{ℕ, ℤ, ◌≡◌, ◌≢◌, ◌⊎◌, List, [], ◌∷◌, ◌++◌, length, map, ⊤, Option, Some, None, false}
use Rattle.std.specs.List.{AllByRecursion}
use Rattle.twkb_tree.specs.Tree.{Tree, simple, collection, flat, precision_of}
use Rattle.twkb_tree.specs.Rows.{kind_in}
use Rattle.twkb_tree.specs.declared.kind.Kind.{Kind}
use Rattle.twkb_tree.specs.declared.kind.Kind.TheVariants.{Linestring, Collection}
use Rattle.twkb_tree.specs.Limits.{Allowance}
use Rattle.twkb_grammar.specs.Items.{Blob, Stream}
use Rattle.twkb_grammar.specs.Written.{canonical_stream}
use Rattle.twkb_grammar.specs.declared.style.Style.{Style}
use Rattle.csv.specs.Reading.{AreRecords}
use Rattle.csv.specs.declared.parser.State.TheVariants.{StartRecord}
use Rattle.twkb_csv.specs.Machine.{config}
use Rattle.twkb_csv.specs.Named.{is_among, is_missing, named}
use Rattle.twkb_csv.specs.declared.column.Column.{Column}
use Rattle.twkb_table.specs.Record.{table}
use Rattle.twkb_convert.specs.Outputs.{PackTo}
use Rattle.twkb_polyline.specs.Polyline.{polyline}
use Rattle.twkb_rest.specs.Written.{Record, records_text}
use Rattle.twkb_rest.specs.declared.fault.LineReason.{LineReason}
use Rattle.twkb_rest.specs.declared.fault.LineReason.TheVariants.{NoLinestring, AnotherPrecision}

-- ==== The blobs that a column can hold.

-- the kind of a geometry
abbrev pub kind_of : Tree → Kind
kind_of (simple p s) = kind_in s
kind_of (collection p ids gs) = Collection

-- a linestring of this precision
abbrev pub IsLine : ℤ → Tree → Type 0
IsLine p g = (kind_of g ≡ Linestring) × (precision_of g ≡ p)

-- linestrings, all of the precision of the first
abbrev pub AreLines : List Tree → Type 0
AreLines [] = ⊤
AreLines (g ∷ gs) = AllByRecursion (IsLine (precision_of g)) (g ∷ gs)

-- the bytes are blobs of linestrings of one precision
abbrev pub LineStream : Allowance → List ℕ → List Tree → Type 0
LineStream l bytes gs = Stream l bytes gs × AreLines gs

-- the precision of the first of these geometries
abbrev pub first_precision : List Tree → Option ℤ
first_precision [] = None
first_precision (g ∷ gs) = Some (precision_of g)

-- ==== The blobs that it can't hold.

-- the geometry is refused for this reason, after a first one of a precision
abbrev pub Refuses : Option ℤ → Tree → LineReason → Type 0
Refuses first g NoLinestring = kind_of g ≢ Linestring
Refuses first g AnotherPrecision = (kind_of g ≡ Linestring) × ((p : ℤ) × (first ≡ Some p) × (precision_of g ≢ p))

-- After the blobs of these linestrings comes, at this offset, a whole blob that is refused for this reason.
pub record RefusesLine (l : Allowance) (bytes : List ℕ) (before : List Tree) (offset : ℕ)
    (why : LineReason) : Type 0 where
  pub front : List ℕ
  pub here : List ℕ
  pub rest : List ℕ
  pub found : Tree
  pub whole : bytes ≡ front ++ (here ++ rest)
  pub blobs : LineStream l front before
  pub place : offset ≡ length front
  pub blob : Blob l here found
  pub refused : Refuses (first_precision before) found why

-- ==== The records of a column, and their text.

-- the record of a geometry: its polyline
abbrev pub line_record : Tree → Record
line_record g = polyline (flat g) ∷ []

-- the records of geometries, below the column's name
abbrev pub column_records : List ℕ → List Tree → List Record
column_records name gs = (name ∷ []) ∷ map line_record gs

-- the text of the column of geometries
abbrev pub column_text : ℕ → List ℕ → List Tree → List ℕ
column_text delimiter name gs = records_text delimiter (column_records name gs)

-- ==== A column that is packed again.

-- the polyline is empty, or is no word for a missing polyline
abbrev pub IsNoWord : Column → Tree → Type 0
IsNoWord column g = (polyline (flat g) ≡ [])
    ⊎ ((is_among column.nulls.now (polyline (flat g)) ≡ false) × (is_missing (polyline (flat g)) ≡ false))

-- Linestrings of a column without ids: of its precision, and with no polyline that is a word for a missing one.
pub record AreOf (column : Column) (gs : List Tree) : Type 0 where
  pub no_ids : column.ids ≡ None
  pub lines : AllByRecursion (IsLine column.precision) gs
  pub words : AllByRecursion (IsNoWord column) gs

-- The text of a column is read as its records, these name the table of its geometries, and that is packed to their
-- canonical stream.
pub record IsPackedAgain (style : Style) (l : Allowance) (column : Column) (gs : List Tree) : Type 0 where
  pub read : AreRecords (config column.delimiter) StartRecord (column_text column.delimiter column.name.now gs)
      (column_records column.name.now gs)
  pub names : named column (column_records column.name.now gs) ≡ table gs
  pub packed : PackTo style l (named column (column_records column.name.now gs)) (canonical_stream style gs)
