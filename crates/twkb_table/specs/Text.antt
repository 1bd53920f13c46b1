-- The text of rows as records whose fields need no quotes (RFC 4180).
use Rattle.std.specs.Prelude.{ℕ, List, [], ◌∷◌, ◌++◌, flat_map, ◌≡◌, map, false, ⊤, decimal}
use Rattle.twkb_table.specs.Record.{Record, record_of, header}
use Rattle.twkb_tree.specs.Rows.{Row}
use Rattle.std.specs.Global.{Vec}
use Rattle.csv.specs.Writing.{default_writer, fields_written, has_written, needs_quotes, writer_pending, writer_setup}
use Rattle.csv.specs.Writing.{writer_under}
use Rattle.csv.specs.declared.writer.Writer.{Writer}
use Rattle.twkb_tree.specs.Tree.{Tree}
use Rattle.twkb_tree.specs.Limits.{Allowance}
use Rattle.twkb_table.specs.RowFault.{Named}

-- ==== The text of records whose fields need no quotes (RFC 4180).

-- the fields, each after a comma
abbrev pub more_fields : Record → List ℕ
more_fields [] = []
more_fields (field ∷ fields) = 44 ∷ (field ++ more_fields fields)

-- the fields with a comma between them
abbrev pub joined : Record → List ℕ
joined [] = []
joined (field ∷ fields) = field ++ more_fields fields

-- a line for each record, each ended by LF (RFC 4180; LF by profile)
abbrev pub csvtext : List Record → List ℕ
csvtext records = flat_map (λ fields. joined fields ++ 10 ∷ []) records

-- ==== The text of rows.

-- the lines of rows
unfoldable pub row_lines : List Row → List ℕ
row_lines rows = csvtext (map record_of rows)

-- the second text begins with the first
abbrev pub Grows : List ℕ → List ℕ → Type 0
Grows old new = (more : List ℕ) × (new ≡ old ++ more)

-- ==== The bytes that a writer of `csv` into a vector has written.

-- the text so far: the bytes of the vector, then those of the writer's buffer
abbrev pub text_of : Writer (Vec ℕ) → List ℕ
text_of writer = (writer_under writer).items ++ writer_pending writer

-- The writer has its default settings, and is between two records.
pub record IsReady (writer : Writer (Vec ℕ)) : Type 0 where
  pub setup : writer_setup writer ≡ default_writer
  pub fields : fields_written writer ≡ 0
  pub clean : has_written writer ≡ false

-- The writer has written these bytes, and is between two records again.
pub record Writes (old new : Writer (Vec ℕ)) (bytes : List ℕ) : Type 0 where
  pub ready : IsReady new
  pub text : text_of new ≡ text_of old ++ bytes

-- a field that needs no quotes
abbrev pub IsBare : List ℕ → Type 0
IsBare field = needs_quotes default_writer field ≡ false

-- ==== The places where a table may be cut.

-- There is no record, or the first has depth 0, like the root of a geometry.
abbrev pub BeginAtRoot : List Record → Type 0
BeginAtRoot [] = ⊤
BeginAtRoot ([] ∷ records) = ⊥
BeginAtRoot ((depth ∷ fields) ∷ records) = depth ≡ decimal 0

-- below the header the first rows name the first of these geometries, and the other rows name the
-- rest
abbrev pub NameApart : Allowance → List Record → List Record → List Tree → Type 0
NameApart l rows more ks = (gs hs : List Tree) × (ks ≡ gs ++ hs) × Named l (header ∷ rows) gs
    × Named l (header ∷ more) hs
