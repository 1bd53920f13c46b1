-- The records of a rest with the polylines of a stream in their column (profile).
use Rattle.std.specs.Prelude.{ℕ, ◌≡◌, List, [], ◌∷◌, ◌++◌, length, map}
use Rattle.std.specs.List.{AllByRecursion}
use Rattle.twkb_tree.specs.Tree.{Tree, flat}
use Rattle.twkb_tree.specs.Limits.{Allowance}
use Rattle.twkb_polyline.specs.Polyline.{polyline}
use Rattle.twkb_records.specs.Rows.{found_in, replaced}
use Rattle.twkb_records.specs.declared.found.Found.TheVariants.{At}
use Rattle.twkb_rest.specs.Columns.{LineStream}
use Rattle.twkb_rest.specs.Written.{Record, records_text}

-- A blob of the stream, and the record of the rest with the same number.
pub record Joined : Type 0 where
  pub blob : Tree
  pub row : Record

-- the blobs
abbrev pub blobs_of : List Joined → List Tree
blobs_of joined = map (λ (j : Joined). j.blob) joined

-- the records of the rest
abbrev pub rows_of : List Joined → List Record
rows_of joined = map (λ (j : Joined). j.row) joined

-- the record with the blob's polyline in its column
abbrev pub joined_row : ℕ → Joined → Record
joined_row place j = replaced place (polyline (flat j.blob)) j.row

-- the text of a header, if there is one, and of joined records
abbrev pub joined_text : (delimiter place : ℕ) → List Record → List Joined → List ℕ
joined_text delimiter place header joined = records_text delimiter (header ++ map (joined_row place) joined)

-- the bytes are the blobs of joined records: linestrings of one precision
abbrev pub AreJoined : Allowance → List ℕ → List Joined → Type 0
AreJoined l bytes joined = LineStream l bytes (blobs_of joined)

-- the record has so many fields
abbrev pub HasWidth : ℕ → Joined → Type 0
HasWidth width j = length j.row ≡ width

-- the header has the column at this place, and each record has as many fields as the header; without a header there
-- is no record
abbrev pub IsHeaded : List ℕ → ℕ → List Record → List Joined → Type 0
IsHeaded name place [] joined = joined ≡ []
IsHeaded name place (header ∷ more) joined = (more ≡ []) × (found_in name header ≡ At place)
    × AllByRecursion (HasWidth (length header)) joined
