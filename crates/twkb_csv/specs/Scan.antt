-- How far a CSV was read, and the text that the bytes from there name.
use Rattle.std.specs.Prelude.{ℕ, ◌+◌, ◌==◌, ◌≡◌, ◌||◌, Bool, true, false, List, [], ◌∷◌, ◌++◌, length, if◌then◌else◌}
use Rattle.std.specs.Prelude.{nat_lt, not, ◌&&◌}
use Rattle.csv.specs.Machine.{ends_at_end, step}
use Rattle.csv.specs.declared.parser.State.{State}
use Rattle.csv.specs.declared.parser.State.TheVariants as st
use Rattle.csv.specs.declared.parser.Action.{Action}
use Rattle.csv.specs.declared.parser.Action.TheVariants as act
use Rattle.csv.specs.Writing.{default_writer, row_text}
use Rattle.twkb_csv.specs.Machine.{config, state_of}
use Rattle.twkb_csv.specs.Named.{both, found_next, header_named, ids_next, is_at, record_named, text_of}
use Rattle.twkb_csv.specs.declared.column.Column.{Column}
use Rattle.twkb_csv.specs.declared.found.Found.{Found}
use Rattle.twkb_csv.specs.declared.found.Found.TheVariants.{Absent, At, Twice}
use Rattle.twkb_csv.specs.declared.scan.Scan.{Scan}

-- Where a reader of a CSV stands: the state of the machine of `csv`; whether in the header, what was found in it of the
-- column and of that of ids, and how many names it has so far; the place of the field at hand, at most that number; the
-- bytes of the name at hand, or of the column's field; and those of the field of ids.
pub record Stand : Type 0 where
  pub state : State
  pub in_header : Bool
  pub found : Found
  pub ids : Found
  pub width : ℕ
  pub place : ℕ
  pub field : List ℕ
  pub id : List ℕ

-- where the scan stands
abbrev pub stand_of : Scan → Stand
stand_of scan = record {
  state = state_of scan.state;
  in_header = scan.in_header;
  found = scan.found;
  ids = scan.ids;
  width = length scan.columns.items;
  place = scan.place;
  field = scan.field.items;
  id = scan.id.items;
}

-- before the first byte
abbrev pub begin : Stand
begin = record {
  state = st.StartRecord;
  in_header = true;
  found = Absent;
  ids = Absent;
  width = 0;
  place = 0;
  field = [];
  id = [];
}

-- what is known of the column after the name at hand
abbrev pub found_here : Column → Stand → Found
found_here column s = found_next column.name.now s.found s.width s.field

-- what is known of the column of ids after the name at hand
abbrev pub ids_here : Column → Stand → Found
ids_here column s = ids_next column.ids s.ids s.width s.field

-- what is known of both after the name at hand
abbrev pub both_here : Column → Stand → Found
both_here column s = both column.ids (found_here column s) (ids_here column s)

-- the text that a record of rows names, which ends at hand
abbrev pub row_ended : Column → Stand → Found → List ℕ
row_ended column s (At place) = row_text default_writer (record_named column (s.place + 1 == s.width) s.id
    s.field)
row_ended column s Absent = []
row_ended column s Twice = []

-- the text that the record names which ends at hand
abbrev pub record_ended : Column → Stand → List ℕ
record_ended column s = if s.in_header then text_of (header_named column (both_here column s))
    else row_ended column s s.found

-- the text that an action adds
abbrev pub action_text : Column → Stand → Action → List ℕ
action_text column s act.EndRecord = record_ended column s
action_text column s act.Skip = []
action_text column s act.Copy = []
action_text column s act.EndField = []

-- whether the bytes of the field at hand are kept
abbrev pub wanted : Stand → Bool
wanted s = s.in_header || is_at s.found s.place

-- whether the bytes of the field at hand are kept as those of the id
abbrev pub is_id : Stand → Bool
is_id s = not s.in_header && is_at s.ids s.place

-- what is kept, with these bytes or without
abbrev pub kept : Bool → (before bytes : List ℕ) → List ℕ
kept true before bytes = before ++ bytes
kept false before bytes = before

-- where the reader stands after bytes that only join the field at hand
abbrev pub ran : Stand → List ℕ → Stand
ran s bytes = record s { field = kept (wanted s) s.field bytes; id = kept (is_id s) s.id bytes }

-- where it stands after the end of the field at hand
abbrev pub field_ended : Column → Stand → Stand
field_ended column s = if s.in_header
    then record s { found = found_here column s; ids = ids_here column s; width = s.width + 1; field = [] }
    else if nat_lt s.place s.width then record s { place = s.place + 1 } else s

-- where it stands after the end of the record at hand
abbrev pub after_record : Column → Stand → Stand
after_record column s = if s.in_header
    then record s {
      in_header = false;
      found = both_here column s;
      ids = ids_here column s;
      width = s.width + 1;
      place = 0;
      field = [];
      id = [];
    }
    else record s { place = 0; field = []; id = [] }

-- where it stands after an action
abbrev pub acted : Column → Stand → Action → ℕ → Stand
acted column s act.Skip byte = s
acted column s act.Copy byte = ran s (byte ∷ [])
acted column s act.EndField byte = field_ended column s
acted column s act.EndRecord byte = after_record column s

-- where it stands after a byte
abbrev pub stepped : Column → Stand → ℕ → Stand
stepped column s byte = record (acted column s (step (config column.delimiter) s.state byte).1 byte) {
  state = (step (config column.delimiter) s.state byte).0;
}

-- the text that the bytes from here on name
unfoldable pub rest_text : Column → Stand → List ℕ → List ℕ
rest_text column s [] = if ends_at_end s.state then record_ended column s else []
rest_text column s (byte ∷ rest) = action_text column s (step (config column.delimiter) s.state byte).1
    ++ rest_text column (stepped column s byte) rest

-- The text before, with that of the bytes that were left, is the text after, with that of the bytes that are left
-- now, whatever bytes come after them.
abbrev pub GoesOn : Column → Stand → (text left : List ℕ) → Stand → (text left : List ℕ) → Type 0
GoesOn column s text left s2 text2 left2 = (more : List ℕ)
    → text ++ rest_text column s (left ++ more) ≡ text2 ++ rest_text column s2 (left2 ++ more)
