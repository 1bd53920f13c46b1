-- The text of a CSV is that of the table that its records name.
use Rattle.std.proofs.Common.{◌≡◌, ◌≢◌, ◌∙◌, sym, ap, refl, subst, ℕ, ℤ, Bool, true, false, List, [], ◌∷◌, ◌++◌}
use Rattle.std.proofs.Common.{append-nil}
use Rattle.std.proofs.Common.{Option, Some, None, ◌<◌, ◌≤◌, ◌+◌, zero, suc, length, get_or, length-append, arith, min}
use Rattle.std.specs.Prelude.{◌==◌, nat_lt, if◌then◌else◌, ⊤}
use Rattle.std.proofs.lemmas.Bool.Decides.{nat_tests}
use Rattle.std.proofs.Common.{ne_eqb}
use Rattle.std.proofs.Math.Decide.{dec_lt}
use Rattle.std.proofs.Math.Seq.{get_or-append_seam}
use Rattle.csv.specs.Machine.{Read, ends_at_end, fields_after, field_after, is_end, next_record, step}
use Rattle.csv.specs.Reading.{AreRecords, Reached, default_config, strip_bom}
use Rattle.csv.specs.Writing.{default_writer, fields_text, is_blank, read_back, row_text}
use Rattle.std.specs.List.{AllByRecursion}
use Rattle.std.specs.Borrow.{Bor}
use Rattle.std.specs.Str.{bytes_eq}
use Rattle.std.proofs.lemmas.Grind.{flat_map-append}
use Rattle.csv.proofs.RoundTrip.{read-write}
use Rattle.csv.specs.declared.parser.State.{State}
use Rattle.csv.specs.declared.parser.State.TheVariants as st
use Rattle.csv.specs.declared.parser.Action.{Action}
use Rattle.csv.specs.declared.parser.Action.TheVariants as act
use Rattle.twkb_csv.specs.Machine.{config}
use Rattle.twkb_csv.specs.Named.{Record, both, found_from, found_next, header_named, id_at, ids_from, ids_next}
use Rattle.twkb_csv.specs.Named.{is_among, is_at, is_missing, line_named, named, no_depth, one_more, record_named}
use Rattle.twkb_csv.specs.Named.{roots, rows_named, text_of, unless_ids}
use Rattle.twkb_csv.specs.Scan.{Stand, acted, action_text, begin, kept, ran, record_ended, rest_text}
use Rattle.twkb_csv.specs.declared.column.Column.{Column}
use Rattle.twkb_csv.specs.declared.found.Found.{Found}
use Rattle.twkb_csv.specs.declared.found.Found.TheVariants.{Absent, At, Twice}

-- ==== The header.

-- one more name
found_more : (wanted : List ℕ) (found : Found) (i : ℕ) (names : Record) (name : List ℕ)
    → found_from wanted found i (names ++ name ∷ []) ≡ found_next wanted (found_from wanted found i names)
    (i + length names) name
found_more wanted found i [] name = ap (λ (k : ℕ). found_next wanted found k name) (omega arith)
found_more wanted found i (x ∷ names) name =
    found_more wanted (found_next wanted found i x) (i + 1) names name
    ∙ ap (λ (k : ℕ). found_next wanted (found_from wanted (found_next wanted found i x) (i + 1) names) k name)
    (omega arith)

ids_more : (wanted : Option (Bor (List ℕ))) (found : Found) (i : ℕ) (names : Record) (name : List ℕ)
    → ids_from wanted found i (names ++ name ∷ []) ≡ ids_next wanted (ids_from wanted found i names)
    (i + length names) name
ids_more wanted found i [] name = ap (λ (k : ℕ). ids_next wanted found k name) (omega arith)
ids_more wanted found i (x ∷ names) name =
    ids_more wanted (ids_next wanted found i x) (i + 1) names name
    ∙ ap (λ (k : ℕ). ids_next wanted (ids_from wanted (ids_next wanted found i x) (i + 1) names) k name)
    (omega arith)

-- which of these names are those of the two columns
abbrev pub ids_in : Column → Record → Found
ids_in column names = ids_from column.ids Absent 0 names

abbrev pub found_in : Column → Record → Found
found_in column names = both column.ids (found_from column.name.now Absent 0 names) (ids_in column names)

-- where a reader stands in the header, after these names and these bytes of the next one
abbrev pub in_names : Column → State → Record → List ℕ → Stand
in_names column state names field = record {
  state = state;
  in_header = true;
  found = found_from column.name.now Absent 0 names;
  ids = ids_in column names;
  width = length names;
  place = 0;
  field = field;
  id = [];
}

-- where it stands after the header
abbrev pub after_names : (found ids : Found) → ℕ → State → Stand
after_names found ids width state = record {
  state = state;
  in_header = false;
  found = found;
  ids = ids;
  width = width;
  place = 0;
  field = [];
  id = [];
}

-- the text of a header and of what comes after it, as the next record says
abbrev pub header_then : Column → Option Read → List ℕ
header_then column None = []
header_then column (Some (names, state, rest)) = text_of (header_named column (found_in column names))
    ++ rest_text column (after_names (found_in column names) (ids_in column names) (length names) state) rest

-- one more name, as the stand has it
here_is : (column : Column) (names : Record) (name : List ℕ)
    → found_next column.name.now (found_from column.name.now Absent 0 names) (length names) name
    ≡ found_from column.name.now Absent 0 (names ++ name ∷ [])
here_is column names name =
    let none : length names ≡ 0 + length names = omega arith in
    ap (λ (n : ℕ). found_next column.name.now (found_from column.name.now Absent 0 names) n name) none
    ∙ sym (found_more column.name.now Absent 0 names name)

ids_is : (column : Column) (names : Record) (name : List ℕ)
    → ids_next column.ids (ids_in column names) (length names) name ≡ ids_in column (names ++ name ∷ [])
ids_is column names name =
    let none : length names ≡ 0 + length names = omega arith in
    ap (λ (n : ℕ). ids_next column.ids (ids_in column names) n name) none
    ∙ sym (ids_more column.ids Absent 0 names name)

both_is : (column : Column) (names : Record) (name : List ℕ)
    → both column.ids (found_next column.name.now (found_from column.name.now Absent 0 names) (length names) name)
    (ids_next column.ids (ids_in column names) (length names) name) ≡ found_in column (names ++ name ∷ [])
both_is column names name =
    ap (λ (f : Found). both column.ids f (ids_next column.ids (ids_in column names) (length names) name))
    (here_is column names name)
    ∙ ap (λ (i : Found). both column.ids (found_from column.name.now Absent 0 (names ++ name ∷ [])) i)
    (ids_is column names name)

width_is : (names : Record) (name : List ℕ) → length names + 1 ≡ length (names ++ name ∷ [])
width_is names name = omega (arith, length-append names (name ∷ []))

abbrev pub HeaderReads : Column → List ℕ → Type 0
HeaderReads column bytes = (state : State) (names : Record) (field : List ℕ)
    → rest_text column (in_names column state names field) bytes
    ≡ header_then column (next_record (config column.delimiter) state names field bytes)

header_end : (column : Column) (ends : Bool) (names : Record) (field : List ℕ)
    → (if ends then text_of (header_named column (both column.ids (found_next column.name.now
    (found_from column.name.now Absent 0 names) (length names) field)
    (ids_next column.ids (ids_in column names) (length names) field))) else [])
    ≡ header_then column (if ends then Some (names ++ field ∷ [], st.StartRecord, []) else None)
unfolding rest_text
header_end column true names field =
    ap (λ (f : Found). text_of (header_named column f)) (both_is column names field) ∙ sym (append-nil _)
header_end column false names field = refl

header_step : (column : Column) (p : State × Action) (names : Record) (field : List ℕ) (b : ℕ) (rest : List ℕ)
    → HeaderReads column rest → (from : State)
    → action_text column (in_names column from names field) p.1
    ++ rest_text column (record (acted column (in_names column from names field) p.1 b) { state = p.0 }) rest
    ≡ header_then column (if is_end p.1 then Some (fields_after p.1 names field, p.0, rest)
    else next_record (config column.delimiter) p.0 (fields_after p.1 names field) (field_after p.1 b field) rest)
header_step column (to, act.Skip) names field b rest ih from = ih to names field
header_step column (to, act.Copy) names field b rest ih from = ih to names (field ++ b ∷ [])
header_step column (to, act.EndField) names field b rest ih from =
    ap (λ (f : Found). rest_text column (record (in_names column to names []) {
      found = f;
      ids = ids_next column.ids (ids_in column names) (length names) field;
      width = length names + 1;
    }) rest) (here_is column names field)
    ∙ ap (λ (i : Found). rest_text column (record (in_names column to (names ++ field ∷ []) []) {
      ids = i;
      width = length names + 1;
    }) rest) (ids_is column names field)
    ∙ ap (λ (w : ℕ). rest_text column (record (in_names column to (names ++ field ∷ []) []) { width = w }) rest)
    (width_is names field)
    ∙ ih to (names ++ field ∷ []) []
header_step column (to, act.EndRecord) names field b rest ih from =
    ap (λ (f : Found). text_of (header_named column f) ++ rest_text column (after_names f
    (ids_next column.ids (ids_in column names) (length names) field) (length names + 1) to) rest)
    (both_is column names field)
    ∙ ap (λ (i : Found). text_of (header_named column (found_in column (names ++ field ∷ [])))
    ++ rest_text column (after_names (found_in column (names ++ field ∷ [])) i (length names + 1) to) rest)
    (ids_is column names field)
    ∙ ap (λ (w : ℕ). text_of (header_named column (found_in column (names ++ field ∷ [])))
    ++ rest_text column (after_names (found_in column (names ++ field ∷ [])) (ids_in column (names ++ field ∷ [])) w to)
    rest) (width_is names field)

header_reads : (column : Column) (bytes : List ℕ) → HeaderReads column bytes
unfolding rest_text next_record
header_reads column [] state names field = header_end column (ends_at_end state) names field
header_reads column (b ∷ rest) state names field =
    header_step column (step (config column.delimiter) state b) names field b rest (header_reads column rest) state

-- ==== The fields of a record.

-- the field of the column does not depend on the last field, unless it is that
other_field : (fields : Record) (i : ℕ) (x y : List ℕ) → i ≢ length fields
    → get_or (fields ++ x ∷ []) i [] ≡ get_or (fields ++ y ∷ []) i []
other_field [] zero x y other = absurd (other refl)
other_field [] (suc i) x y other = refl
other_field (f ∷ fields) zero x y other = refl
other_field (f ∷ fields) (suc i) x y other = other_field fields i x y (λ e. other (ap suc e))

-- an empty field after the last one changes nothing
no_field : (fields : Record) (i : ℕ) (x : List ℕ)
    → get_or ((fields ++ x ∷ []) ++ [] ∷ []) i [] ≡ get_or (fields ++ x ∷ []) i []
no_field [] zero x = refl
no_field [] (suc zero) x = refl
no_field [] (suc (suc i)) x = refl
no_field (f ∷ fields) zero x = refl
no_field (f ∷ fields) (suc i) x = no_field fields i x

-- the last field
at_last : (fields : Record) (i : ℕ) (x : List ℕ) → i ≡ length fields → get_or (fields ++ x ∷ []) i [] ≡ x
at_last fields i x e = rw e (get_or-append_seam fields x [] [])

-- ==== A row.

-- where a reader stands in a row, after these fields and these bytes of the next one, if the column is at this place
-- of so many
abbrev pub in_row : (i : ℕ) → Found → (w : ℕ) → State → Record → List ℕ → Stand
in_row i ids w state fields field = record {
  state = state;
  in_header = false;
  found = At i;
  ids = ids;
  width = w;
  place = min (length fields) w;
  field = get_or (fields ++ field ∷ []) i [];
  id = id_at ids (fields ++ field ∷ []);
}

-- the only field is empty
start_field : (i : ℕ) → ◌≡◌ {A = List ℕ} (get_or ([] ∷ []) i []) []
start_field zero = refl
start_field (suc i) = refl

start_id : (ids : Found) → id_at ids ([] ∷ []) ≡ []
start_id Absent = refl
start_id Twice = refl
start_id (At i) = start_field i

start_row : (i : ℕ) (ids : Found) (w : ℕ) (state : State) → in_row i ids w state [] [] ≡ after_names (At i) ids w state
start_row i ids w state =
    let none : min 0 w ≡ 0 = omega arith in
    ap (λ (p : ℕ). record (in_row i ids w state [] []) { place = p }) none
    ∙ ap (λ (f : List ℕ). record (after_names (At i) ids w state) { field = f; id = id_at ids ([] ∷ []) })
    (start_field i)
    ∙ ap (λ (f : List ℕ). record (after_names (At i) ids w state) { id = f }) (start_id ids)

-- the text of a row and of what comes after it, as the next record says
abbrev pub row_then : Column → (i : ℕ) → Found → (w : ℕ) → Option Read → List ℕ
row_then column i ids w None = []
row_then column i ids w (Some (fields, state, rest)) =
    row_text default_writer (record_named column (length fields == w) (id_at ids fields) (get_or fields i []))
    ++ rest_text column (after_names (At i) ids w state) rest

abbrev pub RowReads : Column → (i : ℕ) → Found → (w : ℕ) → List ℕ → Type 0
RowReads column i ids w bytes = (state : State) (fields : Record) (field : List ℕ)
    → rest_text column (in_row i ids w state fields field) bytes
    ≡ row_then column i ids w (next_record (config column.delimiter) state fields field bytes)

-- a record has as many fields as the header exactly if its last field is at the last place
right_width : (n w : ℕ) → (min n w + 1 == w) ≡ (n + 1 == w)
right_width n w = elim (dec_lt n w) [
  | yes less ↦ (let same : min n w ≡ n = omega arith in rw same refl)
  | no more ↦ (let same : min n w ≡ w = omega arith in
      rw (same, ne_eqb (w + 1) w (λ e. omega arith), ne_eqb (n + 1) w (λ e. omega arith)) refl)
]

-- what the record names whose last field is at hand
row_named_is : (column : Column) (i : ℕ) (ids : Found) (w : ℕ) (fields : Record) (field : List ℕ)
    → row_text default_writer (record_named column (min (length fields) w + 1 == w) (id_at ids (fields ++ field ∷ []))
    (get_or (fields ++ field ∷ []) i []))
    ≡ row_text default_writer (record_named column (length (fields ++ field ∷ []) == w)
    (id_at ids (fields ++ field ∷ [])) (get_or (fields ++ field ∷ []) i []))
row_named_is column i ids w fields field =
    ap (λ (t : Bool). row_text default_writer (record_named column t (id_at ids (fields ++ field ∷ []))
    (get_or (fields ++ field ∷ []) i [])))
    (right_width (length fields) w ∙ ap (λ (n : ℕ). n == w) (width_is fields field))

-- ---- the place of the column of ids, if there is one, is below this number
abbrev pub IsBelow : Found → ℕ → Type 0
IsBelow Absent n = ⊤
IsBelow Twice n = ⊤
IsBelow (At place) n = place < n

-- a byte joins the field at this place, if that is at hand
copied_field : (i w b : ℕ) (fields : Record) (field : List ℕ) (keep : Bool) → i < w
    → (i == min (length fields) w) ≡ keep
    → kept keep (get_or (fields ++ field ∷ []) i []) (b ∷ []) ≡ get_or (fields ++ (field ++ b ∷ []) ∷ []) i []
copied_field i w b fields field true less here =
    let place : i ≡ min (length fields) w = grind (arith, nat_tests) in
    let last : i ≡ length fields = omega arith in
    ap (λ (l : List ℕ). l ++ b ∷ []) (at_last fields i field last) ∙ sym (at_last fields i (field ++ b ∷ []) last)
copied_field i w b fields field false less here =
    let elsewhere : i ≢ min (length fields) w = grind (arith, nat_tests) in
    other_field fields i field (field ++ b ∷ []) (λ e. elsewhere (omega arith))

copied_id : (ids : Found) (w b : ℕ) (fields : Record) (field : List ℕ) → IsBelow ids w
    → kept (is_at ids (min (length fields) w)) (id_at ids (fields ++ field ∷ [])) (b ∷ [])
    ≡ id_at ids (fields ++ (field ++ b ∷ []) ∷ [])
copied_id Absent w b fields field below = refl
copied_id Twice w b fields field below = refl
copied_id (At i) w b fields field below = copied_field i w b fields field _ below refl

copied_row : (i : ℕ) (ids : Found) (w b : ℕ) (from to : State) (fields : Record) (field : List ℕ) → i < w
    → IsBelow ids w
    → ◌≡◌ {A = Stand} (record (ran (in_row i ids w from fields field) (b ∷ [])) { state = to })
    (in_row i ids w to fields (field ++ b ∷ []))
copied_row i ids w b from to fields field less below =
    ap (λ (f : List ℕ). record (in_row i ids w to fields field) {
      field = f;
      id = kept (is_at ids (min (length fields) w)) (id_at ids (fields ++ field ∷ [])) (b ∷ []);
    }) (copied_field i w b fields field _ less refl)
    ∙ ap (λ (f : List ℕ). record (in_row i ids w to fields (field ++ b ∷ [])) { id = f })
    (copied_id ids w b fields field below)

no_id : (fields : Record) (ids : Found) (x : List ℕ)
    → id_at ids ((fields ++ x ∷ []) ++ [] ∷ []) ≡ id_at ids (fields ++ x ∷ [])
no_id fields Absent x = refl
no_id fields Twice x = refl
no_id fields (At i) x = no_field fields i x

-- one more field, with the place after it
next_field : (i : ℕ) (ids : Found) (w place : ℕ) (to : State) (fields : Record) (field : List ℕ)
    → place ≡ min (length (fields ++ field ∷ [])) w
    → ◌≡◌ {A = Stand} (record (in_row i ids w to fields field) { place = place }) (in_row i ids w to
    (fields ++ field ∷ []) [])
next_field i ids w place to fields field same =
    ap (λ (p : ℕ). record (in_row i ids w to fields field) { place = p }) same
    ∙ ap (λ (f : List ℕ). record (in_row i ids w to (fields ++ field ∷ []) []) {
      field = f;
      id = id_at ids (fields ++ field ∷ []);
    }) (sym (no_field fields i field))
    ∙ ap (λ (f : List ℕ). record (in_row i ids w to (fields ++ field ∷ []) []) { id = f })
    (sym (no_id fields ids field))

ended_field : (i : ℕ) (ids : Found) (w : ℕ) (from to : State) (fields : Record) (field : List ℕ) (less : Bool)
    → nat_lt (min (length fields) w) w ≡ less
    → ◌≡◌ {A = Stand} (record (if less then record (in_row i ids w from fields field) {
      place = min (length fields) w + 1;
    } else in_row i ids w from fields field) { state = to }) (in_row i ids w to (fields ++ field ∷ []) [])
ended_field i ids w from to fields field true test =
    let more = length-append fields (field ∷ []) in
    let less : min (length fields) w < w = grind (arith, nat_tests) in
    let place : min (length fields) w + 1 ≡ min (length (fields ++ field ∷ [])) w = omega arith in
    next_field i ids w (min (length fields) w + 1) to fields field place
ended_field i ids w from to fields field false test =
    let more = length-append fields (field ∷ []) in
    let full : w ≤ min (length fields) w = grind (arith, nat_tests) in
    let place : min (length fields) w ≡ min (length (fields ++ field ∷ [])) w = omega arith in
    next_field i ids w (min (length fields) w) to fields field place

row_step : (column : Column) (i : ℕ) (ids : Found) (w : ℕ) (p : State × Action) (fields : Record) (field : List ℕ)
    (b : ℕ) (rest : List ℕ) → i < w → IsBelow ids w
    → RowReads column i ids w rest → (from : State)
    → action_text column (in_row i ids w from fields field) p.1
    ++ rest_text column (record (acted column (in_row i ids w from fields field) p.1 b) { state = p.0 }) rest
    ≡ row_then column i ids w (if is_end p.1 then Some (fields_after p.1 fields field, p.0, rest)
    else next_record (config column.delimiter) p.0 (fields_after p.1 fields field) (field_after p.1 b field) rest)
row_step column i ids w (to, act.Skip) fields field b rest less below ih from = ih to fields field
row_step column i ids w (to, act.Copy) fields field b rest less below ih from =
    ap (λ (s : Stand). rest_text column s rest) (copied_row i ids w b from to fields field less below)
    ∙ ih to fields (field ++ b ∷ [])
row_step column i ids w (to, act.EndField) fields field b rest less below ih from =
    ap (λ (s : Stand). rest_text column s rest) (ended_field i ids w from to fields field _ refl)
    ∙ ih to (fields ++ field ∷ []) []
row_step column i ids w (to, act.EndRecord) fields field b rest less below ih from =
    ap (λ (l : List ℕ). l ++ rest_text column (after_names (At i) ids w to) rest)
    (row_named_is column i ids w fields field)

row_end : (column : Column) (i : ℕ) (ids : Found) (w : ℕ) (ends : Bool) (fields : Record) (field : List ℕ)
    → (if ends then row_text default_writer (record_named column (min (length fields) w + 1 == w)
    (id_at ids (fields ++ field ∷ [])) (get_or (fields ++ field ∷ []) i [])) else [])
    ≡ row_then column i ids w (if ends then Some (fields ++ field ∷ [], st.StartRecord, []) else None)
unfolding rest_text
row_end column i ids w true fields field = row_named_is column i ids w fields field ∙ sym (append-nil _)
row_end column i ids w false fields field = refl

row_reads : (column : Column) (i : ℕ) (ids : Found) (w : ℕ) → i < w → IsBelow ids w → (bytes : List ℕ)
    → RowReads column i ids w bytes
unfolding rest_text next_record
row_reads column i ids w less below [] state fields field = row_end column i ids w (ends_at_end state) fields field
row_reads column i ids w less below (b ∷ rest) state fields field =
    row_step column i ids w (step (config column.delimiter) state b) fields field b rest less below
    (row_reads column i ids w less below rest) state

-- ==== All rows.

pub rows_read : (column : Column) (i : ℕ) (ids : Found) (w : ℕ) → i < w → IsBelow ids w → (rows : List Record)
    (state to : State) (xs ys : List ℕ)
    → Reached (config column.delimiter) state xs rows to ys → next_record (config column.delimiter) to [] [] ys ≡ None
    → rest_text column (after_names (At i) ids w state) xs ≡ text_of (rows_named column (At i) ids w rows)
unfolding Reached
rows_read column i ids w less below [] state to xs ys (same, left) none =
    let end : next_record (config column.delimiter) state [] [] xs ≡ None = rw (same, left) none in
    ap (λ (s : Stand). rest_text column s xs) (sym (start_row i ids w state))
    ∙ row_reads column i ids w less below xs state [] [] ∙ ap (row_then column i ids w) end
rows_read column i ids w less below (r ∷ rows) state to xs ys (p, next, same, more) none =
    ap (λ (s : Stand). rest_text column s xs) (sym (start_row i ids w state))
    ∙ row_reads column i ids w less below xs state [] [] ∙ ap (row_then column i ids w) next
    ∙ ap (λ (f : Record). row_text default_writer (record_named column (length f == w) (id_at ids f) (get_or f i []))
    ++ rest_text column (after_names (At i) ids w p.1) p.2) (sym same)
    ∙ ap (λ (l : List ℕ). row_text default_writer (record_named column (length r == w) (id_at ids r) (get_or r i []))
    ++ l) (rows_read column i ids w less below rows p.1 to p.2 ys more none)

-- ==== A CSV that has no such column, or has it twice, names nothing after its header.

-- no column was found, or more than one
abbrev pub IsSilent : Found → Type 0
IsSilent Absent = ⊤
IsSilent Twice = ⊤
IsSilent (At place) = ⊥

-- such a reader after the header
abbrev pub silent_stand : (found ids : Found) → State → (width place : ℕ) → (field id : List ℕ) → Stand
silent_stand found ids state width place field id = record {
  state = state;
  in_header = false;
  found = found;
  ids = ids;
  width = width;
  place = place;
  field = field;
  id = id;
}

abbrev pub IsSilentOn : Column → (found ids : Found) → (width : ℕ) → List ℕ → Type 0
IsSilentOn column found ids width bytes = (state : State) (place : ℕ) (field id : List ℕ)
    → rest_text column (silent_stand found ids state width place field id) bytes ≡ []

silent_field : (column : Column) (found ids : Found) (width place : ℕ) (field id rest : List ℕ) (from to : State)
    (less : Bool) → IsSilentOn column found ids width rest
    → rest_text column (record (if less then record (silent_stand found ids from width place field id) {
      place = place + 1;
    } else silent_stand found ids from width place field id) { state = to }) rest ≡ []
silent_field column found ids width place field id rest from to true ih = ih to (place + 1) field id
silent_field column found ids width place field id rest from to false ih = ih to place field id

silent_step : (column : Column) (found ids : Found) → IsSilent found
    → (p : State × Action) (width place : ℕ) (field id : List ℕ) (b : ℕ)
    (rest : List ℕ) → IsSilentOn column found ids width rest → (from : State)
    → action_text column (silent_stand found ids from width place field id) p.1
    ++ rest_text column (record (acted column (silent_stand found ids from width place field id) p.1 b) {
      state = p.0;
    }) rest ≡ []
silent_step column Absent ids s (to, act.Skip) width place field id b rest ih from = ih to place field id
silent_step column Absent ids s (to, act.Copy) width place field id b rest ih from = ih to place field
    (kept (is_at ids place) id (b ∷ []))
silent_step column Absent ids s (to, act.EndField) width place field id b rest ih from =
    silent_field column Absent ids width place field id rest from to (nat_lt place width) ih
silent_step column Absent ids s (to, act.EndRecord) width place field id b rest ih from = ih to 0 [] []
silent_step column Twice ids s (to, act.Skip) width place field id b rest ih from = ih to place field id
silent_step column Twice ids s (to, act.Copy) width place field id b rest ih from = ih to place field
    (kept (is_at ids place) id (b ∷ []))
silent_step column Twice ids s (to, act.EndField) width place field id b rest ih from =
    silent_field column Twice ids width place field id rest from to (nat_lt place width) ih
silent_step column Twice ids s (to, act.EndRecord) width place field id b rest ih from = ih to 0 [] []
silent_step column (At place) ids s p width k field id b rest ih from = absurd s

silent_end : (found ids : Found) → IsSilent found → (column : Column) (state : State) (width place : ℕ)
    (field id : List ℕ) (ends : Bool)
    → (if ends then record_ended column (silent_stand found ids state width place field id) else []) ≡ []
silent_end Absent ids s column state width place field id true = refl
silent_end Absent ids s column state width place field id false = refl
silent_end Twice ids s column state width place field id true = refl
silent_end Twice ids s column state width place field id false = refl
silent_end (At k) ids s column state width place field id ends = absurd s

silent : (column : Column) (found ids : Found) → IsSilent found → (width : ℕ) (bytes : List ℕ)
    → IsSilentOn column found ids width bytes
unfolding rest_text
silent column found ids s width [] state place field id =
    silent_end found ids s column state width place field id (ends_at_end state)
silent column found ids s width (b ∷ rest) state place field id =
    silent_step column found ids s (step (config column.delimiter) state b) width place field id b rest
    (silent column found ids s width rest) state

-- ==== The places of the columns are below the number of names.

below_on : (found : Found) (i : ℕ) → IsBelow found i → IsBelow found (i + 1)
below_on Absent i h = tt
below_on Twice i h = tt
below_on (At place) i h = omega (arith, h)

below_more : (found : Found) (i : ℕ) → IsBelow (one_more found i) (i + 1)
below_more Absent i = omega arith
below_more Twice i = tt
below_more (At place) i = tt

below_next : (found : Found) (i : ℕ) (same : Bool) → IsBelow found i
    → IsBelow (if same then one_more found i else found) (i + 1)
below_next found i true h = below_more found i
below_next found i false h = below_on found i h

found_below : (wanted : List ℕ) (found : Found) (i : ℕ) (names : Record) → IsBelow found i
    → IsBelow (found_from wanted found i names) (i + length names)
found_below wanted found i [] h =
    let none : i + 0 ≡ i = omega arith in
    subst (λ (n : ℕ). IsBelow found n) (sym none) h
found_below wanted found i (x ∷ names) h =
    let more : (i + 1) + length names ≡ i + suc (length names) = omega arith in
    subst (λ (n : ℕ). IsBelow (found_from wanted (found_next wanted found i x) (i + 1) names) n) more
    (found_below wanted (found_next wanted found i x) (i + 1) names (below_next found i (bytes_eq x wanted) h))

ids_below_next : (wanted : Option (Bor (List ℕ))) (found : Found) (i : ℕ) (x : List ℕ) → IsBelow found i
    → IsBelow (ids_next wanted found i x) (i + 1)
ids_below_next None found i x h = below_on found i h
ids_below_next (Some wanted) found i x h = below_next found i (bytes_eq x wanted.now) h

ids_below : (wanted : Option (Bor (List ℕ))) (found : Found) (i : ℕ) (names : Record) → IsBelow found i
    → IsBelow (ids_from wanted found i names) (i + length names)
ids_below wanted found i [] h =
    let none : i + 0 ≡ i = omega arith in
    subst (λ (n : ℕ). IsBelow found n) (sym none) h
ids_below wanted found i (x ∷ names) h =
    let more : (i + 1) + length names ≡ i + suc (length names) = omega arith in
    subst (λ (n : ℕ). IsBelow (ids_from wanted (ids_next wanted found i x) (i + 1) names) n) more
    (ids_below wanted (ids_next wanted found i x) (i + 1) names (ids_below_next wanted found i x h))

unless_below : (ids : Found) (place n : ℕ) → place < n → IsBelow (unless_ids ids place) n
unless_below Absent place n h = tt
unless_below Twice place n h = tt
unless_below (At other) place n h = h

both_below : (wanted : Option (Bor (List ℕ))) (found ids : Found) (n : ℕ) → IsBelow found n
    → IsBelow (both wanted found ids) n
both_below wanted Absent ids n h = tt
both_below wanted Twice ids n h = tt
both_below None (At place) ids n h = h
both_below (Some wanted) (At place) ids n h = unless_below ids place n h

-- ==== The text of a CSV is that of the table that its records name.

text_join : (xs ys : List Record) → text_of (xs ++ ys) ≡ text_of xs ++ text_of ys
text_join xs ys = flat_map-append (row_text default_writer) xs ys

rest_read : (column : Column) (found ids : Found) (w : ℕ) → IsBelow found w → IsBelow ids w
    → (rows : List Record) (state to : State) (xs ys : List ℕ)
    → Reached (config column.delimiter) state xs rows to ys → next_record (config column.delimiter) to [] [] ys ≡ None
    → rest_text column (after_names found ids w state) xs ≡ text_of (rows_named column found ids w rows)
rest_read column Absent ids w below under rows state to xs ys reached none =
    silent column Absent ids tt w xs state 0 [] []
rest_read column Twice ids w below under rows state to xs ys reached none =
    silent column Twice ids tt w xs state 0 [] []
rest_read column (At i) ids w below under rows state to xs ys reached none =
    rows_read column i ids w below under rows state to xs ys reached none

pub named_read : (column : Column) (records : List Record) (to : State) (xs ys : List ℕ)
    → Reached (config column.delimiter) st.StartRecord xs records to ys
    → next_record (config column.delimiter) to [] [] ys ≡ None
    → rest_text column begin xs ≡ text_of (named column records)
unfolding Reached
named_read column [] to xs ys (same, left) none =
    let end : next_record (config column.delimiter) st.StartRecord [] [] xs ≡ None = rw (same, left) none in
    header_reads column xs st.StartRecord [] [] ∙ ap (header_then column) end
named_read column (names ∷ rows) to xs ys (p, next, same, more) none =
    let ids = ids_in column names in
    let found = found_in column names in
    let all : 0 + length names ≡ length names = omega arith in
    let below = subst (λ (n : ℕ). IsBelow found n) all
    (both_below column.ids (found_from column.name.now Absent 0 names) ids (0 + length names)
    (found_below column.name.now Absent 0 names tt)) in
    let under = subst (λ (n : ℕ). IsBelow ids n) all (ids_below column.ids Absent 0 names tt) in
    header_reads column xs st.StartRecord [] [] ∙ ap (header_then column) next
    ∙ ap (λ (f : Record). text_of (header_named column (found_in column f))
    ++ rest_text column (after_names (found_in column f) (ids_in column f) (length f) p.1) p.2) (sym same)
    ∙ ap (λ (l : List ℕ). text_of (header_named column found) ++ l)
    (rest_read column found ids (length names) below under rows p.1 to p.2 ys more none)
    ∙ sym (text_join (header_named column found) (rows_named column found ids (length names) rows))

-- ==== The table's text is read as its records.

-- the record has a field
abbrev pub HasField : Record → Type 0
HasField [] = ⊥
HasField (x ∷ fields) = ⊤

same_back : (fields : Record) → HasField fields → read_back fields ≡ fields
same_back [] h = absurd h
same_back (x ∷ fields) h = refl

reached_all : (rs : List Record) → AllByRecursion HasField rs
    → Reached default_config st.StartRecord (text_of rs) rs st.StartRecord []
unfolding Reached
reached_all [] h = (refl, refl)
reached_all (r ∷ rs) h = (
  (read_back r, st.StartRecord, text_of rs),
  read-write r (text_of rs),
  sym (same_back r h.0),
  reached_all rs h.1,
)

line_fields : (wanted : Option (Bor (List ℕ))) (precision : ℤ) (id polyline : List ℕ)
    → HasField (line_named wanted precision id polyline)
line_fields None precision id polyline = tt
line_fields (Some wanted) precision id polyline = tt

value_fields : (column : Column) (id field : List ℕ) (null missing : Bool)
    → HasField (if null then line_named column.ids column.precision id [] else if missing then no_depth else line_named
    column.ids column.precision id field)
value_fields column id field true missing = line_fields column.ids column.precision id []
value_fields column id field false true = tt
value_fields column id field false false = line_fields column.ids column.precision id field

named_fields : (column : Column) (right : Bool) (id field : List ℕ) → HasField (record_named column right id field)
named_fields column true id field = value_fields column id field (is_among column.nulls.now field) (is_missing field)
named_fields column false id field = tt

rows_fields : (column : Column) (i : ℕ) (ids : Found) (w : ℕ) (rows : List Record)
    → AllByRecursion HasField (rows_named column (At i) ids w rows)
rows_fields column i ids w [] = tt
rows_fields column i ids w (r ∷ rows) = (
  named_fields column (length r == w) (id_at ids r) (get_or r i []),
  rows_fields column i ids w rows,
)

roots_fields : (wanted : Option (Bor (List ℕ))) (precision : ℤ) (rs : List Record) → AllByRecursion HasField rs
    → AllByRecursion HasField (roots wanted precision ++ rs)
roots_fields None precision rs h = h
roots_fields (Some wanted) precision rs h = (tt, h)

table_fields : (column : Column) (found ids : Found) (w : ℕ) (rows : List Record)
    → AllByRecursion HasField (header_named column found ++ rows_named column found ids w rows)
table_fields column Absent ids w rows = (tt, tt)
table_fields column Twice ids w rows = (tt, (tt, tt))
table_fields column (At i) ids w rows = (
  tt,
  roots_fields column.ids column.precision (rows_named column (At i) ids w rows) (rows_fields column i ids w rows),
)

-- no byte order mark begins the table's text
no_mark : (column : Column) (found ids : Found) (w : ℕ) (rows : List Record)
    → strip_bom (text_of (header_named column found ++ rows_named column found ids w rows)) ≡ text_of
    (header_named column found ++ rows_named column found ids w rows)
unfolding strip_bom fields_text is_blank
no_mark column Absent ids w rows = refl
no_mark column Twice ids w rows = refl
no_mark column (At i) ids w rows = refl

table_read : (column : Column) (found ids : Found) (w : ℕ) (rows : List Record)
    → AreRecords default_config st.StartRecord
    (strip_bom (text_of (header_named column found ++ rows_named column found ids w rows)))
    (header_named column found ++ rows_named column found ids w rows)
unfolding next_record
table_read column found ids w rows = (
  st.StartRecord,
  [],
  subst (λ (t : List ℕ). Reached default_config st.StartRecord t
      (header_named column found ++ rows_named column found ids w rows) st.StartRecord [])
      (sym (no_mark column found ids w rows)) (reached_all _ (table_fields column found ids w rows)),
  refl,
)

pub named_back : (column : Column) (records : List Record)
    → AreRecords default_config st.StartRecord (strip_bom (text_of (named column records))) (named column records)
unfolding next_record strip_bom Reached
named_back column [] = (st.StartRecord, [], (refl, refl), refl)
named_back column (names ∷ rows) = table_read column (found_in column names) (ids_in column names) (length names) rows
