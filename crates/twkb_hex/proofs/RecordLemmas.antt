-- The records of a text, one more, and the column of a header.
use Rattle.std.proofs.Common.{◌≡◌, ◌∙◌, ℕ, List, [], ◌∷◌, ◌++◌, Option, Some, None, Bool, true, false, sym, refl, inl}
use Rattle.std.proofs.Common.{ap, get_or, length, ◌<◌, ◌≤◌, ◌+◌, drop}
use Rattle.std.specs.Prelude.{option_map, IfSome, if◌then◌else◌}
use Rattle.std.specs.Str.{bytes_eq}
use Rattle.std.specs.Borrow.{MutBor}
use Rattle.csv.specs.Reading.{Reached, ReadRecord, Ready, is_flexible, reader_state, reader_trim}
use Rattle.csv.specs.Reading.{source_of, strip_bom, took_first}
use Rattle.csv.specs.declared.reader.Reader.{Reader}
use Rattle.csv.specs.declared.parser.State.TheVariants as st
use Rattle.csv.specs.declared.reader.Trim.TheVariants as trim
use Rattle.csv.proofs.ReadFacts.{rows-end, rows-more}
use Rattle.twkb_io.specs.declared.tap.Tap.{Tap}
use Rattle.twkb_csv.specs.Machine.{config}
use Rattle.twkb_csv.specs.Named.{Record}
use Rattle.twkb_hex.specs.Records.{AreRecordsOf, BeginWith, HasGiven, HasGivenOf, IsSetUp, ReadsNext, told_by}
use Rattle.twkb_hex.specs.Rows.{found_from, found_in, one_more}
use Rattle.twkb_hex.specs.declared.found.Found.{Found}
use Rattle.std.proofs.lemmas.List.{drop_more, drop_all}

-- ==== What a read of `csv` says about the place in a text.

-- a new reader has given no record
pub given_none : {R : Type 0} (delimiter : ℕ) (remaining : R → Option (List ℕ)) (told : Option (List ℕ))
    (reader : Reader (MutBor (Tap R)))
    → source_of (told_by remaining) reader ≡ option_map strip_bom told → reader_state reader ≡ st.StartRecord
    → HasGivenOf delimiter remaining told [] reader
unfolding Reached
given_none delimiter remaining None reader source state = tt
given_none delimiter remaining (Some text) reader source state = (strip_bom text, source, (sym state, refl))

-- one more record was given
given_more : {R : Type 0} (delimiter : ℕ) (remaining : R → Option (List ℕ)) (old new : Reader (MutBor (Tap R)))
    (fields : Record)
    → IsSetUp delimiter old → ReadRecord (told_by remaining) old new true fields
    → (told : Option (List ℕ)) (records : List Record) → HasGivenOf delimiter remaining told records old
    → HasGivenOf delimiter remaining told (records ++ fields ∷ []) new
given_more delimiter remaining old new fields set_up read None records given = tt
given_more delimiter remaining old new fields set_up read (Some text) records given =
    rows-more (told_by remaining) old new fields (config delimiter) st.StartRecord (strip_bom text)
    given.0 records set_up.3 given.1 given.2 read

-- there is no further record
given_all : {R : Type 0} (delimiter : ℕ) (remaining : R → Option (List ℕ)) (old new : Reader (MutBor (Tap R)))
    (fields : Record)
    → IsSetUp delimiter old → ReadRecord (told_by remaining) old new false fields
    → (told : Option (List ℕ)) (records : List Record) → HasGivenOf delimiter remaining told records old
    → IfSome told (λ text. AreRecordsOf delimiter text records)
given_all delimiter remaining old new fields set_up read None records given = tt
given_all delimiter remaining old new fields set_up read (Some text) records given = (
  reader_state old,
  given.0,
  given.2,
  rows-end (told_by remaining) old new fields (config delimiter) given.0 set_up.3 given.1 read,
)

-- the text begins with the records given
pub given_begins : {R : Type 0} (delimiter : ℕ) (remaining : R → Option (List ℕ)) (told : Option (List ℕ))
    (records : List Record) (reader : Reader (MutBor (Tap R))) → HasGiven delimiter remaining told records reader
    → IfSome told (λ text. BeginWith delimiter text records)
given_begins delimiter remaining None records reader given = tt
given_begins delimiter remaining (Some text) records reader (set_up, (left, source, reached)) =
    (reader_state reader, left, reached)

-- what a read of `csv` shows
pub given_next : {R : Type 0} (remaining : R → Option (List ℕ)) (old new : Reader (MutBor (Tap R)))
    (fields : Record) (found : Bool) → (reader_trim old ≡ trim.None → took_first new ≡ true)
    → is_flexible new ≡ is_flexible old
    → (reader_trim old ≡ trim.None → Ready old → ReadRecord (told_by remaining) old new found
    fields)
    → ReadsNext remaining old found fields new
given_next remaining old new fields true first flexible read = λ delimiter told records (set_up, given).
    (let step = read set_up.0 set_up.1 in (
      (step.3 ∙ set_up.0, inl (first set_up.0), flexible ∙ set_up.2, step.2 ∙ set_up.3),
      given_more delimiter remaining old new fields set_up step told records given,
    ))
given_next remaining old new fields false first flexible read = λ delimiter told records (set_up, given).
    given_all delimiter remaining old new fields set_up (read set_up.0 set_up.1) told records given

-- ==== The column of a header.

-- what is known after the field at this place
abbrev pub found_next : List ℕ → Found → ℕ → List ℕ → Found
found_next name found place field = if bytes_eq field name then one_more found place else found

-- one more field
pub found_step : (name : List ℕ) (header : Record) (found new : Found) (i : ℕ) → i < length header
    → new ≡ found_next name found i (get_or header i [])
    → found_from name found i (drop i header) ≡ found_in name header
    → found_from name new (i + 1) (drop (i + 1) header) ≡ found_in name header
unfolding found_from
found_step name header found new i h is before =
    let parts : drop i header ≡ get_or header i [] ∷ drop (i + 1) header = drop_more header i [] h in
    ap (λ (f : Found). found_from name f (i + 1) (drop (i + 1) header)) is
    ∙ sym (ap (λ (fs : Record). found_from name found i fs) parts) ∙ before

-- no field is left
pub found_all : (name : List ℕ) (header : Record) (found : Found) (i : ℕ) → length header ≤ i
    → found_from name found i (drop i header) ≡ found_in name header → found ≡ found_in name header
unfolding found_from
found_all name header found i all before =
    sym (ap (λ (fs : Record). found_from name found i fs) (drop_all i header all)) ∙ before
