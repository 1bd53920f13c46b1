-- The records of a CSV, and the text of the table that they name.
use Rattle.std.proofs.Common.{◌≡◌, ◌∙◌, sym, ap, refl, subst, ℕ, Bool, true, false, zero, suc, List, [], ◌∷◌}
use Rattle.std.proofs.Common.{Option, Some, None, ◌<◌, ◌≤◌, length, arith}
use Rattle.std.specs.Prelude.{option_map, if◌then◌else◌, ⊤}
use Rattle.csv.specs.Machine.{Read, ends_at_end, field_after, fields_after, is_end, next_record, step}
use Rattle.csv.specs.Reading.{AreRecords, Reached, strip_bom}
use Rattle.csv.specs.declared.parser.Config.{Config}
use Rattle.csv.specs.declared.parser.State.{State}
use Rattle.csv.specs.declared.parser.State.TheVariants as st
use Rattle.twkb_csv.specs.Machine.{config}
use Rattle.twkb_csv.specs.Named.{Record, named, text_of}
use Rattle.twkb_csv.specs.Reading.{fresh_text}
use Rattle.twkb_csv.specs.declared.column.Column.{Column}
use Rattle.twkb_csv.proofs.RecordLemmas.{named_back, named_read}
use Rattle.twkb_table.specs.CsvRecords.{AreRecordsOf}
use Rattle.twkb_column.specs.Packing.{AreRecordsOfCsv, NamesText}

-- ==== Any bytes have records.

-- what a read leaves is shorter than this
abbrev pub Shorter : ℕ → Option Read → Type 0
Shorter n None = ⊤
Shorter n (Some p) = length p.2 < n

shorter_still : (m n : ℕ) (o : Option Read) → m ≤ n → Shorter m o → Shorter n o
shorter_still m n None less h = tt
shorter_still m n (Some p) less h = omega (arith, less, h)

shorter_if : (end : Bool) (n : ℕ) (a b : Option Read) → Shorter n a → Shorter n b
    → Shorter n (if end then a else b)
shorter_if true n a b h k = h
shorter_if false n a b h k = k

-- a read of some bytes takes one of them at least
shorter : (cfg : Config) (s : State) (fields : Record) (field : List ℕ) (c : ℕ) (rest : List ℕ)
    → Shorter (suc (length rest)) (next_record cfg s fields field (c ∷ rest))
unfolding next_record
shorter cfg s fields field c [] = shorter_if (is_end (step cfg s c).1) 1 _ _ (omega arith)
    (shorter_if (ends_at_end (step cfg s c).0) 1 _ None (omega arith) tt)
shorter cfg s fields field c (d ∷ rest) =
    shorter_if (is_end (step cfg s c).1) (suc (suc (length rest))) _ _ (omega arith)
    (shorter_still (suc (length rest)) (suc (suc (length rest))) _ (omega arith)
    (shorter cfg (step cfg s c).0 (fields_after (step cfg s c).1 fields field) (field_after (step cfg s c).1 c field) d
    rest))

-- bytes have records
abbrev pub HaveRecords : Config → State → List ℕ → Type 0
HaveRecords cfg s xs = (records : List Record) × AreRecords cfg s xs records

none_next : (cfg : Config) (s : State) (xs : List ℕ) → next_record cfg s [] [] xs ≡ None → HaveRecords cfg s xs
unfolding Reached
none_next cfg s xs e = ([], (s, xs, (refl, refl), e))

one_next : (cfg : Config) (s : State) (xs : List ℕ) (p : Read) → next_record cfg s [] [] xs ≡ Some p
    → HaveRecords cfg p.1 p.2 → HaveRecords cfg s xs
unfolding Reached
one_next cfg s xs p e (records, all) = (p.0 ∷ records, (all.0, all.1, (p, e, refl, all.2), all.3))

at_end : (cfg : Config) (s : State) (ends : Bool) → ends_at_end s ≡ ends → HaveRecords cfg s []
unfolding next_record
at_end cfg s true e = one_next cfg s [] ([] ∷ [], st.StartRecord, []) (rw e refl) (none_next cfg st.StartRecord [] refl)
at_end cfg s false e = none_next cfg s [] (rw e refl)

next_some : (cfg : Config) (n : ℕ) → ((s : State) (xs : List ℕ) → length xs < n → HaveRecords cfg s xs)
    → (s : State) (xs : List ℕ) (o : Option Read) → next_record cfg s [] [] xs ≡ o → Shorter n o → HaveRecords cfg s xs
next_some cfg n ih s xs None e h = none_next cfg s xs e
next_some cfg n ih s xs (Some p) e h = one_next cfg s xs p e (ih p.1 p.2 h)

records_by : (cfg : Config) (n : ℕ) (s : State) (xs : List ℕ) → length xs < n → HaveRecords cfg s xs
records_by cfg zero s xs h = absurd (omega (arith, h))
records_by cfg (suc n) s [] h = at_end cfg s (ends_at_end s) refl
records_by cfg (suc n) s (c ∷ rest) h = next_some cfg n (records_by cfg n) s (c ∷ rest) _ refl
    (shorter_still (suc (length rest)) n _ (omega (arith, h)) (shorter cfg s [] [] c rest))

pub some_records : (column : Column) (csv : List ℕ) → (records : List Record) × AreRecordsOfCsv column csv records
some_records column csv =
    records_by (config column.delimiter) (suc (length (strip_bom csv))) st.StartRecord (strip_bom csv) (omega arith)

-- ==== The text of the table.

-- the text that a reader of the column gives
pub names_fresh : (column : Column) (told : Option (List ℕ))
    → NamesText column told (fresh_text column (option_map strip_bom told))
names_fresh column None = refl
names_fresh column (Some bytes) =
    let some = some_records column bytes in
    (some.0, some.1, ap Some (named_read column some.0 some.1.0 (strip_bom bytes) some.1.1 some.1.2 some.1.3))

pub named_by : (column : Column) (told mid text : Option (List ℕ)) → text ≡ fresh_text column mid
    → mid ≡ option_map strip_bom told → NamesText column told text
named_by column told mid text same bytes =
    subst (λ (t : Option (List ℕ)). NamesText column told t) (sym (same ∙ ap (fresh_text column) bytes))
    (names_fresh column told)

pub one_text : (column : Column) (csv text : List ℕ) (records : List Record) → AreRecordsOfCsv column csv records
    → NamesText column (Some csv) (Some text) → text ≡ text_of (named column records)
one_text column csv text records all (others, more, e) =
    let first = named_read column others more.0 (strip_bom csv) more.1 more.2 more.3 in
    let second = named_read column records all.0 (strip_bom csv) all.1 all.2 all.3 in
    let same : text ≡ text_of (named column others) = cc e in
    same ∙ sym first ∙ second

pub text_back : (column : Column) (csv text : List ℕ) (records : List Record) → AreRecordsOfCsv column csv records
    → NamesText column (Some csv) (Some text) → AreRecordsOf text (named column records)
text_back column csv text records all names =
    subst (λ (t : List ℕ). AreRecordsOf t (named column records)) (sym (one_text column csv text records all names))
    (named_back column records)
