-- The output of a CSV is that of the table that it names.
use Rattle.std.proofs.Common.{◌≡◌, subst, ℕ, List, Some}
use Rattle.std.specs.Prelude.{is_some}
use Rattle.twkb_io.specs.Inputs.{BeginsWith}
use Rattle.twkb_csv.specs.Named.{Record, named}
use Rattle.twkb_csv.specs.declared.column.Column.{Column}
use Rattle.twkb_tree.specs.Tree.{Tree}
use Rattle.twkb_tree.specs.Limits.{Allowance, IsAllowance}
use Rattle.twkb_grammar.specs.declared.style.Style.{Style}
use Rattle.twkb_table.specs.declared.reason.RowReason.{RowReason}
use Rattle.twkb_convert.specs.Outputs.{PackTextTo, PackTo}
use Rattle.twkb_convert.specs.Parts.{FrontOfBlobs, IsRefusedAt}
use Rattle.twkb_convert.proofs.RoundTrips.{one_output, one_records, pack_front, refused_all, some_output}
use Rattle.twkb_column.specs.Causes.{refused_as}
use Rattle.twkb_column.specs.CsvFaults.{IsFirst, csv_fault}
use Rattle.twkb_column.specs.Packing.{AreRecordsOfCsv, NamesText, PackColumnTo}
use Rattle.twkb_column.specs.declared.fault.ColumnCause.TheVariants.{Csv}
use Rattle.twkb_column.specs.declared.fault.ColumnReason.{ColumnReason}
use Rattle.twkb_column.proofs.CsvLemmas.{some_records, text_back}
use Rattle.twkb_column.proofs.FaultLemmas.{first_fault, told_fault}

pub some_output_of : (style : Style) (l : Allowance) (column : Column) (csv : List ℕ) → IsAllowance l
    → (bytes : List ℕ) × PackColumnTo style l column csv bytes
some_output_of style l column csv allowed =
    let (records, all) = some_records column csv in
    let (bytes, packs) = some_output style l (named column records) allowed in
    (bytes, (records, all, packs))

pub one_output_of : (style : Style) (l : Allowance) (column : Column) (csv text bytes other : List ℕ) → IsAllowance l
    → NamesText column (Some csv) (Some text) → PackTextTo style l text bytes → PackColumnTo style l column csv other
    → other ≡ bytes
one_output_of style l column csv text bytes other allowed names (rows, are, packs) (records, all, packed) =
    let same = one_records text rows (named column records) are (text_back column csv text records all names) in
    one_output style l (named column records) other bytes allowed packed
    (subst (λ (rs : List Record). PackTo style l rs bytes) same packs)

pub front_of : (style : Style) (l : Allowance) (column : Column) (csv text written bytes : List ℕ) → IsAllowance l
    → NamesText column (Some csv) (Some text) → FrontOfBlobs style l (Some text) written
    → PackColumnTo style l column csv bytes → BeginsWith (Some bytes) written
front_of style l column csv text written bytes allowed names front (records, all, packs) =
    pack_front style l text written bytes allowed front (
      named column records,
      text_back column csv text records all names,
      packs,
    )

pub refused_first : (l : Allowance) (column : Column) (csv text : List ℕ) (records : List Record) (number : ℕ)
    (reason : RowReason) (gs : List Tree) → AreRecordsOfCsv column csv records
    → NamesText column (Some csv) (Some text) → IsRefusedAt l (Some text) number reason gs
    → IsFirst (is_some column.ids) (csv_fault column records) number reason
refused_first l column csv text records number reason gs all names refused =
    first_fault l column records number reason gs
    (refused_all l text (named column records) number reason gs (text_back column csv text records all names, refused))

pub refused_told : (l : Allowance) (column : Column) (csv text : List ℕ) (records : List Record) (number first : ℕ)
    (reason : RowReason) (why : ColumnReason) (gs : List Tree) → AreRecordsOfCsv column csv records
    → NamesText column (Some csv) (Some text) → IsRefusedAt l (Some text) number reason gs
    → refused_as (is_some column.ids) number reason ≡ Csv first why → csv_fault column records ≡ Some (first, why)
refused_told l column csv text records number first reason why gs all names refused told =
    told_fault (is_some column.ids) (csv_fault column records) number first reason why
    (refused_first l column csv text records number reason gs all names refused) told
