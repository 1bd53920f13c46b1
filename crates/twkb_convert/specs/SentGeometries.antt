-- How far the geometries of a table were sent, and the blob of each.
use Rattle.std.specs.Prelude.{◌≡◌, ℕ, ◌<◌, ◌≤◌, ◌-◌, ◌^◌, List, [], length, Option, Result, Ok, Err, false, ◌⊎◌}
use Rattle.std.specs.Prelude.{◌+◌, cond, nat_eq}
use Rattle.twkb_io.specs.Outputs.{Took, is_spent, sent_of, Cut}
use Rattle.twkb_io.specs.declared.output.Output.{Output}
use Rattle.twkb_tree.specs.Tree.{Tree, nodes, saturated}
use Rattle.twkb_tree.specs.Limits.{Allowance}
use Rattle.twkb_flat.specs.declared.work.Work.{Work}
use Rattle.twkb_grammar.specs.Written.{canonical_stream, canonical_blob}
use Rattle.twkb_grammar.specs.declared.style.Style.{Style}
use Rattle.twkb_table.specs.Record.{Record}
use Rattle.twkb_table.specs.TableReading.{StandsAfter}
use Rattle.twkb_table.specs.declared.table_reader.TableReader.{TableReader}
use Rattle.twkb_convert.specs.Packed.{IsWorkOf, AddsWork, ExplainsPackingCause, total}
use Rattle.twkb_convert.specs.Outputs.{Leaves, AtMostOneCut}
use Rattle.twkb_convert.specs.Parts.{FrontOfBlobs, WholeTable, records_of}
use Rattle.twkb_convert.specs.declared.report.Cause.{Cause}
use Rattle.twkb_convert.specs.declared.sent_geometries.Sent.{Sent}
use Rattle.twkb_convert.specs.declared.report.Cause.TheVariants as cause
use Rattle.twkb_io.specs.declared.output.OutFault.{OutFault}
use Rattle.twkb_convert.specs.Causes.{cause_of_output}

-- ==== How far the geometries of a table were sent.

-- the number of records of so many geometries with so many rows, with that of the header; none of no
-- geometry
abbrev pub records_with : (geometries rows : ℕ) → ℕ
records_with geometries rows = cond (nat_eq geometries 0) 0 (saturated (rows + 1))

-- The geometries of the table so far were sent, by an output that had sent nothing before.
pub record SentSoFar {R W : Type 0} (style : Style) (l : Allowance)
    (remaining : R → Option (List ℕ)) (contents : W → Option (List ℕ)) (told : Option (List ℕ))
    (table : TableReader R) (old new : Output W) (sent : Sent) : Type 0 where
  pub records : List Record
  pub geometries : List Tree
  pub stands : StandsAfter l remaining told records geometries table
  pub took : Took contents old (canonical_stream style geometries) new
  pub count : sent.geometries ≡ length geometries
  pub rows_is : sent.rows ≡ saturated (total nodes geometries)
  pub work_of : IsWorkOf geometries sent.work
  pub fresh : is_spent old ≡ false
  pub unsent : sent_of old ≡ 0

-- These are all geometries of the table, and none was cut.
pub record EndsTable (l : Allowance) (told : Option (List ℕ)) (work : Work) (whole later : List Tree)
    (front : List ℕ) : Type 0 where
  pub table : WholeTable l told
  pub same : table.geometries ≡ whole
  pub work_of : IsWorkOf whole work
  pub no_later : later ≡ []
  pub no_front : front ≡ []

-- what an answer says before it is known whether a read failed
abbrev pub Ends : Style → Allowance → Option (List ℕ) → ℕ → Work → List Tree → List Tree → List ℕ
    → Result (Unit {0}) Cause → Type 0
Ends style l told given work whole later front (Ok done) = EndsTable l told work whole later front
Ends style l told given work whole later front (Err cause.ReadDevice) = (later ≡ []) × (front ≡ [])
Ends style l told given work whole later front (Err why) =
    ExplainsPackingCause style l told given why whole later front

-- The blobs of the first `sent.geometries` geometries of a table were sent, and a prefix of the next blob.
pub record SendsTable {W : Type 0} (style : Style) (l : Allowance) (contents : W → Option (List ℕ))
    (told : Option (List ℕ)) (given : ℕ) (old new : Output W) (sent : Sent) (answer : Result (Unit {0}) Cause)
    : Type 0 where
  pub bytes : List ℕ
  pub part : FrontOfBlobs style l told bytes
  pub one : AtMostOneCut part.later part.rest
  pub leaves : Leaves contents old bytes new answer
  pub count : sent.geometries ≡ length part.whole
  pub taken_is : records_with sent.geometries sent.rows ≡ records_of part.whole
  pub ends : Ends style l told given sent.work part.whole part.later part.front answer

-- what was sent up to the first state goes on to the second
abbrev pub SendsMore : {R W : Type 0} → Style → (R → Option (List ℕ)) → (W → Option (List ℕ))
    → TableReader R → Output W → Sent → TableReader R → Output W → Sent → Type 0
SendsMore {R} {W} style remaining contents from old before to new after = (l : Allowance)
    (told : Option (List ℕ)) (first : Output W) → SentSoFar style l remaining contents told from first old before
    → SentSoFar style l remaining contents told to first new after

-- what was sent up to the first state ends with this answer
abbrev pub EndsAfter : {R W : Type 0} → Style → (R → Option (List ℕ)) → (W → Option (List ℕ)) → TableReader R
    → Output W → Sent → Output W → Sent → Result (Unit {0}) Cause → Type 0
EndsAfter {R} {W} style remaining contents from old before new after answer = (l : Allowance)
    (told : Option (List ℕ)) (given : ℕ) (first : Output W)
    → SentSoFar style l remaining contents told from first old before
    → SendsTable style l contents told given first new after answer

-- what was sent, with the rows of the points among it that were sent since this state, one each
abbrev pub with_rows : Sent → Sent → Sent
with_rows before sent = record sent { rows = saturated (before.rows + (sent.geometries - before.geometries)) }

-- the result of sending the points that wait, after which one more geometry can be counted
abbrev pub SendsPoints : {R W : Type 0} → Style → (R → Option (List ℕ)) → (W → Option (List ℕ)) → TableReader R
    → Output W → Sent → TableReader R → Output W → Sent → Result (Unit {0}) Cause → Type 0
SendsPoints style remaining contents from old before to new after (Ok done) =
    (after.geometries < 2 ^ 64 - 1) × (before.geometries ≤ after.geometries)
    × SendsMore style remaining contents from old before to new after
SendsPoints style remaining contents from old before to new after (Err why) =
    EndsAfter style remaining contents from old before new after (Err why)

-- ==== How far the blob of one geometry was sent.

-- The blob was sent, and the work was counted.
pub record WritesBlob {W : Type 0} (style : Style) (contents : W → Option (List ℕ)) (g : Tree)
    (old : Output W) (before : Work) (new : Output W) (after : Work) : Type 0 where
  pub took : Took contents old (canonical_blob style g) new
  pub work : AddsWork g before after

-- nothing was sent if memory was refused, otherwise a prefix of the blob
abbrev pub CutsBlob : {W : Type 0} → Style → (W → Option (List ℕ)) → Tree → Output W → Cause → Output W → Type 0
CutsBlob style contents g old why new = ((why ≡ cause.Memory) × (new ≡ old))
    ⊎ ((fault : OutFault) × (why ≡ cause_of_output fault) × Cut contents old (canonical_blob style g) fault new)
