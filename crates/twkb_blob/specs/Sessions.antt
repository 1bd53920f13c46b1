-- What a session stands for.
use Rattle.std.specs.Prelude.{ℕ, ◌≡◌, ◌+◌, ◌-◌, ◌<◌, ◌≤◌, ◌⊎◌, ◌↔◌, if◌then◌else◌, List, [], ◌∷◌, ◌++◌, length}
use Rattle.std.specs.Prelude.{take, sum_by, Bool, true, false, Option, Some, None, Result, Ok, Err, is_err}
use Rattle.twkb_io.specs.declared.TheConstants.{MAX_BYTES}
use Rattle.twkb_tree.specs.Tree.{Tree}
use Rattle.twkb_tree.specs.Rows.{Row, rows}
use Rattle.twkb_tree.specs.Limits.{Allowance}
use Rattle.twkb_grammar.specs.Roles.{Role, Header, End, Item}
use Rattle.twkb_grammar.specs.Items.{Stream}
use Rattle.twkb_grammar.specs.Fault.{StreamFault, Truncated}
use Rattle.twkb_engine.specs.State.{allowance_of}
use Rattle.twkb_engine.specs.Taking.{open_in}
use Rattle.twkb_engine.specs.Standing.{StandsAt, held_in}
use Rattle.twkb_engine.specs.Stops.{reason_of}
use Rattle.twkb_body.specs.HeaderParts.{PartIn}
use Rattle.twkb_io.specs.declared.input.InFault.TheVariants.{TooLong}
use Rattle.twkb_blob.specs.Faults.{RefusedAt}
use Rattle.twkb_blob.specs.Readers.{failed_by_read}
use Rattle.twkb_blob.specs.declared.session.Session.{Session}
use Rattle.twkb_blob.specs.declared.fault.BlobFault.{BlobFault}
use Rattle.twkb_blob.specs.declared.fault.BlobFault.TheVariants as fault

-- its limits
abbrev pub session_limits : Session → Allowance
session_limits s = allowance_of s.engine

-- whether a call returned an error, or the stream was finished
abbrev pub is_spent : Session → Bool
is_spent s = s.spent

-- how many bytes it holds of a number that is not complete
abbrev pub session_held : Session → ℕ
session_held s = length (held_in s.engine)

-- how many geometries are begun and not finished
abbrev pub session_open : Session → ℕ
session_open s = open_in s.engine

-- the rows in its form
abbrev pub session_rows : Session → List Row
session_rows s = s.rows.flat

-- the rows of the geometry that is read: none if the form still has those of the last one
abbrev pub begun_rows : Session → List Row
begun_rows s = if s.is_whole then [] else s.rows.flat

-- it is not spent, and the bytes, at most 2^62, are blobs of these geometries, and then a part and
-- the bytes that it holds of a number
pub record Stands (bytes : List ℕ) (gs : List Tree) (s : Session) : Type 0 where
  pub front : List ℕ
  pub rest : List ℕ
  pub whole : bytes ≡ front ++ rest
  pub few : length bytes ≤ MAX_BYTES
  pub blobs : Stream (session_limits s) front gs
  pub begun : StandsAt rest (begun_rows s) s.engine
  pub start : s.engine.start ≡ length front
  pub live : s.spent ≡ false

-- the bytes are blobs of these geometries, or these and then a blob that they end in
abbrev pub AreBegun : Allowance → List ℕ → List Tree → Type 0
AreBegun limits bytes gs = Stream limits bytes gs ⊎ ((offset : ℕ) × StreamFault limits bytes gs offset Truncated)

-- So many bytes are after the last complete item: none after complete blobs, and inside a blob
-- those from the place on where the next item is missing.
abbrev pub HeldOf : Allowance → List ℕ → List Tree → ℕ → Type 0
HeldOf limits bytes gs n = (Stream limits bytes gs × (n ≡ 0))
    ⊎ ((offset : ℕ) × StreamFault limits bytes gs offset Truncated × (offset + n ≡ length bytes))

-- how many geometries an item in this role begins
abbrev pub begun_by : Role → ℕ
begun_by Header = 1
begun_by _ = 0

-- how many geometries it ends
abbrev pub ended_by : Role → ℕ
ended_by (End declared came) = 1
ended_by _ = 0

-- the number of geometries that begin among the items and do not end among them: the headers less the ends
abbrev pub AreOpen : List Item → ℕ → Type 0
AreOpen is n = n + sum_by (λ i. ended_by i.role) is ≡ sum_by (λ i. begun_by i.role) is

-- So many geometries are begun and not finished: none after complete blobs, and inside a blob those
-- of its items before the place where the next is missing.
abbrev pub FramesOf : Allowance → List ℕ → List Tree → ℕ → Type 0
FramesOf limits bytes gs n = (Stream limits bytes gs × (n ≡ 0))
    ⊎ ((offset : ℕ) × (cut : StreamFault limits bytes gs offset Truncated)
    × AreOpen cut.first.fault.before n)

-- the piece goes past 2^62 bytes, and up to there no geometry ends in it and no item is refused
pub record IsTooLong (limits : Allowance) (bytes : List ℕ) (gs : List Tree) (piece : List ℕ) : Type 0 where
  pub past : MAX_BYTES < length bytes + length piece
  pub begun : AreBegun limits (bytes ++ take (MAX_BYTES - length bytes) piece) gs

-- The bytes are blobs of these geometries, and then some after which a prefix of the piece, one
-- byte at least, ends a part.
pub record PartAt (limits : Allowance) (bytes : List ℕ) (gs : List Tree) (piece : List ℕ) : Type 0 where
  pub front : List ℕ
  pub rest : List ℕ
  pub whole : bytes ≡ front ++ rest
  pub blobs : Stream limits front gs
  pub part : PartIn limits rest piece

-- A feed uses the whole piece, or up to the end of a geometry, which is the next one of the stream;
-- or an item ends in the piece that may stand there, but for which there is no memory, or that is
-- refused; or the piece goes past 2^62 bytes.
abbrev pub FedSession : List ℕ → List Tree → List ℕ → Result (ℕ × Option Tree) BlobFault → Session → Type 0
FedSession bytes gs piece (Ok (used, None)) s = (used ≡ length piece) × Stands (bytes ++ piece) gs s
FedSession bytes gs piece (Ok (used, Some g)) s =
    (0 < used) × (used ≤ length piece) × Stream (session_limits s) (bytes ++ take used piece)
    (gs ++ g ∷ []) × Stands (bytes ++ take used piece) (gs ++ g ∷ []) s
FedSession bytes gs piece (Err fault.Memory) s = PartAt (session_limits s) bytes gs piece
FedSession bytes gs piece (Err (fault.Device why)) s = (why ≡ TooLong) × IsTooLong (session_limits s) bytes gs piece
FedSession bytes gs piece (Err fault.Spent) s = ⊥
FedSession bytes gs piece (Err (fault.At offset reason)) s = RefusedAt (session_limits s) bytes gs
    piece offset (reason_of reason)

-- What a feed answers, with the rows of the geometry in the form.
abbrev pub FedFlat : List ℕ → List Tree → List ℕ → Result (ℕ × Bool) BlobFault → Session → Type 0
FedFlat bytes gs piece (Ok (used, false)) s = FedSession bytes gs piece (Ok (used, None)) s
FedFlat bytes gs piece (Ok (used, true)) s = (g : Tree)
    × FedSession bytes gs piece (Ok (used, Some g)) s × (session_rows s ≡ rows 0 g)
FedFlat bytes gs piece (Err why) s = FedSession bytes gs piece (Err why) s

-- What every feed of a session says: no read failed; it is refused for an error before, and only
-- then; an error leaves the session spent; its limits stay.
pub record FeedsOn {A : Type 0} (old new : Session) (answer : Result A BlobFault) : Type 0 where
  pub unread : failed_by_read answer ≡ false
  pub spent : (answer ≡ Err fault.Spent) ↔ (is_spent old ≡ true)
  pub stays : is_spent new ≡ is_err answer
  pub limits : session_limits new ≡ session_limits old

-- how many bytes a call took, with whether a geometry ended
abbrev pub with_end : Bool → Result ℕ BlobFault → Result (ℕ × Bool) BlobFault
with_end ended (Ok used) = Ok (used, ended)
with_end ended (Err why) = Err why

-- The bytes are a stream, or blobs and then a blob that they end in.
abbrev pub Finished : {A : Type 0} → Allowance → List ℕ → List Tree → Result A BlobFault → Type 0
Finished limits bytes gs (Ok done) = Stream limits bytes gs
Finished limits bytes gs (Err (fault.At offset reason)) = StreamFault limits bytes gs offset (reason_of reason)
Finished limits bytes gs (Err _) = ⊥
