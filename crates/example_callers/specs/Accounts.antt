-- What an account of a packed table states.
use Rattle.std.specs.Prelude.{◌≡◌, ℕ, List, [], ◌++◌, length, Option, None, Some, ⊤}
use Rattle.std.specs.Io.KnownBytes.{Appends}
use Rattle.twkb_io.specs.Taps.{device_of}
use Rattle.twkb_io.specs.declared.tap.Tap.{Tap}
use Rattle.twkb_tree.specs.Tree.{Tree}
use Rattle.twkb_tree.specs.Limits.{Allowance}
use Rattle.twkb_grammar.specs.Written.{canonical_stream}
use Rattle.twkb_grammar.specs.declared.style.Style.TheVariants.{Full}
use Rattle.twkb_convert.specs.Parts.{IsRefusedAt, NamesAll}
use Rattle.twkb_convert.specs.declared.report.Cause.{Cause}
use Rattle.twkb_convert.specs.declared.report.Cause.TheVariants as cause
use Rattle.example_callers.specs.declared.accounts.Account.{Account}

-- What a stop says about a table. Without a stop, the table names these geometries. If a record
-- was refused, they are those that the refusal leaves complete, and nothing else was sent.
abbrev pub Tells : Allowance → Option (List ℕ) → Option Cause → List Tree → List ℕ → Type 0
Tells limits told None whole front = (front ≡ []) × NamesAll limits told whole
Tells limits told (Some (cause.Row number reason)) whole front = (front ≡ [])
    × IsRefusedAt limits told number reason whole
Tells limits told (Some _) whole front = ⊤

-- The blobs of these geometries were sent whole, with a prefix of the next one's, and the account
-- has their number and all the bytes.
pub record IsAccount {R W : Type 0} (limits : Allowance) (remaining : R → Option (List ℕ))
    (contents : W → Option (List ℕ)) (table : Tap R) (blobs written : Tap W)
    (account : Account) : Type 0 where
  pub whole : List Tree
  pub front : List ℕ
  pub appends : Appends (contents (device_of blobs)) (contents (device_of written))
      (canonical_stream Full whole ++ front)
  pub done : account.done ≡ length whole
  pub sent : account.sent ≡ length (canonical_stream Full whole ++ front)
  pub tells : Tells limits (remaining (device_of table)) account.stopped whole front
