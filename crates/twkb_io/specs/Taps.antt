-- Taps, fuses and a reader that remembers its end, as contracts see them.
use Rattle.std.specs.Prelude.{ℕ, ◌+◌, ◌-◌, ◌^◌, min, List, Bool, true, false, if◌then◌else◌, Result, Ok, Err, length}
use Rattle.std.specs.Prelude.{◌&&◌, ◌==◌, not, ◌≡◌, Option, take, IsErr}
use Rattle.twkb_io.specs.declared.tap.Tap.{Tap}
use Rattle.std.specs.Option.{option_map}
use Rattle.twkb_io.specs.declared.fuse.Fuse.{Fuse}
use Rattle.twkb_io.specs.declared.fuse.FuseEnd.{FuseEnd}
use Rattle.twkb_io.specs.declared.fuse.FuseEnd.TheVariants.{Fail, Zero}
use Rattle.std.specs.declared.io.traits.Read.{Ghosts}
use Rattle.twkb_io.specs.declared.ending.Ending.{Ending}

-- ==== A tap as contracts see it, and how its counts change.

-- the device under a tap
abbrev pub device_of : {D : Type 0} → Tap D → D
device_of tap = tap.device

-- the number of reads, writes and flushes passed on so far
abbrev pub calls_of : {D : Type 0} → Tap D → ℕ
calls_of tap = tap.calls

-- the number of flushes passed on so far
abbrev pub flushes_of : {D : Type 0} → Tap D → ℕ
flushes_of tap = tap.flushes

-- the number of calls that failed so far
abbrev pub failures_of : {D : Type 0} → Tap D → ℕ
failures_of tap = tap.failures

-- the number of bytes that the reads gave so far
abbrev pub bytes_given : {D : Type 0} → Tap D → ℕ
bytes_given tap = tap.given

-- whether bytes were taken after the last flush that passed
abbrev pub has_unflushed : {D : Type 0} → Tap D → Bool
has_unflushed tap = tap.unflushed

-- whether the last write took none of its bytes
abbrev pub is_stuck : {D : Type 0} → Tap D → Bool
is_stuck tap = tap.stuck

-- the count after one more call; it stops at the greatest u64
abbrev pub one_call : ℕ → ℕ
one_call n = min (n + 1) (2 ^ 64 - 1)

-- the count after a call, one higher if it failed; it stops at the greatest u64
abbrev pub count_failure : Bool → ℕ → ℕ
count_failure has_failed n = if has_failed then min (n + 1) (2 ^ 64 - 1) else n

-- whether a write of at least one byte returned and took none
abbrev pub takes_none : {E : Type 0} → Result ℕ E → List ℕ → Bool
takes_none (Ok n) bytes = (n == 0) && not (length bytes == 0)
takes_none (Err e) bytes = false

-- whether a write failed, which includes one of at least one byte that took none
abbrev pub write_failed : {E : Type 0} → Result ℕ E → List ℕ → Bool
write_failed (Ok n) bytes = (n == 0) && not (length bytes == 0)
write_failed (Err e) bytes = true

-- the number of bytes given after one more read; it stops at the greatest u64
abbrev pub count_given : {E : Type 0} → Result ℕ E → ℕ → ℕ
count_given (Ok n) given = min (given + n) (2 ^ 64 - 1)
count_given (Err e) given = given

-- whether a write took bytes
abbrev pub takes_some : {E : Type 0} → Result ℕ E → Bool
takes_some (Ok n) = not (n == 0)
takes_some (Err e) = false

-- ==== The bytes that a fuse still passes.

-- the device under a fuse
abbrev pub fuse_device : {D : Type 0} → Fuse D → D
fuse_device fuse = fuse.device

-- the number of bytes that it still passes
abbrev pub left_of : {D : Type 0} → Fuse D → ℕ
left_of fuse = fuse.left

-- the most bytes that it passes in one call
abbrev pub step_of : {D : Type 0} → Fuse D → ℕ
step_of fuse = fuse.step

-- how it answers after its bytes
abbrev pub end_of : {D : Type 0} → Fuse D → FuseEnd
end_of fuse = fuse.end

-- whether its flush fails
abbrev pub fails_flush : {D : Type 0} → Fuse D → Bool
fails_flush fuse = fuse.flush_fails

-- the known bytes, up to the number that the fuse passes
abbrev pub passed : ℕ → Option (List ℕ) → Option (List ℕ)
passed left known = option_map (λ bytes. take left bytes) known

-- the number of bytes that a call moved
abbrev pub moved : {E : Type 0} → Result ℕ E → ℕ
moved (Ok count) = count
moved (Err e) = 0

-- after its bytes a fuse fails or moves no byte
abbrev pub Dries : {E : Type 0} → FuseEnd → Result ℕ E → Type 0
Dries Fail result = IsErr result
Dries Zero result = result ≡ Ok 0

-- all but the device and the number of bytes left stays as it was
pub record KeepsSettings {D : Type 0} (old new : Fuse D) : Type 0 where
  pub step : step_of new ≡ step_of old
  pub end : end_of new ≡ end_of old
  pub flush : fails_flush new ≡ fails_flush old

-- ==== A reader that remembers its end, as contracts see it.

-- the reader underneath
abbrev pub under : {R : Type 0} {read : Ghosts R} → Ending R read → R
under ending = ending.reader

-- whether the end was seen
abbrev pub has_ended : {R : Type 0} {read : Ghosts R} → Ending R read → Bool
has_ended ending = ending.ended

-- the end is seen at the first read that had room and gave no byte, and from then on
abbrev pub Ends : {E : Type 0} → Bool → Result ℕ E → List ℕ → Bool → Type 0
Ends true read bytes after = after ≡ true
Ends false (Ok n) bytes after = after ≡ (n == 0) && not (length bytes == 0)
Ends false (Err e) bytes after = after ≡ false
