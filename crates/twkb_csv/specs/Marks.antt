-- The bytes that a reader without a byte order mark still gives.
use Rattle.std.specs.Prelude.{ℕ, List, Option, option_map, slice_range, take, if◌then◌else◌, get_or, ◌==◌, ◌&&◌}
use Rattle.std.specs.Io.KnownBytes.{prepend_known}
use Rattle.std.specs.declared.io.traits.Read.{Ghosts}
use Rattle.csv.specs.Reading.{is_bom, strip_bom}
use Rattle.twkb_csv.specs.declared.unmarked.Unmarked.{Unmarked}

-- the reader underneath
abbrev pub marked_of : {R : Type 0} {read : Ghosts R} → Unmarked R read → R
marked_of r = r.reader

-- the bytes that are still given, by those that the reader underneath still gives: the first ones that are held, and
-- then those; and none of a mark at the start
abbrev pub unmarked_of : {R : Type 0} {read : Ghosts R} → Option (List ℕ) → Unmarked R read → Option (List ℕ)
unmarked_of told r = if r.begun then prepend_known (slice_range r.start r.at r.filled) told
    else option_map strip_bom (prepend_known (take r.filled r.start) told)

-- the length of the mark at the start, of which so many bytes are known
abbrev pub mark_length : List ℕ → ℕ → ℕ
mark_length start filled = if (filled == 3) && is_bom (get_or start 0 0) (get_or start 1 0)
    (get_or start 2 0) then 3 else 0
