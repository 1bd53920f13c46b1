-- Bounds on what an engine counts, which follow from limits.
use Rattle.std.specs.Prelude.{ℕ, ◌^◌}

-- More collections than can be open: limits let at most NEST_CAP nest.
abbrev pub depth_cap : ℕ
depth_cap = 64

-- Offsets in a stream are at most this, which is above MAX_BYTES of `twkb_io`, the most bytes of a stream.
abbrev pub place_cap : ℕ
place_cap = 2 ^ 63
