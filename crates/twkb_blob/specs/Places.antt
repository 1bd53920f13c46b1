-- What the end of a geometry makes of its span.
use Rattle.std.specs.Prelude.{ℕ, ◌-◌}
use Rattle.twkb_grammar.specs.declared.span.Span.{Span}

-- a span whose geometry ends at this offset, with this number of points so far
abbrev pub measured : (offset points : ℕ) → Span → Span
measured offset points s = record s { length = offset - s.offset; points = points - s.points }
