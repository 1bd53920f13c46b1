-- Limits, styles, options and conversions, as C passes them (profile).
use Rattle.std.specs.Prelude.{◌≡◌, ℕ, ◌+◌, ◌*◌, ◌<◌, ◌==◌, Bool, true, false, if◌then◌else◌, List, length, drop}
use Rattle.std.specs.Prelude.{All, Some, None, get_or}
use Rattle.twkb_tree.specs.Limits.{Allowance, IsAllowance}
use Rattle.twkb_tree.specs.declared.limits.TheConstants.{NEST_STANDARD, NODES_CAP, POINTS_CAP}
use Rattle.twkb_grammar.specs.declared.style.Style.{Style}
use Rattle.twkb_grammar.specs.declared.style.Style.TheVariants.{Full, Plain}
use Rattle.twkb_conversions.specs.declared.conversion.Conversion.{Conversion}
use Rattle.twkb_conversions.specs.Conversions.{conversion_at}
use Rattle.twkb_buffer.specs.Polylines.{nothing_report}
use Rattle.twkb_buffer.specs.declared.report.BufferReport.{BufferReport}
use Rattle.twkb_arrays.specs.declared.filled_arrays.BufferCounts.{BufferCounts}
use Rattle.twkb_c.specs.declared.arguments.BufferLimits.{BufferLimits}

-- the number of a style
abbrev pub IsStyleNumber : Style → ℕ → Type 0
IsStyleNumber Full number = number ≡ 0
IsStyleNumber Plain number = number ≡ 1

-- the number of the flag to stop at the first geometry without room, and that of no flag
abbrev pub IsStopFlag : Bool → ℕ → Type 0
IsStopFlag true number = number ≡ 1
IsStopFlag false number = number ≡ 0

-- the limits as the conversions use them
abbrev pub allowance_of : BufferLimits → Allowance
allowance_of limits = record { nest = limits.nest; nodes = limits.nodes; points = limits.points }

-- the report of arguments that are out of range
abbrev pub arguments_report : BufferReport
arguments_report = nothing_report 2 0

-- A call with the number of a conversion, with limits and with the number of a style does this with
-- the conversion and the limits; if one of them is out of range, its report is that of such arguments.
pub record CallsConversion (Does : Conversion → Allowance → Type 0) (number : ℕ) (limits : BufferLimits)
    (style : ℕ) (report : BufferReport) : Type 0 where
  pub does : IsAllowance (allowance_of limits) → (s : Style) → IsStyleNumber s style
      → (what : Conversion) → conversion_at s number ≡ Some what → Does what (allowance_of limits)
  pub limits_out_of_range : (IsAllowance (allowance_of limits) → ⊥) → report ≡ arguments_report
  pub style_out_of_range : 1 < style → report ≡ arguments_report
  pub conversion_out_of_range : (s : Style) → IsStyleNumber s style → conversion_at s number ≡ None
      → report ≡ arguments_report

-- the word of options at a place, and 0 if they end before it
abbrev pub option_at : List ℕ → ℕ → ℕ
option_at words place = get_or words place 0

-- the words are options: the first is the size of all of them in bytes, which is 0 for none, and
-- those after the first ones, which a call knows, are 0
abbrev pub AreOptionsOf : (known : ℕ) → List ℕ → Type 0
AreOptionsOf known words = (option_at words 0 ≡ 4 * length words) × All (λ word. word ≡ 0) (drop known words)

-- the words are options of a conversion of tables and streams, which knows five
abbrev pub AreOptions : List ℕ → Type 0
AreOptions = AreOptionsOf 5

-- the limits that options give: the standard ones if all three are 0
abbrev pub option_limits : List ℕ → BufferLimits
option_limits words =
    if option_at words 2 + option_at words 3 + option_at words 4 == 0
    then record { nest = NEST_STANDARD; nodes = NODES_CAP; points = POINTS_CAP }
    else record { nest = option_at words 2; nodes = option_at words 3; points = option_at words 4 }

-- the counts of arguments that are out of range
abbrev pub arguments_counts : BufferCounts
arguments_counts = record {
  status = 2;
  reason = 0;
  place = 0;
  done = 0;
  rows = 0;
  points = 0;
  needed_rows = 0;
  needed_points = 0;
  taken = 0;
  reserved_1 = 0;
  reserved_2 = 0;
}
