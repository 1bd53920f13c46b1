-- The effect of a call of a conversion and of one on arrays, for the arguments as C passes them.
use Rattle.std.proofs.Common.{◌≡◌, ℕ, List, arith, refl, subst, ◌∙◌, Bool, true, false, sym, take, ap}
use Rattle.std.specs.Prelude.{Result, Ok, Err, Option, Some, None, ◌<◌}
use Rattle.twkb_tree.specs.Limits.{Allowance, IsAllowance}
use Rattle.twkb_grammar.specs.declared.style.Style.{Style}
use Rattle.twkb_grammar.specs.declared.style.Style.TheVariants.{Full, Plain}
use Rattle.twkb_blob.specs.declared.fault.BlobFault.{BlobFault}
use Rattle.twkb_blob.specs.declared.fault.BlobFault.TheVariants as fault
use Rattle.twkb_conversions.specs.declared.conversion.Conversion.{Conversion}
use Rattle.twkb_conversions.specs.Conversions.{conversion_at}
use Rattle.twkb_buffer.specs.declared.report.BufferReport.{BufferReport}
use Rattle.twkb_buffer.specs.declared.point.BufferPoint.{BufferPoint}
use Rattle.twkb_arrays.specs.FilledArrays.{ReadsArrays, ReadsWithinRoom, outcome_of}
use Rattle.twkb_arrays.specs.SentBlobs.{are_more}
use Rattle.twkb_arrays.specs.WrittenArrays.{WritesArrays, WritesWithinRoom}
use Rattle.twkb_arrays.proofs.WritingLaws.{never_arguments as never_written_so}
use Rattle.twkb_arrays.specs.declared.filled_arrays.BufferCounts.{BufferCounts}
use Rattle.twkb_arrays.specs.declared.row.BufferRow.{BufferRow}
use Rattle.twkb_c.specs.Arguments.{CallsConversion, IsStopFlag, IsStyleNumber, allowance_of}
use Rattle.twkb_c.specs.declared.arguments.BufferLimits.{BufferLimits}

-- ==== The effect of a call of a conversion, for the arguments as C passes them.

apart : (n : ℕ) → n ≡ 0 → n ≡ 1 → ⊥
apart n a b = omega (arith, a, b)

-- each number is that of at most one style
pub one_style : (s t : Style) (n : ℕ) → IsStyleNumber s n → IsStyleNumber t n → s ≡ t
one_style Full Plain n a b = absurd (apart n a b)
one_style Plain Full n a b = absurd (apart n b a)
one_style _ _ n a b = refl

-- a style's number is 0 or 1
in_range : (s : Style) (n : ℕ) → IsStyleNumber s n → 1 < n → ⊥
in_range Full n is far = omega (arith, is, far)
in_range Plain n is far = omega (arith, is, far)

-- one number is that of at most one conversion
one_conversion : (what other : Conversion) (found : Option Conversion) → Some what ≡ found → found ≡ Some other
    → what ≡ other
one_conversion what other found here there = cc

-- and of none only if it is that of no conversion
no_conversion : (what : Conversion) (found : Option Conversion) → Some what ≡ found → found ≡ None → ⊥
no_conversion what found here none = cc

-- this was done by the conversion with a number, within limits and in the style with a number
pub called : (Does : Conversion → Allowance → Type 0) (what : Conversion) (limits : BufferLimits) (l : Allowance)
    (s : Style) (number style : ℕ) (report : BufferReport) → IsAllowance (allowance_of limits)
    → l ≡ allowance_of limits → IsStyleNumber s style → Some what ≡ conversion_at s number → Does what l
    → CallsConversion Does number limits style report
called Does what limits l s number style report accepted value is found does = record {
  does = λ fits t named other there.
      subst (λ (w : Conversion). Does w (allowance_of limits))
      (one_conversion what other _ (found ∙ ap (λ (u : Style). conversion_at u number) (one_style s t style is named))
      there) (subst (λ (a : Allowance). Does what a) value does);
  limits_out_of_range = λ outside. absurd (outside accepted);
  style_out_of_range = λ far. absurd (in_range s style is far);
  conversion_out_of_range = λ t named none. absurd (no_conversion what _
      (found ∙ ap (λ (u : Style). conversion_at u number) (one_style s t style is named)) none);
}

-- a call with the limits and the style of options
pub with_options : (Does : Conversion → Allowance → Type 0) (number : ℕ) (limits given : BufferLimits) (style n : ℕ)
    (report : BufferReport) → limits ≡ given → style ≡ n → CallsConversion Does number limits style report
    → CallsConversion Does number given n report
with_options Does number limits given style n report same one calls =
    subst (λ (m : ℕ). CallsConversion Does number given m report) one
    (subst (λ (b : BufferLimits). CallsConversion Does number b style report) same calls)

-- ==== The effect of a call that reads into arrays or writes from them, for the limits and the style as C passes
-- them.

pub reads_named : (l m : Allowance) (blobs : List ℕ) (old_rows : List BufferRow) (old_points : List BufferPoint)
    (old_ends : List ℕ) (new_rows : List BufferRow) (new_points : List BufferPoint) (new_ends : List ℕ)
    (counts : BufferCounts) → l ≡ m
    → ReadsArrays l blobs old_rows old_points old_ends new_rows new_points new_ends counts
    → ReadsArrays m blobs old_rows old_points old_ends new_rows new_points new_ends counts
reads_named l m blobs old_rows old_points old_ends new_rows new_points new_ends counts same reads =
    subst (λ (a : Allowance). ReadsArrays a blobs old_rows old_points old_ends new_rows new_points new_ends counts)
    same reads

pub reads_within_named : (l m : Allowance) (blobs : List ℕ) (old_rows : List BufferRow)
    (old_points : List BufferPoint) (old_ends : List ℕ) (new_rows : List BufferRow)
    (new_points : List BufferPoint) (new_ends : List ℕ) (counts : BufferCounts) → l ≡ m
    → ReadsWithinRoom l blobs old_rows old_points old_ends new_rows new_points new_ends counts
    → ReadsWithinRoom m blobs old_rows old_points old_ends new_rows new_points new_ends counts
reads_within_named l m blobs old_rows old_points old_ends new_rows new_points new_ends counts same reads =
    subst (λ (a : Allowance).
    ReadsWithinRoom a blobs old_rows old_points old_ends new_rows new_points new_ends counts) same reads

-- a flag has one meaning
pub one_flag : (stops : Bool) (flags : ℕ) → IsStopFlag stops flags → flags ≡ 0 → stops ≡ false
one_flag true flags one zero = absurd (omega (arith, one, zero))
one_flag false flags is zero = refl

pub stop_flag : (stops : Bool) (flags : ℕ) → IsStopFlag stops flags → flags ≡ 1 → stops ≡ true
stop_flag true flags is one = refl
stop_flag false flags zero one = absurd (omega (arith, zero, one))

-- no reading has the status of refused arguments
not_two : (full : Bool) (answer : Result (Unit {0}) BlobFault) → (outcome_of full answer).0 ≡ 2 → ⊥
not_two true (Ok done) e = omega (arith, e)
not_two false (Ok done) e = omega (arith, e)
not_two full (Err fault.Memory) e = omega (arith, e)
not_two true (Err _) e = omega (arith, e)
not_two full (Err _) e = omega (arith, e)

pub never_arguments : (l : Allowance) (blobs : List ℕ) (old_rows : List BufferRow) (old_points : List BufferPoint)
    (old_ends : List ℕ) (new_rows : List BufferRow) (new_points : List BufferPoint) (new_ends : List ℕ)
    (counts : BufferCounts) → ReadsArrays l blobs old_rows old_points old_ends new_rows new_points new_ends counts
    → counts.status ≡ 2 → ⊥
never_arguments l blobs old_rows old_points old_ends new_rows new_points new_ends counts reads two =
    not_two (are_more reads.later) reads.answer (sym reads.counted.status_is ∙ two)

-- with flag or without, a reading has not that status
pub never_refused : (stops : Bool) (l : Allowance) (blobs : List ℕ) (old_rows : List BufferRow)
    (old_points : List BufferPoint) (old_ends : List ℕ) (new_rows : List BufferRow) (new_points : List BufferPoint)
    (new_ends : List ℕ) (counts : BufferCounts)
    → (stops ≡ false → ReadsArrays l blobs old_rows old_points old_ends new_rows new_points new_ends counts)
    → (stops ≡ true → ReadsWithinRoom l blobs old_rows old_points old_ends new_rows new_points new_ends counts)
    → counts.status ≡ 2 → ⊥
never_refused false l blobs old_rows old_points old_ends new_rows new_points new_ends counts reads within two =
    never_arguments l blobs old_rows old_points old_ends new_rows new_points new_ends counts (reads refl) two
never_refused true l blobs old_rows old_points old_ends new_rows new_points new_ends counts reads within two =
    let w = within refl in
    never_arguments l (take w.count blobs) old_rows old_points old_ends new_rows new_points new_ends counts w.reads two

-- ---- writing

pub writes_named : (style : Style) (l m : Allowance) (number : ℕ) (in_rows : List BufferRow)
    (in_points : List BufferPoint) (old old_ends new new_ends : List ℕ) (report : BufferReport) → l ≡ m
    → IsStyleNumber style number → WritesArrays l style in_rows in_points old old_ends new new_ends report
    → (s : Style) → IsStyleNumber s number → WritesArrays m s in_rows in_points old old_ends new new_ends report
writes_named style l m number in_rows in_points old old_ends new new_ends report same is writes s other =
    subst (λ (a : Allowance). WritesArrays a s in_rows in_points old old_ends new new_ends report) same
    (subst (λ (t : Style). WritesArrays l t in_rows in_points old old_ends new new_ends report)
    (one_style style s number is other) writes)

pub writes_within_named : (style : Style) (l m : Allowance) (number : ℕ) (in_rows : List BufferRow)
    (in_points : List BufferPoint) (old old_ends new new_ends : List ℕ) (report : BufferReport) → l ≡ m
    → IsStyleNumber style number → WritesWithinRoom l style in_rows in_points old old_ends new new_ends report
    → (s : Style) → IsStyleNumber s number → WritesWithinRoom m s in_rows in_points old old_ends new new_ends report
writes_within_named style l m number in_rows in_points old old_ends new new_ends report same is writes s other =
    subst (λ (a : Allowance). WritesWithinRoom a s in_rows in_points old old_ends new new_ends report) same
    (subst (λ (t : Style). WritesWithinRoom l t in_rows in_points old old_ends new new_ends report)
    (one_style style s number is other) writes)

-- with flag or without, a writing has not the status of refused arguments
pub never_unwritten : (stops : Bool) (l : Allowance) (style : Style) (in_rows : List BufferRow)
    (in_points : List BufferPoint) (old old_ends new new_ends : List ℕ) (report : BufferReport)
    → (stops ≡ false → WritesArrays l style in_rows in_points old old_ends new new_ends report)
    → (stops ≡ true → WritesWithinRoom l style in_rows in_points old old_ends new new_ends report)
    → report.status ≡ 2 → ⊥
never_unwritten false l style in_rows in_points old old_ends new new_ends report writes within two =
    never_written_so l style in_rows in_points old old_ends new new_ends report (writes refl) two
never_unwritten true l style in_rows in_points old old_ends new new_ends report writes within two =
    let w = within refl in
    never_written_so l style (take w.row_count in_rows) (take w.point_count in_points) old old_ends new new_ends
    report w.writes two
