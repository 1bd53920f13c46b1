use Rattle.std.proofs.Common.{◌∙◌, ap, ℕ, Bool}
use Rattle.twkb_arrays.specs.WrittenArrays.{write_index_of, write_outcome_of}
use Rattle.twkb_arrays.proofs.EndLemmas.{more_is}
use Rattle.twkb_arrays.proofs.WritingLemmas.{needed}
use Rattle.twkb_arrays.proofs.written_arrays.reported.Goals as goal

pub returns : goal.returns
returns c = λ style start start_ends output ends given later h taken.
    let more = more_is h.fit in
    let outcome = c.outcome-status.ensures ∙ ap (λ (full : Bool). write_outcome_of full c.args.answer) more in
    record {
      status_is = ap (λ (parts : ℕ × ℕ × ℕ). parts.0) outcome;
      reason_is = ap (λ (parts : ℕ × ℕ × ℕ). parts.1) outcome;
      place_is = ap (λ (parts : ℕ × ℕ × ℕ). parts.2) outcome;
      text_offset_is = c.refused_index.ensures
          ∙ ap (λ (full : Bool). write_index_of full c.args.answer) more;
      done_is = h.fit.done_is;
      sent_is = h.bytes_is;
      needed_is = c.saturating_add.ensures ∙ needed h;
      taken_is = taken.rows_are;
      taken_points_is = taken.points_are;
    }
