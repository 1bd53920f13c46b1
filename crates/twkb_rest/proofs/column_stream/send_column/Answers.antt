use Rattle.std.proofs.Common.{◌≡◌, ◌∙◌, ◌++◌, ◌∷◌, [], ℕ, List, ap, rules}
use Rattle.std.proofs.lemmas.Result.{err_from_is_err_and}
use Rattle.csv.specs.Writing.{row_text}
use Rattle.twkb_rest.specs.Written.{written_with}
use Rattle.twkb_rest.specs.declared.line.Next.TheVariants as next
use Rattle.twkb_rest.proofs.SendingLemmas.{fewer_left, sends_all, sends_before, sends_cut, sends_none, sends_nothing}
use Rattle.twkb_rest.proofs.SendingLemmas.{sends_up_to, sent_first, sent_more}
use Rattle.twkb_rest.proofs.column_stream.send_column.Goals as goal

pub returns-in_err-extend_from_slice : goal.returns-in_err-extend_from_slice
returns-in_err-extend_from_slice g c =
    let p = err_from_is_err_and c.from_residual.result c.from_residual.ensures.1 in
    rw (p.1, p.2) (record { sends = sends_nothing c.requires.none c.requires.nothing c.requires.fresh })

pub returns-in_err-end_record : goal.returns-in_err-end_record
returns-in_err-end_record g c =
    let p = err_from_is_err_and c.from_residual-in_err-end_record.result c.from_residual-in_err-end_record.ensures.1 in
    rw (p.1, p.2) (record { sends = sends_nothing c.requires.none c.requires.nothing c.requires.fresh })

pub returns-in_err-put : goal.returns-in_err-put
returns-in_err-put g c =
    let p = err_from_is_err_and c.from_residual-in_err-put.result c.from_residual-in_err-put.ensures.1 in
    let name_is = c.in_ok-extend_from_slice.ensures.items
    ∙ ap (λ (t : List ℕ). t ++ c.args.name.now) c.clear.ensures.items in
    let own : c.as_slice.result.now ≡ row_text (written_with c.args.delimiter) (c.args.name.now ∷ []) =
    c.as_slice.ensures.value ∙ c.in_ok-end_record.ensures
    ∙ ap (λ (f : List ℕ). row_text (written_with c.args.delimiter) (f ∷ [])) name_is in
    rw (p.1, p.2) (record {
      sends = sends_none c.requires.none c.requires.nothing c.requires.fresh (rw own at c.in_err-put.ensures.cut);
    })

pub loop-reason-init : goal.loop-reason-init
loop-reason-init g c =
    let name_is = c.in_ok-extend_from_slice.ensures.items
    ∙ ap (λ (t : List ℕ). t ++ c.args.name.now) c.clear.ensures.items in
    let own : c.as_slice.result.now ≡ row_text (written_with c.args.delimiter) (c.args.name.now ∷ []) =
    c.as_slice.ensures.value ∙ c.in_ok-end_record.ensures
    ∙ ap (λ (f : List ℕ). row_text (written_with c.args.delimiter) (f ∷ [])) name_is in
    sent_first c.requires.none c.requires.nothing c.requires.fresh (rw own at c.in_ok-put.ensures.ok)

pub returns-in_err-read_next : goal.returns-in_err-read_next
returns-in_err-read_next g c =
    let p = err_from_is_err_and c.from_residual-in_err-read_next.result c.from_residual-in_err-read_next.ensures.1 in
    rw (p.1, p.2) (record { sends = sends_up_to c.loop-reason.invariant c.in_err-read_next.ensures.reads })

pub returns-in-End : goal.returns-in-End
returns-in-End g c =
    let found : c.in_ok-read_next.field-0 ≡ next.End = search rules in
    record { sends = sends_all c.loop-reason.invariant (rw found at c.in_ok-read_next.ensures.reads) }

pub returns-in-Refused : goal.returns-in-Refused
returns-in-Refused g c =
    let found : c.in_ok-read_next.field-0 ≡ next.Refused c.in-Refused.reason = search rules in
    record { sends = sends_before c.loop-reason.invariant (rw found at c.in_ok-read_next.ensures.reads) }

pub returns-in_err-put-2 : goal.returns-in_err-put-2
returns-in_err-put-2 g c =
    let found : c.in_ok-read_next.field-0 ≡ next.Line = search rules in
    let p = err_from_is_err_and c.from_residual-in_err-put-2.result c.from_residual-in_err-put-2.ensures.1 in
    rw (p.1, p.2) (record {
      sends = sends_cut c.loop-reason.invariant c.requires.fresh.unsent (rw found at c.in_ok-read_next.ensures.reads)
          (rw c.as_slice-in-loop-reason.ensures.value at c.in_err-put-2.ensures.cut);
    })

pub loop-reason-smaller : goal.loop-reason-smaller
loop-reason-smaller g c =
    let found : c.in_ok-read_next.field-0 ≡ next.Line = search rules in
    fewer_left (rw found at c.in_ok-read_next.ensures.reads)

pub loop-reason-preserved : goal.loop-reason-preserved
loop-reason-preserved g c =
    let found : c.in_ok-read_next.field-0 ≡ next.Line = search rules in
    rw c.offset.ensures (sent_more c.loop-reason.invariant (rw found at c.in_ok-read_next.ensures.reads)
    (rw c.as_slice-in-loop-reason.ensures.value at c.in_ok-put-2.ensures.ok))
