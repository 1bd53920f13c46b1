use Rattle.std.proofs.Common.{◌≡◌, ◌∙◌, Bool, Ok, Err, Result, true, false, ap}
use Rattle.std.proofs.Common.{arith, inr, is_err, length, refl, rules, subst, sym}
use Rattle.std.specs.Result.{result_and}
use Rattle.twkb_io.specs.Inputs as input
use Rattle.twkb_engine.specs.State.{allowance_of}
use Rattle.twkb_engine.specs.Standing.{IsAlive, IsAnswer, offset_in}
use Rattle.twkb_blob.specs.Faults.{Reads}
use Rattle.twkb_blob.specs.Readers.{IsAtBlob, ended_at, reader_input, reader_limits, spent_at, stopped_at}
use Rattle.twkb_blob.specs.declared.fault.BlobFault.{BlobFault}
use Rattle.twkb_blob.proofs.Answering.{read_abreast, still_abreast, next_read}
use Rattle.twkb_blob.proofs.Leading.{alive_fed, many_fed, are_cut_off, ended, filled, not_filled, onto, refused}
use Rattle.twkb_blob.proofs.Leading.{turned, fill_none, held_left, left_none, none_in}
use Rattle.twkb_blob.proofs.reader.Reader.read_with.Goals as goal
use Rattle.twkb_blob.proofs.reader.Reader.read_with.Goals.{in-Err, in_default+then-is_empty}
use Rattle.twkb_blob.proofs.reader.Reader.read_with.Goals.{in_default+else-is_empty+in-Err-feed}

-- what ends no blob is no geometry
no_blob : {A : Type 0} (answer : Result A BlobFault) → result_and answer (Ok false) ≡ Ok true → ⊥
no_blob (Ok done) e = cc
no_blob (Err why) e = cc

-- what was found is the end or an error
no_end : (found : Result Bool BlobFault) → (found ≡ Ok true → ⊥) → ¬ (found ≡ Ok false)
    → ended_at (stopped_at found) ≡ false
no_end (Ok true) none going = absurd (none refl)
no_end (Ok false) none going = absurd (going refl)
no_end (Err why) none going = refl

is_spent : (found : Result Bool BlobFault) → spent_at (stopped_at found) ≡ is_err found
is_spent (Ok b) = refl
is_spent (Err why) = refl

is_over : (found : Result Bool BlobFault) → spent_at (stopped_at found) ≡ false
    → ended_at (stopped_at found) ≡ false → ⊥
is_over (Ok b) live going = absurd cc
is_over (Err why) live going = absurd cc

pub loop-fault-init : goal.loop-fault-init
loop-fault-init g c =
    let k : IsAtBlob (reader_limits c.args.self.now) (reader_input c.args.self.now) c.args.engine.now =
    c.requires.abreast (search rules) (search rules) in
    record {
      from = record { back = λ i answer x more v r. r };
      place = omega (arith, k.start, k.none);
      alive = subst (λ rs. IsAlive rs c.args.engine.now) (sym c.clear.ensures) k.alive;
      limits = refl;
      state = refl;
    }

pub advance-requires : goal.advance-requires
advance-requires g c =
    let fed : IsAnswer g.S.SpanNotes.holds c.loop-fault.engine c.loop-fault.flat c.loop-fault.spans
    c.held-piece.result.now (Ok (c.in-Ok.used, c.in-Ok.ends)) c.feed.new.self c.feed.new.flat c.feed.new.spans =
    record { limits = c.feed.ensures.limits; fed = c.in-Ok.ensures.fed } in
    let many = many_fed c.in-Ok.ends fed c.loop-fault.invariant.alive in
    omega (arith, many.0, ap length c.held-piece.ensures.held)

pub returns-then-ends : goal.returns-then-ends
returns-then-ends g c =
    let here = c.loop-fault in
    let new = c.feed.new in
    let fill = c.in_default.ensures in
    let live : input.is_spent c.fill.new.self ≡ false = search rules in
    let fed : IsAnswer g.S.SpanNotes.holds here.engine here.flat here.spans c.held-piece.result.now
    (Ok (c.in-Ok.used, c.in-Ok.ends)) new.self new.flat new.spans =
    record { limits = c.feed.ensures.limits; fed = c.in-Ok.ensures.fed } in
    let left = held_left {a = c.fill.new.self} {b = c.advance.new.self} c.held-piece.ensures.held
    (many_fed c.in-Ok.ends fed here.invariant.alive).0 c.advance.ensures.gives c.advance.ensures.given in
    let turn = turned c.in-Ok.used c.in-Ok.ends left (c.advance.ensures.stays ∙ live) c.advance.ensures.same_tap fed in
    let run = here.invariant.from.back c.advance.new.self (Ok true) new.self new.flat new.spans
    (onto (filled (left_none fill.keeps fill.given) fill.same_tap fill.failures live) (rw c.if-ends.true at turn)) in
    let ready : (spent_at here.self.state ≡ false) × (ended_at here.self.state ≡ false) =
    rw (here.invariant.state, c.in-Ready.is) (refl, refl) in
    record {
      shared = next_read (Ok true) run here.invariant.limits (search rules) (search rules) ready.0
          (λ e. absurd (cc)) (λ not. ready.1);
      into = λ live going. read_abreast (c.requires.abreast live going) c.clear.ensures (Ok true)
          c.requires.no_notes (λ e. refl) run;
      cleared = search rules;
      abreast = λ live going. still_abreast (c.requires.abreast (search rules) (search rules)) c.clear.ensures
          here.invariant.limits run;
    }

pub returns : goal.returns
returns g c =
    let old = c.args.self.now in
    let here = c.loop-fault in
    let d = here.engine in
    let fill = c.fill.ensures in
    let stopped = c.match-fill.stopped in
    let from = here.invariant.from.back in
    let run : (Reads g.S.SpanNotes.holds c.args.engine.now c.clear.new.self c.args.spans.now
    old.input c.fill.new.self stopped c.match-fill.engine c.match-fill.flat c.match-fill.spans)
    × (stopped ≡ Ok true → ⊥) =
    elim c.match-fill.branch [
      | in-Err w ↦ rw (w.engine-is, w.flat-is, w.spans-is, w.stopped-is) (
        from c.fill.new.self _ d here.flat here.spans (not_filled (left_none fill.keeps fill.given)
            fill.same_tap w.in-Err.fault w.in-Err.ensures.failures
            (λ bs rs s. are_cut_off (allowance_of d) bs (offset_in d) c.is_between-learnt.result
            (c.is_between-learnt.ensures.ended bs rs s))
            (fill_none here.self.input c.fill.new.self w.in-Err.fault w.in-Err.is fill.given fill.too_long
            fill.none_held fill.spent.0)),
        λ e. cc,
      )
      | in_default+then-is_empty w ↦ rw (w.engine-is, w.flat-is, w.spans-is, w.stopped-is, w.and-stopped.ensures) (
        from c.fill.new.self _ d here.flat here.spans (ended (left_none fill.keeps fill.given)
            fill.same_tap w.judge_end.result w.in_default.ensures.failures w.judge_end.ensures.unread
            (w.in_default.ensures.ended (w.in_default.ensures.end (sym w.held-piece.ensures.held
            ∙ none_in w.held-piece.result.now w.is_empty.result w.is_empty.ensures w.if-is_empty.true))).1
            w.judge_end.ensures.end),
        no_blob w.judge_end.result,
      )
      | in_default+else-is_empty+in-Err-feed w ↦
          let live : input.is_spent c.fill.new.self ≡ false = search rules in
          rw (w.engine-is, w.flat-is, w.spans-is, w.stopped-is, w.fault_at.ensures) (
            from c.fill.new.self _ w.feed.new.self w.feed.new.flat w.feed.new.spans
                (onto (filled (left_none fill.keeps fill.given) fill.same_tap w.in_default.ensures.failures live)
                (refused w.in-Err-feed.stop (omega (arith, w.start-start.ensures, w.bytes.ensures))
                w.held-piece.ensures.front (record {
                  limits = w.feed.ensures.limits;
                  fed = w.in-Err-feed.ensures.fed;
                }))),
            λ e. cc,
          )
    ] in
    rw (c.stop.ensures.answer, c.stop.ensures.state) (record {
      shared = next_read stopped run.0 here.invariant.limits (search rules) (search rules) (is_spent stopped)
          (λ e. ap (λ r. ended_at (stopped_at r)) e) (no_end stopped run.1);
      into = λ live going. read_abreast (c.requires.abreast live going) c.clear.ensures stopped
          c.requires.no_notes (λ e. absurd (run.1 e)) run.0;
      cleared = inr c.stop.ensures.rows;
      abreast = λ live going. absurd (is_over stopped live going);
    })

pub loop-fault-preserved : goal.loop-fault-preserved
loop-fault-preserved g c =
    let here = c.loop-fault in
    let new = c.feed.new in
    let fill = c.in_default.ensures in
    let live : input.is_spent c.fill.new.self ≡ false = search rules in
    let fed : IsAnswer g.S.SpanNotes.holds here.engine here.flat here.spans c.held-piece.result.now
    (Ok (c.in-Ok.used, c.in-Ok.ends)) new.self new.flat new.spans =
    record { limits = c.feed.ensures.limits; fed = c.in-Ok.ensures.fed } in
    let many = many_fed c.in-Ok.ends fed here.invariant.alive in
    let left = held_left {a = c.fill.new.self} {b = c.advance.new.self} c.held-piece.ensures.held many.0
    c.advance.ensures.gives c.advance.ensures.given in
    let turn = turned c.in-Ok.used c.in-Ok.ends left (c.advance.ensures.stays ∙ live) c.advance.ensures.same_tap fed in
    record {
      from = record {
        back = λ x answer e more v r. here.invariant.from.back x answer e more v
            (onto (filled (left_none fill.keeps fill.given) fill.same_tap fill.failures live)
            (onto (rw c.if-ends.false at turn) r));
      };
      place = omega (arith, many.1, c.advance.ensures.given, c.fill.ensures.given, here.invariant.place);
      alive = rw c.if-ends.false at (alive_fed c.in-Ok.ends fed here.invariant.alive);
      limits = here.invariant.limits;
      state = here.invariant.state;
    }
