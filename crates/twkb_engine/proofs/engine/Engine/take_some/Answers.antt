use Rattle.std.proofs.Common.{◌≡◌, ◌∙◌, ℕ, Bool, false, List, [], Ok, Err, refl, sym, ap, subst, arith}
use Rattle.std.proofs.lemmas.Bool.{ne_eqb}
use Rattle.twkb_tree.specs.Rows.{Row}
use Rattle.twkb_flat.specs.declared.stop.Stop.TheVariants.{Refused}
use Rattle.twkb_grammar.specs.Noting.{Notes}
use Rattle.twkb_engine.specs.Standing.{IsAnswer, held_in}
use Rattle.twkb_engine.specs.declared.blob_reason.BlobReason.TheVariants.{SizeMismatch}
use Rattle.twkb_engine.specs.declared.engine.Engine.{Engine}
use Rattle.twkb_engine.proofs.Answering.{none_fed, led_fed, stops_fed, many_fed, many_stopped, same_stop, ready_still}
use Rattle.twkb_engine.proofs.Answering.{alone, answer_next}
use Rattle.twkb_engine.proofs.Points.{list_stopped, list_goes_on, line_fed}
use Rattle.twkb_engine.proofs.engine.Engine.take_some.Given.{Over}
use Rattle.twkb_engine.proofs.engine.Engine.take_some.Goals as goal
use Rattle.twkb_engine.proofs.engine.Engine.take_some.Goals.{Joined-self, Joined-self-gt0-2, in_default}
use Rattle.twkb_engine.proofs.engine.Engine.take_some.Goals.{in-TypeByte+in_ok-take_header-in-TypeByte}
use Rattle.twkb_engine.proofs.engine.Engine.take_some.Goals.{in-Id+in_ok-take_ids-in-Id}
use Rattle.twkb_engine.proofs.engine.Engine.take_some.Goals.{in-X+in_ok-used-in-X+then-self-eq0+in_ok-end_points-in-X}
use Rattle.twkb_engine.proofs.engine.Engine.take_some.Goals.{in-X+in_ok-used-in-X+else-self-eq0}
use Rattle.twkb_engine.proofs.engine.Engine.take_some.Goals.{then-self-gt0-2+in_ok-used-in-X-2+else-used-gt0}
use Rattle.twkb_engine.proofs.engine.Engine.take_some.Goals.{else-self-gt0-2, in-X-2+in_ok-taken-in-X-2}

-- the same answer, under the names that it has after a join
named : {S : Type 0} {holds : S → Notes → Type 0} {d e f : Engine} {rs more last : List Row} {old new w : S}
    {piece : List ℕ} {t u : ℕ × Bool} → e ≡ f → more ≡ last → new ≡ w → t ≡ u
    → IsAnswer holds d rs old piece (Ok u) f last w → IsAnswer holds d rs old piece (Ok t) e more new
named {holds = holds} {d = d} {e = e} {f = f} {rs = rs} {more = more} {last = last} {old = old} {new = new}
    {w = w} {piece = piece} {t = t} {u = u} engine rows spans taken a =
    subst (λ x. IsAnswer holds d rs old piece (Ok t) x more new) (sym engine)
    (subst (λ x. IsAnswer holds d rs old piece (Ok t) f x new) (sym rows)
    (subst (λ x. IsAnswer holds d rs old piece (Ok t) f last x) (sym spans)
    (subst (λ x. IsAnswer holds d rs old piece (Ok x) f last w) (sym taken) a)))

pub returns-in_err-take_header-in-TypeByte-clause-answer :
    goal.returns-in_err-take_header-in-TypeByte-clause-answer
returns-in_err-take_header-in-TypeByte-clause-answer g c =
    stops_fed c.from_residual.ensures.1 (c.in_err-take_header-in-TypeByte.ensures.memory c.args.flat.now)
    c.take_header.ensures.stays

pub returns-in_err-take_ids-in-Id-clause-answer : goal.returns-in_err-take_ids-in-Id-clause-answer
returns-in_err-take_ids-in-Id-clause-answer g c =
    many_stopped c.from_residual-in_err-take_ids-in-Id.ensures.1 (c.in_err-take_ids-in-Id.ensures c.args.flat.now)

pub returns-in_err-used-in-X-clause-answer : goal.returns-in_err-used-in-X-clause-answer
returns-in_err-used-in-X-clause-answer g c =
    many_stopped c.from_residual-in_err-used-in-X.ensures.1
    (list_stopped c.args.flat.now c.args.self.now c.in-X.is c.if-self-gt0.true
    (alone c.args.self.now c.len.ensures.count c.if-len-gt0.false) c.in_err-used-in-X.ensures)

pub returns-in_err-end_points-in-X-clause-answer :
    goal.returns-in_err-end_points-in-X-clause-answer
returns-in_err-end_points-in-X-clause-answer g c =
    same_stop c.from_residual-in_err-end_points-in-X.ensures.1
    (line_fed c.args.flat.now c.take_list.new.flat c.args.self.now c.take_list.new.self c.end_points.new.self
    c.in-X.is c.if-self-gt0.true (alone c.args.self.now c.len.ensures.count c.if-len-gt0.false)
    c.in_ok-used-in-X.ensures c.if-self-eq0.true (Err (Refused SizeMismatch))
    (c.in_err-end_points-in-X.ensures c.take_list.new.flat))

pub returns-then-used-gt0-clause-answer : goal.returns-then-used-gt0-clause-answer
returns-then-used-gt0-clause-answer g c = many_fed c.in_ok-used-in-X-2.ensures.taken

-- no member was taken
no_member : (g : Over) (c : Joined-self-gt0-2 g) → IsAnswer g.S.SpanNotes.holds c.args.self.now
    c.args.flat.now c.args.spans.now c.args.rest.now (Ok (0, false)) c.if-self-gt0-2.self
    c.if-self-gt0-2.flat c.args.spans.now
no_member g c = elim c.if-self-gt0-2.branch [
  | then-self-gt0-2+in_ok-used-in-X-2+else-used-gt0 w ↦ named w.self-is w.flat-is refl refl
      (answer_next w.if-used-gt0.false (many_fed w.in_ok-used-in-X-2.ensures.taken) none_fed)
  | else-self-gt0-2 w ↦ named w.self-is w.flat-is refl refl none_fed
]

pub take_point-requires-clause-ready : goal.take_point-requires-clause-ready
take_point-requires-clause-ready g c =
    ready_still (omega arith) (no_member g (goal.at.take_point-requires-clause-ready g c).Joined-self-gt0-2)
    c.requires.ready

pub returns-in_err-taken-in-X-2-clause-answer : goal.returns-in_err-taken-in-X-2-clause-answer
returns-in_err-taken-in-X-2-clause-answer g c =
    same_stop c.from_residual-in_err-taken-in-X-2.ensures.1 (answer_next (omega arith)
    (no_member g (goal.at.returns-in_err-taken-in-X-2-clause-answer g c).Joined-self-gt0-2)
    c.in_err-taken-in-X-2.ensures)

-- what was taken, by what came next
taken : (g : Over) (c : Joined-self g) → IsAnswer g.S.SpanNotes.holds c.args.self.now c.args.flat.now
    c.args.spans.now c.args.rest.now (Ok c.match-self.taken) c.match-self.self c.match-self.flat c.match-self.spans
taken g c =
    let none : held_in c.args.self.now ≡ [] = alone c.args.self.now c.len.ensures.count c.if-len-gt0.false in
    elim c.match-self.branch [
      | in-TypeByte+in_ok-take_header-in-TypeByte w ↦
          let t = w.in_ok-take_header-in-TypeByte.ensures in
          named w.self-is w.flat-is w.spans-is w.taken-is
          (led_fed t.within (t.led c.args.flat.now) w.take_header.ensures.stays)
      | in-Id+in_ok-take_ids-in-Id w ↦ named w.self-is w.flat-is w.spans-is w.taken-is
          (many_fed (w.in_ok-take_ids-in-Id.ensures c.args.flat.now))
      | in-X+in_ok-used-in-X+then-self-eq0+in_ok-end_points-in-X w ↦
          named w.self-is w.flat-is w.spans-is w.taken-is
          (line_fed c.args.flat.now w.take_list.new.flat c.args.self.now w.take_list.new.self
          w.end_points.new.self w.in-X.is w.if-self-gt0.true none w.in_ok-used-in-X.ensures
          w.if-self-eq0.true (Ok w.in_ok-end_points-in-X.field-0)
          (w.in_ok-end_points-in-X.ensures w.take_list.new.flat))
      | in-X+in_ok-used-in-X+else-self-eq0 w ↦ named w.self-is w.flat-is w.spans-is
          (w.taken-is ∙ ap (λ (b : Bool). let t : ℕ × Bool = (w.in_ok-used-in-X.used, b) in t)
          (ne_eqb w.take_list.new.self.points_left 0 w.if-self-eq0.false))
          (many_fed (list_goes_on c.args.flat.now c.args.self.now w.in-X.is w.if-self-gt0.true none
          w.in_ok-used-in-X.ensures (omega (arith, w.if-self-eq0.false))))
      | in-X-2+in_ok-taken-in-X-2 w ↦ named w.self-is w.flat-is w.spans-is w.taken-is
          (answer_next (omega arith)
          (elim w.if-self-gt0-2.branch [
            | then-self-gt0-2+in_ok-used-in-X-2+else-used-gt0 v ↦ named v.self-is v.flat-is refl refl
                (answer_next v.if-used-gt0.false (many_fed v.in_ok-used-in-X-2.ensures.taken) none_fed)
            | else-self-gt0-2 v ↦ named v.self-is v.flat-is refl refl none_fed
          ])
          w.in_ok-taken-in-X-2.ensures)
      | in_default w ↦ named w.self-is w.flat-is w.spans-is w.taken-is none_fed
    ]

pub returns-then-taken-gt0-clause-answer : goal.returns-then-taken-gt0-clause-answer
returns-then-taken-gt0-clause-answer g c = taken g (goal.at.returns-then-taken-gt0-clause-answer g c).Joined-self

pub take_item-requires-2-clause-ready : goal.take_item-requires-2-clause-ready
take_item-requires-2-clause-ready g c = ready_still c.if-taken-gt0.false
    (taken g (goal.at.take_item-requires-2-clause-ready g c).Joined-self) c.requires.ready

pub returns-clause-answer : goal.returns-clause-answer
returns-clause-answer g c = answer_next c.if-taken-gt0.false
    (taken g (goal.at.returns-clause-answer g c).Joined-self) c.take_item-2.ensures.answer
