use Rattle.std.proofs.Common.{◌≡◌, ◌∙◌, ◌<◌, [], refl, sym, ap, subst, arith}
use Rattle.std.proofs.lemmas.Result.{err_from_is_err_and}
use Rattle.std.specs.Prelude.{reverse}
use Rattle.csv.specs.Records.{fields_of}
use Rattle.twkb_tree.specs.Admits.{Continues}
use Rattle.twkb_flat.specs.declared.node.Row.{Row as Bare}
use Rattle.twkb_table.specs.Head.{head_row}
use Rattle.twkb_tree.proofs.LimitLaws.{continues_largest}
use Rattle.twkb_flat.specs.Rows.{row_with}
use Rattle.twkb_table.specs.Judged.{Refused}
use Rattle.twkb_table.proofs.RootLemmas.{are_waiting, row_told}
use Rattle.twkb_table.proofs.RowReaderLemmas.{comes_next, if_refused, begins_anew, continues_below}
use Rattle.twkb_table.proofs.RowReaderLemmas.{depth_within, given_row, keeps_next}
use Rattle.twkb_table.proofs.row_reader.RowReader.read_row.Goals as goal

-- ---- a root

pub keep_root-requires-clause-begins : goal.keep_root-requires-clause-begins
keep_root-requires-clause-begins g c own given =
    let l = c.args.self.now.limits in
    let next = comes_next l c.args.flat.now (fields_of c.args.csv_record.now) c.in-Ok.head
    c.row-row.result []
    own own c.requires.0.of_one c.in-Ok.ensures c.row-row.ensures refl refl given in
    subst (Continues l []) (sym (given_row c.in-Ok.head c.row-row.result [] own own c.row-row.ensures refl refl))
    (begins_anew l c.args.flat.now (row_with c.row-row.result own) next.accepts c.if-row-eq0.true)

pub returns-then-row-eq0-clause-row : goal.returns-then-row-eq0-clause-row
returns-then-row-eq0-clause-row g c =
    let l = c.args.self.now.limits in
    let fields = fields_of c.args.csv_record.now in
    let kept = c.in_ok-keep_root.ensures.kept in
    let row = row_with (head_row c.in-Ok.head) kept.own in
    let next = comes_next l c.args.flat.now fields c.in-Ok.head (head_row c.in-Ok.head) []
    kept.own kept.own c.requires.0.of_one c.in-Ok.ensures refl refl refl kept.judged in
    let root : row.depth ≡ 0 = ap (λ (r : Bare). r.depth) (sym c.row-row.ensures) ∙ c.if-row-eq0.true in (
      record {
        row = row;
        waits = are_waiting l _ _ fields row
            (row_told l c.args.flat.now fields row c.requires.0.of_one (next.judged [] (λ e. refl)))
            (begins_anew l c.args.flat.now row next.accepts root) kept.place;
        root = root;
        judged = next.judged;
      },
      refl,
    )

-- ---- a row of the same geometry

pub push_from-requires : goal.push_from-requires
push_from-requires g c own given =
    let l = c.args.self.now.limits in
    let next = comes_next l c.args.flat.now (fields_of c.args.csv_record.now) c.in-Ok.head
    c.row-row.result []
    own own c.requires.0.of_one c.in-Ok.ensures c.row-row.ensures refl refl given in
    continues_largest l c.args.flat.now (row_with c.row-row.result own) c.args.self.now.sound
    (continues_below l c.args.flat.now (row_with c.row-row.result own) c.requires.0.some
    next.accepts
    (omega (arith, c.if-row-eq0.false)))

pub open_row-requires : goal.open_row-requires
open_row-requires g c =
    let l = c.args.self.now.limits in
    let own = c.in_ok-push_from.ensures.pushed in
    let next = comes_next l c.args.flat.now (fields_of c.args.csv_record.now) c.in-Ok.head
    c.row-row.result []
    own.0 own.0 c.requires.0.of_one c.in-Ok.ensures c.row-row.ensures refl refl own.2 in
    depth_within l (reverse c.args.flat.now) c.args.self.now.open_rows
    (row_with c.row-row.result own.0)
    next.accepts c.requires.0.are_open

pub returns-clause-row : goal.returns-clause-row
returns-clause-row g c =
    let l = c.args.self.now.limits in
    let own = c.in_ok-push_from.ensures.pushed in
    let next = comes_next l c.args.flat.now (fields_of c.args.csv_record.now) c.in-Ok.head
    c.row-row.result []
    own.0 own.0 c.requires.0.of_one c.in-Ok.ensures c.row-row.ensures refl refl own.2 in
    let row = row_with c.row-row.result own.0 in
    let below : 0 < c.row-row.result.depth = omega (arith, c.if-row-eq0.false) in
    record {
      row = row;
      rows = own.1;
      below = below;
      judged = next.judged;
      keeps = (
        keeps_next l row c.args.flat.now c.push_from.new.self c.args.self.now.open_rows
            c.open_row.new.self
            c.requires.0 next.accepts below own.1 (c.in-Ok-open_row.ensures.opened own.0),
        c.requires.1,
      );
    }

-- ---- a refusal

pub returns-in-Err-clause-row : goal.returns-in-Err-clause-row
returns-in-Err-clause-row g c = (c.in-Err.ensures, c.requires.1)

pub returns-in_err-keep_root-clause-row : goal.returns-in_err-keep_root-clause-row
returns-in_err-keep_root-clause-row g c =
    let p = err_from_is_err_and c.from_residual.result c.from_residual.ensures.1 in
    rw (p.1, p.2) (
      if_refused _ _ _ (λ reason j. c.in-Ok.ensures (Refused reason) j)
          c.in_err-keep_root.ensures.refused,
      c.in_err-keep_root.ensures.state,
    )

pub returns-in_err-push_from-clause-row : goal.returns-in_err-push_from-clause-row
returns-in_err-push_from-clause-row g c =
    let p = err_from_is_err_and c.from_residual-in_err-push_from.result
    c.from_residual-in_err-push_from.ensures.1 in
    rw (p.1, p.2) (
      if_refused _ _ _ (λ reason j. c.in-Ok.ensures (Refused reason) j)
          c.in_err-push_from.ensures.refused,
      c.requires.1,
    )

pub returns-in_default-clause-row : goal.returns-in_default-clause-row
returns-in_default-clause-row g c = (tt, c.requires.1)
