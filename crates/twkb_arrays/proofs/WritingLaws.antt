-- Arrays are written in one way, read back as they are, and refused as a table's rows are.
use Rattle.std.proofs.Common.{◌≡◌, ◌∙◌, ◌+◌, ◌≤◌, ◌⊎◌, ℕ, Bool, true, false, List, [], ◌∷◌, ◌++◌, length, Option}
use Rattle.std.proofs.Common.{Some, refl, sym, ap, subst, arith, inl, inr, take, drop, append_assoc, length-append}
use Rattle.std.specs.Prelude.{ℤ, ◌&&◌, ◌||◌, ◌≢◌, IfSome, decimal, nat_le, nat_lt, reverse, Result, Ok, Err}
use Rattle.std.proofs.lemmas.Bool.{cases_Bool, true≢false}
use Rattle.std.proofs.lemmas.Bool.Decides.{nat_tests}
use Rattle.twkb_points.specs.Point.{Point}
use Rattle.twkb_polyline.specs.Polyline.{DecodesTo, polyline}
use Rattle.twkb_polyline.proofs.FaultLemmas.{one_polyline, text_fault_none}
use Rattle.twkb_tree.specs.Tree.{IsId, Tree}
use Rattle.twkb_tree.specs.Rows.{Row, rows, rows_of, row_points, AreValid}
use Rattle.twkb_tree.specs.Limits.{Allowance, IsAllowance}
use Rattle.twkb_tree.specs.Kind.{word_of}
use Rattle.twkb_tree.specs.Admits.{parent, first_child, steps_to, has_place, id_allowed, id_in_range, has_same_ids}
use Rattle.twkb_tree.specs.Admits.{has_needed_precision, precision_allowed, precision_in_range, is_geometry}
use Rattle.twkb_tree.specs.Admits.{has_points, points_fit, nest_kept, geometry_rows, point_count}
use Rattle.twkb_tree.specs.Refusal.{Check, check, first_failed, are_in_range, has_none, refusal, id_checks}
use Rattle.twkb_tree.specs.Refusal.{precision_checks, point_checks, count_checks}
use Rattle.twkb_tree.specs.declared.row_checks.Refusal.{Refusal}
use Rattle.twkb_tree.proofs.RowForest.{id_in_range-true, points_in_range}
use Rattle.twkb_table.specs.Record.{optional, IsDepthField, IsOptionalId, IsOptionalPrecision, record_of}
use Rattle.twkb_table.specs.Judged.{rule_reason, Verdict, Refused, When, Unless, UnlessFaulty, place_of, points_left}
use Rattle.twkb_table.specs.Judged.{Judged, JudgedByCount, JudgedByPlace, JudgedByPoints, JudgedByPrecision}
use Rattle.twkb_table.specs.Judged.{JudgedHavingId, JudgedHavingPrecision, JudgedById}
use Rattle.twkb_table.specs.declared.reason.RowReason.TheVariants.{BadDepth, BadKind, BadId, BadPrecision}
use Rattle.twkb_table.proofs.Verdicts.{precision_in_range-true, optional_precision_is, skip, pick}
use Rattle.twkb_table.proofs.FieldLemmas.{one_depth, one_word, one_optional, precision-ids}
use Rattle.std.proofs.lemmas.List.{append-nil, length-map, take_at}
use Rattle.std.proofs.lemmas.Grind.{flat_map-append}
use Rattle.twkb_num.specs.Spelling.{digits, digits_within}
use Rattle.twkb_points.specs.Extent.{joined}
use Rattle.twkb_flat.specs.declared.stop.Stop.{Stop}
use Rattle.twkb_flat.specs.declared.stop.Stop.TheVariants as stop
use Rattle.twkb_grammar.specs.Items.{Stream}
use Rattle.twkb_grammar.specs.Written.{canonical_stream}
use Rattle.twkb_grammar.specs.declared.style.Style.{Style}
use Rattle.twkb_grammar.specs.Samples.{one_point, three_points, three_points_blob, two_rings, named_points, standard}
use Rattle.twkb_grammar.specs.Samples.{two_lines, named_areas, named_members, named_members_blob}
use Rattle.twkb_grammar.specs.declared.style.Style.TheVariants.{Full}
use Rattle.twkb_grammar.proofs.Streams.{written_stream}
use Rattle.twkb_grammar.specs.Reading.{Made, decode}
use Rattle.twkb_grammar.proofs.OneFault.{blob_by, some_bytes, standard_allowed}
use Rattle.twkb_blob.specs.declared.fault.BlobFault.{BlobFault}
use Rattle.twkb_blob.specs.declared.fault.BlobFault.TheVariants as reading
use Rattle.twkb_buffer.specs.declared.point.BufferPoint.{BufferPoint}
use Rattle.twkb_buffer.specs.declared.report.BufferReport.{BufferReport}
use Rattle.twkb_arrays.specs.ReadBack.{Arrays, BeginAs, IsRoundTrip}
use Rattle.twkb_arrays.specs.FilledArrays.{EndsReading, ReadsArrays, outcome_of}
use Rattle.twkb_arrays.specs.SentBlobs.{StopsBefore, are_more}
use Rattle.twkb_arrays.specs.Rows.{HasRoom, LacksPlaces, array_points, array_rows, row_in_c}
use Rattle.twkb_arrays.specs.WrittenArrays.{AreArrays, EndsWriting, WritesArrays, write_outcome_of}
use Rattle.twkb_arrays.specs.declared.filled_arrays.BufferCounts.{BufferCounts}
use Rattle.twkb_arrays.specs.declared.row.BufferRow.{BufferRow}
use Rattle.twkb_arrays.specs.declared.written_arrays.RefusedAt.{RefusedAt}
use Rattle.twkb_arrays.specs.Samples.{each_kind, each_kind_points, each_kind_rows, each_kind_stream, one_point_blob}
use Rattle.twkb_arrays.specs.Samples.{two_rings_blob, named_points_blob, two_lines_blob, named_areas_blob}
use Rattle.twkb_arrays.proofs.ArrayLemmas.{length-coordinates_of, row_points-append, no_more}
use Rattle.twkb_arrays.proofs.TakingLemmas.{few_geometries, none_left, none_refused, one_arrays}
use Rattle.twkb_arrays.proofs.ReadingLaws.{all_given, all_read}

-- ==== A row that is refused in arrays is refused for the same reason as the row of a table.

-- the verdict is this reason
abbrev Says : Verdict → Refusal → Type 0
Says v why = v ≡ Refused (rule_reason why)

-- the first test that fails is after a test that holds
after : (b : Bool) (other why : Refusal) (more : List Check) → b ≡ true
    → first_failed (check b other ∷ more) ≡ Some why → first_failed more ≡ Some why
after true other why more holds e = e
after false other why more holds e = absurd (true≢false (sym holds))

-- the first test that fails is this one
here : (b : Bool) (other why : Refusal) (more : List Check) → b ≡ false
    → first_failed (check b other ∷ more) ≡ Some why → other ≡ why
here true other why more fails e = absurd (true≢false fails)
here false other why more fails e = cc e

-- a test of rows and the step of a record with the same meaning: the verdict is the reason, or both go on
step : {P Others : Type 0} (v : Verdict) (b : Bool) (other why : Refusal) (more : List Check) → (b ≡ false → P)
    → (b ≡ true → P → ⊥) → first_failed (check b other ∷ more) ≡ Some why → When v P (rule_reason other) Others
    → Says v why ⊎ ((b ≡ true) × (first_failed more ≡ Some why) × Others)
step v b other why more fails holds e w = elim (cases_Bool b) [
  | inl right ↦ inr (right, after b other why more right e, skip v (rule_reason other) w (holds right))
  | inr wrong ↦ inl (said v b other why more wrong (fails wrong) e w)
]
  where
    said : {P Others : Type 0} (v : Verdict) (b : Bool) (other why : Refusal) (more : List Check) → b ≡ false → P
        → first_failed (check b other ∷ more) ≡ Some why → When v P (rule_reason other) Others → Says v why
    said v b other why more wrong p e (inl w) =
        w.1 ∙ ap (λ (r : Refusal). Refused (rule_reason r)) (here b other why more wrong e)
    said v b other why more wrong p e (inr w) = absurd (w.0 p)

-- the step is that of the test itself
plain_step : {Others : Type 0} (v : Verdict) (b : Bool) (other why : Refusal) (more : List Check)
    → first_failed (check b other ∷ more) ≡ Some why → When v (b ≡ false) (rule_reason other) Others
    → Says v why ⊎ ((b ≡ true) × (first_failed more ≡ Some why) × Others)
plain_step v b other why more = step v b other why more (λ wrong. wrong) (λ right wrong. true≢false (sym right ∙ wrong))

-- ---- points

no_points : (ps : List Point) → has_none ps ≡ true → ps ≡ []
no_points [] e = refl
no_points (p ∷ ps) e = cc e

some_points : (ps : List Point) → has_none ps ≡ false → ps ≡ [] → ⊥
some_points ps some none = true≢false (sym (ap has_none none) ∙ some)

either : (a b : Bool) → (a || b) ≡ true → a ≡ false → b ≡ true
either true b e f = absurd (true≢false f)
either false b e f = e

neither : (a b : Bool) → (a || b) ≡ false → (a ≡ false) × (b ≡ false)
neither true b e = absurd (true≢false e)
neither false b e = (refl, e)

-- the number of points
by_count : (l : Allowance) (before : List Row) (r : Row) (v : Verdict) (why : Refusal)
    → are_in_range r.points ≡ true
    → nat_le (point_count (geometry_rows r.depth before) + length r.points) l.points ≡ true
    → first_failed (count_checks (parent r.depth before) r) ≡ Some why
    → UnlessFaulty (polyline r.points) (points_left l (place_of r.depth before)) v
    (λ ps. JudgedByCount (place_of r.depth before) r.kind r.id r.precision ps v)
    → Says v why
by_count l before r v why in_range few e j =
    let Last : List Point → Type 0 = λ (ps : List Point).
    JudgedByCount (place_of r.depth before) r.kind r.id r.precision ps v in
    let fit = points_fit r.kind (is_geometry (parent r.depth before)) r.points in
    let most : point_count (geometry_rows r.depth before) + length r.points ≤ l.points = grind (arith, nat_tests) in
    let own : DecodesTo (polyline r.points) (points_left l (place_of r.depth before)) r.points = record {
      spelled = refl;
      in_range = points_in_range r.points in_range;
      few = omega (arith, most);
    } in
    let last : Last r.points = elim j [
      | inl fault ↦ absurd (text_fault_none (polyline r.points) (points_left l (place_of r.depth before)) fault.0
          fault.1 r.points fault.2 own)
      | inr some ↦ subst Last (one_polyline some.0 r.points (sym some.1.spelled)) some.2
    ] in
    elim (plain_step v fit Refusal.PointCount why [] e last) [
      | inl said ↦ said
      | inr next ↦ absurd (cc next.1)
    ]

by_points : (l : Allowance) (before : List Row) (r : Row) (v : Verdict) (why : Refusal)
    → why ≢ Refusal.CoordinateRange → why ≢ Refusal.TooManyPoints
    → first_failed (point_checks l (parent r.depth before) (point_count (geometry_rows r.depth before)) r) ≡ Some why
    → JudgedByPoints l (place_of r.depth before) r.kind r.id r.precision (polyline r.points) v → Says v why
by_points l before r v why not_range not_many e j =
    let p = parent r.depth before in
    let count = point_count (geometry_rows r.depth before) in
    let in_range = are_in_range r.points in
    let few = nat_le (count + length r.points) l.points in
    let counted = count_checks p r in
    let many = check few Refusal.TooManyPoints ∷ counted in
    let Others : Type 0 = UnlessFaulty (polyline r.points) (points_left l (place_of r.depth before)) v
    (λ ps. JudgedByCount (place_of r.depth before) r.kind r.id r.precision ps v) in
    let fails : (has_points r.kind || has_none r.points) ≡ false
    → (polyline r.points ≢ []) × (has_points r.kind ≡ false) = λ wrong.
    let both = neither (has_points r.kind) (has_none r.points) wrong in
    (λ none. some_points r.points both.1 (one_polyline r.points [] none), both.0) in
    let holds : (has_points r.kind || has_none r.points) ≡ true
    → (polyline r.points ≢ []) × (has_points r.kind ≡ false) → ⊥ = λ right refused. refused.0
    (ap polyline (no_points r.points (either (has_points r.kind) (has_none r.points) right refused.1))) in
    elim (step {P = (polyline r.points ≢ []) × (has_points r.kind ≡ false)} {Others = Others} v
    (has_points r.kind || has_none r.points) Refusal.PointsNotAllowed why
    (check in_range Refusal.CoordinateRange ∷ many) fails holds e j) [
      | inl said ↦ said
      | inr next ↦ elim (cases_Bool in_range) [
        | inr out ↦ absurd (not_range (sym (here in_range Refusal.CoordinateRange why many out next.1)))
        | inl within ↦
            let rest = after in_range Refusal.CoordinateRange why many within next.1 in
            elim (cases_Bool few) [
              | inr over ↦ absurd (not_many (sym (here few Refusal.TooManyPoints why counted over rest)))
              | inl kept ↦ by_count l before r v why within kept
                  (after few Refusal.TooManyPoints why counted kept rest) next.2
            ]
      ]
    ]

-- ---- the precision

by_precision : (l : Allowance) (before : List Row) (r : Row) (v : Verdict) (why : Refusal) → IfSome r.precision IsId
    → why ≢ Refusal.CoordinateRange → why ≢ Refusal.TooManyPoints
    → first_failed (check (has_needed_precision (parent r.depth before) r.precision) Refusal.PrecisionMissing
    ∷ check (precision_allowed (parent r.depth before) r.precision) Refusal.PrecisionNotAllowed
    ∷ point_checks l (parent r.depth before) (point_count (geometry_rows r.depth before)) r) ≡ Some why
    → JudgedHavingPrecision l (place_of r.depth before) r.kind r.id r.precision (polyline r.points) v → Says v why
by_precision l before r v why precise not_range not_many e j =
    let p = parent r.depth before in
    let points = point_checks l p (point_count (geometry_rows r.depth before)) r in
    let allowed = precision_allowed p r.precision in
    elim (plain_step v (has_needed_precision p r.precision) Refusal.PrecisionMissing why
    (check allowed Refusal.PrecisionNotAllowed ∷ points) e j) [
      | inl said ↦ said
      | inr next ↦ elim (plain_step v allowed Refusal.PrecisionNotAllowed why points next.1 next.2) [
        | inl said ↦ said
        | inr last ↦ by_points l before r v why not_range not_many last.1 last.2
      ]
    ]

in_precision : (l : Allowance) (before : List Row) (r : Row) (v : Verdict) (why : Refusal)
    → IfSome r.precision IsId → why ≢ Refusal.CoordinateRange → why ≢ Refusal.TooManyPoints
    → first_failed (precision_checks (parent r.depth before) r ++ point_checks l
    (parent r.depth before) (point_count (geometry_rows r.depth before)) r) ≡ Some why
    → JudgedByPrecision l (place_of r.depth before) r.kind r.id (optional r.precision)
    (polyline r.points) v → Says v why
in_precision l before r v why precise not_range not_many e j =
    let p = parent r.depth before in
    let b = precision_in_range r.precision in
    let more = check (has_needed_precision p r.precision) Refusal.PrecisionMissing
    ∷ check (precision_allowed p r.precision) Refusal.PrecisionNotAllowed
    ∷ point_checks l p (point_count (geometry_rows r.depth before)) r in
    let Others : Option ℤ → Type 0 = λ (q : Option ℤ).
    JudgedHavingPrecision l (place_of r.depth before) r.kind r.id q (polyline r.points) v in
    let same : (q : Option ℤ) → IsOptionalPrecision (optional r.precision) q → q ≡ r.precision =
    λ q is. sym (one_optional r.precision q precise (precision-ids q is.1) is.0) in
    elim (cases_Bool b) [
      | inl right ↦ by_precision l before r v why precise not_range not_many
          (after b Refusal.BadPrecision why more right e)
          (pick (IsOptionalPrecision (optional r.precision)) Others v BadPrecision r.precision j
          (refl, optional_precision_is r.precision right) same)
      | inr wrong ↦ refused r v why wrong (here b Refusal.BadPrecision why more wrong e) same j
    ]
  where
    refused : {Others : Option ℤ → Type 0} (r : Row) (v : Verdict) (why : Refusal)
        → precision_in_range r.precision ≡ false → Refusal.BadPrecision ≡ why
        → ((q : Option ℤ) → IsOptionalPrecision (optional r.precision) q → q ≡ r.precision)
        → Unless v (IsOptionalPrecision (optional r.precision)) BadPrecision Others → Says v why
    refused r v why wrong is same (inl w) = w.1 ∙ ap (λ (x : Refusal). Refused (rule_reason x)) is
    refused r v why wrong is same (inr w) = absurd (true≢false
        (sym (precision_in_range-true w.0 w.1.1) ∙ ap precision_in_range (same w.0 w.1) ∙ wrong))

-- ---- the id and the place

by_id : (l : Allowance) (before : List Row) (r : Row) (v : Verdict) (why : Refusal)
    → IfSome r.id IsId → IfSome r.precision IsId → why ≢ Refusal.CoordinateRange
    → why ≢ Refusal.TooManyPoints
    → first_failed (id_checks (parent r.depth before) (first_child r.depth before)
    r ++ (precision_checks (parent r.depth before) r ++ point_checks l (parent r.depth before)
    (point_count (geometry_rows r.depth before)) r)) ≡ Some why
    → JudgedById l (place_of r.depth before) r.kind (optional r.id) (optional r.precision)
    (polyline r.points) v → Says v why
by_id l before r v why id precise not_range not_many e j =
    let p = parent r.depth before in
    let f = first_child r.depth before in
    let precisions = precision_checks p r ++ point_checks l p
    (point_count (geometry_rows r.depth before)) r in
    let same = check (has_same_ids f r.id) Refusal.MixedIds ∷ precisions in
    let allowed = check (id_allowed p r.kind r.id) Refusal.IdNotAllowed ∷ same in
    let having = pick (IsOptionalId (optional r.id)) (λ (i : Option ℤ). JudgedHavingId l (place_of r.depth before)
    r.kind i (optional r.precision) (polyline r.points) v) v BadId r.id j (refl, id)
    (λ i is. sym (one_optional r.id i id is.1 is.0)) in
    elim (plain_step v (id_allowed p r.kind r.id) Refusal.IdNotAllowed why same
    (after (id_in_range r.id) Refusal.BadId why allowed (id_in_range-true r.id id) e) having) [
      | inl said ↦ said
      | inr next ↦ elim (plain_step v (has_same_ids f r.id) Refusal.MixedIds why precisions next.1 next.2) [
        | inl said ↦ said
        | inr last ↦ in_precision l before r v why precise not_range not_many last.1 last.2
      ]
    ]

pub one_reason : (l : Allowance) (rs : List Row) (r : Row) (why : Refusal) (v : Verdict) → r.depth ≤ 999
    → IfSome r.id IsId → IfSome r.precision IsId → why ≢ Refusal.CoordinateRange → why ≢ Refusal.TooManyPoints
    → refusal l rs r ≡ Some why → Judged l (reverse rs) (record_of r) v → v ≡ Refused (rule_reason why)
one_reason l rs r why v shallow id precise not_range not_many e j =
    let before = reverse rs in
    let d = r.depth in
    let k = r.kind in
    let p = parent d before in
    let count = length (geometry_rows d before) in
    let ids = id_checks p (first_child d before) r
    ++ (precision_checks p r ++ point_checks l p (point_count (geometry_rows d before)) r) in
    let nodes = check (nat_lt count l.nodes) Refusal.TooManyNodes ∷ ids in
    let nest = check (nest_kept l p d) Refusal.TooDeep ∷ nodes in
    let at = pick (IsDepthField (decimal d)) (λ e. Unless v (λ m. word_of k ≡ word_of m) BadKind
    (λ m. JudgedByPlace l (place_of e before) m (optional r.id) (optional r.precision) (polyline r.points) v)) v
    BadDepth d j (refl, shallow) (λ e q. one_depth e d q.1 shallow (sym q.0)) in
    let of = pick (λ m. word_of k ≡ word_of m) (λ m. JudgedByPlace l (place_of d before) m (optional r.id)
    (optional r.precision) (polyline r.points) v) v BadKind k at refl (λ m q. sym (one_word k m q)) in
    elim (plain_step v (steps_to d before && has_place p k) Refusal.BadPlace why nest e of) [
      | inl said ↦ said
      | inr deep ↦ elim (plain_step v (nest_kept l p d) Refusal.TooDeep why nodes deep.1 deep.2) [
        | inl said ↦ said
        | inr full ↦ elim (step {P = l.nodes ≤ count}
            {Others = JudgedById l (place_of d before) k (optional r.id) (optional r.precision) (polyline r.points) v} v
            (nat_lt count l.nodes) Refusal.TooManyNodes why ids (at_most count l.nodes) (less count l.nodes) full.1
            full.2) [
              | inl said ↦ said
              | inr last ↦ by_id l before r v why id precise not_range not_many last.1 last.2
            ]
      ]
    ]
  where
    at_most : (m n : ℕ) → nat_lt m n ≡ false → n ≤ m
    at_most m n e = grind (arith, nat_tests)

    less : (m n : ℕ) → nat_lt m n ≡ true → n ≤ m → ⊥
    less m n e over = grind (arith, nat_tests)

-- ==== Arrays are written in one way, and read back as they are.

-- how the writing of the arrays of geometries may end
by_answer : (l : Allowance) (gs hs : List Tree) (in_rows : List BufferRow) (in_points : List BufferPoint)
    (full : Bool) (answer : Result (Unit {0}) (Stop RefusedAt)) (status : ℕ) → status ≡ (write_outcome_of full answer).0
    → EndsWriting l hs in_rows in_points answer → IsAllowance l → AreArrays l gs in_rows in_points
    → (status ≡ 4) ⊎ ((hs ≡ gs) × (status ≢ 1))
by_answer l gs hs in_rows in_points false (Ok done) status is ends cap a =
    inr (one_arrays cap a ends, λ e. omega (arith, is, e))
by_answer l gs hs in_rows in_points true (Ok done) status is ends cap a =
    inr (one_arrays cap a ends, λ e. omega (arith, is, e))
by_answer l gs hs in_rows in_points full (Err stop.Memory) status is ends cap a = inl is
by_answer l gs hs in_rows in_points full (Err (stop.Refused at)) status is (inl row) cap a =
    absurd (none_refused cap a row)
by_answer l gs hs in_rows in_points full (Err (stop.Refused at)) status is (inr left) cap a =
    absurd (none_left cap a left)

pub all_written_as : (l : Allowance) (style : Style) (in_rows : List BufferRow) (in_points : List BufferPoint)
    (old old_ends new new_ends : List ℕ) (report : BufferReport) (gs : List Tree)
    (wrote : WritesArrays l style in_rows in_points old old_ends new new_ends report) → IsAllowance l
    → AreArrays l gs in_rows in_points
    → (report.status ≡ 4) ⊎ ((wrote.given ++ wrote.later ≡ gs) × (report.status ≢ 1))
all_written_as l style in_rows in_points old old_ends new new_ends report gs wrote cap a =
    by_answer l gs (wrote.given ++ wrote.later) in_rows in_points (are_more wrote.later) wrote.answer report.status
    wrote.reported.status_is wrote.ended cap a

-- a writing with status 0 had room for all, and came to the end of the arrays
written_zero : (l : Allowance) (gs : List Tree) (in_rows : List BufferRow) (in_points : List BufferPoint)
    (full : Bool) (answer : Result (Unit {0}) (Stop RefusedAt)) → (write_outcome_of full answer).0 ≡ 0
    → EndsWriting l gs in_rows in_points answer → (full ≡ false) × AreArrays l gs in_rows in_points
written_zero l gs in_rows in_points false (Ok done) e ends = (refl, ends)
written_zero l gs in_rows in_points true (Ok done) e ends = absurd (omega (arith, e))
written_zero l gs in_rows in_points full (Err stop.Memory) e ends = absurd (omega (arith, e))
written_zero l gs in_rows in_points false (Err (stop.Refused at)) e ends = absurd (omega (arith, e))
written_zero l gs in_rows in_points true (Err (stop.Refused at)) e ends = absurd (omega (arith, e))

-- no writing has the status of refused arguments
not_two : (full : Bool) (answer : Result (Unit {0}) (Stop RefusedAt)) → (write_outcome_of full answer).0 ≡ 2 → ⊥
not_two true (Ok done) e = omega (arith, e)
not_two false (Ok done) e = omega (arith, e)
not_two full (Err stop.Memory) e = omega (arith, e)
not_two true (Err (stop.Refused at)) e = omega (arith, e)
not_two false (Err (stop.Refused at)) e = omega (arith, e)

pub never_arguments : (l : Allowance) (style : Style) (in_rows : List BufferRow) (in_points : List BufferPoint)
    (old old_ends new new_ends : List ℕ) (report : BufferReport)
    → WritesArrays l style in_rows in_points old old_ends new new_ends report → report.status ≡ 2 → ⊥
never_arguments l style in_rows in_points old old_ends new new_ends report wrote two =
    not_two (are_more wrote.later) wrote.answer (sym wrote.reported.status_is ∙ two)

-- what a call that succeeded wrote
pub record Wrote (l : Allowance) (style : Style) (in_rows : List BufferRow) (in_points : List BufferPoint)
    (bytes : List ℕ) : Type 0 where
  pub gs : List Tree
  pub are : AreArrays l gs in_rows in_points
  pub bytes_are : bytes ≡ canonical_stream style gs

pub all_wrote : (l : Allowance) (style : Style) (in_rows : List BufferRow) (in_points : List BufferPoint)
    (old old_ends new new_ends : List ℕ) (report : BufferReport)
    → WritesArrays l style in_rows in_points old old_ends new new_ends report
    → report.status ≡ 0 → Wrote l style in_rows in_points (take report.sent new)
all_wrote l style in_rows in_points old old_ends new new_ends report w zero =
    let end = written_zero l (w.given ++ w.later) in_rows in_points (are_more w.later) w.answer
    (sym w.reported.status_is ∙ zero) w.ended in
    let stream = canonical_stream style w.given in
    record {
      gs = w.given;
      are = rw (no_more w.later end.0, append-nil w.given) at end.1;
      bytes_are = ap (λ (xs : List ℕ). take report.sent xs) w.written.bytes_are
          ∙ take_at stream (drop (length stream) old) report.sent (sym w.reported.sent_is);
    }

-- the status of a reading that had room for all
by_status : (l : Allowance) (bytes : List ℕ) (gs : List Tree) (answer : Result (Unit {0}) BlobFault) (status : ℕ)
    → status ≡ (outcome_of false answer).0 → EndsReading l bytes gs answer → status ≢ 1
    → (status ≡ 4) ⊎ (status ≡ 0)
by_status l bytes gs (Ok done) status is ends not = inr is
by_status l bytes gs (Err (reading.Device why)) status is ends not = absurd (not is)
by_status l bytes gs (Err (reading.At offset reason)) status is ends not = absurd (not is)
by_status l bytes gs (Err _) status is ends not = inl is

-- the first of geometries have no more rows and points than all
room_for_first : (in_rows : List BufferRow) (in_points : List BufferPoint) (gs hs : List Tree)
    → HasRoom in_rows in_points (gs ++ hs) → HasRoom in_rows in_points gs
room_for_first in_rows in_points gs hs room =
    let all : rows_of (gs ++ hs) ≡ rows_of gs ++ rows_of hs = flat_map-append (rows 0) gs hs in
    let points = ap row_points all ∙ row_points-append (rows_of gs) (rows_of hs) in (
      omega (
        arith,
        room.0,
        ap (λ (xs : List Row). length xs) all,
        length-append (rows_of gs)
            (rows_of hs),
      ),
      omega (
        arith,
        room.1,
        ap (λ (xs : List Point). length xs) points,
        length-append (row_points (rows_of gs)) (row_points (rows_of hs)),
      ),
    )

-- with room for all, all is taken
all_taken : (in_rows : List BufferRow) (in_points : List BufferPoint) (in_ends : List ℕ) (given later : List Tree)
    → HasRoom in_rows in_points (given ++ later)
    → (in_ends ≡ []) ⊎ (length (rows_of (given ++ later)) ≤ length in_ends)
    → StopsBefore (LacksPlaces in_rows in_points in_ends) given later → later ≡ []
all_taken in_rows in_points in_ends given [] room end_room stops = refl
all_taken in_rows in_points in_ends given (g ∷ later) room end_room stops =
    let first = room_for_first in_rows in_points (given ++ g ∷ []) later (rw append_assoc room) in
    absurd (elim stops [
      | inl (inl few) ↦ omega (arith, few, first)
      | inl (inr few) ↦ omega (arith, few, first)
      | inr few ↦
          let some = few.0 in
          let lacks = few.1 in
          elim end_room [
            | inl none ↦ omega (arith, some, ap (λ (l : List ℕ). length l) none)
            | inr many ↦ omega (
              arith,
              lacks,
              many,
              few_geometries (given ++ g ∷ later),
              length-append given (g ∷ later),
              length-append given (g ∷ []),
            )
          ]
    ])

-- what is written at the start of a list, by its own length
laid_as : {X : Type 0} {new all given : List X} {n : ℕ} (old : List X) → given ≡ all
    → length given ≡ n → new ≡ all ++ drop n old → new ≡ given ++ drop (length given) old
laid_as old same count is = rw (count, same) is

pub read_back : (l : Allowance) (given old new : Arrays) (counts : BufferCounts) → IsAllowance l
    → IsRoundTrip l given old new counts → (counts.status ≡ 4) ⊎ ((counts.status ≡ 0) × BeginAs given old new)
read_back l given old new counts cap trip =
    let bytes = take trip.report.sent trip.after in
    let w = all_wrote l trip.style given.rows given.points trip.before trip.before_ends trip.after trip.after_ends
    trip.report trip.wrote trip.done in
    let gs = w.gs in
    let stream : Stream l bytes gs = rw w.bytes_are
    (written_stream l trip.style gs cap w.are.valid) in
    let row_count = ap (λ (xs : List BufferRow). length xs) w.are.rows_are
    ∙ length-map (rows_of gs) row_in_c in
    let point_count = ap (λ (xs : List BufferPoint). length xs) w.are.points_are
    ∙ length-coordinates_of (row_points (rows_of gs)) in
    let room : HasRoom old.rows old.points gs =
    (omega (arith, row_count, trip.room_for_rows), omega (arith, point_count, trip.room_for_points)) in
    let end_room : (trip.old_ends ≡ []) ⊎ (length (rows_of gs) ≤ length trip.old_ends) = elim trip.room_for_ends [
      | inl none ↦ inl none
      | inr many ↦ inr (omega (arith, row_count, many))
    ] in
    elim (all_read l bytes old.rows new.rows old.points new.points trip.old_ends trip.new_ends counts gs trip.read
    stream trip.few) [
      | inl memory ↦ inl memory
      | inr all ↦
          let none : trip.read.later ≡ [] = all_taken old.rows old.points trip.old_ends trip.read.given
          trip.read.later (rw all.0 room) (rw all.0 end_room) trip.read.stops in
          let same : trip.read.given ≡ gs = sym (append-nil trip.read.given) ∙ rw none at all.0 in
          let status = rw none at trip.read.counted.status_is in
          let rows_are : new.rows ≡ array_rows gs ++ drop (length (rows_of gs)) old.rows =
          rw (← same) trip.read.filled.rows_are in
          let points_are : new.points ≡ array_points gs ++ drop (length (row_points (rows_of gs)))
          old.points =
          rw (← same) trip.read.filled.points_are in
          elim (by_status l bytes (trip.read.given ++ trip.read.later) trip.read.answer counts.status status
          trip.read.ended all.1) [
            | inl memory ↦ inl memory
            | inr done ↦ inr (
              done,
              record {
                rows_are = laid_as old.rows w.are.rows_are row_count rows_are;
                points_are = laid_as old.points w.are.points_are point_count points_are;
              },
            )
          ]
    ]

-- the geometries of a stream are valid
pub stream_valid : (l : Allowance) (bytes : List ℕ) (gs : List Tree) → Stream l bytes gs → AreValid l gs
stream_valid l bytes [] s = tt
stream_valid l bytes (g ∷ gs) s = (s.3.valid, stream_valid l s.1 gs s.4)

pub written_canonical : (l : Allowance) (style : Style) (bytes : List ℕ) (old_rows new_rows : List BufferRow)
    (old_points new_points : List BufferPoint) (old_ends new_ends : List ℕ) (counts : BufferCounts)
    (gs : List Tree) (old before_ends new after_ends : List ℕ) (report : BufferReport) → IsAllowance l
    → ReadsArrays l bytes old_rows old_points old_ends new_rows new_points new_ends counts → counts.status ≡ 0
    → Stream l bytes gs
    → (wrote : WritesArrays l style (take counts.rows new_rows) (take counts.points new_points) old before_ends new
    after_ends report)
    → (report.status ≡ 4) ⊎ ((wrote.given ++ wrote.later ≡ gs) × (report.status ≢ 1))
written_canonical l style bytes old_rows new_rows old_points new_points old_ends new_ends counts gs old before_ends new
    after_ends report cap read zero stream wrote =
    let same = all_given gs read zero stream in
    all_written_as l style (take counts.rows new_rows) (take counts.points new_points) old before_ends new after_ends
    report gs wrote cap
    (record {
      valid = stream_valid l bytes gs stream;
      rows_are = ap (λ (xs : List BufferRow). take counts.rows xs) read.filled.rows_are
          ∙ take_at (array_rows read.given) (drop (length (rows_of read.given)) old_rows) counts.rows
          (length-map (rows_of read.given) row_in_c ∙ sym read.counted.rows_is)
          ∙ ap array_rows same;
      points_are = ap (λ (xs : List BufferPoint). take counts.points xs) read.filled.points_are
          ∙ take_at (array_points read.given) (drop (length (row_points (rows_of read.given))) old_points) counts.points
          (length-coordinates_of (row_points (rows_of read.given)) ∙ sym read.counted.points_is)
          ∙ ap array_points same;
    })

-- ==== A stream with a geometry of each kind is read and written as its rows and points.

-- The bytes are a stream.
record StreamOf (bytes : List ℕ) (gs : List Tree) : Type 0 where
  is : Stream standard bytes gs

-- a blob before a stream, by the plain reader
blob_first : (front : List ℕ) (g : Tree) {rest : List ℕ} {gs : List Tree} → some_bytes front ≡ true
    → decode standard front ≡ Made g [] → StreamOf rest gs → StreamOf (front ++ rest) (g ∷ gs)
blob_first front g {rest = rest} are made more =
    record { is = (front, rest, refl, blob_by standard front g standard_allowed are made, more.is) }

each_blob : StreamOf each_kind_stream each_kind
each_blob =
    blob_first one_point_blob one_point refl refl
    (blob_first three_points_blob three_points refl refl
    (blob_first two_rings_blob two_rings refl refl
    (blob_first named_points_blob named_points refl refl
    (blob_first two_lines_blob two_lines refl refl
    (blob_first named_areas_blob named_areas refl refl
    (blob_first named_members_blob named_members refl refl (record { is = refl })))))))

-- the bytes are a stream of the geometries
pub is_stream : Stream standard each_kind_stream each_kind
is_stream = each_blob.is

-- the bytes are the geometries' canonical stream
pub is_written : canonical_stream Full each_kind ≡ each_kind_stream
unfolding digits digits_within joined
is_written = refl

-- the rows and points are those of the geometries, which are valid
are_arrays : AreArrays standard each_kind each_kind_rows each_kind_points
are_arrays = record {
  valid = stream_valid standard each_kind_stream each_kind is_stream;
  rows_are = refl;
  points_are = refl;
}

pub sample_read : (old_rows new_rows : List BufferRow) (old_points new_points : List BufferPoint)
    (old_ends new_ends : List ℕ) (counts : BufferCounts)
    → ReadsArrays standard each_kind_stream old_rows old_points old_ends new_rows new_points new_ends counts
    → counts.status ≡ 0
    → (new_rows ≡ each_kind_rows ++ drop 19 old_rows) × (new_points ≡ each_kind_points ++ drop 16 old_points)
sample_read old_rows new_rows old_points new_points old_ends new_ends counts read zero =
    let same = all_given each_kind read zero is_stream in
    (rw same at read.filled.rows_are, rw same at read.filled.points_are)

pub sample_written : (old old_ends new new_ends : List ℕ) (report : BufferReport)
    → WritesArrays standard Full each_kind_rows each_kind_points old old_ends new new_ends report
    → report.status ≡ 0 → take report.sent new ≡ each_kind_stream
sample_written old old_ends new new_ends report wrote zero =
    let all = all_wrote standard Full each_kind_rows each_kind_points old old_ends new new_ends report wrote zero in
    all.bytes_are ∙ ap (canonical_stream Full) (one_arrays standard_allowed are_arrays all.are)
    ∙ is_written
