-- What the bytes of a field say: a linestring, or why there is none.
use Rattle.std.proofs.Common.{◌≡◌, ◌∙◌, ℕ, ℤ, List, [], Some, None, Result, Ok, refl, sym, ap, subst}
use Rattle.std.proofs.Common.{Bool, true, false}
use Rattle.std.proofs.Common.{inl, inr, arith, length, take, drop, ◌<◌, ◌≤◌}
use Rattle.std.specs.Prelude.{slice_get, ◌≢◌}
use Rattle.std.proofs.lemmas.List.{length-drop, length-take-le, take-append-drop, take_all}
use Rattle.hex.specs.Hex.{decode_of}
use Rattle.twkb_points.specs.Point.{Point}
use Rattle.twkb_polyline.specs.Polyline.{polyline}
use Rattle.twkb_tree.specs.Limits.{Allowance}
use Rattle.twkb_tree.specs.Rows.{Row, own_row, rows}
use Rattle.twkb_tree.specs.Tree.{Tree, simple, collection, line, point, polygon, multi_point, multi_line}
use Rattle.twkb_tree.specs.Tree.{multi_polygon}
use Rattle.twkb_tree.specs.declared.kind.Kind.TheVariants.{Linestring}
use Rattle.twkb_flat.specs.Rows.{row_with}
use Rattle.twkb_flat.specs.Taking.{IfRefused}
use Rattle.twkb_flat.specs.declared.node.Row.{Row as FlatRow}
use Rattle.twkb_flat.specs.declared.stop.Stop.{Stop}
use Rattle.twkb_flat.specs.declared.stop.Stop.TheVariants as stop
use Rattle.twkb_grammar.specs.Fault.{FirstFault, Reason, Truncated}
use Rattle.twkb_grammar.specs.Items.{Blob, BlobInFront}
use Rattle.twkb_grammar.specs.Noting.{Notes}
use Rattle.twkb_engine.specs.Standing.{FedBy, IsEnd, IsFed, MadeIn, RefusedIn, StandsAt, TakesAll, notes_at}
use Rattle.twkb_engine.specs.Standing.{offset_in}
use Rattle.twkb_engine.specs.State.{allowance_of}
use Rattle.twkb_engine.specs.Stops.{Stop as EngineStop}
use Rattle.twkb_engine.specs.declared.engine.Engine.{Engine}
use Rattle.twkb_hex.specs.Digits.{RefusesDigits, digits_in}
use Rattle.twkb_hex.specs.Polylines.{IsLineIn, IsNoLineIn, IsUnpackedTo, RefusesBytes, RefusesHex}
use Rattle.twkb_hex.specs.declared.report.HexReason.{HexReason}
use Rattle.twkb_hex.specs.declared.report.HexReason.TheVariants as reason

-- ==== The rows of a linestring.

-- the first row of a geometry is its own
own_first : (rs : List Row) (g : Tree) (r : Row) → rs ≡ rows 0 g → slice_get rs 0 ≡ Some r → own_row None 0 g ≡ r
own_first rs (simple p s) r same first = cc (rw same at first)
own_first rs (collection p ids gs) r same first = cc (rw same at first)

module _ (rs : List Row) (r : FlatRow) (ps : List Point) (first : slice_get rs 0 ≡ Some (row_with r ps)) where
  -- the row is a linestring's
  pub line_in : (made : List ℕ) → r.kind ≡ Linestring → made ≡ polyline ps → IsLineIn rs made
  line_in made kind text = λ g same. go g (own_first rs g (row_with r ps) same first)
    where
      go : (g : Tree) → own_row None 0 g ≡ row_with r ps → (precision : ℤ) × (points : List Point)
          × (g ≡ simple precision (line points)) × (made ≡ polyline points)
      go (simple p (line qs)) own =
          (p, qs, refl, text ∙ ap polyline (sym (ap (λ (q : Row). q.points) own)))
      go (simple p (point o)) own = absurd (cc (ap (λ (q : Row). q.kind) own ∙ kind))
      go (simple p (polygon rings)) own = absurd (cc (ap (λ (q : Row). q.kind) own ∙ kind))
      go (simple p (multi_point ids qs)) own = absurd (cc (ap (λ (q : Row). q.kind) own ∙ kind))
      go (simple p (multi_line ids lines)) own = absurd (cc (ap (λ (q : Row). q.kind) own ∙ kind))
      go (simple p (multi_polygon ids areas)) own = absurd (cc (ap (λ (q : Row). q.kind) own ∙ kind))
      go (collection p ids gs) own = absurd (cc (ap (λ (q : Row). q.kind) own ∙ kind))

  -- the row is that of another geometry
  pub no_line_in : r.kind ≢ Linestring → IsNoLineIn rs reason.NoLinestring
  no_line_in other = (
    refl,
    λ g same (p, qs, is). other (sym (ap (λ (q : Row). q.kind)
        (sym (ap (λ (h : Tree). own_row None 0 h) is) ∙ own_first rs g (row_with r ps) same first))),
  )

-- a geometry has a row
some_row : (g : Tree) → 0 < length (rows 0 g)
some_row (simple p s) = omega arith
some_row (collection p ids gs) = omega arith

pub some_rows : {l : Allowance} {bytes : List ℕ} {used : ℕ} {rs : List Row} → MadeIn l [] bytes used rs
    → 0 < length rs
some_rows m = omega (arith, ap (λ (q : List Row). length q) m.made, some_row m.geometry)

-- ==== What is made of the bytes of a field.

-- the blob that was read, and what comes after it
abbrev pub read_front : {l : Allowance} {bytes : List ℕ} {used : ℕ} {rs : List Row} (m : MadeIn l [] bytes used rs)
    → BlobInFront l bytes m.geometry (drop used bytes)
read_front {bytes = bytes} {used = used} m = record {
  front = take used bytes;
  whole = sym (take-append-drop used bytes);
  blob = m.blob;
}

no_line_reason : {l : Allowance} {bytes : List ℕ} {used : ℕ} {rs : List Row} (m : MadeIn l [] bytes used rs)
    (why : HexReason) → IsNoLineIn rs why → RefusesBytes l bytes why
no_line_reason {l = l} {bytes = bytes} {used = used} m why (is, no_line) =
    rw is (m.geometry, drop used bytes, read_front m, no_line m.geometry m.made)

module _ (l : Allowance) (field bytes : List ℕ) (decoded : decode_of (digits_in field) ≡ Ok bytes) where
  bytes_refused : (why : HexReason) → RefusesBytes l bytes why → RefusesHex l field why
  bytes_refused why refused = inr (bytes, decoded, refused)

  -- the blob was not read
  pub blob_refused : (s : Stop HexReason) → IfRefused (RefusesBytes l bytes) s → IfRefused (RefusesHex l field) s
  blob_refused stop.Memory refused = refused
  blob_refused (stop.Refused why) refused = bytes_refused why refused

  module _ (used : ℕ) (rs : List Row) (m : MadeIn l [] bytes used rs) where
    -- the polyline was not made
    pub line_refused : (s : Stop HexReason) → IfRefused (IsNoLineIn rs) s → IfRefused (RefusesHex l field) s
    line_refused stop.Memory refused = refused
    line_refused (stop.Refused why) refused = bytes_refused why (no_line_reason m why refused)

    module _ (made : List ℕ) (is_line : IsLineIn rs made) where
      -- more comes after the blob
      pub more_refused : used < length bytes → RefusesHex l field (reason.MoreBlobs used)
      more_refused more =
          let (p, ps, same, text) = is_line m.geometry m.made in
          bytes_refused (reason.MoreBlobs used) (record {
            line = m.geometry;
            is_line = (p, ps, same);
            rest = drop used bytes;
            first = read_front m;
            more = λ none. absurd (omega (arith, ap (λ (t : List ℕ). length t) none, length-drop used bytes, more));
            ends = sym (length-take-le used bytes m.within);
          })

      -- the bytes are the blob
      pub unpacked_to : length bytes ≤ used → IsUnpackedTo l field made
      unpacked_to all =
          let (p, ps, same, text) = is_line m.geometry m.made in
          record {
            bytes = bytes;
            digits = decoded;
            precision = p;
            points = ps;
            blob = subst (λ (g : Tree). Blob l bytes g) same
                (subst (λ (t : List ℕ). Blob l t m.geometry) (take_all used bytes all) m.blob);
            text = text;
          }

-- the digits are refused
pub digits_refused : (l : Allowance) (field : List ℕ) (s : Stop HexReason)
    → IfRefused (RefusesDigits (digits_in field)) s → IfRefused (RefusesHex l field) s
digits_refused l field stop.Memory refused = refused
digits_refused l field (stop.Refused why) refused = inl refused

-- ==== What an engine answers to the bytes of a field.

module _ {d : Engine} {rs : List Row} (l : Allowance) (bytes : List ℕ) (stands : StandsAt [] [] d) (none : rs ≡ [])
    (same : allowance_of d ≡ l) where
  begun : StandsAt [] rs d
  begun = subst (λ (q : List Row). StandsAt [] q d) (sym none) stands

  -- an item was refused
  pub item_refused : (offset : ℕ) (why : Reason)
      → ((bs : List ℕ) → StandsAt bs rs d → RefusedIn (allowance_of d) bs bytes offset why)
      → FirstFault l bytes offset why
  item_refused offset why fed =
      let refused = subst (λ a. RefusedIn a [] bytes offset why) same (fed [] begun) in
      subst (λ (t : List ℕ). FirstFault l t offset why) (take-append-drop refused.used bytes)
      (refused.fault (drop refused.used bytes))

  end_cut : (between : Bool) (bs : List ℕ) (offset : ℕ) → 0 < length bs → IsEnd l bs offset between
      → FirstFault l bs offset Truncated
  end_cut true bs offset some is = absurd (omega (arith, ap (λ (t : List ℕ). length t) is, some))
  end_cut false bs offset some is = is

  module _ {S : Type 0} (holds : S → Notes → Type 0) (e : Engine) (more : List Row) (old new : S) where
    fed_at : (answer : Result (ℕ × Bool) EngineStop) → FedBy holds d rs old bytes answer e more new
        → IsFed holds (holds old (notes_at begun)) l d.start [] bytes answer more e new
    fed_at answer fed = subst (λ a. IsFed holds (holds old (notes_at begun)) a d.start [] bytes answer more e new)
        same (fed [] begun)

    -- a blob was read
    pub made_in : (used : ℕ) (ends : Bool) → ends ≡ true → FedBy holds d rs old bytes (Ok (used, ends)) e more new
        → MadeIn l [] bytes used more
    made_in used true is fed = (fed_at (Ok (used, true)) fed).0
    made_in used false is fed = absurd (cc is)

    -- the bytes end inside a blob
    pub blob_cut : (used : ℕ) (ends between : Bool) → ends ≡ false → 0 < length bytes
        → TakesAll (length bytes) (Ok (used, ends)) → FedBy holds d rs old bytes (Ok (used, ends)) e more new
        → e.limits ≡ d.limits
        → ((bs : List ℕ) (qs : List Row) → StandsAt bs qs e → IsEnd (allowance_of e) bs (offset_in e) between)
        → FirstFault l bytes (offset_in e) Truncated
    blob_cut used true between is some all fed limits ended = absurd (cc is)
    blob_cut used false between is some all fed limits ended =
        let whole : take used bytes ≡ bytes = take_all used bytes (omega (arith, all)) in
        let at : IsEnd (allowance_of e) (take used bytes) (offset_in e) between =
        ended (take used bytes) more (fed_at (Ok (used, false)) fed).2 in
        end_cut between bytes (offset_in e) some
        (subst (λ (a : Allowance). IsEnd a bytes (offset_in e) between) (limits ∙ same)
        (subst (λ (t : List ℕ). IsEnd (allowance_of e) t (offset_in e) between) whole at))
