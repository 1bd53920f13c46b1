-- One linestring of a stream: its row, its text, and what a reader's answer says of it.
use Rattle.std.proofs.Common.{◌≡◌, ◌∙◌, sym, ap, refl, ℕ, ℤ, true, false, List, [], ◌∷◌, ◌++◌, Option}
use Rattle.std.proofs.Common.{Some, None, Ok, inl, inr}
use Rattle.std.specs.Prelude.{◌⊎◌, slice_get}
use Rattle.std.specs.List.{AllByRecursion}
use Rattle.std.specs.declared.io.traits.Read.{Ghosts}
use Rattle.std.proofs.lemmas.List.{append-nil, map-append}
use Rattle.std.proofs.lemmas.Grind.{flat_map-append}
use Rattle.csv.specs.Writing.{row_text}
use Rattle.twkb_points.specs.Point.{Point}
use Rattle.twkb_tree.specs.Tree.{Tree, simple, collection, flat, precision_of, point, line, polygon, multi_point}
use Rattle.twkb_tree.specs.Tree.{multi_line, multi_polygon}
use Rattle.twkb_tree.specs.Rows.{Row, own_row, rows}
use Rattle.twkb_tree.specs.declared.kind.Kind.TheVariants.{Linestring}
use Rattle.twkb_flat.specs.Rows.{row_with}
use Rattle.twkb_flat.specs.declared.node.Row.{Row as FlatRow}
use Rattle.twkb_polyline.specs.Polyline.{polyline}
use Rattle.twkb_blob.specs.Readers.{ReadsNext, ReadsRows}
use Rattle.twkb_blob.specs.declared.reader.Reader.{Reader}
use Rattle.twkb_convert.specs.Listed.{Follows, IsBetween, is_input_spent}
use Rattle.twkb_rest.specs.Written.{Record, records_text, written_with}
use Rattle.twkb_rest.specs.Columns.{AreLines, IsLine, Refuses, column_records, column_text, first_precision, kind_of}
use Rattle.twkb_rest.specs.Columns.{line_record}
use Rattle.twkb_rest.specs.JoinSending.{GivesPolyline}
use Rattle.twkb_rest.specs.Lines.{GivesLine, RefusesNext, Takes}
use Rattle.twkb_rest.specs.declared.fault.LineReason.{LineReason}

-- ==== The row of a geometry.

-- the first row of a geometry is its own
pub root_row : (rs : List Row) (g : Tree) (r : Row) → rs ≡ rows 0 g → slice_get rs 0 ≡ Some r → own_row None 0 g ≡ r
root_row rs (simple p s) r same first = cc (rw same at first)
root_row rs (collection p ids gs) r same first = cc (rw same at first)

-- a linestring's points are those of its row
pub line_points : (g : Tree) → kind_of g ≡ Linestring → flat g ≡ (own_row None 0 g).points
line_points (simple p (line ps)) k = refl
line_points (simple p (point o)) k = absurd (cc k)
line_points (simple p (polygon rings)) k = absurd (cc k)
line_points (simple p (multi_point ids ps)) k = absurd (cc k)
line_points (simple p (multi_line ids lines)) k = absurd (cc k)
line_points (simple p (multi_polygon ids areas)) k = absurd (cc k)
line_points (collection p ids gs) k = absurd (cc k)

own_kind : (g : Tree) → (own_row None 0 g).kind ≡ kind_of g
own_kind (simple p s) = refl
own_kind (collection p ids gs) = refl

own_precision : (g : Tree) → (own_row None 0 g).precision ≡ Some (precision_of g)
own_precision (simple p s) = refl
own_precision (collection p ids gs) = refl

-- the kind of a geometry is that of its row
pub row_kind : (g : Tree) (r : FlatRow) (ps : List Point) → own_row None 0 g ≡ row_with r ps → kind_of g ≡ r.kind
row_kind g r ps own = sym (own_kind g) ∙ ap (λ (q : Row). q.kind) own

-- the points of the row are its own
with_own : (g : Tree) (r : FlatRow) (ps : List Point) → own_row None 0 g ≡ row_with r ps
    → own_row None 0 g ≡ row_with r (own_row None 0 g).points
with_own g r ps root = root ∙ ap (λ (qs : List Point). row_with r qs) (sym (ap (λ (q : Row). q.points) root))

-- the precision of a geometry is that of its row
pub row_precision : (g : Tree) (r : FlatRow) (ps : List Point) → own_row None 0 g ≡ row_with r ps
    → r.precision ≡ Some (precision_of g)
row_precision g r ps own = sym (ap (λ (q : Row). q.precision) own) ∙ own_precision g

-- ==== The texts and the precisions of more linestrings.

pub records_more : (d : ℕ) (xs ys : List Record) → records_text d (xs ++ ys) ≡ records_text d xs ++ records_text d ys
records_more d xs ys = flat_map-append (row_text (written_with d)) xs ys

-- one more record
pub text_more : (d : ℕ) (name : List ℕ) (gs : List Tree) (g : Tree)
    → column_text d name gs ++ row_text (written_with d) (line_record g) ≡ column_text d name (gs ++ g ∷ [])
text_more d name gs g =
    let one : records_text d (line_record g ∷ []) ≡ row_text (written_with d) (line_record g) = append-nil _ in
    ap (λ (t : List ℕ). column_text d name gs ++ t) (sym one)
    ∙ sym (records_more d (column_records name gs) (line_record g ∷ []))
    ∙ ap (λ (rs : List Record). records_text d ((name ∷ []) ∷ rs)) (sym (map-append line_record gs (g ∷ [])))

all_more : (p : ℤ) (gs : List Tree) (g : Tree) → AllByRecursion (IsLine p) gs → IsLine p g
    → AllByRecursion (IsLine p) (gs ++ g ∷ [])
all_more p [] g all one = (one, tt)
all_more p (h ∷ gs) g all one = (all.0, all_more p gs g all.1 one)

same_precision : (first : Option ℤ) (p q : ℤ) → first ≡ Some p → (first ≡ None) ⊎ (first ≡ Some q) → q ≡ p
same_precision first p q is (inl none) = cc (sym is ∙ none)
same_precision first p q is (inr same) = cc (sym same ∙ is)

-- one more linestring
pub lines_more : (first next : Option ℤ) (gs : List Tree) (g : Tree) → AreLines gs → first ≡ first_precision gs
    → Takes first g next → AreLines (gs ++ g ∷ []) × (next ≡ first_precision (gs ++ g ∷ []))
lines_more first next [] g lines is takes = (((takes.line, refl), tt), takes.kept)
lines_more first next (h ∷ gs) g lines is takes =
    let same = same_precision first (precision_of h) (precision_of g) is takes.same in (
      all_more (precision_of h) (h ∷ gs) g lines (takes.line, same),
      takes.kept ∙ ap Some same,
    )

-- ==== What the answer of a reader says of the next linestring.

module _ {R : Type 0} {read : Ghosts R} (from to : Reader R read) where
  follows : ReadsNext false from to (Ok true) → Follows from to false
  follows shared = record {
    same_tap = shared.same_tap;
    limits = shared.limits;
    failures = shared.failures;
    within = to.input.within;
  }

  between : ReadsNext false from to (Ok true) → is_input_spent to ≡ false → IsBetween to
  between shared live = record { fresh = shared.stays; going_on = shared.going_on (λ e. cc e); input = live }

  -- a linestring was read, and its record was made
  pub line_given : (d : ℕ) (first next : Option ℤ) (rs : List Row) (r : FlatRow) (ps : List Point) (text : List ℕ)
      → IsBetween from → ReadsRows from to (Ok true) rs → slice_get rs 0 ≡ Some (row_with r ps)
      → ((g : Tree) → own_row None 0 g ≡ row_with r (own_row None 0 g).points → Takes first g next)
      → text ≡ row_text (written_with d) (polyline ps ∷ []) → GivesLine d first next from to text
  line_given d first next rs r ps text ready reads here judged own =
      let (g, made, are) = reads.next ready.fresh ready.going_on in
      let root = root_row rs g (row_with r ps) are here in
      let takes = judged g (with_own g r ps root) in
      let points : flat g ≡ ps = line_points g takes.line ∙ ap (λ (q : Row). q.points) root in
      record {
        found = g;
        gives = record {
          front = made.bytes;
          blob = made.blob;
          used = record { consumed = made.left.consumed; counted = made.left.counted };
        };
        takes = takes;
        own = own ∙ ap (λ (qs : List Point). row_text (written_with d) (polyline qs ∷ [])) (sym points);
        follows = follows reads.shared;
        between = between reads.shared made.unspent;
      }

  -- a linestring was read, and its polyline was made
  pub polyline_given : (first next : Option ℤ) (rs : List Row) (r : FlatRow) (ps : List Point) (text : List ℕ)
      → IsBetween from → ReadsRows from to (Ok true) rs → slice_get rs 0 ≡ Some (row_with r ps)
      → ((g : Tree) → own_row None 0 g ≡ row_with r (own_row None 0 g).points → Takes first g next)
      → text ≡ polyline ps → GivesPolyline first next from to text
  polyline_given first next rs r ps text ready reads here judged own =
      let (g, made, are) = reads.next ready.fresh ready.going_on in
      let root = root_row rs g (row_with r ps) are here in
      let takes = judged g (with_own g r ps root) in
      let points : flat g ≡ ps = line_points g takes.line ∙ ap (λ (q : Row). q.points) root in
      record {
        found = g;
        gives = record {
          front = made.bytes;
          blob = made.blob;
          used = record { consumed = made.left.consumed; counted = made.left.counted };
        };
        takes = takes;
        own = own ∙ ap polyline (sym points);
        follows = follows reads.shared;
        between = between reads.shared made.unspent;
      }

  -- a blob was read that can't be in the column
  pub line_refused : (first : Option ℤ) (rs : List Row) (r : FlatRow) (ps : List Point) (why : LineReason)
      → IsBetween from → ReadsRows from to (Ok true) rs → slice_get rs 0 ≡ Some (row_with r ps)
      → ((g : Tree) → own_row None 0 g ≡ row_with r (own_row None 0 g).points → Refuses first g why)
      → RefusesNext first from to why
  line_refused first rs r ps why ready reads here judged =
      let (g, made, are) = reads.next ready.fresh ready.going_on in
      record {
        found = g;
        gives = record {
          front = made.bytes;
          blob = made.blob;
          used = record { consumed = made.left.consumed; counted = made.left.counted };
        };
        refused = judged g (with_own g r ps (root_row rs g (row_with r ps) are here));
        follows = follows reads.shared;
      }
