-- The bytes of the blob of a point or of a line.
use Rattle.std.proofs.Common.{◌≡◌, ◌∙◌, ℕ, ◌+◌, ◌<◌, ℤ, List, [], ◌∷◌, ◌++◌, length, Some, refl, sym, ap, arith}
use Rattle.std.proofs.Common.{append-nil, append_assoc, length-append, ◌^◌, take, drop}
use Rattle.std.specs.Prelude.{None, ◌-ℤ◌}
use Rattle.std.proofs.lemmas.List.{take_all}
use Rattle.twkb_num.specs.Alphabet.{leb_unit}
use Rattle.twkb_num.specs.Varint.{varint_of}
use Rattle.twkb_num.specs.Spelling.{zigzag_of}
use Rattle.twkb_num.proofs.SpellingLemmas.{shortest_one}
use Rattle.twkb_points.specs.Point.{Point, origin}
use Rattle.twkb_tree.specs.Tree.{point, IsPrecision, line, saturated}
use Rattle.twkb_tree.specs.declared.kind.Kind.TheVariants as kind
use Rattle.twkb_flat.specs.declared.work.Work.{Work}
use Rattle.twkb_grammar.specs.Items.{fields, header_byte}
use Rattle.twkb_grammar.specs.Roles.{type_byte}
use Rattle.twkb_grammar.specs.Written.{canonical_blob, varints, framed, metadata_byte}
use Rattle.twkb_grammar.specs.declared.style.Style.{Style}
use Rattle.twkb_grammar.specs.declared.style.Style.TheVariants.{Full, Plain}
use Rattle.twkb_writer.specs.Bytes.{one_point, point_frame, geometry_lead, way_bytes, one_line, MeasuresLine}
use Rattle.twkb_writer.specs.Totals.{number_len, tail_of, blank, entry_for}
use Rattle.twkb_writer.specs.declared.totals.RowTotals.{RowTotals}
use Rattle.twkb_writer.specs.declared.sizes.Entry.{Entry}
use Rattle.twkb_writer.specs.declared.tails.TailTotals.{TailTotals}
use Rattle.twkb_writer.specs.MeasuredRows.{Measures}
use Rattle.twkb_writer.specs.Nodes.{ReadsExactly}
use Rattle.twkb_writer.specs.Sizes.{entry_of}
use Rattle.twkb_writer.proofs.TreeBytes.{type_is, rows_spell}
use Rattle.twkb_writer.proofs.MeasuringParts.{length-number}
use Rattle.twkb_writer.proofs.MeasuringTrees.{entry_is, simple_measured}

-- ==== The bytes of the blob of a point.

-- the metadata byte and the size of a full blob
pub full_frame : (style : Style) (left mid now : List ℕ) (flags size : ℕ) → style ≡ Full → flags ≡ 2 → size < 128
    → mid ≡ left ++ flags ∷ [] → now ≡ mid ++ size ∷ [] → now ≡ left ++ point_frame style size
full_frame style left mid now flags size full two small e f =
    let short = sym (shortest_one leb_unit 128 size small) in
    f ∙ ap (λ (l : List ℕ). l ++ size ∷ []) e ∙ append_assoc left (flags ∷ []) (size ∷ [])
    ∙ (λ i. left ++ two i ∷ short i)
    ∙ ap (λ (s : Style). left ++ point_frame s size) (sym full)

-- the body of a point: its difference from the origin
point_body : (q : Point) (x y : ℕ) → x ≡ zigzag_of (q.x -ℤ origin.x) → y ≡ zigzag_of (q.y -ℤ origin.y)
    → varint_of x ++ varint_of y ≡ varints (fields (point (Some q)))
point_body q x y ex ey =
    let last = varint_of (zigzag_of (q.y -ℤ origin.y)) in
    (λ i. varint_of (ex i) ++ varint_of (ey i))
    ∙ ap (λ (l : List ℕ). varint_of (zigzag_of (q.x -ℤ origin.x)) ++ l) (sym (append-nil last))

-- the size of the body
body_size : (x y size : ℕ) → size ≡ number_len x + number_len y → size ≡ length (varint_of x ++ varint_of y)
body_size x y size e = omega
    (arith, e, length-number x, length-number y, length-append (varint_of x) (varint_of y))

-- the bytes after the type byte
framed_is : (style : Style) (p : ℤ) (q : Point) (size : ℕ) (body : List ℕ) → size ≡ length body
    → point_frame style size ++ body ≡ metadata_byte style (one_point p q) ∷ framed style (one_point p q) body
framed_is Full p q size body e = ap (λ (n : ℕ). 2 ∷ (varint_of n ++ body)) e
framed_is Plain p q size body e = refl

-- the blob, put part by part: type byte, frame, and body
pub point_put : (style : Style) (p : ℤ) (q : Point) (x y size first : ℕ) (empty typed sized now : List ℕ)
    → IsPrecision p → x ≡ zigzag_of (q.x -ℤ origin.x) → y ≡ zigzag_of (q.y -ℤ origin.y)
    → size ≡ number_len x + number_len y → first ≡ type_byte kind.Point p → empty ≡ []
    → typed ≡ empty ++ first ∷ [] → sized ≡ typed ++ point_frame style size
    → now ≡ sized ++ (varint_of x ++ varint_of y) → now ≡ canonical_blob style (one_point p q)
point_put style p q x y size first empty typed sized now fits ex ey e type none put_type put_frame put_body =
    let frame = point_frame style size in
    let body = varint_of x ++ varint_of y in
    put_body ∙ ap (λ (l : List ℕ). l ++ body) (put_frame ∙ ap (λ (l : List ℕ). l ++ frame)
    (put_type ∙ (λ i. none i ++ type i ∷ [])))
    ∙ (λ i. type_is None 0 (one_point p q) (fits, tt) i ∷ framed_is style p q size body (body_size x y size e) i)
    ∙ ap (λ (l : List ℕ). header_byte 1 p ∷ metadata_byte style (one_point p q) ∷ framed style (one_point p q) l)
    (point_body q x y ex ey)

-- ==== The bytes of the blob of a line, and the work to write it.

-- the entry of a line, from the totals of its points
pub line_entry_is : (style : Style) (p : ℤ) (ps : List Point) (own : ℕ) (below : RowTotals) (t : TailTotals) (e : Entry)
    → own ≡ length ps → below ≡ blank → t ≡ tail_of ps → e ≡ entry_for style kind.Linestring p own below t
    → e ≡ entry_of style (one_line p ps)
line_entry_is style p ps own below t e count none points found =
    found
    ∙ (λ i. entry_for style kind.Linestring p (count i) (none i) (points i))
    ∙ entry_is (simple_measured style p (line ps) tt)

-- the bytes of a line with its entry are its blob
pub line_bytes : (style : Style) (p : ℤ) (ps own_points : List Point) (own : ℕ) (e : Entry) → IsPrecision p
    → own ≡ length ps → own_points ≡ ps → e ≡ entry_of style (one_line p ps)
    → geometry_lead style p e kind.Linestring 0 own [] ++ way_bytes origin own_points
    ≡ canonical_blob style (one_line p ps)
line_bytes style p ps own_points own e fits count all found =
    (λ i. geometry_lead style p (found i) kind.Linestring 0 (count i) [] ++ way_bytes origin (all i))
    ∙ sym (append-nil _)
    ∙ rows_spell style (one_line p ps) (fits, tt)

-- the node's own points are all points
pub all_own : (ps : List Point) (first own : ℕ) → first ≡ 0 → own ≡ length ps → take own (drop first ps) ≡ ps
all_own ps first own none count = (λ i. take (count i) (drop (none i) ps)) ∙ take_all (length ps) ps (omega arith)

-- the work to measure a line, and to read its points twice
pub line_work : (a b c d : Work) (points own : ℕ) → b.node_reads < 2 ^ 64 → own ≡ points → Measures a own 1 1 b
    → ReadsExactly b 0 points c → ReadsExactly c 0 own d → MeasuresLine a points d
line_work a b c d points own few count m r s = record {
  more_points = s.same_points ∙ r.same_points ∙ m.more_points ∙ ap (λ (n : ℕ). saturated (a.points + n)) count;
  more_nodes = s.same_nodes ∙ r.same_nodes ∙ m.more_nodes;
  more_entries = s.same_entries ∙ r.same_entries ∙ m.more_entries;
  point_reads = omega (arith, count, s.point_reads, r.point_reads, m.same_point_reads);
  same_node_reads = omega (arith, few, s.node_reads, r.node_reads, m.same_node_reads);
}
