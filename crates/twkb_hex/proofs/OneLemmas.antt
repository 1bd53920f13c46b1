-- What records become is determined.
use Rattle.std.proofs.Common.{◌≡◌, ◌∙◌, ℕ, List, [], ◌∷◌, ◌++◌, Bool, true, false, refl, sym, ap, subst, length}
use Rattle.hex.proofs.HexLemmas.{decode_of-same}
use Rattle.twkb_points.specs.Point.{Point}
use Rattle.twkb_polyline.specs.Polyline.{polyline}
use Rattle.twkb_polyline.proofs.FaultLemmas.{one_polyline}
use Rattle.twkb_tree.specs.Limits.{Allowance}
use Rattle.twkb_tree.specs.Tree.{Tree, flat}
use Rattle.twkb_grammar.specs.Written.{canonical_blob}
use Rattle.twkb_grammar.proofs.Parts.{one_blob_lem}
use Rattle.twkb_writer.specs.Bytes.{one_line}
use Rattle.twkb_csv.specs.Named.{Record}
use Rattle.twkb_hex.specs.Fields.{Becomes, Packed, PacksBy, Unpacked, Way, hex_text, name_of, stays_empty}
use Rattle.twkb_hex.specs.Polylines.{Unpacks}
use Rattle.twkb_hex.specs.Rows.{Become, Converts, RowBecomes, found_in, replaced}
use Rattle.twkb_hex.specs.declared.found.Found.{Found}
use Rattle.twkb_hex.specs.declared.found.Found.TheVariants.{At}
use Rattle.twkb_hex.specs.declared.packing.Packing.{Packing}

-- ==== Fields.

one_packing : (b : Bool) (p : Packing) (l : Allowance) (field x y : List ℕ) → PacksBy b p l field x
    → PacksBy b p l field y → x ≡ y
one_packing true p l field x y a b = a ∙ sym b
one_packing false p l field x y a b =
    let same : a.points ≡ b.points = one_polyline a.points b.points (sym a.decoded.spelled ∙ b.decoded.spelled) in
    a.digits ∙ ap (λ (ps : List Point). hex_text p.is_bare (canonical_blob p.style (one_line p.column.precision ps)))
    same ∙ sym b.digits

one_unpacking : (l : Allowance) (field x y : List ℕ) → Unpacks l field x → Unpacks l field y → x ≡ y
one_unpacking l [] x y a b = a ∙ sym b
one_unpacking l (c ∷ field) x y a b =
    let bytes : a.bytes ≡ b.bytes = decode_of-same _ a.bytes b.bytes a.digits b.digits in
    let trees = one_blob_lem l a.bytes b.bytes [] [] (one_line a.precision a.points) (one_line b.precision b.points)
    a.blob b.blob (ap (λ (t : List ℕ). t ++ []) bytes) in
    a.text ∙ ap (λ (g : Tree). polyline (flat g)) trees.0 ∙ sym b.text

one_field : (way : Way) (field x y : List ℕ) → Becomes way field x → Becomes way field y → x ≡ y
one_field (Packed p l) field x y a b = one_packing (stays_empty p field) p l field x y a b
one_field (Unpacked u l) field x y a b = one_unpacking l field x y a b

-- ==== Records.

one_row : (way : Way) (place width : ℕ) (row x y : Record) → RowBecomes way place width row x
    → RowBecomes way place width row y → x ≡ y
one_row way place width row x y a b =
    a.is ∙ ap (λ (made : List ℕ). replaced place made row) (one_field way _ a.made b.made a.becomes b.becomes)
    ∙ sym b.is

one_rows : (way : Way) (place width : ℕ) (rows xs ys : List Record) → Become way place width rows xs
    → Become way place width rows ys → xs ≡ ys
unfolding Become
one_rows way place width [] [] [] a b = refl
one_rows way place width [] (x ∷ xs) ys a b = absurd a
one_rows way place width [] [] (y ∷ ys) a b = absurd b
one_rows way place width (row ∷ rows) [] ys a b = absurd a
one_rows way place width (row ∷ rows) (x ∷ xs) [] a b = absurd b
one_rows way place width (row ∷ rows) (x ∷ xs) (y ∷ ys) a b =
    ap (λ (z : Record). z ∷ xs) (one_row way place width row x y a.0 b.0)
    ∙ ap (λ (zs : List Record). y ∷ zs) (one_rows way place width rows xs ys a.1 b.1)

same_place : (found : Found) (m n : ℕ) → found ≡ At m → found ≡ At n → m ≡ n
same_place found m n a b = cc (sym a ∙ b)

pub one_conversion : (way : Way) (records a b : List Record) → Converts way records a → Converts way records b → a ≡ b
one_conversion way [] [] [] x y = refl
one_conversion way [] (a ∷ more) b x y = absurd x
one_conversion way [] [] (b ∷ others) x y = absurd y
one_conversion way (header ∷ rows) [] b x y = absurd x
one_conversion way (header ∷ rows) (a ∷ more) [] x y = absurd y
one_conversion way (header ∷ rows) (a ∷ more) (b ∷ others) (x, (m, at, xs)) (y, (n, too, ys)) =
    let place : m ≡ n = same_place (found_in (name_of way) header) m n at too in
    ap (λ (z : Record). z ∷ more) (x ∙ sym y)
    ∙ ap (λ (zs : List Record). b ∷ zs) (one_rows way n (length header) rows more others
    (subst (λ (k : ℕ). Become way k (length header) rows more) place xs) ys)
