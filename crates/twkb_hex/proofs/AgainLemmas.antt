-- What was packed is unpacked again.
use Rattle.std.proofs.Common.{◌≡◌, ◌∙◌, ℕ, ℤ, zero, suc, pos, negsuc, List, [], ◌∷◌, ◌++◌, Bool, true, false}
use Rattle.std.proofs.Common.{refl, sym, ap, subst, inl, inr, arith, length, get_or, map, ◌<◌, ◌≤◌, ◌/◌}
use Rattle.std.specs.Prelude.{flat_map, if◌then◌else◌, nat_eq, codes, slice_index}
use Rattle.std.proofs.lemmas.Bool.{cases_lt, ne_eqb}
use Rattle.std.proofs.lemmas.List.{get_or_past}
use Rattle.std.proofs.lemmas.Int.{ints}
use Rattle.hex.specs.Hex.{IsBytes, decode_of, encode_lower, encode_with, hex_digit_value, lower_digits}
use Rattle.hex.proofs.HexLemmas.{IsDigits-lower_digits, decode_of-encode_lower}
use Rattle.twkb_num.specs.Spelling.{zigzag_of}
use Rattle.twkb_num.specs.Varint.{varint_of}
use Rattle.twkb_num.proofs.VarintLemmas.{byte_more, last_byte}
use Rattle.twkb_points.specs.Point.{Point}
use Rattle.twkb_points.specs.Extent.{tight}
use Rattle.twkb_tree.specs.Limits.{Allowance, IsAllowance, IsValid}
use Rattle.twkb_tree.specs.Tree.{IsPrecision, Tree, flat, line}
use Rattle.twkb_grammar.specs.Bits.{AreBytes}
use Rattle.twkb_grammar.specs.Items.{Flags, HasBody, HasMembers, MayBeEmpty, MustBeEmpty, fields}
use Rattle.twkb_grammar.specs.Roles.{Field}
use Rattle.twkb_grammar.specs.Written.{box_of, boxed, canonical_blob, flag_bits, flags_of_tree, framed, is_empty}
use Rattle.twkb_grammar.specs.Written.{metadata_byte, varints}
use Rattle.twkb_grammar.specs.declared.style.Style.{Style}
use Rattle.twkb_grammar.specs.declared.style.Style.TheVariants.{Full, Plain}
use Rattle.twkb_grammar.proofs.WrittenBlobs.{written_blob}
use Rattle.twkb_writer.specs.Bytes.{one_line}
use Rattle.twkb_csv.specs.Named.{Record}
use Rattle.twkb_hex.specs.Again.{emptied, row_emptied, unpacking_of, with_empty}
use Rattle.twkb_hex.specs.Digits.{digits_in}
use Rattle.twkb_hex.specs.Fields.{IsPackedTo, Packed, PacksBy, Unpacked, hex_text, stays_empty}
use Rattle.twkb_hex.specs.Polylines.{IsUnpackedTo, Unpacks}
use Rattle.twkb_hex.specs.Rows.{Become, Converts, RowBecomes, found_in, replaced}
use Rattle.twkb_hex.specs.declared.found.Found.TheVariants.{At}
use Rattle.twkb_hex.specs.declared.packing.Packing.{Packing}
use Rattle.twkb_hex.proofs.TextLemmas.{get-replaced, length-replaced}

-- ==== The canonical blob of a linestring is bytes.

bytes_join : (xs ys : List ℕ) → AreBytes xs → AreBytes ys → AreBytes (xs ++ ys)
bytes_join [] ys a b = b
bytes_join (x ∷ xs) ys a b = (a.0, bytes_join xs ys a.1 b)

bytes_each : {A : Type 0} (f : A → List ℕ) → ((a : A) → AreBytes (f a)) → (xs : List A) → AreBytes (flat_map f xs)
bytes_each f are [] = tt
bytes_each f are (x ∷ xs) = bytes_join (f x) (flat_map f xs) (are x) (bytes_each f are xs)

bytes_varint : (turns n : ℕ) → n < turns → AreBytes (varint_of n)
bytes_varint zero n h = absurd (omega arith)
bytes_varint (suc turns) n h = elim (cases_lt n 128) [
  | inl few ↦ rw (last_byte n few) (omega arith, tt)
  | inr many ↦ rw (byte_more n many) (omega arith, bytes_varint turns (n / 128) (omega arith))
]

bytes_number : (n : ℕ) → AreBytes (varint_of n)
bytes_number n = bytes_varint (suc n) n (omega arith)

bytes_fields : (fs : List Field) → AreBytes (varints fs)
bytes_fields fs = bytes_each (λ f. varint_of f.1) (λ f. bytes_number f.1) fs

bytes_if : (b : Bool) (xs : List ℕ) → AreBytes xs → AreBytes (if b then xs else [])
bytes_if true xs are = are
bytes_if false xs are = tt

bytes_unless : (b : Bool) (xs : List ℕ) → AreBytes xs → AreBytes (if b then [] else xs)
bytes_unless true xs are = tt
bytes_unless false xs are = are

bytes_framed : (style : Style) (g : Tree) (body : List ℕ) → AreBytes body → AreBytes (framed style g body)
bytes_framed Full g body are =
    bytes_join (varint_of (length (box_of g ++ body))) (box_of g ++ body) (bytes_number (length (box_of g ++ body)))
    (bytes_join (box_of g) body (bytes_if (boxed g) _ (bytes_each (λ n. varint_of (zigzag_of n))
    (λ n. bytes_number (zigzag_of n)) (tight (flat g)))) are)
bytes_framed Plain g body are = are

small_zigzag : (p : ℤ) → IsPrecision p → zigzag_of p < 16
small_zigzag (pos n) h = omega (arith, ints, h.0, h.1)
small_zigzag (negsuc m) h = omega (arith, ints, h.0, h.1)

small_flags : (f : Flags) → flag_bits f < 17
small_flags MustBeEmpty = omega arith
small_flags MayBeEmpty = omega arith
small_flags HasBody = omega arith
small_flags (HasMembers true) = omega arith
small_flags (HasMembers false) = omega arith

small_bit : (b : Bool) → (if b then 1 else 0) < 2
small_bit true = omega arith
small_bit false = omega arith

small_metadata : (style : Style) (g : Tree) → metadata_byte style g < 256
small_metadata Full g = omega (arith, small_flags (flags_of_tree g), small_bit (boxed g))
small_metadata Plain g = omega (arith, small_flags (flags_of_tree g))

bytes_line : (style : Style) (p : ℤ) (ps : List Point) → IsPrecision p
    → AreBytes (canonical_blob style (one_line p ps))
bytes_line style p ps h = (
  (let few = small_zigzag p h in omega (arith, few)),
  (
    small_metadata style (one_line p ps),
    bytes_framed style (one_line p ps) _
        (bytes_unless (is_empty (flags_of_tree (one_line p ps))) _ (bytes_fields (fields (line ps)))),
  ),
)

each_byte : (xs : List ℕ) → AreBytes xs → IsBytes xs
each_byte [] are i = omega arith
each_byte (x ∷ xs) are zero = are.0
each_byte (x ∷ xs) are (suc i) = each_byte xs are.1 i

-- ==== The digits of a blob.

-- after the prefix
digits_prefixed : (xs : List ℕ) → digits_in (codes "\\x" ++ xs) ≡ xs
digits_prefixed xs = refl

-- a digit is no backslash
no_backslash : (n : ℕ) → n < 16 → nat_eq 92 (slice_index lower_digits n) ≡ false
no_backslash n h = ne_eqb 92 (slice_index lower_digits n) (λ same.
    let none = ap hex_digit_value same ∙ IsDigits-lower_digits n h in cc none)

digits_bare : (b : ℕ) (bs : List ℕ) → b < 256 → digits_in (encode_lower (b ∷ bs)) ≡ encode_lower (b ∷ bs)
unfolding encode_with
digits_bare b bs h = rw (no_backslash (b / 16) (omega arith)) refl

digits_again : (is_bare : Bool) (b : ℕ) (bs : List ℕ) → b < 256
    → digits_in (hex_text is_bare (b ∷ bs)) ≡ encode_lower (b ∷ bs)
digits_again true b bs h = digits_bare b bs h
digits_again false b bs h = digits_prefixed (encode_lower (b ∷ bs))

-- digits are characters
unpacks_digits : (is_bare : Bool) (b : ℕ) (bs made : List ℕ) (l : Allowance)
    → IsUnpackedTo l (hex_text is_bare (b ∷ bs)) made → Unpacks l (hex_text is_bare (b ∷ bs)) made
unfolding encode_with
unpacks_digits true b bs made l h = h
unpacks_digits false b bs made l h = h

-- ==== Fields.

-- the linestring of a polyline within limits is a valid geometry
packed_valid : {p : Packing} {l : Allowance} {field made : List ℕ} → IsAllowance l → (is : IsPackedTo p l field made)
    → IsValid l (one_line p.column.precision is.points)
packed_valid allowed is = record {
  tree = (is.precision, tt);
  in_range = is.decoded.in_range;
  nest_kept = omega arith;
  nodes_kept = (let one = allowed.one_node in omega (arith, one));
  points_kept = is.decoded.few;
}

value_again : (p : Packing) (l : Allowance) (field made : List ℕ) → IsAllowance l → IsPackedTo p l field made
    → Unpacks l made field
value_again p l field made allowed is =
    let g = one_line p.column.precision is.points in
    let are = bytes_line p.style p.column.precision is.points is.precision in
    subst (λ (t : List ℕ). Unpacks l t field) (sym is.digits) (unpacks_digits p.is_bare _ _ field l (record {
      bytes = canonical_blob p.style g;
      digits = ap decode_of (digits_again p.is_bare _ _ are.0)
          ∙ decode_of-encode_lower (canonical_blob p.style g) (each_byte (canonical_blob p.style g) are);
      precision = p.column.precision;
      points = is.points;
      blob = written_blob l p.style g allowed (packed_valid allowed is);
      text = is.decoded.spelled;
    }))

field_again : (b : Bool) (p : Packing) (l : Allowance) (field made : List ℕ) → IsAllowance l
    → PacksBy b p l field made → Unpacks l made (if b then [] else field)
field_again true p l field made allowed is = subst (λ (t : List ℕ). Unpacks l t []) (sym is) refl
field_again false p l field made allowed is = value_again p l field made allowed is

-- ==== Records.

replaced_twice : (place : ℕ) (x y : List ℕ) (row : Record)
    → replaced place x (replaced place y row) ≡ replaced place x row
unfolding replaced
replaced_twice place x y [] = refl
replaced_twice zero x y (f ∷ fs) = refl
replaced_twice (suc n) x y (f ∷ fs) = ap (λ (r : Record). f ∷ r) (replaced_twice n x y fs)

module _ (p : Packing) (l : Allowance) (allowed : IsAllowance l) where
  -- what a field that is not there became
  none_again : (place : ℕ) (row : Record) (made : List ℕ) → length row ≤ place
      → Unpacks l (get_or (replaced place made row) place []) (emptied p (get_or row place []))
  none_again place row made past =
      let none : get_or row place [] ≡ [] = get_or_past row place [] past in
      let still : get_or (replaced place made row) place [] ≡ [] =
      get_or_past (replaced place made row) place [] (omega (arith, past, length-replaced place made row)) in
      subst (λ (t : List ℕ). Unpacks l (get_or (replaced place made row) place []) (emptied p t)) (sym none)
      (subst (λ (t : List ℕ). Unpacks l t []) (sym still) refl)

  row_again : (place width : ℕ) (row new : Record) → RowBecomes (Packed p l) place width row new
      → RowBecomes (Unpacked (unpacking_of p) l) place width new (row_emptied p (At place) row)
  row_again place width row new a = record {
    fields = ap (λ (r : Record). length r) a.is ∙ length-replaced place a.made row ∙ a.fields;
    made = emptied p (get_or row place []);
    becomes = subst (λ (r : Record). Unpacks l (get_or r place []) (emptied p (get_or row place []))) (sym a.is)
        (elim (cases_lt place (length row)) [
          | inl there ↦ subst (λ (t : List ℕ). Unpacks l t (emptied p (get_or row place [])))
              (get-replaced place a.made row there)
              (field_again (stays_empty p (get_or row place [])) p l (get_or row place []) a.made allowed a.becomes)
          | inr past ↦ none_again place row a.made past
        ]);
    is = sym (ap (replaced place (emptied p (get_or row place []))) a.is
        ∙ replaced_twice place (emptied p (get_or row place [])) a.made row);
  }

  rows_again : (place width : ℕ) (rows news : List Record) → Become (Packed p l) place width rows news
      → Become (Unpacked (unpacking_of p) l) place width news (map (row_emptied p (At place)) rows)
  unfolding Become
  rows_again place width [] [] b = tt
  rows_again place width [] (new ∷ news) b = absurd b
  rows_again place width (row ∷ rows) [] b = absurd b
  rows_again place width (row ∷ rows) (new ∷ news) b =
      (row_again place width row new b.0, rows_again place width rows news b.1)

pub unpacked_again : (p : Packing) (l : Allowance) (records packed : List Record) → IsAllowance l
    → Converts (Packed p l) records packed → Converts (Unpacked (unpacking_of p) l) packed (with_empty p records)
unpacked_again p l [] [] allowed c = tt
unpacked_again p l [] (new ∷ news) allowed c = absurd c
unpacked_again p l (header ∷ rows) [] allowed c = absurd c
unpacked_again p l (header ∷ rows) (new ∷ news) allowed (same, (place, found, become)) =
    let again = rows_again p l allowed place (length header) rows news become in (
      sym same,
      (
        place,
        ap (found_in p.column.name.now) same ∙ found,
        subst (λ (h : Record). Become (Unpacked (unpacking_of p) l) place (length h) news
            (map (row_emptied p (found_in p.column.name.now header)) rows)) (sym same)
            (subst (λ f. Become (Unpacked (unpacking_of p) l) place (length header) news (map (row_emptied p f) rows))
            (sym found) again),
      ),
    )
