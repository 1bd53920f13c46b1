-- The sample of a stream that is read in pieces.
use Rattle.std.proofs.Common.{[], ◌∷◌, arith, drop, inl, refl, take}
use Rattle.std.specs.Prelude.{Ok, Err}
use Rattle.twkb_grammar.specs.Items.{Blob, Stream}
use Rattle.twkb_grammar.specs.Fault.{StreamFault, Truncated}
use Rattle.twkb_grammar.specs.Samples.{one_point, standard}
use Rattle.twkb_grammar.proofs.OneFault.{blob_by, fault_by, standard_allowed}
use Rattle.twkb_engine.specs.declared.blob_reason.BlobReason.TheVariants as blob
use Rattle.twkb_blob.specs.declared.fault.BlobFault.TheVariants as fault
use Rattle.twkb_arrays.specs.PieceSamples.{first_call, second_call, two_points, whole_call}
use Rattle.twkb_arrays.specs.Pieces.{AddUpTo, IsCall, IsLast, ReadInPieces}
use Rattle.twkb_arrays.specs.Samples.{one_point_blob}
use Rattle.twkb_arrays.proofs.PieceLaws.{as_one}

is_blob : Blob standard one_point_blob one_point
is_blob = blob_by standard one_point_blob one_point standard_allowed refl refl

is_one : Stream standard one_point_blob (one_point ∷ [])
is_one = (one_point_blob, [], refl, is_blob, refl)

is_two : Stream standard two_points (one_point ∷ one_point ∷ [])
is_two = (one_point_blob, one_point_blob, refl, is_blob, is_one)

-- the blob that the first window cuts
is_cut : StreamFault standard (take 8 two_points) (one_point ∷ []) 8 Truncated
is_cut = record {
  front = one_point_blob;
  rest = 0x01 ∷ 0x02 ∷ 0x02 ∷ [];
  within = 3;
  whole = refl;
  blobs = is_one;
  first = fault_by standard (0x01 ∷ 0x02 ∷ 0x02 ∷ []) 3 Truncated standard_allowed refl refl;
  place = refl;
}

is_first : IsCall standard first_call
is_first = inl (record {
  given = one_point ∷ [];
  later = [];
  filled = record { rows_are = refl; points_are = refl; room = (omega arith, omega arith) };
  ends = inl (refl, refl);
  stops = tt;
  answer = Err (fault.At 8 blob.Truncated);
  ended = is_cut;
  counted = record {
    status_is = refl;
    reason_is = refl;
    place_is = refl;
    done_is = refl;
    rows_is = refl;
    points_is = refl;
    needed_rows_is = refl;
    needed_points_is = refl;
    taken_is = (omega arith, is_one);
  };
})

is_second : IsCall standard second_call
is_second = inl (record {
  given = one_point ∷ [];
  later = [];
  filled = record { rows_are = refl; points_are = refl; room = (omega arith, omega arith) };
  ends = inl (refl, refl);
  stops = tt;
  answer = Ok tt;
  ended = is_one;
  counted = record {
    status_is = refl;
    reason_is = refl;
    place_is = refl;
    done_is = refl;
    rows_is = refl;
    points_is = refl;
    needed_rows_is = refl;
    needed_points_is = refl;
    taken_is = (omega arith, is_one);
  };
})

pub is_whole : IsCall standard whole_call
is_whole = inl (record {
  given = one_point ∷ one_point ∷ [];
  later = [];
  filled = record { rows_are = refl; points_are = refl; room = (omega arith, omega arith) };
  ends = inl (refl, refl);
  stops = tt;
  answer = Ok tt;
  ended = is_two;
  counted = record {
    status_is = refl;
    reason_is = refl;
    place_is = refl;
    done_is = refl;
    rows_is = refl;
    points_is = refl;
    needed_rows_is = refl;
    needed_points_is = refl;
    taken_is = (omega arith, is_two);
  };
})

pub in_pieces : ReadInPieces standard two_points (first_call ∷ second_call ∷ [])
in_pieces = (
  is_first,
  (drop 8 two_points, refl),
  (is_second, ([], refl), tt),
)

pub is_last : IsLast one_point_blob second_call
is_last = record { memory = λ e. omega (arith, e); room = λ e. omega (arith, e); final = inl refl }

-- so the law holds of them
pub add_up : AddUpTo whole_call (first_call ∷ []) second_call
add_up = as_one standard two_points (first_call ∷ []) second_call whole_call in_pieces is_last (omega arith) is_whole
    refl (λ e. omega (arith, e))
    (record { rows_fit = omega arith; points_fit = omega arith; ends_fit = inl refl })
