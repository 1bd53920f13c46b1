-- From a listing of located blobs to that of their geometries, as a table or as GeoJSON.
use Rattle.twkb_io.specs.declared.TheConstants.{MAX_BYTES}
use Rattle.twkb_convert.proofs.Prelude.{IfSome, ◌≡◌, ◌∙◌, ◌<◌, ℕ, List, ◌++◌}
use Rattle.twkb_convert.proofs.Prelude.{Option, Some, None, length, ap, sym, subst, inl, inr, map-append}
use Rattle.twkb_convert.proofs.Prelude.{length-map, Tap, device_of, Tree, Allowance, Located, AtMostOneCut}
use Rattle.twkb_convert.proofs.Prelude.{LocatedStream, geometries_of, listing_text, HoldsWhole, Report, Layout, Stream}
use Rattle.twkb_convert.proofs.Prelude.{ConvertFault, Cause}
use Rattle.twkb_convert.specs.Listed.{ExplainsListingCause, Listed, StoppedListing}
use Rattle.twkb_convert.specs.declared.report.Cause.TheVariants as causes
use Rattle.twkb_convert.proofs.FlushLemmas.{located-stream}

joined : (bs cs : List Located) → geometries_of (bs ++ cs) ≡ geometries_of bs ++ geometries_of cs
joined bs cs = map-append (λ (b : Located). b.geometry) bs cs

known_stream : (l : Allowance) (known : Option (List ℕ)) (bs : List Located)
    → IfSome known (λ bytes. LocatedStream l 0 bytes bs)
    → IfSome known (λ bytes. Stream l bytes (geometries_of bs))
known_stream l None bs s = tt
known_stream l (Some bytes) bs s = located-stream l 0 bytes bs s

cut_without : (later : List Located) (left : List ℕ) → AtMostOneCut later left → AtMostOneCut (geometries_of later) left
cut_without later left (inl none) = inl (ap geometries_of none)
cut_without later left (inr one) = inr (one.0.geometry, ap geometries_of one.1, one.2)

-- each text of blobs is that of their geometries
module _ (layout : Layout) (text_of : List Tree → List ℕ)
    (same : (bs : List Located) → listing_text layout bs ≡ text_of (geometries_of bs)) where
  holds_without : (text : List ℕ) (whole : List Located)
      → HoldsWhole (listing_text layout) text whole
      → HoldsWhole text_of text (geometries_of whole)
  holds_without text whole (inl none) = inl (ap geometries_of none)
  holds_without text whole (inr more) = inr (more.0, more.1 ∙ ap (λ t. t ++ more.0) (same whole))

  -- the text of the table of all these blobs
  all_text : (whole later : List Located) → listing_text layout (whole ++ later) ≡ text_of
      (geometries_of whole ++ geometries_of later)
  all_text whole later = same (whole ++ later) ∙ ap text_of (joined whole later)

  explains_without : (l : Allowance) (old told : Option (List ℕ)) (bytes : List ℕ) (why : Cause)
      (whole later : List Located) (left : List ℕ)
      → ExplainsListingCause geometries_of (listing_text layout) l old told bytes why whole later left
      → ExplainsListingCause (λ (trees : List Tree). trees) text_of l old told bytes why
      (geometries_of whole) (geometries_of later) left
  explains_without l old told bytes (causes.Blob offset reason) whole later left e = (ap geometries_of e.0, e.1, e.2)
  explains_without l old told bytes causes.ReadDevice whole later left e = (ap geometries_of e.0, e.1, e.2)
  explains_without l old told bytes causes.WriteDevice whole later left e = tt
  explains_without l old told bytes causes.Memory whole later left e = (ap geometries_of e.0, e.1)
  explains_without l old told bytes causes.TooLong whole later left (inl long) = inl long
  explains_without l old told bytes causes.TooLong whole later left (inr long) = inr
      (subst (λ (t : List ℕ). MAX_BYTES < length t) (all_text whole later) long)
  explains_without l old told bytes _ whole later left e = e

  pub trees_listed : {R W : Type 0} {remaining : R → Option (List ℕ)} {contents : W → Option (List ℕ)}
      {reader read : Tap R} {writer written : Tap W} {report : Report} (l : Allowance)
      → Listed (LocatedStream l 0)
      (listing_text layout) remaining contents reader writer report read written
      → Listed (Stream l) text_of remaining contents reader writer report read written
  trees_listed {remaining = remaining} {reader = reader} l listed =
      let text = same listed.found in
      record {
        found = geometries_of listed.found;
        stream = known_stream l (remaining (device_of reader)) listed.found listed.stream;
        appends = rw text at listed.appends;
        geometries = listed.geometries ∙ sym (length-map listed.found (λ (b : Located). b.geometry));
        bytes = listed.bytes ∙ ap length text;
        taken = listed.taken;
        end = listed.end;
        reads = listed.reads;
        writes = listed.writes;
      }

  pub trees_stopped : {R W : Type 0} {remaining : R → Option (List ℕ)}
      {contents : W → Option (List ℕ)} {reader read : Tap R} {writer written : Tap W}
      {fault : ConvertFault} (l : Allowance)
      → StoppedListing (LocatedStream l 0) geometries_of (listing_text layout) l remaining
      contents reader writer fault read written
      → StoppedListing (Stream l) (λ (trees : List Tree). trees) text_of l remaining
      contents reader writer fault read written
  trees_stopped {remaining = remaining} {reader = reader} {read = read} {fault = fault} l stopped
      =
      let p = stopped.part in
      record {
        text = stopped.text;
        part = record {
          whole = geometries_of p.whole;
          later = geometries_of p.later;
          bytes = p.bytes;
          left = p.left;
          blobs = subst (λ gs. Stream l p.bytes gs) (joined p.whole p.later)
              (located-stream l 0 p.bytes (p.whole ++ p.later) p.blobs);
          begins = p.begins;
          cut = sym (all_text p.whole p.later) ∙ p.cut;
          one = cut_without p.later p.left p.one;
          holds = holds_without stopped.text p.whole p.holds;
        };
        appends = stopped.appends;
        done = stopped.done ∙ sym (length-map p.whole (λ (b : Located). b.geometry));
        sent = stopped.sent;
        taken = record {
          front = stopped.taken.front;
          rest = stopped.taken.rest;
          cut = stopped.taken.cut;
          blobs = located-stream l 0 stopped.taken.front p.whole stopped.taken.blobs;
          taken_is = stopped.taken.taken_is;
        };
        explains = explains_without l (remaining (device_of reader)) (remaining (device_of read))
            p.bytes fault.cause p.whole p.later p.left stopped.explains;
        devices = stopped.devices;
      }
