-- Names that the lemmas of this crate share, from it and from the crates below.
pub use Rattle.std.proofs.Common.{◌≡◌, ◌∙◌, ℕ, List, [], ◌∷◌, ◌++◌, Some, None, ap, refl, sym, subst, inl, inr}
pub use Rattle.std.proofs.Common.{append_assoc, ◌+◌, ◌<◌, ◌^◌, Option, Bool, true, false, length, arith, ◌≤◌, ◌-◌}
pub use Rattle.std.proofs.Common.{Err, length-append, Result, Ok}
pub use Rattle.std.specs.Prelude.{◌⊎◌, ◌≢◌, map, IfSome, IfOk, IfErr}
pub use Rattle.std.proofs.lemmas.List.{append-nil, map-append, length-map, append_cancel_left}
pub use Rattle.std.proofs.lemmas.Grind.{flat_map-append}
pub use Rattle.std.specs.Io.KnownBytes.{Appends, IsAtEnd, Consumes}
pub use Rattle.std.specs.declared.io.traits.Read.{Ghosts}
pub use Rattle.twkb_io.specs.Inputs.{BeginsWith}
pub use Rattle.twkb_io.specs.Taps.{count_failure, device_of, failures_of, bytes_given}
pub use Rattle.twkb_io.specs.Outputs.{output_tap, sent_of, Refused, Took, is_spent, Cut, Sent, output_failures}
pub use Rattle.twkb_io.specs.Outputs.{refused_join, took_join, took_nothing, sent_join}
pub use Rattle.twkb_io.specs.declared.tap.Tap.{Tap}
pub use Rattle.twkb_io.specs.declared.output.Output.{Output}
pub use Rattle.twkb_io.specs.declared.output.OutFault.{OutFault}
pub use Rattle.twkb_tree.specs.Tree.{Tree, simple, collection}
pub use Rattle.twkb_tree.specs.Limits.{Allowance, IsAllowance}
pub use Rattle.twkb_tree.specs.Rows.{Row, rows, rows_of}
pub use Rattle.twkb_grammar.specs.Items.{Stream, Blob}
pub use Rattle.twkb_grammar.specs.Fault.{FirstFault, Reason, StreamFault}
pub use Rattle.twkb_grammar.specs.Written.{canonical_blob, canonical_stream}
pub use Rattle.twkb_grammar.specs.declared.style.Style.{Style}
pub use Rattle.twkb_flat.specs.declared.work.Work.{Work}
pub use Rattle.twkb_engine.specs.Stops.{reason_of}
pub use Rattle.twkb_engine.specs.declared.blob_reason.BlobReason.{BlobReason}
pub use Rattle.twkb_blob.specs.declared.reader.Reader.{Reader}
pub use Rattle.twkb_blob.specs.declared.fault.BlobFault.{BlobFault}
pub use Rattle.twkb_blob.specs.declared.spans.Located.{Located}
pub use Rattle.twkb_table.specs.Record.{Record, header, record_of, table}
pub use Rattle.twkb_table.specs.RowFault.{Named, NamesNone, AreComplete, HasNoHeader, all_but_last, RowFault}
pub use Rattle.twkb_table.specs.CsvRecords.{AreRecordsOf, BeginWith, standing}
pub use Rattle.twkb_table.specs.declared.reason.RowReason.{RowReason}
pub use Rattle.twkb_convert.specs.Parts.{FrontOfBlobs, HoldsWhole, MayBeWritten, IsRefusedText, AreMovedLines}
pub use Rattle.twkb_convert.specs.Parts.{PackApart, RowsName, TakesBlobs, all_moved, records_of}
pub use Rattle.twkb_convert.specs.Outputs.{PackTextTo, PackTo, UnpackTo, rows_text, table_text, AtMostOneCut, IsTable}
pub use Rattle.twkb_convert.specs.Listings.{LocatedStream, geometries_of, TellsSpans, BeginLocated, ShowTo}
pub use Rattle.twkb_convert.specs.Listings.{lines_text, Layout, listing_text, blobs_text, span_lines}
pub use Rattle.twkb_convert.specs.Causes.{IsDeviceCause, Changes}
pub use Rattle.twkb_convert.specs.declared.report.Cause.{Cause}
pub use Rattle.twkb_grammar.specs.Bits.{AreBytes}
pub use Rattle.twkb_grammar.specs.declared.span.Span.{Span}
pub use Rattle.twkb_table.specs.Text.{csvtext}
pub use Rattle.twkb_convert.specs.declared.report.Report.{Report}
pub use Rattle.twkb_convert.specs.declared.report.ConvertFault.{ConvertFault}
pub use Rattle.twkb_grammar.specs.Noting.{moved_span, spans_of_blob}
