-- The text of each reason for which an item of a blob is refused (profile).
use Rattle.std.specs.Prelude.{ℕ, List, codes}
use Rattle.twkb_engine.specs.declared.blob_reason.BlobReason.{BlobReason}
use Rattle.twkb_engine.specs.declared.blob_reason.BlobReason.TheVariants as blob

-- what is wrong with an item of a blob
abbrev pub blob_words : BlobReason → List ℕ
blob_words blob.Truncated = codes "truncated"
blob_words blob.BadType = codes "unknown type"
blob_words blob.ExtraDimensions = codes "extra dimensions"
blob_words blob.BadVarint = codes "bad varint"
blob_words blob.TooDeep = codes "nested too deep"
blob_words blob.TooManyNodes = codes "too many nodes"
blob_words blob.TooManyPoints = codes "too many points"
blob_words blob.CoordinateRange = codes "coordinate out of range"
blob_words blob.SizeMismatch = codes "size mismatch"
