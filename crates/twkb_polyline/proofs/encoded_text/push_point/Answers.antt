use Rattle.std.proofs.Common.{rules}
use Rattle.twkb_polyline.proofs.encoded_text.push_point.Goals as goal

pub returns-clause-appended : goal.returns-clause-appended
returns-clause-appended c = search rules
