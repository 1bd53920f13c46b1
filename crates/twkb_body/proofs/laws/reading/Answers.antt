use Rattle.twkb_body.proofs.Outlined.{outlined_start, outlined_item, outlined_refused, outlined_ends, outlined_whole}
use Rattle.twkb_body.proofs.Outlined.{outlined_valid, outlined_largest, row_goes_on, outlined_takes, outlined_fits}
use Rattle.twkb_body.proofs.Outlined.{outlined_bytes, outlined_depth, outlined_part, outlined_cut, outlined_long}
use Rattle.twkb_body.proofs.Outlined.{outlined_missing}
use Rattle.twkb_body.proofs.laws.reading.Goals as goal

pub returns-clause-starts : goal.returns-clause-starts
returns-clause-starts c = outlined_start

pub returns-clause-item : goal.returns-clause-item
returns-clause-item c = outlined_item

pub returns-clause-refused : goal.returns-clause-refused
returns-clause-refused c = outlined_refused

pub returns-clause-ends : goal.returns-clause-ends
returns-clause-ends c = outlined_ends

pub returns-clause-blob : goal.returns-clause-blob
returns-clause-blob c = outlined_whole

pub returns-clause-valid : goal.returns-clause-valid
returns-clause-valid c = outlined_valid

pub returns-clause-row : goal.returns-clause-row
returns-clause-row c = row_goes_on

pub returns-clause-takes : goal.returns-clause-takes
returns-clause-takes c = outlined_takes

pub returns-clause-fits : goal.returns-clause-fits
returns-clause-fits c = outlined_fits

pub returns-clause-offset : goal.returns-clause-offset
returns-clause-offset c = outlined_bytes

pub returns-clause-depth : goal.returns-clause-depth
returns-clause-depth c = outlined_depth

pub returns-clause-part : goal.returns-clause-part
returns-clause-part c = outlined_part

pub returns-clause-cut : goal.returns-clause-cut
returns-clause-cut c = λ limits bytes e o rs rest role. outlined_cut limits bytes e o rs rest role

pub returns-clause-long : goal.returns-clause-long
returns-clause-long c = λ limits bytes e o rs rest role. outlined_long limits bytes e o rs rest role

pub returns-clause-missing : goal.returns-clause-missing
returns-clause-missing c = outlined_missing

pub returns-clause-largest : goal.returns-clause-largest
returns-clause-largest c = outlined_largest
