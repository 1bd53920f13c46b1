use Rattle.std.proofs.Common.{◌≡◌, false, rules, true}
use Rattle.csv.specs.Machine.{ends_at_end}
use Rattle.twkb_csv.specs.Machine.{state_of}
use Rattle.twkb_csv.specs.Scan.{stand_of}
use Rattle.twkb_csv.proofs.ScanLemmas.{kept_end_if, nothing_left, used_up, whole_text}
use Rattle.twkb_csv.proofs.column_reader.ColumnReader.end_text.Goals as goal

pub returns-then-not-ends_at_end : goal.returns-then-not-ends_at_end
returns-then-not-ends_at_end g c =
    let self = c.args.self.now in
    let goes_on : ends_at_end (state_of self.scan.state) ≡ false = search rules in
    kept_end_if self.ended false self.scan.column (stand_of self.scan) _ _ _ _ c.requires.goes
    (nothing_left self.sent self.text.items c.requires.given) (used_up self.at self.filled self.held c.requires.used)
    c.requires.end goes_on (nothing_left self.sent self.text.items c.requires.given)

pub returns-in-Ok : goal.returns-in-Ok
returns-in-Ok g c =
    let self = c.args.self.now in
    let ends : ends_at_end (state_of self.scan.state) ≡ true = search rules in
    kept_end_if self.ended true self.scan.column (stand_of self.scan) _ _ _ _ c.requires.goes
    (nothing_left self.sent self.text.items c.requires.given) (used_up self.at self.filled self.held c.requires.used)
    c.requires.end ends (whole_text self.sent self.text.items _ _ c.requires.sent c.requires.given c.in-Ok.ensures.text)
