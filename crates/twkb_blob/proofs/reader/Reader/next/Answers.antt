use Rattle.std.proofs.Common.{rules, subst, ◌≡◌, Ok, true, []}
use Rattle.twkb_tree.proofs.RowLaws.{one_geometry}
use Rattle.twkb_blob.specs.Readers.{IsNextFlat, Makes, reader_input, reader_limits}
use Rattle.twkb_blob.proofs.Answering.{made_ahead, came, tree_made}
use Rattle.twkb_blob.proofs.reader.Reader.next.Goals as goal

pub returns-in_err-geometry-clause-memory : goal.returns-in_err-geometry-clause-memory
returns-in_err-geometry-clause-memory g c = λ is.
    let old = c.args.self.now in
    let read = c.next_flat in
    let found : read.result ≡ Ok true = search rules in
    let next = came read.ensures.shared found read.ensures.next in
    made_ahead (subst (λ r. IsNextFlat (reader_limits old) (reader_input old)
    (reader_input read.new.self) r read.new.flat) found next).1

pub returns-clause-next : goal.returns-clause-next
returns-clause-next g c = λ live going.
    let old = c.args.self.now in
    let read = c.next_flat in
    let found : read.result ≡ Ok true = search rules in
    let (h, makes, is) = subst (λ r. IsNextFlat (reader_limits old) (reader_input old)
    (reader_input read.new.self) r read.new.flat) found (read.ensures.next live going) in
    rw c.in_ok-geometry.ensures.kept (subst (λ t. Makes (reader_limits old) [] (reader_input old)
    (reader_input read.new.self) t)
    (tree_made one_geometry read.new.flat h c.in_ok-geometry.geometry makes.blob.valid.tree is
    c.in_ok-geometry.ensures.tree.0 c.in_ok-geometry.ensures.tree.1) makes)
