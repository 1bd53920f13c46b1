use Rattle.std.proofs.Common.{rules, subst, ◌≡◌, Ok, refl, true}
use Rattle.twkb_tree.proofs.RowLaws.{one_geometry}
use Rattle.twkb_blob.specs.Readers.{reader_input, reader_limits}
use Rattle.twkb_blob.specs.Located.{HasSpans}
use Rattle.twkb_blob.proofs.Answering.{made_ahead, same_answer, spanned_next, came, some_came, tree_made}
use Rattle.twkb_blob.proofs.reader.Reader.next_located.Goals as goal

pub tree_of-requires : goal.tree_of-requires
tree_of-requires g c = record { some = some_came c.read_with.ensures.shared c.read_with.ensures.into (search rules) }

pub returns-in_err-geometry-clause-memory : goal.returns-in_err-geometry-clause-memory
returns-in_err-geometry-clause-memory g c = λ is.
    let read = c.read_with in
    let found : read.result ≡ Ok true = search rules in
    made_ahead (same_answer found (came read.ensures.shared found read.ensures.into)).is.1

pub returns-clause-next : goal.returns-clause-next
returns-clause-next g c = λ live going.
    let old = c.args.self.now in
    let read = c.read_with in
    let tree = c.in_ok-geometry in
    let found : read.result ≡ Ok true = search rules in
    let (h, has, is) = spanned_next (Ok true) (same_answer found (read.ensures.into live going)) (λ e. refl) in
    let spans : HasSpans (reader_limits old) (reader_input old) (reader_input read.new.self) tree.geometry
    read.new.spans.spans =
    subst (λ t. HasSpans (reader_limits old) (reader_input old) (reader_input read.new.self) t read.new.spans.spans)
    (tree_made one_geometry read.new.flat h tree.geometry has.made.blob.valid.tree is
    tree.ensures.tree.0 tree.ensures.tree.1) has in
    rw tree.ensures.kept (record { next = spans.made; spans = spans })
