use Rattle.twkb_engine.proofs.Parts.{header_typed, header_shut}
use Rattle.twkb_engine.proofs.engine.Engine.begin_body.Goals as goal

pub go_to_body-requires : goal.go_to_body-requires
go_to_body-requires g c =
    let d = c.args.self.now in
    record {
      typed = header_typed d.next d.head.kind c.requires.header d.item_fits;
      shut = header_shut d.next d.head.kind d.points_left d.rings_left d.members_left c.requires.header d.lists_fit;
    }
