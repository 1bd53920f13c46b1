use Rattle.twkb_writer.proofs.MeasuringPass.{awaits_all, blob_is}
use Rattle.twkb_writer.proofs.measured_tree.measure.Goals as goal

pub add_geometry-requires : goal.add_geometry-requires
add_geometry-requires c = awaits_all c.args.geometry.now _ c.requires c.new.ensures c.none.ensures

pub returns : goal.returns
returns c = blob_is c.args.geometry.now _ _ _ c.requires c.new.ensures c.none.ensures
    c.add_geometry.ensures c.at.ensures
