use Rattle.std.proofs.Common.{refl}
use Rattle.twkb_grammar.proofs.OneFault.{standard_allowed, nest_eight_allowed, no_nest_allowed, two_nodes_allowed}
use Rattle.twkb_grammar.proofs.OneFault.{one_point_only_allowed, no_points_allowed, fault_by}
use Rattle.twkb_grammar.specs.Samples.{standard, nest_eight, no_nest, two_nodes, one_point_only}
use Rattle.twkb_grammar.specs.Samples.{no_points, bare_collection, in_collections}
use Rattle.twkb_grammar.proofs.samples.faults.Goals as goal

pub returns-clause-cut_line : goal.returns-clause-cut_line
returns-clause-cut_line c = fault_by standard _ _ _ standard_allowed refl refl

pub returns-clause-wrong_size : goal.returns-clause-wrong_size
returns-clause-wrong_size c = fault_by standard _ _ _ standard_allowed refl refl

pub returns-clause-extra_dimensions : goal.returns-clause-extra_dimensions
returns-clause-extra_dimensions c = fault_by standard _ _ _ standard_allowed refl refl

pub returns-clause-type_eight : goal.returns-clause-type_eight
returns-clause-type_eight c = fault_by standard _ _ _ standard_allowed refl refl

pub returns-clause-ten_bytes_go_on : goal.returns-clause-ten_bytes_go_on
returns-clause-ten_bytes_go_on c = fault_by standard _ _ _ standard_allowed refl refl

pub returns-clause-out_of_range : goal.returns-clause-out_of_range
returns-clause-out_of_range c = fault_by standard _ _ _ standard_allowed refl refl

pub returns-clause-too_deep : goal.returns-clause-too_deep
returns-clause-too_deep c = fault_by no_nest _ _ _ no_nest_allowed refl refl

pub returns-clause-two_members : goal.returns-clause-two_members
returns-clause-two_members c = fault_by two_nodes _ _ _ two_nodes_allowed refl refl

pub returns-clause-two_points : goal.returns-clause-two_points
returns-clause-two_points c = fault_by one_point_only _ _ _ one_point_only_allowed refl refl

pub returns-clause-no_point_allowed : goal.returns-clause-no_point_allowed
returns-clause-no_point_allowed c = fault_by no_points _ _ _ no_points_allowed refl refl

pub returns-clause-second_point : goal.returns-clause-second_point
returns-clause-second_point c = fault_by one_point_only _ _ _ one_point_only_allowed refl refl

pub returns-clause-ten_collections : goal.returns-clause-ten_collections
returns-clause-ten_collections c = fault_by nest_eight _ _ _ nest_eight_allowed refl refl

pub returns-clause-eighteen_collections : goal.returns-clause-eighteen_collections
returns-clause-eighteen_collections c = fault_by standard (in_collections 17 bare_collection) _ _
    standard_allowed refl refl

pub returns-clause-too_many_points : goal.returns-clause-too_many_points
returns-clause-too_many_points c = fault_by standard _ _ _ standard_allowed refl refl

pub returns-clause-most_points : goal.returns-clause-most_points
returns-clause-most_points c = fault_by standard _ _ _ standard_allowed refl refl

pub returns-clause-too_many_rings : goal.returns-clause-too_many_rings
returns-clause-too_many_rings c = fault_by standard _ _ _ standard_allowed refl refl

pub returns-clause-most_rings : goal.returns-clause-most_rings
returns-clause-most_rings c = fault_by standard _ _ _ standard_allowed refl refl

pub returns-clause-greatest_count : goal.returns-clause-greatest_count
returns-clause-greatest_count c = fault_by standard _ _ _ standard_allowed refl refl

pub returns-clause-count_too_large : goal.returns-clause-count_too_large
returns-clause-count_too_large c = fault_by standard _ _ _ standard_allowed refl refl

pub returns-clause-nine_bytes : goal.returns-clause-nine_bytes
returns-clause-nine_bytes c = fault_by standard _ _ _ standard_allowed refl refl

pub returns-clause-size_too_small : goal.returns-clause-size_too_small
returns-clause-size_too_small c = fault_by standard _ _ _ standard_allowed refl refl

pub returns-clause-greatest_size : goal.returns-clause-greatest_size
returns-clause-greatest_size c = fault_by standard _ _ _ standard_allowed refl refl

pub returns-clause-inner_size : goal.returns-clause-inner_size
returns-clause-inner_size c = fault_by standard _ _ _ standard_allowed refl refl

pub returns-clause-range_before_size : goal.returns-clause-range_before_size
returns-clause-range_before_size c = fault_by standard _ _ _ standard_allowed refl refl

pub returns-clause-cut_after_five : goal.returns-clause-cut_after_five
returns-clause-cut_after_five c = fault_by standard _ _ _ standard_allowed refl refl

pub returns-clause-cut_after_seventeen : goal.returns-clause-cut_after_seventeen
returns-clause-cut_after_seventeen c = fault_by standard _ _ _ standard_allowed refl refl

pub returns-clause-cut_after_thirty_four : goal.returns-clause-cut_after_thirty_four
returns-clause-cut_after_thirty_four c = fault_by standard _ _ _ standard_allowed refl refl
