use Rattle.std.proofs.Common.{refl}
use Rattle.twkb_grammar.proofs.OneFault.{standard_allowed, nest_eight_allowed, blob_by}
use Rattle.twkb_grammar.proofs.samples.loose.Goals as goal

pub returns-clause-no_size : goal.returns-clause-no_size
returns-clause-no_size c = blob_by _ _ _ standard_allowed refl refl

pub returns-clause-padded_count : goal.returns-clause-padded_count
returns-clause-padded_count c = blob_by _ _ _ standard_allowed refl refl

pub returns-clause-count_of_none : goal.returns-clause-count_of_none
returns-clause-count_of_none c = blob_by _ _ _ standard_allowed refl refl

pub returns-clause-empty_bit : goal.returns-clause-empty_bit
returns-clause-empty_bit c = blob_by _ _ _ standard_allowed refl refl

pub returns-clause-size_and_box : goal.returns-clause-size_and_box
returns-clause-size_and_box c = blob_by _ _ _ standard_allowed refl refl

pub returns-clause-extended_byte : goal.returns-clause-extended_byte
returns-clause-extended_byte c = blob_by _ _ _ standard_allowed refl refl

pub returns-clause-high_bits : goal.returns-clause-high_bits
returns-clause-high_bits c = blob_by _ _ _ standard_allowed refl refl

pub returns-clause-box_of_a_point : goal.returns-clause-box_of_a_point
returns-clause-box_of_a_point c = blob_by _ _ _ standard_allowed refl refl

pub returns-clause-position_is_carried : goal.returns-clause-position_is_carried
returns-clause-position_is_carried c = blob_by _ _ _ standard_allowed refl refl

pub returns-clause-longest_spelling : goal.returns-clause-longest_spelling
returns-clause-longest_spelling c = blob_by _ _ _ standard_allowed refl refl

pub returns-clause-nine_deep : goal.returns-clause-nine_deep
returns-clause-nine_deep c = blob_by _ _ _ nest_eight_allowed refl refl

pub returns-clause-plain_members : goal.returns-clause-plain_members
returns-clause-plain_members c = blob_by _ _ _ standard_allowed refl refl
