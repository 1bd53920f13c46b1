use Rattle.std.proofs.Common.{refl, arith, rules}
use Rattle.std.specs.Float.Numeral.{scan_numeral}
use Rattle.twkb_features.proofs.laws.samples.Goals as goal

pub returns-clause-half : goal.returns-clause-half
unfolding scan_numeral
returns-clause-half c = record {
  size = 1;
  nearest = record { at_most_half_over = omega arith; less_than_half_under = omega arith };
  units_are = refl;
  in_range = (search rules, search rules);
}

pub returns-clause-half_below : goal.returns-clause-half_below
unfolding scan_numeral
returns-clause-half_below c = record {
  size = 1;
  nearest = record { at_most_half_over = omega arith; less_than_half_under = omega arith };
  units_are = refl;
  in_range = (search rules, search rules);
}

pub returns-clause-exact : goal.returns-clause-exact
unfolding scan_numeral
returns-clause-exact c = record {
  size = 101;
  nearest = record { at_most_half_over = omega arith; less_than_half_under = omega arith };
  units_are = refl;
  in_range = (search rules, search rules);
}

pub returns-clause-under : goal.returns-clause-under
unfolding scan_numeral
returns-clause-under c = record {
  size = 1591;
  nearest = record { at_most_half_over = omega arith; less_than_half_under = omega arith };
  units_are = refl;
  in_range = (search rules, search rules);
}

pub returns-clause-tens : goal.returns-clause-tens
unfolding scan_numeral
returns-clause-tens c = record {
  size = 1;
  nearest = record { at_most_half_over = omega arith; less_than_half_under = omega arith };
  units_are = refl;
  in_range = (search rules, search rules);
}

pub returns-clause-greatest : goal.returns-clause-greatest
unfolding scan_numeral
returns-clause-greatest c = record {
  size = 4611686018427387903;
  nearest = record { at_most_half_over = omega arith; less_than_half_under = omega arith };
  units_are = refl;
  in_range = (search rules, search rules);
}
