use Rattle.std.proofs.Common.{refl}
use Rattle.twkb_grammar.proofs.OneFault.{standard_allowed, fault_by}
use Rattle.twkb_grammar.proofs.samples.cut.Goals as goal

pub returns : goal.returns
returns c = (
  fault_by _ _ _ _ standard_allowed refl refl,
  (
    fault_by _ _ _ _ standard_allowed refl refl,
    (
      fault_by _ _ _ _ standard_allowed refl refl,
      (
        fault_by _ _ _ _ standard_allowed refl refl,
        (
          fault_by _ _ _ _ standard_allowed refl refl,
          (
            fault_by _ _ _ _ standard_allowed refl refl,
            (
              fault_by _ _ _ _ standard_allowed refl refl,
              (
                fault_by _ _ _ _ standard_allowed refl refl,
                (
                  fault_by _ _ _ _ standard_allowed refl refl,
                  (
                    fault_by _ _ _ _ standard_allowed refl refl,
                    (
                      fault_by _ _ _ _ standard_allowed refl refl,
                      (
                        fault_by _ _ _ _ standard_allowed refl refl,
                        (
                          fault_by _ _ _ _ standard_allowed refl refl,
                          (
                            fault_by _ _ _ _ standard_allowed refl refl,
                            (
                              fault_by _ _ _ _ standard_allowed refl refl,
                              (
                                fault_by _ _ _ _ standard_allowed refl refl,
                                (fault_by _ _ _ _ standard_allowed refl refl, tt),
                              ),
                            ),
                          ),
                        ),
                      ),
                    ),
                  ),
                ),
              ),
            ),
          ),
        ),
      ),
    ),
  ),
)
