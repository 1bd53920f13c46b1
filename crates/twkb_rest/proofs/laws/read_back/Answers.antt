use Rattle.twkb_rest.proofs.RoundTrip.{read_all}
use Rattle.twkb_rest.proofs.laws.read_back.Goals as goal

pub returns : goal.returns
returns c = λ delimiter records separates some. read_all delimiter separates records some
