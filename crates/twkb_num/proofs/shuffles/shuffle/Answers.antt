use Rattle.std.proofs.Common.{◌∙◌, ap, get_or}
use Rattle.twkb_num.specs.declared.shuffles.TheConstants.{SHUFFLES}
use Rattle.twkb_num.proofs.SpelledLemmas.{table_at}
use Rattle.twkb_num.proofs.shuffles.shuffle.Goals as goal

pub returns : goal.returns
returns c = λ first second p q is. ap (λ m. get_or SHUFFLES m 0) is ∙ table_at first p second q
