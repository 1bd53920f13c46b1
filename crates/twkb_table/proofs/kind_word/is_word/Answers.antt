use Rattle.std.proofs.Common.{◌∙◌, ◌-◌, sym, arith, length}
use Rattle.std.proofs.lemmas.List.{take_rest}
use Rattle.twkb_num.proofs.WordLemmas.{ends_decide}
use Rattle.twkb_table.proofs.kind_word.is_word.Goals as goal

pub returns-then-front-four_bytes : goal.returns-then-front-four_bytes
returns-then-front-four_bytes c =
    let field = c.args.field.now in
    let word = c.args.word.now in
    let front = sym c.four_bytes-front.ensures ∙ c.if-front-four_bytes.true ∙ c.four_bytes.ensures in
    let back = rw (take_rest field (length word - 4)) at c.four_bytes-back.ensures in
    let word_back = rw (take_rest word (length word - 4)) at c.four_bytes-then-front-four_bytes.ensures in
    ends_decide 4 field word c.four_bytes-back.result c.four_bytes-then-front-four_bytes.result
    c.type_inv.field c.type_inv.word
    c.requires.same_length (c.requires.long) (omega (arith, c.if-count-lt8.true)) front back word_back

pub returns-then-front-eight_bytes : goal.returns-then-front-eight_bytes
returns-then-front-eight_bytes c =
    let field = c.args.field.now in
    let word = c.args.word.now in
    let front = sym c.eight_bytes-front.ensures ∙ c.if-front-eight_bytes.true ∙ c.eight_bytes.ensures in
    let back = rw (take_rest field (length word - 8)) at c.eight_bytes-back.ensures in
    let word_back = rw (take_rest word (length word - 8)) at c.eight_bytes-then-front-eight_bytes.ensures in
    ends_decide 8 field word c.eight_bytes-back.result c.eight_bytes-then-front-eight_bytes.result
    c.type_inv.field c.type_inv.word
    c.requires.same_length (c.if-count-lt8.false) (c.requires.short) front back word_back
