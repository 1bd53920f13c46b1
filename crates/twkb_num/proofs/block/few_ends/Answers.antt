use Rattle.std.proofs.Common.{arith}
use Rattle.twkb_num.proofs.BlockLemmas.{ends_of}
use Rattle.twkb_num.proofs.block.few_ends.Goals as goal

pub returns : goal.returns
returns c =
    ends_of c.args.alphabet.base c.args.alphabet.radix c.args.alphabet.most 16 c.before_fault.result
    c.args.bytes.now c.requires.bound c.requires.in_bytes (omega (arith, c.if-bytes-lt16.false))
    c.type_inv.bytes
    (c.before_fault.ensures c.args.alphabet.radix c.args.alphabet.most _ c.sixteen.ensures.marks)
