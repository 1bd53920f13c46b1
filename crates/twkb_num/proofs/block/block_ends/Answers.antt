use Rattle.std.proofs.Common.{arith}
use Rattle.twkb_num.proofs.BlockLemmas.{ends_of}
use Rattle.twkb_num.proofs.FoundLemmas.{ends_reach}
use Rattle.twkb_num.proofs.block.block_ends.Goals as goal

pub returns-clause-ends : goal.returns-clause-ends
returns-clause-ends c =
    ends_of c.args.alphabet.base c.args.alphabet.radix c.args.alphabet.most 64 c.before_fault.result
    c.args.bytes.now (omega (arith, c.requires.bound)) c.requires.in_bytes
    (omega (arith, c.if-bytes-lt-BLOCK.false)) c.type_inv.bytes
    (c.before_fault.ensures c.args.alphabet.radix c.args.alphabet.most _ c.sixty_four.ensures)

pub returns-clause-all : goal.returns-clause-all
returns-clause-all c = λ long.
    ends_reach c.args.alphabet.base c.args.alphabet.radix c.args.alphabet.most 64
    c.before_fault.result c.args.bytes.now c.requires.bound c.requires.in_bytes
    (omega arith) long
    (c.before_fault.ensures c.args.alphabet.radix c.args.alphabet.most _ c.sixty_four.ensures)
