use Rattle.std.proofs.Common.{arith, sym}
use Rattle.chk_chunk.specs.Lent.{lent_chunk}
use Rattle.chk_chunk.proofs.KeyLemmas.{text_sizes}
use Rattle.chk_chunk.proofs.KeySizes.{written_1_size, written_2_size}
use Rattle.chk_chunk.proofs.keys.key_size.Goals as goal

pub overflow_add-texts-2 : goal.overflow_add-texts-2
overflow_add-texts-2 c = let t = text_sizes (lent_chunk c.args.chunk.now).key c.requires in omega arith

pub overflow_add-texts-3 : goal.overflow_add-texts-3
overflow_add-texts-3 c = let t = text_sizes (lent_chunk c.args.chunk.now).key c.requires in omega arith

pub overflow_add-size : goal.overflow_add-size
overflow_add-size c = let t = text_sizes (lent_chunk c.args.chunk.now).key c.requires in omega arith

pub overflow_add-size-else-fits_version_1 : goal.overflow_add-size-else-fits_version_1
overflow_add-size-else-fits_version_1 c =
    let t = text_sizes (lent_chunk c.args.chunk.now).key c.requires in omega arith

pub overflow_add-size-else-fits_version_1-2 : goal.overflow_add-size-else-fits_version_1-2
overflow_add-size-else-fits_version_1-2 c =
    let t = text_sizes (lent_chunk c.args.chunk.now).key c.requires in omega arith

pub overflow_add-size-else-fits_version_1-3 : goal.overflow_add-size-else-fits_version_1-3
overflow_add-size-else-fits_version_1-3 c =
    let t = text_sizes (lent_chunk c.args.chunk.now).key c.requires in omega arith

pub returns-then-fits_version_1-clause-size : goal.returns-then-fits_version_1-clause-size
returns-then-fits_version_1-clause-size c =
    let k = (lent_chunk c.args.chunk.now).key in
    let size = written_1_size k (sym c.if-fits_version_1.ensures) in
    omega arith

pub returns-then-fits_version_1-clause-small : goal.returns-then-fits_version_1-clause-small
returns-then-fits_version_1-clause-small c =
    let t = text_sizes (lent_chunk c.args.chunk.now).key c.requires in omega arith

pub returns-else-fits_version_1-clause-size : goal.returns-else-fits_version_1-clause-size
returns-else-fits_version_1-clause-size c =
    let k = (lent_chunk c.args.chunk.now).key in
    let size = written_2_size k (sym c.if-fits_version_1.ensures) in
    omega arith

pub returns-else-fits_version_1-clause-small : goal.returns-else-fits_version_1-clause-small
returns-else-fits_version_1-clause-small c =
    let t = text_sizes (lent_chunk c.args.chunk.now).key c.requires in omega arith
