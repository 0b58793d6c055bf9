use Rattle.std.proofs.Common.{◌∙◌}
use Rattle.chk_seqfile.proofs.ReadingLemmas.{read_34_longer}
use Rattle.chk_seqfile.proofs.reading.read_34.Goals as goal

pub returns-in-len1-up : goal.returns-in-len1-up
returns-in-len1-up c =
    c.expect.ensures
    ∙ read_34_longer c.args.bytes.now c.from.result c.in-len1-up.len_at_least c.from.ensures c.if-first-ge136.true c.if-first-lt144.true
