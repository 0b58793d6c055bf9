use Rattle.std.proofs.Common.{ap, ◌∙◌}
use Rattle.chk_seqfile.specs.Entries.{records_of}
use Rattle.chk_seqfile.proofs.FileLemmas.{records_of-cut}
use Rattle.chk_salvage.proofs.whole.front.Goals as goal

pub returns-clause-cut : goal.returns-clause-cut
returns-clause-cut c whole file n past cut =
    c.in_ok-front.ensures.entries ∙ c.in_ok-reader.ensures.records ∙ ap records_of cut ∙ records_of-cut whole file n past
