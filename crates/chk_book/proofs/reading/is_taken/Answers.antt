use Rattle.std.proofs.Common.{◌∙◌}
use Rattle.chk_book.proofs.ReadLists.{taken_so}
use Rattle.chk_book.proofs.reading.is_taken.Goals as goal

pub returns : goal.returns
returns c = c.has_number.ensures ∙ taken_so c.args.number c.args.segments.now
