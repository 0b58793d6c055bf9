use Rattle.std.proofs.Common.{refl}
use Rattle.chk_tee.proofs.FilterLemmas.{refused}
use Rattle.chk_tee.proofs.filters.ask.Goals as goal

pub returns-then-is_some-2-clause-err : goal.returns-then-is_some-2-clause-err
returns-then-is_some-2-clause-err c =
    (refused c.args.asked.now c.args.word.now c.word_fault.result c.word_fault.ensures c.if-is_some-2.ensures, refl)
