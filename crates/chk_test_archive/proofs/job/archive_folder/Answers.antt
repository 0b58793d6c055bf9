use Rattle.std.proofs.Common.{refl, arith}
use Rattle.std.specs.Prelude.{codes}
use Rattle.std.proofs.lemmas.Bool.{and_from}
use Rattle.chk_bytes.proofs.WordLemmas.{plain_word}
use Rattle.chk_test_archive.proofs.job.archive_folder.Goals as goal

pub returns-clause-folder : goal.returns-clause-folder
returns-clause-folder c = and_from _ _ (plain_word (codes "archive") refl (omega arith) (omega arith)) refl
