use Rattle.std.proofs.Common.{refl, arith}
use Rattle.std.specs.Prelude.{codes}
use Rattle.chk_bytes.proofs.WordLemmas.{plain_word}
use Rattle.chk_test_archive.proofs.calls.heads.Goals as goal

pub gather-requires-clause-name : goal.gather-requires-clause-name
gather-requires-clause-name c = plain_word (codes "sinks/c1.1.1.done") refl (omega arith) (omega arith)
