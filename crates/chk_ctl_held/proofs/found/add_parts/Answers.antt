use Rattle.std.proofs.Common.{refl, arith}
use Rattle.std.specs.Prelude.{codes}
use Rattle.chk_bytes.proofs.WordLemmas.{plain_word}
use Rattle.chk_ctl_held.proofs.found.add_parts.Goals as goal

pub add_part-requires-clause-how : goal.add_part-requires-clause-how
add_part-requires-clause-how c = plain_word (codes "archived") refl (omega arith) (omega arith)

pub add_part-requires-2-clause-how : goal.add_part-requires-2-clause-how
add_part-requires-2-clause-how c = plain_word (codes "waits") refl (omega arith) (omega arith)
