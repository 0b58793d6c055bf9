use Rattle.std.proofs.Common.{ℕ, List, subst, sym}
use Rattle.std.specs.Prelude.{IsTrue}
use Rattle.chk_bytes.specs.Words.{is_word}
use Rattle.chk_cmd_load.proofs.Literals.{path_is_word}
use Rattle.chk_cmd_load.proofs.words.path.Goals as goal

pub from_text-requires : goal.from_text-requires
from_text-requires c = record {
  word = subst (λ (t : List ℕ). IsTrue (is_word t)) (sym c.load_log.ensures) (path_is_word c.args.log c.requires);
}
