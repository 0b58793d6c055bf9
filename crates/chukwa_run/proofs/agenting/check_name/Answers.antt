use Rattle.std.proofs.Common.{◌≡◌, ◌∙◌, List, ℕ, refl, sym, subst}
use Rattle.std.specs.Prelude.{IsTrue, IfOk}
use Rattle.chk_bytes.specs.Words.{is_word}
use Rattle.chk_world.specs.Names.{spell}
use Rattle.chukwa_run.proofs.AgentNames.{check_word}
use Rattle.chukwa_run.proofs.agenting.check_name.Goals as goal

pub from_text-requires : goal.from_text-requires
unfolding spell
from_text-requires c =
    record { word = subst (λ (n : List ℕ). IsTrue (is_word n)) (sym (c.as_str.ensures.value ∙ rw (c.in_ok-name.ensures.ok) refl)) (check_word c.args.source.now c.requires.source) }

pub returns : goal.returns
unfolding spell
returns c =
    subst (λ (n : List ℕ). IfOk c.from_text.result (λ name. name ≡ n)) (c.as_str.ensures.value ∙ rw (c.in_ok-name.ensures.ok) refl) c.from_text.ensures
