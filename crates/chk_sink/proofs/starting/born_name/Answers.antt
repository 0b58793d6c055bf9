use Rattle.std.proofs.Common.{◌≡◌, ◌∙◌, subst, List, ℕ}
use Rattle.std.specs.Prelude.{IfOk}
use Rattle.chk_world.specs.Names.{BornFile, spell}
use Rattle.chk_sink.proofs.BornNames.{born_word}
use Rattle.chk_sink.proofs.starting.born_name.Goals as goal

pub from_text-requires : goal.from_text-requires
unfolding spell
from_text-requires c =
    record { word = rw (c.as_str.ensures.value, c.in_ok-text.ensures.ok) (born_word c.args.collector.now c.requires) }

pub returns : goal.returns
unfolding spell
returns c =
    let name : c.as_str.result.now ≡ spell (BornFile c.args.collector.now) = c.as_str.ensures.value ∙ c.in_ok-text.ensures.ok in
    subst (λ (t : List ℕ). IfOk c.from_text.result (λ (w : List ℕ). w ≡ t)) name c.from_text.ensures
