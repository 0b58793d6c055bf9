use Rattle.std.proofs.Common.{◌≡◌, ◌∙◌, List, ℕ, subst, sym, arith}
use Rattle.std.specs.Prelude.{IfOk, IsTrue}
use Rattle.std.proofs.lemmas.Result.{IfOk-weaker}
use Rattle.chk_control.specs.Lines.{is_name}
use Rattle.chk_agent.specs.Adds.{default_name}
use Rattle.chk_agent.proofs.NamingFirst.{word_name, good_name}
use Rattle.chk_agent.proofs.naming.name_of.Goals as goal

pub from_text-requires : goal.from_text-requires
from_text-requires c = record { word = rw (c.as_str.ensures.value, c.in_ok-text.ensures.ok) (word_name c.args.number (omega arith)) }

pub returns-clause-name : goal.returns-clause-name
returns-clause-name c =
    let name : c.as_str.result.now ≡ default_name c.args.number = c.as_str.ensures.value ∙ c.in_ok-text.ensures.ok in
    subst (λ (t : List ℕ). IfOk c.from_text.result (λ (w : List ℕ). w ≡ t)) name c.from_text.ensures

pub returns-clause-good : goal.returns-clause-good
returns-clause-good c =
    let name : c.as_str.result.now ≡ default_name c.args.number = c.as_str.ensures.value ∙ c.in_ok-text.ensures.ok in
    IfOk-weaker c.from_text.result (λ (w : List ℕ). w ≡ c.as_str.result.now) (λ w. IsTrue (is_name w))
    (λ w is. subst (λ w. IsTrue (is_name w)) (sym (is ∙ name)) (good_name c.args.number (omega arith))) c.from_text.ensures
