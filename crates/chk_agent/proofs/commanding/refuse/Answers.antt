use Rattle.std.proofs.Common.{inl, inr, Err, subst, refl}
use Rattle.chk_control.specs.declared.answers.Answer.TheVariants.{Bad}
use Rattle.chk_control.specs.Answers.{answer_text}
use Rattle.chk_agent.specs.declared.answers.Then.TheVariants.{Go}
use Rattle.chk_agent.specs.Commands.{unmade, IsAnswered}
use Rattle.chk_agent.proofs.CommandingPlain.{answered_as}
use Rattle.chk_agent.proofs.commanding.refuse.Goals as goal

pub returns-in-NoMemory : goal.returns-in-NoMemory
returns-in-NoMemory c m s refusal = unmade

pub returns-in_default : goal.returns-in_default
returns-in_default c m s refusal =
    elim refusal [
      | inl e ↦
          rw e
          (answered_as (Err c.args.fault) s _ Go c.answer.result
          (subst (λ n. IsAnswered (answer_text
          (Bad n)) Go c.answer.result) c.number-number.ensures.number c.answer.ensures) refl)
      | inr other ↦ absurd (c.in_default.not-NoMemory other.0)
    ]
