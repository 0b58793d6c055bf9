-- The adaptors of lines, made one after the other, and their begins.
use Rattle.std.proofs.Common.{◌≡◌, suc, List, [], ◌∷◌, ◌++◌, map, ap, sym, subst, ◌∙◌, refl, arith}
use Rattle.std.proofs.Common.{append_assoc}
use Rattle.std.specs.Prelude.{IsTrue}
use Rattle.chk_checkpoint.specs.declared.CheckLine.{CheckLine}
use Rattle.chk_checkpoint.specs.Lines.{shown}
use Rattle.chk_world.specs.Checkpoints.{is_line}
use Rattle.chk_agent_adaptor.specs.Adaptors.{Adaptor, adaptor_of}
use Rattle.chk_agent.specs.Loading.{AreLines}

-- the first of some lines, and the rest of them
pub record TakesLine (before after : List CheckLine) (l : CheckLine) : Type 0 where
  pub first : IsTrue (is_line (shown l))
  pub rest : AreLines (map shown after)
  pub adaptors : (made : List Adaptor)
      → made ++ map adaptor_of (map shown before) ≡ (made ++ adaptor_of (shown l) ∷ []) ++ map adaptor_of (map shown after)

pub takes_line : (before after : List CheckLine) (l : CheckLine) → before ≡ l ∷ after → AreLines (map shown before)
    → TakesLine before after l
takes_line before after l is good =
    let all : AreLines (shown l ∷ map shown after) = subst (λ ls. AreLines (map shown ls)) is good in
    record {
      first = all (shown l) (0, omega arith, refl);
      rest = λ m one. let below = one.1 in all m (suc one.0, omega (arith, below), one.2);
      adaptors = λ made.
          ap (λ ls. made ++ map adaptor_of (map shown ls)) is
          ∙ sym (append_assoc made (adaptor_of (shown l) ∷ []) (map adaptor_of (map shown after)));
    }
