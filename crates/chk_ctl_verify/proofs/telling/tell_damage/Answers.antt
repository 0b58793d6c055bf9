use Rattle.std.proofs.Common.{List, refl, subst, ℕ, ◌∙◌}
use Rattle.chk_cmd_output.specs.Printing.{unprinted}
use Rattle.chk_ctl_verify.specs.Telling.{IsSaid}
use Rattle.chk_ctl_verify.proofs.Steps.{no_call}
use Rattle.chk_ctl_verify.proofs.telling.tell_damage.Goals as goal

pub returns-in-Ok : goal.returns-in-Ok
returns-in-Ok g c = record {
  told = subst (λ (l : List ℕ). IsSaid l c.say_line.result (g.S.Site.told c.args.site.now)
      (g.S.Site.told c.say_line.new.site)) (c.as_str.ensures.value ∙ c.in-Ok.ensures.line)
      c.say_line.ensures.told;
  own = c.say_line.ensures.own;
  cause = c.say_line.ensures.cause;
}

pub returns-in-Err : goal.returns-in-Err
returns-in-Err g c =
    record { told = unprinted; own = no_call (g.S.Site.told c.args.site.now); cause = refl }
