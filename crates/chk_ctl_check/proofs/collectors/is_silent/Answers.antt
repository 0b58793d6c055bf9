use Rattle.std.proofs.Common.{Bool, refl, subst, sym, ℕ, ◌∙◌}
use Rattle.std.proofs.lemmas.Result.{IfOk-weaker}
use Rattle.chk_site.specs.History.{Every}
use Rattle.chk_site.proofs.Runs.{adds_none}
use Rattle.chk_world.specs.JobSteps.{IsOf}
use Rattle.chk_ctl_check.specs.Collectors.{AddressAsked, SendsNothing, asked_it, inside, sends}
use Rattle.chk_ctl_check.proofs.OwnCalls.{count_of, count_same, some_own}
use Rattle.chk_ctl_check.proofs.collectors.is_silent.Goals as goal

pub returns-then-is_self : goal.returns-then-is_self
returns-then-is_self g c = record {
  told = inside (sym c.is_self.ensures ∙ c.if-is_self.true);
  own = adds_none (g.S.Site.told c.args.site.now) (Every (IsOf SendsNothing)) (λ history. tt);
  count = count_same refl;
}

pub returns : goal.returns
returns g c =
    let t = g.S.Site.told c.args.site.now in
    let u = g.S.Site.told c.send-given.new.self in
    record {
      told = IfOk-weaker c.is_refused.result _ _
          (λ is same.
          subst (λ (b : Bool). AddressAsked c.args.address.now b t u) (sym same)
          (asked_it c.send-given.result (sym c.is_self.ensures ∙ c.if-is_self.false)
          (rw c.requires.job at c.send-given.ensures.told))) c.is_refused.ensures;
      own = some_own SendsNothing _ _ (λ n. c.requires.job) (λ n. sends n c.args.address.now)
          c.send-given.ensures.told;
      count = count_of ℕ _ _ c.send-given.result c.send-given.ensures.cause;
    }
