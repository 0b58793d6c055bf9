use Rattle.std.proofs.Common.{◌∙◌, ap, inl, inr, refl, subst, sym}
use Rattle.chk_site.specs.declared.acts.Who.{Who}
use Rattle.chk_book.specs.declared.lists.End.{End}
use Rattle.chk_ctl_audit.specs.Finding.{agent, FindsAgent}
use Rattle.chk_ctl_audit.proofs.Steps.{first_source}
use Rattle.chk_ctl_audit.proofs.agents.find_agent.Goals as goal

pub returns-in-Ok : goal.returns-in-Ok
returns-in-Ok g c =
    let ends = c.args.ends.now in
    let source = first_source ends c.index-ends-0.result c.requires.some c.index-ends-0.is
    ∙ ap (λ (e : End). e.source) c.index-ends-0.is in
    record {
      told = inl (subst (λ (w : Who). FindsAgent w c.find_by.result ends c.args.rests.now.items
          c.find_by.new.rests.items (g.S.Site.told c.args.site.now)
          (g.S.Site.told c.find_by.new.site)) (c.in-Ok.ensures ∙ ap agent (sym source))
          c.find_by.ensures.told);
      only = c.find_by.ensures.only;
      cause = c.find_by.ensures.cause;
    }

pub returns-in-Err : goal.returns-in-Err
returns-in-Err g c = record {
  told = inr (refl, refl);
  only = tt;
  cause = refl;
}
