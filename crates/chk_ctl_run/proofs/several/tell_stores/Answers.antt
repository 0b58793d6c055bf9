use Rattle.std.proofs.Common.{◌∙◌, ap, map, subst}
use Rattle.chk_site.specs.declared.acts.Who.{Who}
use Rattle.chk_cmd_output.specs.Printing.{PrintsInTurn}
use Rattle.chk_ctl_streams.proofs.Again.{looks_again}
use Rattle.chk_ctl_streams.proofs.Listed.{prints_own}
use Rattle.chk_ctl_held.specs.Elsewhere.{all_lines}
use Rattle.chk_ctl_held.specs.Stores.{seen_of}
use Rattle.chk_ctl_run.specs.Several.{has_waiting, waits_as}
use Rattle.chk_ctl_run.proofs.StoreSteps.{waits_cause}
use Rattle.chk_ctl_run.proofs.several.tell_stores.Goals as goal

pub returns : goal.returns
returns g c =
    let given = c.print_stores-given.result in
    let told = c.print_stores-given.ensures.told in
    let stores = c.args.stores.now in
    let is = c.waits_as.ensures ∙ ap (λ b. waits_as b given) c.one_waits.ensures in
    record {
      told = record {
        given = given;
        printed = subst (λ (w : Who). PrintsInTurn w (all_lines (map seen_of stores)) given
            (g.S.Site.told c.args.site.now) (g.S.Site.told c.print_stores-given.new.site))
            c.requires.job told;
        is = is;
      };
      own = looks_again (prints_own c.requires.job told);
      cause = rw is
          (waits_cause (has_waiting stores) given (g.S.Site.fault_count c.args.site.now)
          (g.S.Site.fault_count c.print_stores-given.new.site)
          c.print_stores-given.ensures.cause);
    }
