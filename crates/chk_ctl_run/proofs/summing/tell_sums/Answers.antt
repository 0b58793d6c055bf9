use Rattle.std.proofs.Common.{map, refl, subst}
use Rattle.chk_site.specs.declared.acts.Who.{Who}
use Rattle.chk_book.specs.Views.{end_view}
use Rattle.chk_cmd_output.specs.Printing.{PrintsInTurn}
use Rattle.chk_ctl_streams.proofs.Again.{looks_again}
use Rattle.chk_ctl_streams.proofs.Listed.{prints_own}
use Rattle.chk_ctl_sum.specs.Lines.{sum_lines}
use Rattle.chk_ctl_run.proofs.Shown.{told_cause}
use Rattle.chk_ctl_run.proofs.summing.tell_sums.Goals as goal

pub returns : goal.returns
returns g c =
    let given = c.print_sums-given.result in
    let told = c.print_sums-given.ensures.told in
    let sums = c.args.sums.now in
    rw c.told_as.ensures
    (record {
      told = record {
        given = given;
        printed = subst (λ (w : Who). PrintsInTurn w (sum_lines (map end_view sums.ends)
            sums.digests) given (g.S.Site.told c.args.site.now)
            (g.S.Site.told c.print_sums-given.new.site)) c.requires.job told;
        is = refl;
      };
      own = looks_again (prints_own c.requires.job told);
      cause = told_cause given (g.S.Site.fault_count c.args.site.now)
          (g.S.Site.fault_count c.print_sums-given.new.site) c.print_sums-given.ensures.cause;
    })
