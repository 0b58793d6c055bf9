use Rattle.std.proofs.Common.{subst}
use Rattle.chk_site.specs.declared.acts.Who.{Who}
use Rattle.chk_book.specs.Books.{book_view}
use Rattle.chk_cmd_output.specs.Printing.{PrintsInTurn}
use Rattle.chk_ctl_streams.proofs.Again.{looks_again}
use Rattle.chk_ctl_streams.proofs.Listed.{prints_own}
use Rattle.chk_ctl_held.specs.Lines.{held_lines}
use Rattle.chk_ctl_run.proofs.Held.{held_cause, held_so}
use Rattle.chk_ctl_run.proofs.holding.tell_held.Goals as goal

pub returns : goal.returns
returns g c =
    let given = c.print_waiting-given.result in
    let told = c.print_waiting-given.ensures.told in
    let w = c.args.waiting.now in
    let is = held_so given c.held_as.result c.len.result w.heads c.len.ensures c.held_as.ensures in
    record {
      told = record {
        given = given;
        printed = subst (λ (w : Who). PrintsInTurn w (held_lines (book_view c.args.waiting.now.book)
            c.args.waiting.now.heads) given (g.S.Site.told c.args.site.now)
            (g.S.Site.told c.print_waiting-given.new.site)) c.requires.job told;
        is = is;
      };
      own = looks_again (prints_own c.requires.job told);
      cause = rw is
          (held_cause w.heads given (g.S.Site.fault_count c.args.site.now)
          (g.S.Site.fault_count c.print_waiting-given.new.site)
          c.print_waiting-given.ensures.cause);
    }
