use Rattle.std.proofs.Common.{ℕ, List, map, Bor, subst, sym}
use Rattle.chk_cmd_line.specs.declared.commands.Command.{Command}
use Rattle.chk_cmd_line.specs.Commands.{asked_of, Demux}
use Rattle.chukwa_run.specs.Working.{Works}
use Rattle.chukwa_run.proofs.commanding.run_command.Goals as goal

pub returns-in-Demux : goal.returns-in-Demux
returns-in-Demux g c =
    let old = g.S.Site.told c.args.site.now in
    let new = g.S.Site.told c.run_split.new.site in
    let before = g.S.Site.fault_count c.args.site.now in
    let after = g.S.Site.fault_count c.run_split.new.site in
    let by_slice : Works (Demux (map {A = Bor (List ℕ)} {B = List ℕ} (λ w. w.now) c.as_slice.result.now))
    c.run_split.result old new before after = record {
      told = c.run_split.ensures.told;
      causes = c.run_split.ensures.causes;
      cause = c.run_split.ensures.cause;
      status = c.run_split.ensures.status;
    } in
    record {
      works =
          subst (λ (k : Command). Works (asked_of k) c.run_split.result old new before after) (sym c.in-Demux.is)
          (subst (λ (l : List (Bor (List ℕ))).
          Works (Demux (map {A = Bor (List ℕ)} {B = List ℕ} (λ w. w.now) l)) c.run_split.result old new before after)
          c.as_slice.ensures.value by_slice);
    }
