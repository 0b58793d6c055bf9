use Rattle.std.proofs.Common.{ℕ, List, Option, sym, ap, subst}
use Rattle.std.specs.Prelude.{option_map}
use Rattle.std.specs.Borrow.{Bor}
use Rattle.chk_agent_run.specs.declared.faults.RunFault.{RunFault}
use Rattle.chukwa_run.specs.Causes.{IsRunEnding}
use Rattle.chukwa_run.proofs.AgentEndings.{initial_ending, check_ending}
use Rattle.chukwa_run.proofs.agenting.ending_of.Goals as goal

abbrev shown : Option (Bor (List ℕ)) → Option (List ℕ)
shown o = option_map {T = Bor (List ℕ)} {U = List ℕ} (λ t. t.now) o

pub returns-in-Some : goal.returns-in-Some
returns-in-Some c =
    subst (λ (f : RunFault). IsRunEnding (shown c.args.initial) c.args.source.now f c.damaged.result) (sym c.in-Initial.is)
    (initial_ending (shown c.args.initial) c.args.source.now c.in-Initial.at c.in-Some.file.now c.from_text.result
    (ap shown c.in-Some.is) c.from_text.ensures c.damaged.ensures)

pub returns-in-Checkpoint : goal.returns-in-Checkpoint
returns-in-Checkpoint c =
    subst (λ (f : RunFault). IsRunEnding (shown c.args.initial) c.args.source.now f c.damaged-in-Checkpoint.result) (sym c.in-Checkpoint.is)
    (check_ending (shown c.args.initial) c.args.source.now c.in-Checkpoint.at c.check_name.result c.check_name.ensures
    c.damaged-in-Checkpoint.ensures)
