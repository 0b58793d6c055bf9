-- After a start the told history holds the state.
use Rattle.std.proofs.Common.{◌≡◌, ℕ, List, Ok, Err, ap, sym, subst, ◌∙◌}
use Rattle.std.specs.Prelude.{IsTrue}
use Rattle.chk_site.specs.declared.acts.Who.{Who}
use Rattle.chk_site.specs.History.{History, files_after, since_start}
use Rattle.chk_failover.specs.Turns.{Turns}
use Rattle.chk_checkpoint.specs.declared.Checkpoint.{Checkpoint}
use Rattle.chk_checkpoint.specs.Lines.{lines_of}
use Rattle.chk_world.specs.Names.{is_source}
use Rattle.chk_world.specs.Checkpoints.{Two, are_lines, are_apart, checkpoint_lines}
use Rattle.chk_world.specs.Agents.{AllOfCluster}
use Rattle.chk_world.specs.Rules.{must_start}
use Rattle.chk_world.specs.Knowing.{agent}
use Rattle.chk_agent.specs.declared.agent.Rules.{Rules}
use Rattle.chk_agent.specs.declared.answers.AgentFault.{AgentFault}
use Rattle.chk_agent.specs.declared.answers.AgentFault.TheVariants.{Damaged, Outside, NoMemory}
use Rattle.chk_agent.specs.States.{State}
use Rattle.chk_agent.specs.Facts.{Matches}
use Rattle.chk_agent.specs.Loading.{Loaded}
use Rattle.chk_agent.specs.Starts.{IsFresh, Started}
use Rattle.chk_agent.proofs.StartingHolds.{holds_started}
use Rattle.chk_agent.proofs.StartingSound.{are_good}

pub start_refused : (stamped : List (List ℕ)) (cluster : List ℕ) (who : Who) (fault : AgentFault) (h : History)
    → Loaded stamped cluster who (Err fault) h → Started stamped who (Err fault) h
start_refused stamped cluster who (Damaged at) h x = x
start_refused stamped cluster who (Outside call) h x = x
start_refused stamped cluster who NoMemory h x = x

pub start_matches : (stamped : List (List ℕ)) (who : Who) → IsTrue (is_source who.name) → (ring : Turns) (rules : Rules) (check : Checkpoint)
    → IsTrue (are_lines Two (lines_of check)) → (s : State) → IsFresh who ring rules s → s.saved ≡ lines_of check
    → (h : History) → Loaded stamped rules.cluster who (Ok check) h → Matches stamped s h
start_matches stamped who known ring rules check lines s fresh saved h x = record {
  legal = x.legal;
  may_act = λ run. ap (λ source. must_start (agent source) h) fresh.source ∙ x.may_act run;
  alive = λ run ready.
      let k = x.alive run in
      let there : checkpoint_lines (files_after h) s.source ≡ s.saved =
      ap (checkpoint_lines (files_after h)) fresh.source ∙ (k.lines_are ∙ sym saved) in
      record {
        one_cluster =
            subst (λ source. AllOfCluster s.cluster (since_start (agent source) h)) (sym fresh.source)
            (subst (λ cluster. AllOfCluster cluster (since_start (agent who.name) h)) (sym fresh.cluster) k.one_cluster);
        lines_are = there;
        holds =
            holds_started stamped h x.legal who ring rules s (subst (λ source. IsTrue (is_source source)) (sym fresh.source) known) fresh
            there (ap are_apart saved ∙ (are_good (lines_of check) lines).apart);
      };
}
