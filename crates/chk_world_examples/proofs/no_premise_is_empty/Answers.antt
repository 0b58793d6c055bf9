use Rattle.chk_world_examples.proofs.LongRound.{longer}
use Rattle.chk_world_examples.proofs.Examples.{round, keeping, recovery}
use Rattle.chk_world_examples.proofs.ExampleRound.{acknowledging, whole_round}
use Rattle.chk_world_examples.proofs.ExamplePremises.{writing, on_keeping, others, others_at_agent, others_at_job}
use Rattle.chk_world_examples.proofs.no_premise_is_empty.Goals as goal

pub returns : goal.returns
returns c = record {
  round = round;
  keeping = keeping;
  recovery = recovery;
  acknowledging = acknowledging;
  whole_round = whole_round;
  writing = writing;
  on_keeping = on_keeping;
  others = others;
  others_at_agent = others_at_agent;
  others_at_job = others_at_job;
  longer = longer;
}
