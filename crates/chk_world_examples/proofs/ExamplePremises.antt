-- Steps of it at which premises of laws hold.
use Rattle.std.proofs.Common.{[], ◌∷◌, false, ◌≡◌, Option, Some, None, option_map, refl, arith}
use Rattle.chk_site.specs.declared.acts.Call.TheVariants.{Sync, Clock}
use Rattle.chk_site.specs.declared.acts.ActAnswer.TheVariants.{Stopped}
use Rattle.chk_site.specs.Files.{File, Secured, Nothing}
use Rattle.chk_site.specs.Effect.{with_tail}
use Rattle.chk_site.specs.History.{files_after, Step, History}
use Rattle.chk_world_examples.specs.Texts.{a1, c1, sink}
use Rattle.chk_world_examples.specs.Moments.{g14, g34, h6, g1, g11, g12, g19, g20, some_step}
use Rattle.chk_world_examples.specs.Refusing.{by, next_by}
use Rattle.chk_world_examples.specs.Examples.{one_place, agent_place, job_place, has_begun, has_sent, has_listed, WritesARecord, KeepsItBefore, OthersAct}
use Rattle.chk_world_examples.proofs.ExampleMoves.{glegal14, glegal20}
use Rattle.chk_world_examples.proofs.ExampleJob.{glegal34}
use Rattle.std.specs.Prelude.{slice_index_or}
use Rattle.chk_world_examples.proofs.ExampleStart.{legal6, glegal1, glegal12}
use Rattle.chk_world_examples.proofs.Examples.{kept_19}
use Rattle.chk_world_examples.proofs.Unfolded.{texts}

pub writing : (history : History) × (step : Step) × WritesARecord history step
unfolding texts
writing = (g11, slice_index_or g12 0 some_step, record { legal = glegal12; wrote = omega arith })

pub on_keeping : (history : History) × (step : Step) × KeepsItBefore history step
unfolding texts
on_keeping = (g19, slice_index_or g20 0 some_step, record { legal = glegal20; kept = kept_19 })

-- a stop that leaves no tail of a file leaves the file
none_left : (o : Option File) → o ≡ option_map (with_tail None) o
none_left None = refl
none_left (Some f) = refl

pub others : (history : History) × (step : Step) × OthersAct one_place has_begun history step
unfolding texts
others = (
  h6,
  slice_index_or g1 0 some_step,
  record {
    place = record {
      named = refl;
      first = record { own = refl; known = refl };
      second = record { own = refl; known = refl };
      third = record { own = refl; known = refl };
    };
    running = refl;
    theirs = refl;
    foreign = record { obeys = glegal1.1; other = refl; spares = refl };
    at = record { legal = legal6; may_act = λ running. refl; alive = λ running. refl };
  },
)

-- a collector that isn't of the agent's own process syncs its sink
abbrev synced_by_others : Step
synced_by_others = record (by c1 Sync (sink ∷ []) g14) { own = false }

pub others_at_agent : (history : History) × (step : Step) × OthersAct agent_place has_sent history step
unfolding texts
others_at_agent = (
  g14,
  synced_by_others,
  record {
    place = record {
      named = refl;
      first = record { own = refl; known = refl };
      second = record { own = refl; known = refl };
      third = record { own = refl; known = refl };
    };
    running = refl;
    theirs = refl;
    foreign = record {
      obeys = record {
        honest = record {
          modelled = record { effect = record { did = Secured sink; may = refl; files_left = λ n. refl; logs_left = λ p. refl }; small = tt };
          agrees = refl;
        };
        named = refl;
        starts = refl;
        own_files = refl;
        logs = tt;
        requests = tt;
        rule = tt;
      };
      other = refl;
      spares = refl;
    };
    at = record { legal = glegal14; may_act = λ running. refl; alive = λ running. refl };
  },
)

-- an agent is stopped while the job writes its segment
abbrev stopped_by_others : Step
stopped_by_others = record (next_by a1 Clock [] 0 0 (Stopped []) g34) { own = false }

pub others_at_job : (history : History) × (step : Step) × OthersAct job_place has_listed history step
unfolding texts
others_at_job = (
  g34,
  stopped_by_others,
  record {
    place = record {
      named = refl;
      first = record { own = refl; known = refl };
      second = record { own = refl; known = refl };
      third = record { own = refl; known = refl };
    };
    running = refl;
    theirs = refl;
    foreign = record {
      obeys = record {
        honest = record {
          modelled = record { effect = record { did = Nothing; may = refl; files_left = λ n. (none_left (files_after g34 n), tt); logs_left = λ p. refl }; small = tt };
          agrees = tt;
        };
        named = refl;
        starts = refl;
        own_files = tt;
        logs = tt;
        requests = tt;
        rule = tt;
      };
      other = refl;
      spares = refl;
    };
    at = record { legal = glegal34; may_act = λ running. refl; alive = λ running. refl };
  },
)
