-- Steps that the rules of all processes refuse, each beside one that differs in the one fact and is allowed.
use Rattle.chk_site.specs.declared.acts.Call.TheVariants.{Start, Create, Append, Rename, Clock, LogAppend, Send, Remove}
use Rattle.chk_site.specs.declared.acts.ActAnswer.TheVariants.{Done, Stopped}
use Rattle.chk_site.specs.History.{Step, History, files_after, logs_after}
use Rattle.chk_world_examples.specs.Texts.{a1, c1, log, path, hello, request, sink, check, check_tmp, done_sink}
use Rattle.chk_world.specs.Sight.{job}
use Rattle.chk_world_examples.specs.Moments.{g4, g5, g7, g8, g9, g24, p23, g38}
use Rattle.chk_world_examples.specs.Refusing.{OwnFiles, Starting, TheLogs, Requests, next_by, by, Apart}
use Rattle.std.specs.Prelude.{codes, ℕ, true, false, List, [], ◌∷◌}
use Rattle.chk_site.specs.declared.acts.Who.{Who}

-- a job that is stopped while it removes a done sink leaves the sink's collector alone; one that is stopped with a tail of
-- the collector's mark doesn't
abbrev pub stopped_removal : List ℕ → History
stopped_removal name = record {
  own = true;
  act = record {
    who = job;
    call = Remove;
    words = done_sink ∷ [];
    number = 0;
    max = 0;
    answer = Stopped (record { name = name; tail = []; whole = false } ∷ []);
  };
  files = files_after g38;
  logs = logs_after g38;
} ∷ g38

-- a process sends these bytes as its first message
abbrev pub sends : Who → List ℕ → History → Step
sends who bytes = next_by who Send (codes "self" ∷ bytes ∷ []) 1 0 (Done [] 1 0)

-- steps of any process
pub record StepsOfAnyAreRefused : Type 0 where
  -- each process has its own files
  pub own_file : Apart OwnFiles g9 (by a1 Create (sink ∷ [])) g9 (by c1 Create (sink ∷ []))
  -- what is published is synced, and isn't appended to
  pub synced : Apart OwnFiles g4 (by a1 Rename (check_tmp ∷ check ∷ [])) g5 (by a1 Rename (check_tmp ∷ check ∷ []))
  pub unchanged : Apart OwnFiles g24 (by a1 Append (check ∷ hello ∷ [])) g24 (by a1 Append (check_tmp ∷ hello ∷ []))
  -- a done sink is removed by the job alone
  pub by_the_job : Apart OwnFiles g38 (by a1 Remove (done_sink ∷ [])) g38 (by job Remove (done_sink ∷ []))
  -- after a stop a process acts next by its start
  pub start_first : Apart Starting p23 (by c1 Clock []) p23 (by c1 Start [])
  -- only writers change logs, and only agents send posts
  pub by_a_writer : Apart TheLogs g8 (by a1 LogAppend (path ∷ hello ∷ [])) g8 (by log LogAppend (path ∷ hello ∷ []))
  pub by_an_agent : Apart Requests g7 (sends c1 request) g7 (sends a1 request)
