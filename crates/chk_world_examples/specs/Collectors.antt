-- Steps that a collector's rules refuse, each beside one that differs in the one fact and is allowed.
use Rattle.chk_site.specs.declared.acts.Call.TheVariants.{Rename, Remove, Cut, Answer, Create, Append, Sync, Send, Take}
use Rattle.chk_site.specs.History.{Step, History, files_after, logs_after}
use Rattle.chk_world.specs.Collectors.{AnswersWell, handling_of, view}
use Rattle.chk_world_examples.specs.Texts.{born, mark, done_sink, reply, c1, a1, born_tmp, sink, head, entry, mark_tmp, poll}
use Rattle.chk_world_examples.specs.Moments.{h5, h6, g10, g13, g18, g21, p22, p28, p29, p30, w3, done, g8, g11, g12, g14, g29, h2, g15}
use Rattle.chk_world_examples.specs.Refusing.{TheRule, next_by, by, Apart}
use Rattle.std.specs.Prelude.{ℕ, true, List, [], ◌∷◌, codes}
use Rattle.chk_bytes.specs.Numbers.{be64}
use Rattle.chk_site.specs.declared.acts.CallFault.TheVariants.{Failed}
use Rattle.chk_site.specs.declared.acts.ActAnswer.TheVariants.{Done, Refused}

-- the next number is ready, though this start has published its own
abbrev pub second_born : History
second_born =
    done c1 Sync (born_tmp ∷ []) 0 0 (Done [] 0 0)
    (done c1 Append (born_tmp ∷ be64 2 ∷ []) 0 0 (Done [] 0 0) (done c1 Create (born_tmp ∷ []) 0 0 (Done [] 0 0) g29))

-- the name of a sink that isn't the next one
abbrev pub third_sink : List ℕ
third_sink = codes "sinks/c1.1.3.chukwa"

-- an append to the sink has failed
abbrev pub failed : History
failed = record {
  own = true;
  act = record { who = c1; call = Append; words = sink ∷ entry ∷ []; number = 0; max = 0; answer = Refused Failed };
  files = files_after g11;
  logs = logs_after g11;
} ∷ g11

-- the same sink, before any message was taken
abbrev pub untaken : History
untaken = done c1 Append (sink ∷ head ∷ []) 0 0 (Done [] 0 0) (done c1 Create (sink ∷ []) 0 0 (Done [] 0 0) g8)

-- a poll is taken before anything is committed
abbrev pub polled_early : History
polled_early = done c1 Take (codes "self" ∷ []) 0 0 (Done (poll ∷ []) 2 2) (done a1 Send (codes "self" ∷ poll ∷ []) 2 0 (Done [] 2 0) g14)

-- the sink is synced between a taking and its answer
abbrev pub synced_first : History
synced_first = done c1 Sync (sink ∷ []) 0 0 (Done [] 0 0) g12

-- the first number is ready to be published as a 2
abbrev pub skipped : History
skipped =
    done c1 Sync (born_tmp ∷ []) 0 0 (Done [] 0 0)
    (done c1 Append (born_tmp ∷ be64 2 ∷ []) 0 0 (Done [] 0 0) (done c1 Create (born_tmp ∷ []) 0 0 (Done [] 0 0) h2))

-- a sink's name with the number of another start
abbrev pub other_sink : List ℕ
other_sink = codes "sinks/c1.2.1.chukwa"

-- a second sink was created after the first one's header
abbrev pub second_made : History
second_made = done c1 Create (codes "sinks/c1.1.2.chukwa" ∷ []) 0 0 (Done [] 0 0) g11

-- the next mark is of a part of the sink
abbrev pub marked_short : History
marked_short =
    done c1 Sync (mark_tmp ∷ []) 0 0 (Done [] 0 0)
    (done c1 Append (mark_tmp ∷ be64 96 ∷ []) 0 0 (Done [] 0 0) (done c1 Create (mark_tmp ∷ []) 0 0 (Done [] 0 0) g15))

-- the collector publishes its number, its mark, its done sink
abbrev pub publishes_born : History → Step
publishes_born = by c1 Rename (born_tmp ∷ born ∷ [])

abbrev pub publishes_mark : History → Step
publishes_mark = by c1 Rename (mark_tmp ∷ mark ∷ [])

abbrev pub ends_sink : History → Step
ends_sink = by c1 Rename (sink ∷ done_sink ∷ [])

-- it writes the chunk, cuts its sink, and answers a message well
abbrev pub writes : History → Step
writes = by c1 Append (sink ∷ entry ∷ [])

abbrev pub cuts : ℕ → History → Step
cuts n = next_by c1 Cut (sink ∷ []) n 0 (Done [] 0 0)

abbrev pub answers : ℕ → History → Step
answers taking = next_by c1 Answer (reply ∷ []) taking 0 (Done [] 0 0)

-- steps of a collector
pub record CollectorStepsAreRefused : Type 0 where
  -- each start publishes its number once, and that is one more than the last one
  pub number_once : Apart TheRule second_born publishes_born h5 publishes_born
  pub next_number : Apart TheRule skipped publishes_born h5 publishes_born
  -- names of sinks are fresh, with the number of this start
  pub fresh_name : Apart TheRule g10 (by c1 Create (third_sink ∷ [])) g10 (by c1 Create (codes "sinks/c1.1.2.chukwa" ∷ []))
  pub this_start : Apart TheRule h6 (by c1 Create (other_sink ∷ [])) h6 (by c1 Create (sink ∷ []))
  -- only the sink that was created last is appended to, its header first, and not after an append that failed
  pub last_sink : Apart TheRule second_made writes g11 writes
  pub header_first : Apart TheRule g10 writes g10 (by c1 Append (sink ∷ head ∷ []))
  pub after_failure : Apart TheRule failed writes g11 writes
  -- what is written was posted
  pub was_posted : Apart TheRule untaken writes g11 writes
  -- a mark is of the synced length, and of all of the sink
  pub synced_mark : Apart TheRule w3 publishes_mark g18 publishes_mark
  pub whole_mark : Apart TheRule marked_short publishes_mark g18 publishes_mark
  -- a sink is done at its mark, neither without one nor past it
  pub with_mark : Apart TheRule g12 ends_sink p29 ends_sink
  pub at_mark : Apart TheRule p22 ends_sink p29 ends_sink
  -- it is cut to its mark
  pub cut_to_mark : Apart TheRule p28 (cuts 96) p28 (cuts 144)
  -- it is removed only without a mark, and a mark only without its sink
  pub sink_removed : Apart TheRule p28 (by c1 Remove (sink ∷ [])) g12 (by c1 Remove (sink ∷ []))
  pub mark_removed : Apart TheRule p29 (by c1 Remove (mark ∷ [])) p30 (by c1 Remove (mark ∷ []))
  -- a post is answered well only with its appends, once, and with no sync between
  pub with_appends : Apart TheRule g10 (answers 1) g12 (answers 1)
  pub answered_once : Apart TheRule g13 (answers 1) g12 (answers 1)
  pub no_sync_between : Apart TheRule synced_first (answers 1) g12 (answers 1)
  pub but_for_the_sync : AnswersWell c1 synced_first (handling_of 1 (view c1 synced_first).handled) reply
  -- a poll is answered well only with committed lengths
  pub with_lengths : Apart TheRule polled_early (answers 2) g21 (answers 2)
