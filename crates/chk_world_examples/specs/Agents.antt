-- Steps that an agent's rules refuse, each beside one that differs in the one fact and is allowed.
use Rattle.chk_site.specs.declared.acts.Call.TheVariants.{LogRead, Send, Create, Append, Sync, Rename, Clock}
use Rattle.chk_site.specs.declared.acts.CallFault.TheVariants.{Short}
use Rattle.chk_site.specs.declared.acts.ActAnswer.{ActAnswer}
use Rattle.chk_site.specs.declared.acts.ActAnswer.TheVariants.{Refused, Done}
use Rattle.chk_site.specs.Logs.{Generation}
use Rattle.chk_site.specs.History.{Step, History}
use Rattle.chk_world_examples.specs.Texts.{path, hello, a1, check, check_tmp, text, line, request}
use Rattle.chk_world_examples.specs.Moments.{g7, g27, done, some_step, g6}
use Rattle.chk_world_examples.specs.Refusing.{TheRule, next_by, by, Apart}
use Rattle.std.specs.Prelude.{ℕ, true, false, List, [], ◌∷◌, drop, bytes_eq, codes, Some, None, if◌then◌else◌}
use Rattle.chk_world.specs.Checkpoints.{Line, One, checkpoint_text, Two}
use Rattle.chk_control.specs.declared.Class.TheVariants.{Rotating}

-- the newest step
abbrev pub newest : History → Step
newest [] = some_step
newest (step ∷ history) = step

-- the agent's next checkpoint has this text, and is synced
abbrev pub next_check : List ℕ → History → History
next_check words history =
    done a1 Sync (check_tmp ∷ []) 0 0 (Done [] 0 0)
    (done a1 Append (check_tmp ∷ words ∷ []) 0 0 (Done [] 0 0) (done a1 Create (check_tmp ∷ []) 0 0 (Done [] 0 0) history))

-- a checkpoint of no stream
abbrev pub no_line : List ℕ
no_line = checkpoint_text One []

-- the agent publishes a checkpoint that keeps its line
abbrev pub keeping : History
keeping = done a1 Rename (check_tmp ∷ check ∷ []) 0 0 (Done [] 0 0) (next_check text g6)

-- a path that no line of the checkpoint has
abbrev pub other_path : List ℕ
other_path = codes "/b.log"

-- a post without its first letter, which is no request
abbrev pub no_request : List ℕ
no_request = drop 1 request

abbrev pub day_7 : List ℕ
day_7 = codes ".20101107"

abbrev pub day_8 : List ℕ
day_8 = codes ".20101108"

abbrev pub day_9 : List ℕ
day_9 = codes ".20101109"

-- a text between those two, of which there is no generation
abbrev pub between : List ℕ
between = codes ".201011081"

-- a line that goes over rotations, and where it stands two bytes into the second generation
abbrev pub moving : Line
moving = record line { class = Rotating }

abbrev pub on_day_9 : Line
on_day_9 = record moving { offset = 12; first = 10; after = Some day_8 }

-- a moment at which the checkpoint has this line and the path these generations
abbrev pub with_line : Line → List Generation → History → History
with_line l gs history = record {
  own = true;
  act = record { who = a1; call = Clock; words = []; number = 0; max = 0; answer = Done [] 0 0 };
  files = λ n. if bytes_eq n check then Some (record { bytes = checkpoint_text Two (l ∷ []); synced = 0 }) else None;
  logs = λ p. record { rotated = gs; base = [] };
} ∷ history

-- the stream began before any rotation. Then a generation of ten bytes came and one of eight
abbrev pub rotated : History
rotated =
    with_line on_day_9
    (record { suffix = day_8; bytes = codes "0123456789"; deleted = false }
    ∷ record { suffix = day_9; bytes = codes "abcdefgh"; deleted = false } ∷ [])
    (with_line moving [] [])

-- the agent publishes its checkpoint, reads a base file, reads past a suffix, and sends a message
abbrev pub publishes : History → Step
publishes = by a1 Rename (check_tmp ∷ check ∷ [])

abbrev pub reads_base : List ℕ → ℕ → ActAnswer → History → Step
reads_base log at answer = next_by a1 LogRead (log ∷ codes "base" ∷ []) at 131072 answer

abbrev pub reads_past : List ℕ → ℕ → ActAnswer → History → Step
reads_past suffix at answer = next_by a1 LogRead (path ∷ suffix ∷ []) at 131072 answer

abbrev pub sends : List ℕ → History → Step
sends bytes = next_by a1 Send (codes "self" ∷ bytes ∷ []) 1 0 (Done [] 1 0)

-- steps of an agent. What its checkpoint's lines and its posts owe stands in records of their own
pub record AgentStepsAreRefused : Type 0 where
  -- a checkpoint loses no stream, and can be read
  pub keeps_streams : Apart TheRule (next_check no_line g6) publishes (next_check text g6) publishes
  pub is_read : Apart TheRule (next_check hello g6) publishes (next_check text g6) publishes
  -- a log is read from the checkpoint on, and only one of the checkpoint
  pub read_on : Apart TheRule g27 (reads_base path 0 (Done (hello ∷ []) 0 0)) g27 (reads_base path 6 (Done ([] ∷ []) 0 0))
  pub own_log : Apart TheRule g27 (reads_base other_path 6 (Refused (Short 0))) g27 (reads_base path 6 (Done ([] ∷ []) 0 0))
  -- of rotated generations it is read neither before the line's place nor past an earlier suffix
  pub at_place : Apart TheRule rotated (reads_past day_8 1 (Done (codes "bcdefgh" ∷ day_9 ∷ []) 0 0))
      rotated (reads_past day_8 2 (Done (codes "cdefgh" ∷ day_9 ∷ []) 0 0))
  pub past_later : Apart TheRule rotated (reads_past day_7 12 (Refused (Short 10)))
      rotated (reads_past day_9 0 (Done ([] ∷ []) 0 0))
  -- each message is a request
  pub is_request : Apart TheRule g7 (sends no_request) g7 (sends request)
