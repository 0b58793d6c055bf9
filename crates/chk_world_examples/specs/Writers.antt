-- What a writer's rule refuses to do with a log, each beside what differs in the one fact and is allowed.
use Rattle.std.specs.Prelude.{IsTrue, ◌&&◌, ℕ, false, List, [], ◌∷◌, Some, None, bytes_eq, if◌then◌else◌, codes}
use Rattle.std.specs.List.{list_all, list_any}
use Rattle.chk_bytes.specs.Words.{text_lt}
use Rattle.chk_site.specs.Suffixes.{is_suffix}
use Rattle.chk_site.specs.declared.acts.ActAnswer.TheVariants.{Rotated, Deleted, Done}
use Rattle.chk_site.specs.Files.{LogTurned, LogDropped, Change}
use Rattle.chk_world.specs.Rules.{IsRotatable, IsPassed, WriterRule}
use Rattle.chk_world_examples.specs.Refusing.{TheRule, ObeysBut}
use Rattle.chk_control.specs.declared.Class.TheVariants.{Rotating}
use Rattle.chk_site.specs.declared.acts.Call.TheVariants.{Clock, LogAppend}
use Rattle.chk_site.specs.declared.acts.ActAnswer.{ActAnswer}
use Rattle.chk_site.specs.Logs.{Logs, logs_changed}
use Rattle.chk_site.specs.Acts.{GrowsLog}
use Rattle.chk_site.specs.History.{Step, History, files_after, logs_after}
use Rattle.chk_world.specs.Checkpoints.{Line, One, checkpoint_text}
use Rattle.chk_world_examples.specs.Texts.{log, path, hello, check, line}

-- a moment at which one checkpoint has this line alone, and the logs are these
abbrev pub moment : Line → Logs → History
moment l logs = record {
  own = false;
  act = record { who = log; call = Clock; words = []; number = 0; max = 0; answer = Done [] 0 0 };
  files = λ n. if bytes_eq n check then Some (record { bytes = checkpoint_text One (l ∷ []); synced = 0 }) else None;
  logs = logs;
} ∷ []

-- the writer's call on the log, with this answer
abbrev pub turns : ActAnswer → Change → History → Step
turns answer did history = record {
  own = false;
  act = record { who = log; call = LogAppend; words = path ∷ [] ∷ []; number = 0; max = 0; answer = answer };
  files = files_after history;
  logs = logs_changed did (logs_after history);
}

abbrev pub may_turn : ActAnswer → History → Type 0
may_turn answer history = WriterRule (files_after history) (logs_after history) (GrowsLog path []) answer

abbrev pub day_8 : List ℕ
day_8 = codes ".20101108"

abbrev pub day_9 : List ℕ
day_9 = codes ".20101109"

abbrev pub day_10 : List ℕ
day_10 = codes ".20101110"

-- a line that goes over rotations, and one that is behind the generation of the ninth
abbrev pub moving : Line
moving = record line { class = Rotating }

abbrev pub past_9 : Line
past_9 = record moving { after = Some day_9 }

abbrev pub whole_log : Logs
whole_log p = record { rotated = []; base = hello }

abbrev pub one_rotated : Logs
one_rotated p = record { rotated = record { suffix = day_9; bytes = hello; deleted = false } ∷ []; base = [] }

-- rotations and deletions
pub record TurnsAreRefused : Type 0 where
  -- a log isn't rotated while a checkpoint reads its base file alone
  pub base_read : may_turn (Rotated day_8) (moment line whole_log) → ⊥
  pub new_suffix : IsTrue (is_suffix day_8 && list_all (λ g. text_lt g.suffix day_8) (whole_log path).rotated)
  pub base_read_alone : ObeysBut TheRule (moment line whole_log) (turns (Rotated day_8) (LogTurned path day_8) (moment line whole_log))
  pub read_over_rotations : may_turn (Rotated day_8) (moment moving whole_log)
  -- the new suffix is the greatest
  pub older_suffix : may_turn (Rotated day_8) (moment moving one_rotated) → ⊥
  pub no_base_reader : IsTrue (is_suffix day_8) × IsRotatable (files_after (moment moving one_rotated)) path
  pub older_suffix_alone : ObeysBut TheRule (moment moving one_rotated)
      (turns (Rotated day_8) (LogTurned path day_8) (moment moving one_rotated))
  pub newer_suffix : may_turn (Rotated day_10) (moment moving one_rotated)
  -- a generation is deleted only where each line of the path has passed it
  pub deleted_early : may_turn (Deleted day_9) (moment moving one_rotated) → ⊥
  pub is_there : IsTrue (list_any (λ g. bytes_eq g.suffix day_9) (one_rotated path).rotated)
  pub deleted_early_alone : ObeysBut TheRule (moment moving one_rotated)
      (turns (Deleted day_9) (LogDropped path day_9) (moment moving one_rotated))
  pub deleted_passed : may_turn (Deleted day_9) (moment past_9 one_rotated)
  -- only a generation that is there is deleted
  pub deleted_none : may_turn (Deleted day_8) (moment past_9 one_rotated) → ⊥
  pub is_passed : IsPassed (files_after (moment past_9 one_rotated)) path day_8
  pub deleted_none_alone : ObeysBut TheRule (moment past_9 one_rotated)
      (turns (Deleted day_8) (LogDropped path day_8) (moment past_9 one_rotated))
