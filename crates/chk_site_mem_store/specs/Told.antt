-- The history that the kept acts tell.
use Rattle.std.specs.Prelude.{ℕ, ◌+◌, ◌-◌, Bool, true, false, List, [], ◌∷◌, length, take, map, Option, Some, None, option_map, if◌then◌else◌}
use Rattle.chk_site.specs.declared.acts.Act.{Act}
use Rattle.chk_site.specs.declared.lists.Left.{Left}
use Rattle.chk_site.specs.declared.acts.CallFault.{CallFault}
use Rattle.chk_site.specs.declared.acts.CallFault.TheVariants.{Failed}
use Rattle.chk_site.specs.declared.acts.ActAnswer.{ActAnswer}
use Rattle.chk_site.specs.declared.acts.ActAnswer.TheVariants.{Done, Refused, Stopped, Rotated, Deleted}
use Rattle.chk_site.specs.Files.{File, Files, Change, Nothing, Created, Grown, Moved, Gone, Shortened, LogGrown, LogTurned, LogDropped, changed}
use Rattle.chk_site.specs.Logs.{logs_changed}
use Rattle.chk_site.specs.Acts.{Deed, GrowsLog, deed, change_of, says_whole, tail_of}
use Rattle.chk_site.specs.Suffixes.{is_suffix}
use Rattle.chk_site.specs.Effect.{with_tail, in_work}
use Rattle.chk_site.specs.History.{Step, History, files_after, logs_after}

-- an act that is kept, and whether it is the site's own, made since that was last started
pub record Kept : Type 0 where
  pub own : Bool
  pub act : Act

-- an act, kept as own or not
abbrev pub kept_as : Bool → Act → Kept
kept_as own act = record { own = own; act = act }

-- what a failed call did: of an append the first 20 bytes of its piece came to stand there, any other did nothing
abbrev pub failed_change : Change → Change
failed_change (Grown name piece) = Grown name (take 20 piece)
failed_change (LogGrown path piece) = LogGrown path (take 20 piece)
failed_change change = Nothing

-- what a refused call did
abbrev pub refused_change : CallFault → Change → Change
refused_change Failed change = failed_change change
refused_change fault change = Nothing

-- what a stopped call did, before what becomes of the tails of files: a create, rename, removal or cut took place where
-- the stop says so, of an append to a log nothing came to stand there, any other did nothing
abbrev pub stopped_change : List Left → Change → Change
stopped_change left (Created name) = if says_whole left name then Created name else Nothing
stopped_change left (Moved old new) = if says_whole left old then Moved old new else Nothing
stopped_change left (Gone name) = if says_whole left name then Gone name else Nothing
stopped_change left (Shortened name n) = if says_whole left name then Shortened name n else Nothing
stopped_change left (LogGrown path piece) = LogGrown path []
stopped_change left change = Nothing

-- a writer's act on the generations of a log
abbrev pub log_change : (List ℕ → Change) → Deed → Change
log_change change (GrowsLog path piece) = change path
log_change change call = Nothing

-- what an act with this answer did
abbrev pub did_by : Deed → ActAnswer → Change
did_by call (Done words number of) = change_of call
did_by call (Refused fault) = refused_change fault (change_of call)
did_by call (Stopped left) = stopped_change left (change_of call)
did_by call (Rotated suffix) = log_change (λ path. LogTurned path suffix) call
did_by call (Deleted suffix) = log_change (λ path. LogDropped path suffix) call

-- what an act did
abbrev pub did_of : Act → Change
did_of act = did_by (deed act) act.answer

-- the files with the tails that a stop leaves
abbrev pub tails_left : ActAnswer → Files → Files
tails_left (Stopped left) middle name = option_map (with_tail (tail_of left name)) (middle name)
tails_left answer middle name = middle name

-- the files after an act
abbrev pub files_by : Act → Files → Files
files_by act files = tails_left act.answer (changed (did_of act) files)

-- the step of a kept act after this history
abbrev pub step_of : History → Kept → Step
step_of history kept =
    record {
      own = kept.own;
      act = kept.act;
      files = files_by kept.act (files_after history);
      logs = logs_changed (did_of kept.act) (logs_after history);
    }

-- a history, gone on with by these acts, the oldest first
abbrev pub told_from : History → List Kept → History
told_from history [] = history
told_from history (kept ∷ later) = told_from (step_of history kept ∷ history) later

-- the history that these acts tell, the oldest first
abbrev pub told_of : List Kept → History
told_of = told_from []

-- the act, no more as an own one
abbrev pub disowned : Kept → Kept
disowned kept = kept_as false kept.act

-- the acts
abbrev pub acts_of : List Kept → List Act
acts_of kept = map (λ k. k.act) kept

-- the file model allows an act with this answer: a generation's suffix is one
abbrev pub is_allowed : Deed → ActAnswer → Bool
is_allowed (GrowsLog path piece) (Rotated suffix) = is_suffix suffix
is_allowed call answer = true

-- the first of a tail, as many bytes as were written past the synced ones
abbrev pub fitting : ℕ → Option File → List ℕ → List ℕ
fitting extra None tail = tail
fitting extra (Some file) tail = take (length file.bytes + extra - file.synced) tail

-- what a stop left of a file, its tail cut to what the file model allows
abbrev pub fitted_left : Deed → Files → Left → Left
fitted_left call middle l = record { name = l.name; tail = fitting (in_work call l.name) (middle l.name) l.tail; whole = l.whole }

-- the act with this answer
abbrev pub with_answer : Act → ActAnswer → Act
with_answer act answer =
    record { who = act.who; call = act.call; words = act.words; number = act.number; max = act.max; answer = answer }

-- the answer, a stop's tails cut to what the file model allows
abbrev pub fitted_answer : Deed → Files → ActAnswer → ActAnswer
fitted_answer call files (Stopped left) =
    Stopped (map (fitted_left call (changed (stopped_change left (change_of call)) files)) left)
fitted_answer call files answer = answer

-- the act, a stop's tails cut to what the file model allows after these files
abbrev pub fitted : Files → Act → Act
fitted files act = with_answer act (fitted_answer (deed act) files act.answer)
