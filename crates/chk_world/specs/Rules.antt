-- The rules of all processes, and the legal histories.
use Rattle.std.specs.Prelude.{◌≡◌, ℕ, Bool, true, false, ◌&&◌, ◌||◌, not, IsTrue, IsFalse, MatchBool, List, [], ◌∷◌, bytes_eq, codes, Contains, if◌then◌else◌}
use Rattle.std.specs.List.{list_all, list_any}
use Rattle.chk_bytes.specs.Words.{text_lt}
use Rattle.chk_bytes.specs.Stems.{is_collector}
use Rattle.chk_control.specs.Classes.{is_plain}
use Rattle.chk_site.specs.declared.acts.Role.{Role}
use Rattle.chk_site.specs.declared.acts.Role.TheVariants.{Agent, Collector, Job, Writer}
use Rattle.chk_site.specs.declared.acts.Who.{Who}
use Rattle.chk_site.specs.declared.acts.ActAnswer.{ActAnswer}
use Rattle.chk_site.specs.declared.acts.ActAnswer.TheVariants.{Stopped, Rotated, Deleted}
use Rattle.chk_site.specs.Suffixes.{is_suffix, is_after}
use Rattle.chk_site.specs.Files.{Files}
use Rattle.chk_site.specs.Logs.{Logs}
use Rattle.chk_site.specs.Acts.{Deed, Starts, GrowsLog, Creates, Appends, Syncs, Renames, Removes, Cuts, Sends, deed, same_role}
use Rattle.chk_site.specs.History.{Step, History, files_after, logs_after, is_by}
use Rattle.chk_site.specs.Honest.{Honest}
use Rattle.chk_world.specs.Names.{Name, BornFile, SinkFile, MarkFile, DoneFile, CheckFile, BookFile, Temporary, read, file, owns, is_source, is_done_sink, stop_names}
use Rattle.chk_world.specs.Checkpoints.{Line, checkpoint_lines}
use Rattle.chk_chunk.specs.Keys.{Chunk}
use Rattle.chk_http_grammar.specs.Messages.{IsPostOf}
use Rattle.chk_world.specs.Committed.{OnFile, IsWhole}
use Rattle.chk_world.specs.Collectors.{CollectorRule, view}
use Rattle.chk_world.specs.Agents.{AgentRule}
use Rattle.chk_world.specs.Jobs.{JobRule}

-- the process was stopped, or a stop named a file of it, and it has not started since
abbrev pub stopped_by : Who → Bool → ActAnswer → Bool → Bool
stopped_by who own (Stopped left) earlier = if own || stop_names who left then true else earlier
stopped_by who own answer earlier = if own then false else earlier

-- the process was stopped and has not started since
abbrev pub must_start : Who → History → Bool
must_start who [] = false
must_start who (step ∷ history) = stopped_by who (is_by who step) step.act.answer (must_start who history)

-- a writer goes on without a start
abbrev pub starts_anew : Role → Bool
starts_anew Writer = false
starts_anew role = true

-- a process that was stopped acts next by its start
abbrev pub StartsAfterStop : Who → History → Deed → Type 0
StartsAfterStop who history Starts = Unit {0}
StartsAfterStop who history call = IsFalse (starts_anew who.role && must_start who history)

-- a name that a process of this role may have
abbrev pub is_named_so : Role → List ℕ → Bool
is_named_so Collector name = is_collector name
is_named_so Agent name = is_source name
is_named_so Job name = bytes_eq name (codes "job")
is_named_so Writer name = true

-- `born`, a mark, a checkpoint, a book: files that come only by a rename
abbrev pub is_small : Name → Bool
is_small (BornFile c) = true
is_small (MarkFile x) = true
is_small (CheckFile source) = true
is_small (BookFile folder) = true
is_small n = false

-- the name is that of a sink under writing
abbrev pub is_sink : Name → Bool
is_sink (SinkFile x) = true
is_sink n = false

-- one of those, or a done sink: no call appends to it, cuts it or renames it away
abbrev pub is_fixed : Name → Bool
is_fixed n = is_small n || is_done_sink n

-- a file may be removed by its owner where it is no fixed one. A mark may be removed by its collector, and a
-- done sink by the job
abbrev pub may_remove : Who → Name → Bool
may_remove who (MarkFile x) = owns who (MarkFile x)
may_remove who (DoneFile x) = same_role who.role Job
may_remove who n = owns who n && not (is_fixed n)

-- a small file comes from its own `.tmp`, all of which is synced
abbrev pub PublishedSynced : Files → Name → Name → Type 0
PublishedSynced before old new = (old ≡ Temporary new) × OnFile (file before old) IsWhole

-- a sink under writing is renamed only to its done sink, and that comes only so
abbrev pub RenameFits : Files → Name → Name → Type 0
RenameFits before (SinkFile x) new = new ≡ DoneFile x
RenameFits before old new =
    MatchBool (is_fixed old || (is_sink new || is_done_sink new)) ⊥
    (MatchBool (is_small new) (PublishedSynced before old new) (Unit {0}))

-- a process makes, changes and removes only its own files, and these as they may come and go
abbrev pub Framed : Who → Files → Deed → Type 0
Framed who before (Creates w) = IsTrue (owns who (read w) && not (is_fixed (read w)))
Framed who before (Appends w piece) = IsTrue (owns who (read w) && not (is_fixed (read w)))
Framed who before (Syncs w) = IsTrue (owns who (read w))
Framed who before (Cuts w n) = IsTrue (owns who (read w) && not (is_fixed (read w)))
Framed who before (Removes w) = IsTrue (may_remove who (read w))
Framed who before (Renames old new) =
    IsTrue (owns who (read old) && owns who (read new)) × RenameFits before (read old) (read new)
Framed who before call = Unit {0}

-- only a writer changes a log
abbrev pub OnlyWritersGrowLogs : Role → Deed → Type 0
OnlyWritersGrowLogs role (GrowsLog path piece) = IsTrue (same_role role Writer)
OnlyWritersGrowLogs role call = Unit {0}

-- no message that a collector, the job or a writer sends begins with a post of chunks; other requests are anyone's
abbrev pub OnlyAgentsPost : Role → Deed → Type 0
OnlyAgentsPost Agent call = Unit {0}
OnlyAgentsPost role (Sends m address bytes) = ¬ ((chunks : List Chunk) × IsPostOf chunks bytes)
OnlyAgentsPost role call = Unit {0}

-- no checkpoint has a line that reads this path's base file alone
abbrev pub IsRotatable : Files → List ℕ → Type 0
IsRotatable files path =
    (source : List ℕ) (l : Line) → Contains (checkpoint_lines files source) l → l.path ≡ path
    → IsFalse (is_plain l.class)

-- each line of the path is at or past this generation
abbrev pub IsPassed : Files → List ℕ → List ℕ → Type 0
IsPassed files path suffix =
    (source : List ℕ) (l : Line) → Contains (checkpoint_lines files source) l → l.path ≡ path
    → IsFalse (is_after l.after suffix)

-- what a writer does with a log: it appends, rotates under a new greatest suffix, or deletes a generation
-- that was passed
abbrev pub WriterRule : Files → Logs → Deed → ActAnswer → Type 0
WriterRule files logs (GrowsLog path piece) (Rotated suffix) =
    IsTrue (is_suffix suffix && list_all (λ g. text_lt g.suffix suffix) (logs path).rotated) × IsRotatable files path
WriterRule files logs (GrowsLog path piece) (Deleted suffix) =
    IsTrue (list_any (λ g. bytes_eq g.suffix suffix) (logs path).rotated) × IsPassed files path suffix
WriterRule files logs call answer = Unit {0}

-- the rule of its role. `stamped` are the types whose records begin with stamps
abbrev pub RoleMay : List (List ℕ) → Role → History → Step → Type 0
RoleMay stamped Collector history step = CollectorRule step.act.who history (view step.act.who history) (deed step.act)
RoleMay stamped Agent history step = AgentRule step.act.who history step (deed step.act)
RoleMay stamped Job history step = JobRule stamped history (deed step.act)
RoleMay stamped Writer history step =
    WriterRule (files_after history) (logs_after history) (deed step.act) step.act.answer

-- the step obeys its rule
pub record Obeys (stamped : List (List ℕ)) (history : History) (step : Step) : Type 0 where
  pub honest : Honest history step
  pub named : IsTrue (is_named_so step.act.who.role step.act.who.name)
  pub starts : StartsAfterStop step.act.who history (deed step.act)
  pub own_files : Framed step.act.who (files_after history) (deed step.act)
  pub logs : OnlyWritersGrowLogs step.act.who.role (deed step.act)
  pub requests : OnlyAgentsPost step.act.who.role (deed step.act)
  pub rule : RoleMay stamped step.act.who.role history step

-- each step obeys its rule
abbrev pub Legal : List (List ℕ) → History → Type 0
Legal stamped [] = Unit {0}
Legal stamped (step ∷ history) = Legal stamped history × Obeys stamped history step
