-- The families of metrics of agents, control doors and locks.
use Rattle.std.specs.Prelude.{ℕ, ◌+◌, List, [], ◌∷◌, ◌++◌, codes, flat_map, get_or, string_bytes}
use Rattle.std.specs.Prelude.{Option, Some, None, if◌then◌else◌}
use Rattle.std.specs.Borrow.{Bor}
use Rattle.chk_book.specs.declared.book.Book.{Book}
use Rattle.chk_checkpoint.specs.declared.CheckLine.{CheckLine}
use Rattle.chk_ctl_status_rows.specs.declared.agents.AgentSeen.{AgentSeen}
use Rattle.chk_ctl_status.specs.declared.doors.Door.{Door}
use Rattle.chk_ctl_status.specs.declared.locks.Holder.{Holder}
use Rattle.chk_ctl_status.specs.declared.locks.Holder.TheVariants.{Nobody, Process, Unknown}
use Rattle.chk_ctl_status.specs.declared.locks.Lock.{Lock}
use Rattle.chk_ctl_status.specs.Doors.{has_trouble}
use Rattle.chk_ctl_status.specs.Lags.{lag_in}
use Rattle.chk_ctl_metrics.specs.declared.families.NamedStore.{NamedStore}
use Rattle.chk_ctl_metrics.specs.declared.agents.LogFamily.{LogFamily}
use Rattle.chk_ctl_metrics.specs.declared.agents.LogFamily.TheVariants as logs
use Rattle.chk_ctl_metrics.specs.declared.agents.NamedAgents.{NamedAgents}
use Rattle.chk_ctl_metrics.specs.declared.beside.NamedDoor.{NamedDoor}
use Rattle.chk_ctl_metrics.specs.Families.{head_text, stores_text}
use Rattle.chk_ctl_metrics.specs.Metrics.{log_row, pair_row}

-- the name of a family's metric of the streams of agents
abbrev pub log_name : LogFamily → List ℕ
log_name logs.Size = codes "chukwa_log_bytes"
log_name logs.Committed = codes "chukwa_log_committed_bytes"
log_name logs.Lag = codes "chukwa_lag_bytes"
log_name logs.Age = codes "chukwa_checkpoint_age_seconds"

-- what it is
abbrev pub log_help : LogFamily → List ℕ
log_help logs.Size = codes "Offset up to which the log goes."
log_help logs.Committed = codes "Offset up to which the log is committed."
log_help logs.Lag = codes "Bytes that the log is ahead of what is archived."
log_help logs.Age = codes "Seconds since the checkpoint was written."

-- its value of the line at this place, where that is known
abbrev pub log_value : LogFamily → List (Bor Book) → AgentSeen → ℕ → CheckLine → Option ℕ
log_value logs.Size books a i l = get_or a.ends.items i None
log_value logs.Committed books a i l = Some l.place.offset
log_value logs.Lag books a i l = lag_in books a.source l (get_or a.ends.items i None)
log_value logs.Age books a i l = a.age

-- its row, none where the value isn't known
abbrev pub known_row : LogFamily → List ℕ → List ℕ → CheckLine → Option ℕ → List ℕ
known_row f folder source l (Some value) = log_row (log_name f) folder source l.kind l.path value
known_row f folder source l None = []

abbrev pub line_row : LogFamily → List (Bor Book) → List ℕ → AgentSeen → ℕ → CheckLine → List ℕ
line_row f books folder a i l = known_row f folder a.source l (log_value f books a i l)

-- those of these lines, of which the first has this place
abbrev pub line_rows : LogFamily → List (Bor Book) → List ℕ → AgentSeen → ℕ → List CheckLine
    → List ℕ
line_rows f books folder a i [] = []
line_rows f books folder a i (l ∷ lines) =
    line_row f books folder a i l ++ line_rows f books folder a (i + 1) lines

-- of an agent, and of the agents of a folder
abbrev pub agent_rows : LogFamily → List (Bor Book) → List ℕ → AgentSeen → List ℕ
agent_rows f books folder a = line_rows f books folder a 0 a.check.lines.items

abbrev pub folder_rows : LogFamily → List (Bor Book) → NamedAgents → List ℕ
folder_rows f books n = flat_map (agent_rows f books (string_bytes n.folder)) n.agents.items

-- a family with its rows of all folders
abbrev pub log_text : List NamedAgents → List (Bor Book) → LogFamily → List ℕ
log_text agents books f =
    head_text (log_name f) (log_help f) ++ flat_map (folder_rows f books) agents

abbrev pub size_families : List LogFamily
size_families = logs.Size ∷ logs.Committed ∷ []

abbrev pub lag_families : List LogFamily
lag_families = logs.Lag ∷ logs.Age ∷ []

-- all of them
abbrev pub logs_text : List NamedAgents → List (Bor Book) → List ℕ
logs_text agents books =
    flat_map (log_text agents books) size_families ++ flat_map (log_text agents books) lag_families

-- which control doors answer with a list
abbrev pub up_name : List ℕ
up_name = codes "chukwa_control_up"

abbrev pub up_help : List ℕ
up_help = codes "1 where the control door answers with a list, 0 where it doesn't."

abbrev pub up_of : Door → ℕ
up_of door = if has_trouble door then 0 else 1

unfoldable pub door_row : NamedDoor → List ℕ
door_row d =
    pair_row up_name (codes "name") (string_bytes d.name) (codes "address")
    (string_bytes d.address) (up_of d.door)

abbrev pub doors_text : List NamedDoor → List ℕ
doors_text doors = head_text up_name up_help ++ flat_map door_row doors

-- which locks are held; none where the system doesn't say
abbrev pub lock_name : List ℕ
lock_name = codes "chukwa_lock_held"

abbrev pub lock_help : List ℕ
lock_help = codes "1 where a process holds the lock, 0 where none does."

abbrev pub holder_row : List ℕ → List ℕ → List ℕ → Holder → List ℕ
holder_row label folder name (Process process) =
    pair_row lock_name label folder (codes "lock") name 1
holder_row label folder name Nobody = pair_row lock_name label folder (codes "lock") name 0
holder_row label folder name Unknown = []

abbrev pub lock_row : List ℕ → List ℕ → Lock → List ℕ
lock_row label folder l = holder_row label folder l.name l.holder

-- those of a store, and of a folder of agents
abbrev pub store_locks : NamedStore → List ℕ
store_locks s = flat_map (lock_row (codes "store") (string_bytes s.folder)) s.locks.items

abbrev pub agent_locks : NamedAgents → List ℕ
agent_locks n = flat_map (lock_row (codes "agent") (string_bytes n.folder)) n.locks.items

abbrev pub locks_text : List NamedStore → List NamedAgents → List ℕ
locks_text stores agents =
    head_text lock_name lock_help ++ (flat_map store_locks stores ++ flat_map agent_locks agents)

-- all families, and the mark of the end
abbrev pub metrics_text : List NamedStore → List (Bor (List ℕ)) → List NamedAgents
    → List (Bor Book) → List NamedDoor → List ℕ
metrics_text stores absent agents books doors =
    stores_text stores absent ++ (logs_text agents books
    ++ (doors_text doors ++ (locks_text stores agents ++ codes "# EOF\n")))
