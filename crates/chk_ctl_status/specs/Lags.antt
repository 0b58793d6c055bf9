-- What is told of the agents of a folder.
use Rattle.std.specs.Prelude.{ℕ, ◌+◌, ◌-◌, nat_lt, ◌||◌, max, List, [], ◌∷◌, ◌++◌}
use Rattle.std.specs.Prelude.{length, ◌==◌, get_or, codes, decimal, if◌then◌else◌, unwrap_or}
use Rattle.std.specs.Prelude.{flat_map, Option, Some, None}
use Rattle.std.specs.Borrow.{Bor}
use Rattle.chk_chunk.specs.Keys.{Stream}
use Rattle.chk_book.specs.declared.book.Book.{Book}
use Rattle.chk_book.specs.Books.{book_view, end_in}
use Rattle.chk_checkpoint.specs.declared.CheckLine.{CheckLine}
use Rattle.chk_ctl_status_rows.specs.declared.agents.AgentSeen.{AgentSeen}
use Rattle.chk_ctl_status_rows.specs.Lines.{quiet_cell, words_of}

-- the greatest end of a stream that one of the books has
abbrev pub greatest : ℕ → Stream → List (Bor Book) → ℕ
greatest most x [] = most
greatest most x (b ∷ books) = greatest (max most (end_in 0 (book_view b.now).ends x)) x books

-- up to where the stream of a line is archived, from its start on; none without a book
abbrev pub archived_of : List (Bor Book) → List ℕ → CheckLine → Option ℕ
archived_of [] source l = None
archived_of (b ∷ books) source l =
    Some (greatest l.start (record { source = source; kind = l.kind; name = l.path }) (b ∷ books))

-- how many bytes the log goes on behind what is archived, or committed where no book says that;
-- none where that isn't known, or where the log ends before either
abbrev pub lag_from : ℕ → ℕ → ℕ → Option ℕ
lag_from end committed from =
    if nat_lt end committed || nat_lt end from then None else Some (end - from)

abbrev pub lag_of : Option ℕ → ℕ → Option ℕ → Option ℕ
lag_of None committed archived = None
lag_of (Some end) committed archived = lag_from end committed (unwrap_or archived committed)

abbrev pub lag_in : List (Bor Book) → List ℕ → CheckLine → Option ℕ → Option ℕ
lag_in books source l end = lag_of end l.place.offset (archived_of books source l)

-- two columns
abbrev pub pair : Option ℕ → Option ℕ → List ℕ
pair first second = quiet_cell first ++ (codes " " ++ quiet_cell second)

-- a stream of an agent whose checkpoint is so old and whose log goes up to here
abbrev pub row_text : List ℕ → List ℕ → List ℕ → List ℕ → List ℕ
row_text front back age words =
    front ++ (codes " " ++ (back ++ (codes " " ++ (age ++ (codes "  " ++ (words ++ codes "\n"))))))

abbrev pub log_row : List (Bor Book) → List ℕ → Option ℕ → CheckLine → Option ℕ → List ℕ
log_row books source age l end =
    row_text (pair end (Some l.place.offset))
    (pair (archived_of books source l) (lag_in books source l end))
    (quiet_cell age) (words_of source l.kind l.path)

-- the row of the line at this place
abbrev pub row_at : List (Bor Book) → AgentSeen → ℕ → CheckLine → List ℕ
row_at books a i l = log_row books a.source a.age l (get_or a.ends.items i None)

-- those of these lines, of which the first has this place
abbrev pub log_rows : List (Bor Book) → AgentSeen → ℕ → List CheckLine → List ℕ
log_rows books a i [] = []
log_rows books a i (l ∷ lines) = row_at books a i l ++ log_rows books a (i + 1) lines

abbrev pub agent_rows : List (Bor Book) → AgentSeen → List ℕ
agent_rows books a = log_rows books a 0 a.check.lines.items

-- the table, below the name of the folder
abbrev pub no_agents : List ℕ → List ℕ
no_agents folder = codes "agent " ++ (folder ++ codes "\n  no agent: it has no checkpoint\n")

abbrev pub with_rows : List ℕ → List ℕ → List ℕ
with_rows folder rows =
    codes "agent " ++ (folder
    ++ (codes "\n            LOG       COMMITTED        ARCHIVED             LAG             AGE  STREAM\n"
    ++ rows))

abbrev pub agents_text : List ℕ → List AgentSeen → List (Bor Book) → List ℕ
agents_text folder agents books =
    if length agents == 0 then no_agents folder
    else with_rows folder (flat_map (agent_rows books) agents)

-- the greatest lag that is known of these lines
abbrev pub lag_at : List (Bor Book) → AgentSeen → ℕ → CheckLine → ℕ
lag_at books a i l = unwrap_or (lag_in books a.source l (get_or a.ends.items i None)) 0

abbrev pub agent_lag : List (Bor Book) → AgentSeen → ℕ → ℕ → List CheckLine → ℕ
agent_lag books a most i [] = most
agent_lag books a most i (l ∷ lines) =
    agent_lag books a (max most (lag_at books a i l)) (i + 1) lines

-- of all agents
abbrev pub most_lag : List (Bor Book) → ℕ → List AgentSeen → ℕ
most_lag books most [] = most
most_lag books most (a ∷ agents) =
    most_lag books (agent_lag books a most 0 a.check.lines.items) agents

-- one line on the folder
abbrev pub no_agents_line : List ℕ → List ℕ
no_agents_line folder = codes "WARNING - " ++ (folder ++ codes ": no agent\n")

abbrev pub lag_line : List ℕ → ℕ → ℕ → List ℕ
lag_line folder count lag =
    codes "OK - " ++ (folder ++ (codes ": agents " ++ (decimal count
    ++ (codes " lag " ++ (decimal lag ++ codes "\n")))))

abbrev pub agents_line : List ℕ → List AgentSeen → List (Bor Book) → List ℕ
agents_line folder agents books =
    if length agents == 0 then no_agents_line folder
    else lag_line folder (length agents) (most_lag books 0 agents)
