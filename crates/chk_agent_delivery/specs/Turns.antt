-- What each call makes of the state, by what the site answered.
use Rattle.std.specs.Prelude.{◌≡◌, ℕ, zero, suc, ◌+◌, ◌-◌, ◌<◌, Bool, true, ◌&&◌, not, nat_lt, nat_le, ◌==◌, min, List, [], ◌∷◌, ◌++◌, length, map, filter, take, drop, if◌then◌else◌, Option, Some, None, is_some, option_map, find, slice_index}
use Rattle.std.specs.List.{list_any}
use Rattle.chk_chunk.specs.Keys.{chunk_limit}
use Rattle.chk_bytes.specs.Stems.{Stem, same_stem}
use Rattle.chk_chunk.specs.declared.Chunk.{Chunk}
use Rattle.chk_chunk.specs.Posts.{post_limit, most_chunks}
use Rattle.chk_http_grammar.specs.Messages.{Ack}
use Rattle.chk_queue.specs.Queues.{data_size, IsLongestFront}
use Rattle.chk_failover.specs.Turns.{Turns, after_failure}
use Rattle.chk_acks.specs.Table.{Table, begun, empty_table, answer_row, added, Sees}
use Rattle.chk_acks.specs.declared.row.Row.{Row}
use Rattle.chk_acks.specs.Rows.{expired_adaptors, is_unmarked}
use Rattle.chk_agent_delivery.specs.declared.delivery.Rules.{Rules}
use Rattle.chk_agent_delivery.specs.declared.answers.Below.{Below}
use Rattle.chk_agent_delivery.specs.States.{State, free_rows}

-- ---- the beginning, and chunks that come

-- nothing waits and nothing is out
abbrev pub fresh : Rules → Turns → ℕ → State
fresh rules ring adaptors = record {
  rules = rules;
  queue = record { limit = rules.queue; chunks = [] };
  owners = [];
  table = empty_table rules.rows adaptors;
  ring = ring;
  post = None;
  poll = None;
  polled = None;
}

-- an adaptor's ends are at this offset, and it has no row
abbrev pub begun_at : ℕ → ℕ → State → State
begun_at i at s = record s { table = begun i at s.table }

-- one more chunk of the adaptor, behind the others
abbrev pub with_chunk : ℕ → Chunk → State → State
with_chunk i c s = record s {
  queue = record s.queue { chunks = s.queue.chunks ++ c ∷ [] };
  owners = s.owners ++ i ∷ [];
}

-- fewer bytes are free than a chunk may have
abbrev pub is_held : State → Bool
is_held s = nat_lt (s.queue.limit - data_size s.queue.chunks) chunk_limit

-- ---- a post

-- the chunks that a post sends: the longest front for which there is room in a post and in the table
pub record IsFrontToSend (s : State) (front : List Chunk) : Type 0 where
  pub longest : IsLongestFront s.queue.chunks front (min (free_rows s) most_chunks) post_limit
  pub some : 0 < length front

-- no post is out
abbrev pub without_post : State → State
without_post s = record s { post = None }

-- a post is out
abbrev pub posted : ℕ → ℕ → State → State
posted message count s = record s { post = Some (record { message = message; count = count }) }

-- a post failed, or was refused
abbrev pub post_refused : State → State
post_refused s = record s { post = None; ring = after_failure s.ring }

-- the rows of a good reply
abbrev pub answered_rows : ℕ → List ℕ → List Chunk → List Ack → Table → Table
answered_rows now [] chunks acks t = t
answered_rows now (i ∷ owners) [] acks t = t
answered_rows now (i ∷ owners) (c ∷ chunks) [] t = t
answered_rows now (i ∷ owners) (c ∷ chunks) (k ∷ acks) t =
    answered_rows now owners chunks acks
    (added (answer_row i (c.seq - length c.body) c.seq k.stem k.number now) t)

-- the chunks of a post were answered
abbrev pub post_taken : ℕ → ℕ → List Ack → State → State
post_taken now count acks s = record s {
  queue = record s.queue { chunks = drop count s.queue.chunks };
  owners = drop count s.owners;
  table = answered_rows now s.owners (take count s.queue.chunks) acks s.table;
  ring = record s.ring { failures = 0 };
  post = None;
}

-- ---- a poll

-- the first so many different stems of a list, of which these were taken before
abbrev pub first_stems : ℕ → List Stem → List Stem → List Stem
first_stems zero seen stems = []
first_stems (suc n) seen [] = []
first_stems (suc n) seen (x ∷ stems) =
    if list_any (same_stem x) seen then first_stems (suc n) seen stems
    else x ∷ first_stems n (seen ++ x ∷ []) stems

-- the most sinks of a poll
abbrev pub most_stems : ℕ
most_stems = 64

-- the sinks that a poll asks for: the first different ones of unmarked rows
abbrev pub asked_stems : Table → List Stem
asked_stems t = first_stems most_stems [] (map (λ (r : Row). r.stem) (filter is_unmarked t.rows))

-- no poll is out
abbrev pub without_poll : State → State
without_poll s = record s { poll = None }

-- a poll is out
abbrev pub asked_for : ℕ → List Stem → State → State
asked_for message stems s = record s { poll = Some (record { message = message; stems = stems }) }

-- a poll failed, or was refused
abbrev pub poll_refused : State → State
poll_refused s = record s { poll = None; ring = after_failure s.ring }

-- the lengths are seen in turn
abbrev pub SeesAll : List Ack → Table → Table → Type 0
SeesAll [] old new = new ≡ old
SeesAll (k ∷ lengths) old new = (mid : Table) × Sees k.stem k.number old mid × SeesAll lengths mid new

-- a good reply to a poll was seen
abbrev pub poll_taken : Table → State → State
poll_taken t s = record s { table = t; ring = record s.ring { failures = 0 }; poll = None }

-- the length of a sink among these
abbrev pub length_of : Stem → List Ack → Option ℕ
length_of x lengths = option_map (λ (k : Ack). k.number) (find (λ k. same_stem k.stem x) lengths)

-- the row as one that these lengths leave below its offset, where they name its sink
abbrev pub below_row : List Ack → Row → Option Below
below_row lengths row =
    option_map (λ got. record { stem = row.stem; got = got; want = row.offset }) (length_of row.stem lengths)

-- the first row that they leave so
abbrev pub first_below : List Ack → List Row → Option Below
first_below lengths [] = None
first_below lengths (row ∷ rows) =
    if is_some (length_of row.stem lengths) then below_row lengths row else first_below lengths rows

abbrev pub below_in : List Ack → Table → Option Below
below_in lengths t = first_below lengths (filter is_unmarked t.rows)

-- no poll was sent, or the last one long enough ago
abbrev pub is_since : ℕ → ℕ → Option ℕ → Bool
is_since now age None = true
is_since now age (Some before) = nat_le (before + age) now

abbrev pub is_long_ago : ℕ → State → Bool
is_long_ago now s = is_since now s.rules.poll s.polled

-- the sink and the offset of the first of these rows whose sink is one of these
abbrev pub first_named : List Stem → List Row → Option (Stem × ℕ)
first_named stems [] = None
first_named stems (row ∷ rows) =
    if list_any (same_stem row.stem) stems then Some (row.stem, row.offset) else first_named stems rows

-- a poll is due: a row is unmarked, and it is long enough since the last one
abbrev pub is_due : ℕ → State → Bool
is_due now s = list_any is_unmarked s.table.rows && is_long_ago now s

-- the last poll was sent at this moment
abbrev pub polled_at : ℕ → State → State
polled_at now s = record s { polled = Some now }

-- ---- what is dropped

-- the number is one of these
abbrev pub is_one_of : List ℕ → ℕ → Bool
is_one_of gone i = list_any (λ j. j == i) gone

-- the chunks that are of none of these adaptors
abbrev pub without_chunks : List ℕ → List ℕ → List Chunk → List Chunk
without_chunks gone [] chunks = []
without_chunks gone (i ∷ owners) [] = []
without_chunks gone (i ∷ owners) (c ∷ chunks) =
    if is_one_of gone i then without_chunks gone owners chunks else c ∷ without_chunks gone owners chunks

-- the last ends, of these adaptors at their committed ones
abbrev pub last_back : List ℕ → List ℕ → ℕ → List ℕ → List ℕ
last_back gone committed i [] = []
last_back gone committed i (o ∷ last) =
    (if is_one_of gone i then slice_index committed i else o) ∷ last_back gone committed (suc i) last

-- the table without the rows of these adaptors, whose last ends are their committed ones
abbrev pub table_without : List ℕ → Table → Table
table_without gone t = record t {
  rows = filter (λ (r : Row). not (is_one_of gone r.adaptor)) t.rows;
  last = last_back gone t.committed 0 t.last;
}

-- the chunks and rows of these adaptors are dropped; a post is out no more where chunks were
abbrev pub without_adaptors : List ℕ → State → State
without_adaptors gone s = record s {
  queue = record s.queue { chunks = without_chunks gone s.owners s.queue.chunks };
  owners = filter (λ i. not (is_one_of gone i)) s.owners;
  table = table_without gone s.table;
  post = (if list_any (is_one_of gone) s.owners then None else s.post);
}

-- the numbers from one on, so many, that are among these
abbrev pub numbers_of : List ℕ → ℕ → ℕ → List ℕ
numbers_of gone i zero = []
numbers_of gone i (suc n) =
    if is_one_of gone i then i ∷ numbers_of gone (suc i) n else numbers_of gone (suc i) n

-- the adaptors with an expired row, each once, the least first
abbrev pub expired_in : ℕ → State → List ℕ
expired_in now s = numbers_of (expired_adaptors now s.rules.expire s.table.rows) 0 (length s.table.committed)
