-- What words ask for.
use Rattle.std.specs.Prelude.{ℕ, ◌&&◌, List, [], ◌∷◌, length, codes, if◌then◌else◌, Option, Some, None, option_map}
use Rattle.chk_bytes.specs.Words.{is_word}
use Rattle.chk_bytes.specs.Stems.{is_collector}
use Rattle.chk_control.specs.declared.Class.{Class}
use Rattle.chk_control.specs.declared.Class.TheVariants.{Plain}
use Rattle.chk_control.specs.Classes.{class_of_name}
use Rattle.clap.specs.Walk.{Row}
use Rattle.chk_cmd_line.specs.Names.{is_source, are_words, number_in, most}
use Rattle.chk_cmd_line.specs.Options.{parsed, plain_of, by_option, as_word, as_some_word, no_cluster}
use Rattle.chk_cmd_line.specs.Usages.{usage_of, option_names}
use Rattle.chk_cmd_line.specs.Commands.{Asked, Round, Agent, Collector, Drain, Archive, Demux, Salvage, Load, Udp, Subscribe, Join}
use Rattle.chk_cmd_line.specs.Datagrams.{is_writer_name}
use Rattle.chk_cmd_line.specs.Joining.{is_joinable}
use Rattle.chk_cmd_line.specs.declared.usage.Usage.{Usage}
use Rattle.chk_cmd_line.specs.declared.usage.Usage.TheVariants as usage

-- the value of an option, and what follows from it
abbrev pub given : {A B : Type 0} → Option A → (A → Option B) → Option B
given None rest = None
given (Some value) rest = rest value

-- the options that several commands have
abbrev pub turns_in : List Row → Option ℕ
turns_in = by_option most (number_in 1 most) (codes "turns")

abbrev pub reads_in : List Row → Option ℕ
reads_in = by_option 1000000 (number_in 1 most) (codes "reads")

abbrev pub cluster_in : List Row → Option (List ℕ)
cluster_in = by_option no_cluster as_word (codes "cluster")

abbrev pub initial_in : List Row → Option (Option (List ℕ))
initial_in = by_option None as_some_word (codes "initial")

-- `round [--class CLASS] [--reads N] [--cluster NAME] SOURCE TYPE LOG...`
abbrev pub round_with : Class → ℕ → List ℕ → List (List ℕ) → Option Asked
round_with class reads cluster (source ∷ kind ∷ logs) =
    if is_source source && is_word kind && are_words 1 (length logs) logs
    then Some (Round (record {
      class = class;
      reads = reads;
      cluster = cluster;
      source = source;
      kind = kind;
      logs = logs;
    })) else None
round_with class reads cluster plain = None

abbrev pub asked_round : List Row → Option Asked
asked_round rows =
    given (by_option Plain class_of_name (codes "class") rows) (λ class.
    given (reads_in rows) (λ reads.
    given (cluster_in rows) (λ cluster.
    given (plain_of rows) (round_with class reads cluster))))

-- `agent [--initial FILE] [--control ADDRESS] [--turns N] [--poll MS] [--expire MS] [--pause MS] [--cluster NAME] SOURCE
-- COLLECTOR...`
abbrev pub agent_with : Option (List ℕ) → Option (List ℕ) → ℕ → ℕ → ℕ → ℕ → List ℕ → List (List ℕ) → Option Asked
agent_with initial control turns poll expire pause cluster (source ∷ collectors) =
    if is_source source && are_words 1 64 collectors
    then Some (Agent (record {
      initial = initial;
      control = control;
      turns = turns;
      poll = poll;
      expire = expire;
      pause = pause;
      cluster = cluster;
      source = source;
      collectors = collectors;
    })) else None
agent_with initial control turns poll expire pause cluster plain = None

abbrev pub asked_agent : List Row → Option Asked
asked_agent rows =
    given (initial_in rows) (λ initial.
    given (by_option None as_some_word (codes "control") rows) (λ control.
    given (turns_in rows) (λ turns.
    given (by_option 10000 (number_in 0 most) (codes "poll") rows) (λ poll.
    given (by_option 300000 (number_in 0 most) (codes "expire") rows) (λ expire.
    given (by_option 200 (number_in 0 200) (codes "pause") rows) (λ pause.
    given (cluster_in rows) (λ cluster.
    given (plain_of rows) (agent_with initial control turns poll expire pause cluster))))))))

-- `collector [--rotate MS] [--turns N] [--messages N] [--tee FILE] NAME ADDRESS`
abbrev pub collector_with : ℕ → ℕ → ℕ → Option (List ℕ) → List (List ℕ) → Option Asked
collector_with rotate turns messages tee (name ∷ address ∷ []) =
    if is_collector name && is_word address
    then Some (Collector (record {
      rotate = rotate;
      turns = turns;
      messages = messages;
      tee = tee;
      name = name;
      address = address;
    })) else None
collector_with rotate turns messages tee plain = None

abbrev pub asked_collector : List Row → Option Asked
asked_collector rows =
    given (by_option 300000 (number_in 0 most) (codes "rotate") rows) (λ rotate.
    given (turns_in rows) (λ turns.
    given (by_option 1 (number_in 1 64) (codes "messages") rows) (λ messages.
    given (by_option None as_some_word (codes "tee") rows) (λ tee.
    given (plain_of rows) (collector_with rotate turns messages tee)))))

-- `drain [--initial FILE] [--reads N] [--polls N] [--cluster NAME] SOURCE COLLECTOR...`
abbrev pub drain_with : Option (List ℕ) → ℕ → ℕ → List ℕ → List (List ℕ) → Option Asked
drain_with initial reads polls cluster (source ∷ collectors) =
    if is_source source && are_words 1 64 collectors
    then Some (Drain (record {
      initial = initial;
      reads = reads;
      polls = polls;
      cluster = cluster;
      source = source;
      collectors = collectors;
    })) else None
drain_with initial reads polls cluster plain = None

abbrev pub asked_drain : List Row → Option Asked
asked_drain rows =
    given (initial_in rows) (λ initial.
    given (reads_in rows) (λ reads.
    given (by_option 60 (number_in 1 1000000) (codes "polls") rows) (λ polls.
    given (cluster_in rows) (λ cluster.
    given (plain_of rows) (drain_with initial reads polls cluster)))))

-- `archive`
abbrev pub archive_with : Option (List (List ℕ)) → Option Asked
archive_with None = Some Archive
archive_with (Some plain) = None

abbrev pub asked_archive : List Row → Option Asked
asked_archive rows = archive_with (plain_of rows)

-- `demux [TYPE...]`
abbrev pub demux_with : Option (List (List ℕ)) → Option Asked
demux_with None = Some (Demux [])
demux_with (Some kinds) = if are_words 1 (length kinds) kinds then Some (Demux kinds) else None

abbrev pub asked_demux : List Row → Option Asked
asked_demux rows = demux_with (plain_of rows)

-- `salvage FILE`
abbrev pub salvage_with : List (List ℕ) → Option Asked
salvage_with (file ∷ []) = if is_word file then Some (Salvage file) else None
salvage_with plain = None

abbrev pub asked_salvage : List Row → Option Asked
asked_salvage rows = given (plain_of rows) salvage_with

-- `load N`
abbrev pub load_with : List (List ℕ) → Option Asked
load_with (lines ∷ []) = option_map Load (number_in 1 200000 lines)
load_with plain = None

abbrev pub asked_load : List Row → Option Asked
asked_load rows = given (plain_of rows) load_with

-- `udp [--turns N] [--rotate BYTES] [--messages N] NAME ADDRESS`
abbrev pub udp_with : ℕ → ℕ → ℕ → List (List ℕ) → Option Asked
udp_with turns rotate messages (name ∷ address ∷ []) =
    if is_writer_name name && is_word address
    then Some (Udp (record {
      turns = turns;
      rotate = rotate;
      messages = messages;
      name = name;
      address = address;
    })) else None
udp_with turns rotate messages plain = None

abbrev pub asked_udp : List Row → Option Asked
asked_udp rows =
    given (turns_in rows) (λ turns.
    given (by_option 1048576 (number_in 1 most) (codes "rotate") rows) (λ rotate.
    given (by_option 1 (number_in 1 64) (codes "messages") rows) (λ messages.
    given (plain_of rows) (udp_with turns rotate messages))))

-- `subscribe [--turns N] ADDRESS`
abbrev pub subscribe_with : ℕ → List (List ℕ) → Option Asked
subscribe_with turns (address ∷ []) =
    if is_word address then Some (Subscribe (record { turns = turns; address = address })) else None
subscribe_with turns plain = None

abbrev pub asked_subscribe : List Row → Option Asked
asked_subscribe rows =
    given (turns_in rows) (λ turns. given (plain_of rows) (subscribe_with turns))

-- `join LEFT RIGHT`
abbrev pub join_with : List (List ℕ) → Option Asked
join_with (left ∷ right ∷ []) =
    if is_joinable left && is_joinable right
    then Some (Join (record { left = left; right = right })) else None
join_with plain = None

abbrev pub asked_join : List Row → Option Asked
asked_join rows = given (plain_of rows) join_with

-- what the options and the other words of a command ask for
abbrev pub asked_by : Usage → List Row → Option Asked
asked_by usage.Commands rows = None
asked_by usage.Round rows = asked_round rows
asked_by usage.Agent rows = asked_agent rows
asked_by usage.Collector rows = asked_collector rows
asked_by usage.Drain rows = asked_drain rows
asked_by usage.Archive rows = asked_archive rows
asked_by usage.Demux rows = asked_demux rows
asked_by usage.Salvage rows = asked_salvage rows
asked_by usage.Load rows = asked_load rows
asked_by usage.Udp rows = asked_udp rows
asked_by usage.Subscribe rows = asked_subscribe rows
asked_by usage.Join rows = asked_join rows

-- what the words behind the program's name ask for
abbrev pub asked : List (List ℕ) → Option Asked
asked words =
    given (parsed (option_names (usage_of words)) words) (asked_by (usage_of words))
