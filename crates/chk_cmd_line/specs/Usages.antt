-- Which command the first word names, its options, and the line that tells how it is used.
use Rattle.std.specs.Prelude.{ℕ, List, [], ◌∷◌, codes, bytes_eq, if◌then◌else◌}
use Rattle.chk_cmd_line.specs.declared.usage.Usage.{Usage}
use Rattle.chk_cmd_line.specs.declared.usage.Usage.TheVariants.{Commands, Round, Agent, Collector, Drain, Archive, Demux, Salvage, Load, Udp, Subscribe, Join}

-- the command of this name, or none
abbrev pub usage_named : List ℕ → Usage
usage_named first =
    if bytes_eq first (codes "round") then Round
    else if bytes_eq first (codes "agent") then Agent
    else if bytes_eq first (codes "collector") then Collector
    else if bytes_eq first (codes "drain") then Drain
    else if bytes_eq first (codes "archive") then Archive
    else if bytes_eq first (codes "demux") then Demux
    else if bytes_eq first (codes "salvage") then Salvage
    else if bytes_eq first (codes "load") then Load
    else if bytes_eq first (codes "udp") then Udp
    else if bytes_eq first (codes "subscribe") then Subscribe
    else if bytes_eq first (codes "join") then Join else Commands

-- the command that the first word names
abbrev pub usage_of : List (List ℕ) → Usage
usage_of [] = Commands
usage_of (first ∷ words) = usage_named first

-- the options of a command, each of which takes a value
abbrev pub option_names : Usage → List (List ℕ)
option_names Round = codes "class" ∷ codes "reads" ∷ codes "cluster" ∷ []
option_names Agent =
    codes "initial" ∷ codes "control" ∷ codes "turns" ∷ codes "poll" ∷ codes "expire" ∷ codes "pause" ∷ codes "cluster" ∷ []
option_names Collector = codes "rotate" ∷ codes "turns" ∷ codes "messages" ∷ codes "tee" ∷ []
option_names Drain = codes "initial" ∷ codes "reads" ∷ codes "polls" ∷ codes "cluster" ∷ []
option_names Udp = codes "turns" ∷ codes "rotate" ∷ codes "messages" ∷ []
option_names Subscribe = codes "turns" ∷ []
option_names usage = []

-- how the words should have been
abbrev pub usage_text : Usage → List ℕ
usage_text Commands =
    codes "usage: chukwa round|agent|collector|drain|archive|demux|salvage|load|udp|subscribe|join\n"
usage_text Round =
    codes "usage: chukwa round [--class CLASS] [--reads N] [--cluster NAME] SOURCE TYPE LOG...\n"
usage_text Agent =
    codes "usage: chukwa agent [--initial FILE] [--control ADDRESS] [--turns N] [--poll MS] [--expire MS] [--cluster NAME] SOURCE COLLECTOR...\n"
usage_text Collector =
    codes "usage: chukwa collector [--rotate MS] [--turns N] [--tee FILE] NAME ADDRESS\n"
usage_text Drain =
    codes "usage: chukwa drain [--initial FILE] [--reads N] [--polls N] [--cluster NAME] SOURCE COLLECTOR...\n"
usage_text Archive = codes "usage: chukwa archive\n"
usage_text Demux = codes "usage: chukwa demux [TYPE...]\n"
usage_text Salvage = codes "usage: chukwa salvage FILE\n"
usage_text Load = codes "usage: chukwa load N\n"
usage_text Udp = codes "usage: chukwa udp [--turns N] [--rotate BYTES] NAME ADDRESS\n"
usage_text Subscribe = codes "usage: chukwa subscribe [--turns N] ADDRESS\n"
usage_text Join = codes "usage: chukwa join LEFT RIGHT\n"

-- the usage line of these words
abbrev pub usage_line : List (List ℕ) → List ℕ
usage_line words = usage_text (usage_of words)
