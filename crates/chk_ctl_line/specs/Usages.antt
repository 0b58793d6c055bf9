-- Which command the first word names, its options, and the line that tells how it is used.
use Rattle.std.specs.Prelude.{ℕ, List, [], ◌∷◌, codes, bytes_eq, if◌then◌else◌}
use Rattle.chk_ctl_line.specs.declared.usage.Usage.{Usage}
use Rattle.chk_ctl_line.specs.declared.usage.Usage.TheVariants.{Commands, Audit, Cat, Check}
use Rattle.chk_ctl_line.specs.declared.usage.Usage.TheVariants.{Status, Streams, Verify, Sum}
use Rattle.chk_ctl_line.specs.declared.usage.Usage.TheVariants.{Held, Passed}

-- the command of this name, or none
abbrev pub usage_named : List ℕ → Usage
usage_named first =
    if bytes_eq first (codes "audit") then Audit
    else if bytes_eq first (codes "cat") then Cat
    else if bytes_eq first (codes "check") then Check
    else if bytes_eq first (codes "status") then Status
    else if bytes_eq first (codes "streams") then Streams
    else if bytes_eq first (codes "verify") then Verify
    else if bytes_eq first (codes "sum") then Sum
    else if bytes_eq first (codes "held") then Held
    else if bytes_eq first (codes "passed") then Passed else Commands

-- the command that the first word names
abbrev pub usage_of : List (List ℕ) → Usage
usage_of [] = Commands
usage_of (first ∷ words) = usage_named first

-- the options of a command that take a value
abbrev pub option_names : Usage → List (List ℕ)
option_names Audit = codes "agent" ∷ codes "store" ∷ []
option_names Cat = codes "begin" ∷ []
option_names Passed = codes "agent" ∷ []
option_names Check = codes "initial" ∷ []
option_names usage = []

-- those that take none
abbrev pub flag_names : Usage → List (List ℕ)
flag_names Cat = codes "follow" ∷ codes "records" ∷ codes "help" ∷ []
flag_names Verify = codes "progress" ∷ codes "help" ∷ []
flag_names usage = codes "help" ∷ []

-- how the words should have been
abbrev pub usage_text : Usage → List ℕ
usage_text Commands =
    codes "usage: chukwactl audit|cat|check|held|passed|status|streams|sum|verify [--help], or --version\n"
usage_text Audit = codes "usage: chukwactl audit --agent DIR --store DIR\n"
usage_text Cat = codes "usage: chukwactl cat [--begin N] [--follow] [--records] STORE SOURCE TYPE NAME\n"
usage_text Check = codes "usage: chukwactl check --initial FILE COLLECTOR...\n"
usage_text Status =
    codes "usage: chukwactl status [--agent DIR].. [--store DIR].. [--control NAME=ADDRESS].. [-q|--metrics] [--watch S]\n"
usage_text Streams = codes "usage: chukwactl streams STORE\n"
usage_text Verify = codes "usage: chukwactl verify [--progress] STORE\n"
usage_text Sum = codes "usage: chukwactl sum STORE\n"
usage_text Held = codes "usage: chukwactl held STORE [STORE]..\n"
usage_text Passed = codes "usage: chukwactl passed --agent DIR LOG\n"
