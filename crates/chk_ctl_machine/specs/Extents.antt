-- What an inspection that may take long reads, and how its progress is reported.
use Rattle.std.specs.Prelude.{ℕ, Bool, true, false, ◌&&◌, List, [], ◌∷◌, codes, if◌then◌else◌}
use Rattle.chk_site_progress.specs.declared.progress.Shows.{Shows}
use Rattle.chk_site_progress.specs.declared.progress.Shows.TheVariants.{Nothing, OneLine, Lines}
use Rattle.chk_ctl_machine.specs.declared.extent.Extent.{Extent}
use Rattle.chk_ctl_machine.specs.declared.extent.Extent.TheVariants.{Archive, Records, Digests, Store}
use Rattle.chk_ctl_machine.specs.declared.extent.LongInspection.{LongInspection}

-- the folders whose files are read
abbrev pub folders_of : Extent → List (List ℕ)
folders_of Archive = codes "archive" ∷ []
folders_of Digests = codes "archive" ∷ []
folders_of Records = codes "demux" ∷ []
folders_of Store =
    codes "agents" ∷ codes "archive" ∷ codes "demux" ∷ codes "sinks" ∷ codes "wahead" ∷ []

-- how often each file is read
abbrev pub times_of : Extent → ℕ
times_of Archive = 1
times_of Records = 1
times_of Digests = 2
times_of Store = 1

-- it prints while it reads
abbrev pub prints_of : Extent → Bool
prints_of Archive = true
prints_of Records = true
prints_of Digests = false
prints_of Store = false

-- on a terminal in one line, unless it prints on a terminal meanwhile, and elsewhere in lines if
-- the command line asks for them
abbrev pub shown_as : LongInspection → Bool → Bool → Shows
shown_as long output error =
    if prints_of long.extent && output then Nothing
    else if error then OneLine
    else if long.asked then Lines else Nothing
