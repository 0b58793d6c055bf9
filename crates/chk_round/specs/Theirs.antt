-- Whose sinks are under writing as the job is given their names.
use Rattle.std.specs.Prelude.{◌≡◌, ℕ, false, IsTrue, List, ◌++◌, codes, Contains, Option, Some}
use Rattle.chk_bytes.specs.Stems.{Stem, is_stem, stem_text}
use Rattle.chk_site.specs.declared.acts.Who.{Who}
use Rattle.chk_site.specs.History.{History, Others, is_stopped}
use Rattle.chk_site.specs.Site.{Adds}
use Rattle.chk_world.specs.ArchiveRuns.{Listing, last_listing}
use Rattle.chk_world.specs.Sight.{job}
use Rattle.chk_world.specs.Together.{Outside}
use Rattle.chk_sink.specs.Held.{Matches}
use Rattle.chk_sink.specs.States.{State, process}

-- none of these names is that of a sink of this collector's under writing
abbrev pub NoneOf : List ℕ → List (List ℕ) → Type 0
NoneOf collector names =
    (x : Stem) → IsTrue (is_stem x) → x.collector ≡ collector
    → Contains names (stem_text x ++ codes ".chukwa") → ⊥

-- the job's last listing shows no sink of the collector's under writing
abbrev pub TheirsOnly : List (List ℕ) → List Who → State → History → History → Type 0
TheirsOnly stamped started s added history =
    Others (Outside stamped started) added history → Matches stamped s history
    → is_stopped (added ++ history) ≡ false
    → (l : Listing) → last_listing (added ++ history) ≡ Some l → NoneOf s.collector l.names

-- that holds behind these calls
abbrev pub ListsTheirs : State → Option History → Option History → Type 0
ListsTheirs s old new =
    (stamped : List (List ℕ)) (started : List Who) → Contains started (process s)
    → Contains started job → Adds old new (TheirsOnly stamped started s)
