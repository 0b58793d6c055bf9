-- What one look at a file shows, by its folder and its name.
use Rattle.std.specs.Prelude.{◌≡◌, List, ℕ, ◌++◌, codes, Option, Some, None}
use Rattle.chk_bytes.specs.Words.{before_end}
use Rattle.chk_site.specs.History.{History}
use Rattle.chk_ctl_verify.specs.declared.sinks.Place.{Place}
use Rattle.chk_ctl_verify.specs.declared.sinks.Place.TheVariants.{Agents, Sinks, Wahead}
use Rattle.chk_ctl_verify.specs.Files.{CheckSeen, MarkSeen, NumberSeen, OpenSeen, SinkSeen}

-- the folder's name
abbrev pub folder_of : Place → List ℕ
folder_of Agents = codes "agents"
folder_of Sinks = codes "sinks"
folder_of Wahead = codes "wahead"

-- files by their parts
abbrev pub in_sinks : List ℕ → List ℕ → List ℕ
in_sinks front ending = (codes "sinks/" ++ front) ++ ending

abbrev pub in_wahead : List ℕ → List ℕ → List ℕ
in_wahead front ending = (codes "wahead/" ++ front) ++ ending

-- the name ends so, with this before it; or it doesn't
abbrev pub by_front : Option (List ℕ) → (List ℕ → Type 0) → Type 0 → Type 0
by_front (Some front) P Q = P front
by_front None P Q = Q

abbrev pub ByEnd : List ℕ → List ℕ → (List ℕ → Type 0) → Type 0 → Type 0
ByEnd ending name P Q = by_front (before_end ending name) P Q

-- a file of another name isn't looked at
abbrev pub Unlooked : Option ℕ → Option History → Option History → Type 0
Unlooked found old new = (found ≡ None) × (new ≡ old)

abbrev pub AgentFileSeen : List ℕ → Option ℕ → Option History → Option History → Type 0
AgentFileSeen name found old new =
    ByEnd (codes ".check") name (λ source. CheckSeen source found old new)
    (Unlooked found old new)

-- the number of a collector's starts
abbrev pub BornSeen : List ℕ → Option ℕ → Option History → Option History → Type 0
BornSeen name found old new =
    ByEnd (codes ".born") name (λ c. NumberSeen 1 (in_sinks c (codes ".born")) found old new)
    (Unlooked found old new)

-- the mark of a sink
abbrev pub MarkOrBornSeen : List ℕ → Option ℕ → Option History → Option History → Type 0
MarkOrBornSeen name found old new =
    ByEnd (codes ".mark") name
    (λ x. MarkSeen 96 (in_sinks x (codes ".mark")) (in_sinks x (codes ".chukwa")) found old new)
    (BornSeen name found old new)

-- a sink under writing
abbrev pub UnclosedSeen : List ℕ → Option ℕ → Option History → Option History → Type 0
UnclosedSeen name found old new =
    ByEnd (codes ".chukwa") name
    (λ x. OpenSeen (in_sinks x (codes ".chukwa")) (in_sinks x (codes ".mark")) found old new)
    (MarkOrBornSeen name found old new)

-- a closed sink
abbrev pub SinkFileSeen : List ℕ → Option ℕ → Option History → Option History → Type 0
SinkFileSeen name found old new =
    ByEnd (codes ".done") name (λ x. SinkSeen (in_sinks x (codes ".done")) found old new)
    (UnclosedSeen name found old new)

-- the mark of a buffer
abbrev pub BufferMarkSeen : List ℕ → Option ℕ → Option History → Option History → Type 0
BufferMarkSeen name found old new =
    ByEnd (codes ".mark") name
    (λ x. MarkSeen 1 (in_wahead x (codes ".mark")) (in_wahead x (codes ".buf")) found old new)
    (Unlooked found old new)

-- the number of the last buffer
abbrev pub WaheadFileSeen : List ℕ → Option ℕ → Option History → Option History → Type 0
WaheadFileSeen name found old new =
    ByEnd (codes ".next") name (λ x. NumberSeen 1 (in_wahead x (codes ".next")) found old new)
    (BufferMarkSeen name found old new)

abbrev pub FileSeen : Place → List ℕ → Option ℕ → Option History → Option History → Type 0
FileSeen Agents name = AgentFileSeen name
FileSeen Sinks name = SinkFileSeen name
FileSeen Wahead name = WaheadFileSeen name

-- One look that found no damage; or another one behind one that found some, by whose finding it is.
pub data FoundBy (P : Option ℕ → Option History → Option History → Type 0) : Option ℕ
    → Option History → Option History → Type 0 where
  once : {old new : Option History} → P None old new → FoundBy P None old new
  again : {found : Option ℕ} {old mid new : Option History} (first : ℕ) → P (Some first) old mid
      → P found mid new → FoundBy P found old new
