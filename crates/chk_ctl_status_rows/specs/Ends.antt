-- How far a log goes, as own reads of its generations show it.
use Rattle.std.specs.Prelude.{◌≡◌, ℕ, ◌+◌, ◌-◌, ◌≤◌, ◌^◌, min, List, [], ◌∷◌, codes}
use Rattle.std.specs.Prelude.{Option, Some, None, Result, Ok, Err}
use Rattle.chk_control.specs.declared.Class.{Class}
use Rattle.chk_control.specs.declared.Class.TheVariants.{Plain}
use Rattle.chk_site.specs.declared.acts.Call.TheVariants.{LogRead}
use Rattle.chk_site.specs.declared.acts.CallFault.{CallFault}
use Rattle.chk_site.specs.declared.acts.CallFault.TheVariants.{Failed, Short}
use Rattle.chk_site.specs.declared.acts.OutsideFault.{OutsideFault}
use Rattle.chk_site.specs.declared.acts.OutsideFault.TheVariants.{Outside}
use Rattle.chk_site.specs.declared.acts.OutsideFault.TheVariants.{NoMemory as no_memory}
use Rattle.chk_site.specs.declared.acts.Who.{Who}
use Rattle.chk_site.specs.declared.suffixes.Piece.{Piece}
use Rattle.chk_site.specs.History.{History}
use Rattle.chk_site.specs.Site.{answered, asked, piece_given, Adds, Asked, Calls}
use Rattle.chk_world.specs.Checkpoints.{after_text, Line}
use Rattle.chk_ctl_status_rows.specs.declared.probing.Probe.{Probe}
use Rattle.chk_ctl_status_rows.specs.declared.probing.Probe.TheVariants.{Short as is_short}
use Rattle.chk_ctl_status_rows.specs.declared.probing.Probe.TheVariants.{Ended, Open}
use Rattle.chk_ctl_status_rows.specs.declared.probing.Next.{Next}
use Rattle.chk_ctl_status_rows.specs.declared.probing.Next.TheVariants.{Last, More, Changed}

-- no generation goes up to here
abbrev pub far : ℕ
far = 2 ^ 63 - 1

-- what a read of a generation shows: it is the rotated one with this suffix, and ends there; or
-- it is shorter
abbrev pub opened : Option (List ℕ) → Probe
opened None = Open
opened (Some suffix) = Ended suffix

abbrev pub probed : Result Piece CallFault → Result Probe OutsideFault
probed (Ok piece) = Ok (opened piece.ended)
probed (Err (Short size)) = Ok (is_short size)
probed (Err Failed) = Err (Outside LogRead)
probed (Err fault) = Err no_memory

-- a read of one byte
abbrev pub probing : Who → List ℕ → List ℕ → ℕ → Asked
probing who path part at = asked who LogRead (path ∷ part ∷ []) at 1

pub record Probes (who : Who) (path part : List ℕ) (at : ℕ) (result : Result Probe OutsideFault)
    (old new : Option History) : Type 0 where
  pub given : Result Piece CallFault
  pub is : result ≡ probed given
  pub told : Adds old new (Calls (probing who path part at) (answered piece_given given))

-- the end of a generation that begins at this offset and has this size
abbrev pub end_at : ℕ → ℕ → ℕ
end_at first size = min (first + size) (2 ^ 64 - 1)

-- what a read at its end shows of it
abbrev pub stepped : ℕ → ℕ → Probe → Next
stepped first size (is_short n) = Changed
stepped first size (Ended suffix) = More suffix (end_at first size)
stepped first size Open = Last (end_at first size)

abbrev pub next_by : ℕ → ℕ → Result Probe OutsideFault → Result Next OutsideFault
next_by first size (Ok p) = Ok (stepped first size p)
next_by first size (Err fault) = Err fault

pub record SeesEnd (who : Who) (path part : List ℕ) (first size : ℕ)
    (result : Result Next OutsideFault) (old new : Option History) : Type 0 where
  pub given : Result Probe OutsideFault
  pub probes : Probes who path part size given old new
  pub is : result ≡ next_by first size given

-- the size of a generation, where a read far behind its end shows it
abbrev pub size_shown : Probe → Option ℕ
size_shown (is_short size) = Some size
size_shown (Ended suffix) = None
size_shown Open = None

-- what follows that read
abbrev pub BySize : Who → List ℕ → List ℕ → ℕ → Option ℕ → Result Next OutsideFault
    → Option History → Option History → Type 0
BySize who path part first (Some size) result old new =
    SeesEnd who path part first size result old new
BySize who path part first None result old new = (new ≡ old) × (result ≡ Ok Changed)

abbrev pub Behind : Who → List ℕ → List ℕ → ℕ → Result Probe OutsideFault
    → Result Next OutsideFault → Option History → Option History → Type 0
Behind who path part first (Ok p) result old new =
    BySize who path part first (size_shown p) result old new
Behind who path part first (Err fault) result old new = (new ≡ old) × (result ≡ Err fault)

-- a generation is seen: its size by the one read, and its suffix by another
pub record Sees (who : Who) (path part : List ℕ) (first : ℕ) (result : Result Next OutsideFault)
    (old new : Option History) : Type 0 where
  pub given : Result Probe OutsideFault
  pub middle : Option History
  pub probes : Probes who path part far given old middle
  pub behind : Behind who path part first given result middle new

-- the log goes up to the end of the last one; where it changed that isn't known
abbrev pub IsLast : Result Next OutsideFault → Result (Option ℕ) OutsideFault → Type 0
IsLast (Ok (Last end)) result = result ≡ Ok (Some end)
IsLast (Ok Changed) result = result ≡ Ok None
IsLast (Ok (More suffix end)) result = ⊥
IsLast (Err fault) result = result ≡ Err fault

-- the generations behind a suffix, in turn: of 1,000 more it isn't known
pub data SumsOn (who : Who) (path : List ℕ) (result : Result (Option ℕ) OutsideFault)
    : ℕ → List ℕ → ℕ → Option History → Option History → Type 0 where
  too_many : {n end : ℕ} {suffix : List ℕ} {now : Option History} → 1000 ≤ n → result ≡ Ok None
      → SumsOn who path result n suffix end now now
  ends : {n end : ℕ} {suffix : List ℕ} {old new : Option History}
      (next : Result Next OutsideFault) → Sees who path suffix end next old new
      → IsLast next result → SumsOn who path result n suffix end old new
  goes_on : {n end further : ℕ} {suffix other : List ℕ} {old mid new : Option History}
      → Sees who path suffix end (Ok (More other further)) old mid
      → SumsOn who path result (n + 1) other further mid new
      → SumsOn who path result n suffix end old new

-- what follows the first one
abbrev pub Follows : Who → List ℕ → Result Next OutsideFault → Result (Option ℕ) OutsideFault
    → Option History → Option History → Type 0
Follows who path (Ok (More suffix end)) result old new =
    SumsOn who path result 0 suffix end old new
Follows who path (Ok (Last end)) result old new = (new ≡ old) × (result ≡ Ok (Some end))
Follows who path (Ok Changed) result old new = (new ≡ old) × (result ≡ Ok None)
Follows who path (Err fault) result old new = (new ≡ old) × (result ≡ Err fault)

-- a log that is rotated
pub record FindsRotated (who : Who) (path : List ℕ) (after : Option (List ℕ)) (first : ℕ)
    (result : Result (Option ℕ) OutsideFault) (old new : Option History) : Type 0 where
  pub next : Result Next OutsideFault
  pub middle : Option History
  pub sees : Sees who path (after_text after) first next old middle
  pub follows : Follows who path next result middle new

-- one of which the base file alone is read
abbrev pub base_end : ℕ → Result Probe OutsideFault → Result (Option ℕ) OutsideFault
base_end first (Ok (is_short size)) = Ok (Some (end_at first size))
base_end first (Ok (Ended suffix)) = Ok None
base_end first (Ok Open) = Ok None
base_end first (Err fault) = Err fault

pub record FindsBase (who : Who) (path : List ℕ) (first : ℕ)
    (result : Result (Option ℕ) OutsideFault) (old new : Option History) : Type 0 where
  pub given : Result Probe OutsideFault
  pub probes : Probes who path (codes "base") far given old new
  pub is : result ≡ base_end first given

-- by the class of the line
abbrev pub FindsBy : Class → Who → Line → Result (Option ℕ) OutsideFault → Option History
    → Option History → Type 0
FindsBy Plain who l result old new = FindsBase who l.path l.first result old new
FindsBy class who l result old new = FindsRotated who l.path l.after l.first result old new

abbrev pub FindsEnd : Who → Line → Result (Option ℕ) OutsideFault → Option History
    → Option History → Type 0
FindsEnd who l result old new = FindsBy l.class who l result old new
