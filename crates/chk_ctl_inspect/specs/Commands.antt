-- Where a command runs, and whether it may take long.
use Rattle.std.specs.Prelude.{ℕ, Bool, List, codes, bytes_eq, if◌then◌else◌, Option, Some, None, option_map}
use Rattle.std.specs.List.{list_any}
use Rattle.chk_ctl_line.specs.Commands.{Asked, Audit, Cat, Check, Streams, Verify, Sum, Held, HeldIn}
use Rattle.chk_ctl_line.specs.Commands.{Passed, Help, Version, AuditAsked}
use Rattle.chk_ctl_machine.specs.declared.extent.Extent.{Extent}
use Rattle.chk_ctl_machine.specs.declared.extent.Extent.TheVariants.{Archive, Records, Digests, Store}
use Rattle.chk_ctl_machine.specs.declared.extent.LongInspection.{LongInspection}

-- the words of `audit`, if the command is that
abbrev pub audit_in : Asked → Option AuditAsked
audit_in (Audit w) = Some w
audit_in (Cat w) = None
audit_in (Passed w) = None
audit_in (Streams store) = None
audit_in (Verify store) = None
audit_in (Sum store) = None
audit_in (Held store) = None
audit_in (Check w) = None
audit_in (HeldIn stores) = None
audit_in (Help usage) = None
audit_in Version = None

-- the folder, a store or that of agents; `check`, and `held` of several stores, name none
abbrev pub folder_of : Asked → Option (List ℕ)
folder_of (Audit w) = Some w.agent
folder_of (Cat w) = Some w.store
folder_of (Passed w) = Some w.agent
folder_of (Streams store) = Some store
folder_of (Verify store) = Some store
folder_of (Sum store) = Some store
folder_of (Held store) = Some store
folder_of (Check w) = None
folder_of (HeldIn stores) = None
folder_of (Help usage) = None
folder_of Version = None

-- what is read, if that may take long
abbrev pub extent_of : Asked → Option Extent
extent_of (Cat w) = if w.follow then None else if w.records then Some Records else Some Archive
extent_of (Verify store) = Some Store
extent_of (Sum store) = Some Digests
extent_of (Audit w) = None
extent_of (Passed w) = None
extent_of (Streams store) = None
extent_of (Held store) = None
extent_of (Check w) = None
extent_of (HeldIn stores) = None
extent_of (Help usage) = None
extent_of Version = None

-- the words ask for progress
abbrev pub asks_progress : List (List ℕ) → Bool
asks_progress words = list_any (λ w. bytes_eq w (codes "--progress")) words

abbrev pub long_of : Asked → List (List ℕ) → Option LongInspection
long_of command words =
    option_map (λ e. record { extent = e; asked = asks_progress words }) (extent_of command)
