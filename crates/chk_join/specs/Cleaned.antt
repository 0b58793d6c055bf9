-- Segments of `joined` that its book doesn't name.
use Rattle.std.specs.Prelude.{◌≡◌, ◌⊎◌, ℕ, List, Contains, None, Result, Ok, Err}
use Rattle.chk_site.specs.History.{History, files_after}
use Rattle.chk_book.specs.Folders.{segment_stem}
use Rattle.chk_join_sources.specs.Copying.{joined_segment}
use Rattle.chk_join.specs.declared.report.JoinReport.{JoinReport}
use Rattle.chk_join.specs.declared.fault.JoinFault.{JoinFault}
use Rattle.chk_join.specs.declared.fault.JoinFault.TheVariants.{Differ}

-- the segment of this number isn't there, or these names show it
abbrev pub Shown : ℕ → List (List ℕ) → History → Type 0
Shown k names history = (files_after history (joined_segment k) ≡ None) ⊎ Contains names (segment_stem k)

-- it isn't there, or these files are still to be removed, and it is one of them
abbrev pub Pending : ℕ → List (List ℕ) → History → Type 0
Pending k files history = (files_after history (joined_segment k) ≡ None) ⊎ Contains files (joined_segment k)

-- at Ok it isn't there
abbrev pub GoneAtOk : {T F : Type 0} → ℕ → Result T F → History → Type 0
GoneAtOk k (Ok value) history = files_after history (joined_segment k) ≡ None
GoneAtOk k (Err fault) history = Unit {0}

-- it isn't there behind a join that was done, and behind one that found a difference
abbrev pub IsCleaned : ℕ → Result JoinReport JoinFault → History → Type 0
IsCleaned k (Ok r) history = files_after history (joined_segment k) ≡ None
IsCleaned k (Err (Differ source kind name at)) history = files_after history (joined_segment k) ≡ None
IsCleaned k (Err fault) history = Unit {0}
