-- With which statuses each command may end.
use Rattle.std.specs.List.{list_any}
use Rattle.std.specs.Prelude.{ℕ, Bool, ◌==◌, IsTrue, List, [], ◌∷◌, Result, Ok, Err}
use Rattle.chk_cmd_line.specs.Commands.{Asked, Round, Agent, Collector, Drain, Archive, Demux, Salvage, Load, Udp, Subscribe, Join}
use Rattle.chk_cmd_line.specs.Endings.{ending_status}
use Rattle.chk_cmd_line.specs.declared.endings.Ending.{Ending}

-- the status of a command's result
abbrev pub status_of : Result Unit Ending → ℕ
status_of (Ok value) = 0
status_of (Err e) = ending_status e

-- The statuses that a command has. 6 and 7 are those of a command that reads logs to their ends, 8
-- of one that takes new numbers, 9 of one that ends by the replies that it gets, and
-- 11 of one that compares two archives.
abbrev pub statuses_of : Asked → List ℕ
statuses_of (Round w) = 0 ∷ 3 ∷ 4 ∷ 5 ∷ 6 ∷ 7 ∷ 8 ∷ 9 ∷ []
statuses_of (Agent w) = 0 ∷ 3 ∷ 4 ∷ 5 ∷ []
statuses_of (Collector w) = 0 ∷ 3 ∷ 4 ∷ 5 ∷ 8 ∷ []
statuses_of (Drain w) = 0 ∷ 3 ∷ 4 ∷ 5 ∷ 6 ∷ 7 ∷ 9 ∷ []
statuses_of Archive = 0 ∷ 3 ∷ 4 ∷ 5 ∷ 8 ∷ []
statuses_of (Demux kinds) = 0 ∷ 3 ∷ 4 ∷ 5 ∷ 8 ∷ []
statuses_of (Salvage file) = 0 ∷ 3 ∷ 4 ∷ 5 ∷ []
statuses_of (Load lines) = 0 ∷ 3 ∷ 4 ∷ 5 ∷ 6 ∷ 7 ∷ 8 ∷ 9 ∷ []
statuses_of (Udp w) = 0 ∷ 3 ∷ 4 ∷ 5 ∷ 8 ∷ []
statuses_of (Subscribe w) = 0 ∷ 3 ∷ 4 ∷ []
statuses_of (Join w) = 0 ∷ 3 ∷ 4 ∷ 5 ∷ 8 ∷ 11 ∷ []

-- the status is one of the command's
abbrev pub is_status_of : Asked → ℕ → Bool
is_status_of command status = list_any (λ s. s == status) (statuses_of command)

-- the command's result has one of its statuses
abbrev pub HasItsStatus : Asked → Result Unit Ending → Type 0
HasItsStatus command result = IsTrue (is_status_of command (status_of result))
