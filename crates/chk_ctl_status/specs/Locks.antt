-- Who holds locks, by the system's list of them, and the text that shows it.
use Rattle.std.specs.Prelude.{ℕ, ◌==◌, Bool, true, false, List, ◌++◌, length, codes, count_by}
use Rattle.std.specs.Prelude.{decimal, flat_map, Option, option_and_then}
use Rattle.std.specs.List.{after_first}
use Rattle.chk_bytes.specs.Numbers.{number_in_digits}
use Rattle.chk_bytes.specs.Words.{before_end, behind_front}
use Rattle.chk_ctl_status_rows.specs.Lines.{right}
use Rattle.chk_ctl_status.specs.declared.locks.Holder.{Holder}
use Rattle.chk_ctl_status.specs.declared.locks.Holder.TheVariants.{Nobody, Process, Unknown}
use Rattle.chk_ctl_status.specs.declared.locks.Lock.{Lock}

-- the number of a process and a space
abbrev pub owner_in : List ℕ → Option ℕ
owner_in owner = option_and_then number_in_digits (before_end (codes " ") owner)

-- and the place behind them
abbrev pub owner_at : List ℕ → List ℕ → Option ℕ
owner_at place owned = option_and_then owner_in (before_end place owned)

-- and the range of a whole file behind that
abbrev pub held_at : List ℕ → List ℕ → Option ℕ
held_at place held = option_and_then (owner_at place) (before_end (codes " 0 EOF") held)

-- and the kind of the lock in front
abbrev pub held_in : List ℕ → List ℕ → Option ℕ
held_in place lock =
    option_and_then (held_at place) (behind_front (codes " FLOCK  ADVISORY  WRITE ") lock)

-- and in front of all the line's number, and a colon (58)
abbrev pub holder_in : List ℕ → List ℕ → Option ℕ
holder_in place line = held_in place (after_first (λ b. b == 58) line)

-- the column of those who hold locks
abbrev pub holder_cell : Holder → List ℕ
holder_cell (Process process) = right process
holder_cell Nobody = codes "              -"
holder_cell Unknown = codes "              ?"

abbrev pub lock_line : Lock → List ℕ
lock_line l = holder_cell l.holder ++ (codes "  " ++ (l.name ++ codes "\n"))

-- the table
abbrev pub locks_text : List Lock → List ℕ
locks_text locks = codes "            PID  LOCK\n" ++ flat_map lock_line locks

-- a process is known to hold it
abbrev pub is_held_by : Holder → Bool
is_held_by (Process process) = true
is_held_by holder = false

abbrev pub is_held : Lock → Bool
is_held l = is_held_by l.holder

-- one line
abbrev pub locks_line : List ℕ → List Lock → List ℕ
locks_line folder locks =
    codes "OK - " ++ (folder ++ (codes ": locks " ++ (decimal (length locks) ++ (codes " held "
    ++ (decimal (count_by is_held locks) ++ codes "\n")))))
