-- The oldest generation of a log that is there, as calls show it.
use Rattle.std.specs.Prelude.{◌≡◌, ◌⊎◌, ℕ, ◌+◌, ◌<◌, ◌≤◌, ◌==◌, ◌^◌, nat_lt, true, false, Bool, List, []}
use Rattle.std.specs.Prelude.{◌∷◌, ◌++◌, length, Option, Some, None, Result, Ok, Err}
use Rattle.std.specs.Prelude.{if◌then◌else◌}
use Rattle.chk_site.specs.declared.acts.OutsideFault.{OutsideFault}
use Rattle.chk_site.specs.declared.suffixes.Piece.{Piece}
use Rattle.chk_site.specs.declared.acts.Call.TheVariants.{LogRead}
use Rattle.chk_site.specs.declared.acts.CallFault.TheVariants.{Short}
use Rattle.chk_site.specs.declared.acts.ActAnswer.TheVariants.{Refused}
use Rattle.chk_site.specs.Acts.{Deed, ReadsLog, AsksNewest}
use Rattle.chk_site.specs.Logs.{Log, Past, read_from}
use Rattle.chk_site.specs.History.{History, logs_after}
use Rattle.chk_site.specs.declared.limits.TheConstants.{PIECE_BYTES}
use Rattle.chk_ctl_passed.specs.declared.oldest.Oldest.{Oldest}
use Rattle.chk_ctl_passed.specs.declared.oldest.Oldest.TheVariants.{Base, Rotated, Changed}
use Rattle.chk_ctl_passed.specs.declared.oldest.Came.{Came}
use Rattle.chk_ctl_passed.specs.declared.oldest.Came.TheVariants.{Ended, More}
use Rattle.chk_ctl_passed.specs.declared.oldest.Came.TheVariants.{Base as base_alone}
use Rattle.chk_ctl_passed.specs.declared.oldest.Came.TheVariants.{Changed as other}

-- the call reads the log from its oldest generation on, or asks for its newest one
pub data LooksAtLog (path : List ℕ) : Deed → Type 0 where
  reads : (at : ℕ) → LooksAtLog path (ReadsLog path (Past None) at PIECE_BYTES)
  asks : LooksAtLog path (AsksNewest path)

-- the suffix of the oldest generation that is there; none where that is the base file
abbrev pub oldest : Log → Option (List ℕ)
oldest log = (read_from (Past None) log).suffix

-- the log has this at the last one of the added steps
abbrev pub LastSaw : List ℕ → (Log → Type 0) → History → History → Type 0
LastSaw path P [] history = ⊥
LastSaw path P (step ∷ others) history = P (logs_after (others ++ history) path)

-- the last step was an own read of a log, and the generation was shorter than its place
abbrev pub WasShort : History → Type 0
WasShort [] = ⊥
WasShort (step ∷ others) =
    (step.own ≡ true) × (step.act.call ≡ LogRead)
    × ((size : ℕ) × (step.act.answer ≡ Refused (Short size)))

-- the same, or the generation had more bytes than there are places
abbrev pub GotShort : List ℕ → History → History → Type 0
GotShort path added history =
    WasShort added
    ⊎ LastSaw path (λ log. 2 ^ 64 ≤ length (read_from (Past None) log).bytes) added history

-- the oldest generation was this one at the last call
abbrev pub SawOldest : List ℕ → Result Oldest OutsideFault → History → History → Type 0
SawOldest path (Ok Base) added history = LastSaw path (λ log. oldest log ≡ None) added history
SawOldest path (Ok (Rotated suffix)) added history =
    LastSaw path (λ log. oldest log ≡ Some suffix) added history
SawOldest path (Ok Changed) added history = GotShort path added history
SawOldest path (Err fault) added history = Unit {0}

-- no rotated generation was there at the call
abbrev pub SawNewest : List ℕ → Result Bool OutsideFault → History → History → Type 0
SawNewest path (Ok false) added history = LastSaw path (λ log. oldest log ≡ None) added history
SawNewest path (Ok true) added history = Unit {0}
SawNewest path (Err fault) added history = Unit {0}

-- what the read showed of the oldest generation
abbrev pub SawRead : List ℕ → Result Came OutsideFault → History → History → Type 0
SawRead path (Ok (Ended suffix)) added history =
    LastSaw path (λ log. oldest log ≡ Some suffix) added history
SawRead path (Ok base_alone) added history =
    LastSaw path (λ log. oldest log ≡ None) added history
SawRead path (Ok other) added history = GotShort path added history
SawRead path (Ok (More next)) added history = Unit {0}
SawRead path (Err fault) added history = Unit {0}

-- the next place is further on, and a place
abbrev pub GoesUp : ℕ → Came → Type 0
GoesUp at (More next) = (at < next) × (next < 2 ^ 64)
GoesUp at came = Unit {0}

-- what is known where no end of a rotated generation was reached
abbrev pub further : ℕ → ℕ → Came
further count at =
    if count == 0 then base_alone
    else if nat_lt (at + count) (2 ^ 64) then More (at + count) else other

-- what a piece shows that was read at this place
abbrev pub came_by : Option (List ℕ) → ℕ → ℕ → Came
came_by (Some suffix) count at = Ended suffix
came_by None count at = further count at

abbrev pub came_of : Piece → ℕ → Came
came_of piece at = came_by piece.ended (length piece.bytes) at
