-- What a run of `chukwactl` does, by its words.
use Rattle.std.specs.Prelude.{◌≡◌, ℕ, Bool, true, false, List, None, Some}
use Rattle.chk_ctl_line.specs.Asked.{asked}
use Rattle.chk_ctl_line.specs.Commands.{Asked}
use Rattle.chk_ctl_line.specs.Usages.{usage_of}
use Rattle.chk_ctl_line.specs.declared.usage.Usage.{Usage}
use Rattle.chk_ctl_line.specs.declared.usage.Usage.TheVariants.{Status}
use Rattle.chk_ctl_machine.specs.Deeds.{Told}
use Rattle.chk_ctl_inspect.specs.Running.{RunsAsked, RunsHere}
use Rattle.chk_ctl_inspect.specs.Statuses.{InspectsStatus}

-- the first word is `status`
abbrev pub is_status : Usage → Bool
is_status Status = true
is_status usage = false

-- the words of `status` are inspected by it, and others run as what they ask for; words that ask for
-- nothing run where the user stands, which prints nothing and reports their usage
pub data Inspected (words : List (List ℕ)) : ℕ → Told → Told → Type 0 where
  unread : {now : Told} → Inspected words 4 now now
  states : {status : ℕ} {old new : Told} → is_status (usage_of words) ≡ true
      → InspectsStatus words status old new → Inspected words status old new
  unasked : {status : ℕ} {old new : Told} → is_status (usage_of words) ≡ false
      → asked words ≡ None
      → RunsHere words None status old new → Inspected words status old new
  runs : {command : Asked} {status : ℕ} {old new : Told} → is_status (usage_of words) ≡ false
      → asked words ≡ Some command → RunsAsked command words status old new
      → Inspected words status old new
