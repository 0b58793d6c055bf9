-- What `status` does, once or every so many seconds.
use Rattle.std.specs.Prelude.{◌≡◌, ◌==◌, ◌||◌, nat_lt, ◌+◌, ◌-◌, ◌^◌, max, ℕ, Bool, true, false, List, if◌then◌else◌, Some, None}
use Rattle.chk_ctl_line.specs.Status.{asked_status, Status}
use Rattle.chk_ctl_line.specs.Usages.{usage_text}
use Rattle.chk_ctl_line.specs.declared.usage.Usage.TheVariants.{Status as status_usage}
use Rattle.chk_ctl_run.specs.declared.outcome.Outcome.TheVariants.{Usage}
use Rattle.chk_ctl_machine.specs.Deeds.{after, ended, Prints, Sleeps, Stands, Told}
use Rattle.chk_ctl_inspect.specs.declared.kept.Sight.{Sight}
use Rattle.chk_ctl_inspect.specs.Folders.{InspectsAll}
use Rattle.chk_ctl_inspect.specs.Reporting.{Reports}

-- all is inspected, and then printed; the status is the greatest one. Without memory it is 4.
pub data InspectsOnce (s : Status) : ℕ → Told → Told → Type 0 where
  given_up : {old new : Told} → InspectsOnce s 4 old new
  inspected : {sight : Sight} {status : ℕ} {old mid new : Told} → InspectsAll s sight old mid
      → Reports s.form sight status mid new
      → InspectsOnce s (max sight.status status) old new

-- it ends if no seconds are asked for, or with a status above 1
abbrev pub stops : ℕ → ℕ → Bool
stops seconds status = seconds == 0 || nat_lt 1 status

-- at most so many times
pub data Repeats (s : Status) : ℕ → ℕ → Told → Told → Type 0 where
  spent : {now : Told} → Repeats s 0 3 now now
  last : {left status : ℕ} {old new : Told} → InspectsOnce s status old new
      → stops s.seconds status ≡ true → Repeats s left status old new
  again : {left rest first status : ℕ} {old mid next new : Told} → left ≡ rest + 1
      → InspectsOnce s first old mid → stops s.seconds first ≡ false
      → next ≡ after (Sleeps s.seconds) mid → Repeats s rest status next new
      → Repeats s left status old new

-- its usage is printed if that is asked for, else it is inspected from where the user stands
pub data InspectsAsked (s : Status) : ℕ → Told → Told → Type 0 where
  helped : {old new : Told} (is : Bool) → s.help ≡ true
      → new ≡ after (Prints (usage_text status_usage) is) old
      → InspectsAsked s (if is then 0 else 3) old new
  unfound : {old new : Told} → s.help ≡ false → new ≡ after (Stands false) old
      → InspectsAsked s 3 old new
  stood : {status : ℕ} {old mid new : Told} → s.help ≡ false → mid ≡ after (Stands true) old
      → Repeats s (2 ^ 64 - 1) status mid new → InspectsAsked s status old new

pub data InspectsStatus (words : List (List ℕ)) : ℕ → Told → Told → Type 0 where
  unread : {now : Told} → InspectsStatus words 4 now now
  unasked : {old new : Told} → asked_status words ≡ None → new ≡ ended (Usage status_usage) old
      → InspectsStatus words 2 old new
  asked : {s : Status} {status : ℕ} {old new : Told} → asked_status words ≡ Some s
      → InspectsAsked s status old new → InspectsStatus words status old new
