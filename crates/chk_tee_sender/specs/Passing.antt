-- What passing chunks on to all subscribers answers.
use Rattle.std.specs.Prelude.{◌≡◌, ℕ, ◌≤◌, ◌<◌, List, Option, Result, Ok, Err}
use Rattle.chk_bytes.specs.declared.NoMemory.{NoMemory}
use Rattle.chk_site.specs.declared.acts.Who.{Who}
use Rattle.chk_site.specs.History.{History}
use Rattle.chk_site.specs.Site.{Rose}
use Rattle.chk_tee.specs.Messages.{Teed}
use Rattle.chk_tee_sender.specs.Sending.{PassesOn}
use Rattle.chk_tee_sender.specs.declared.Subscriber.{Subscriber}
use Rattle.chk_tee_sender.specs.declared.tees.Passed.{Passed}

-- the subscribers before and after, and the two numbers
abbrev pub Passes : Who → List Teed → List Subscriber → List Subscriber → Result Passed NoMemory → Option History → Option History → Type 0
Passes who items before after (Ok p) old new = PassesOn who items before after p.sent p.dropped (Ok tt) old new
Passes who items before after (Err fault) old new =
    (sent : ℕ) × (lost : ℕ) × PassesOn who items before after sent lost (Err fault) old new

-- the count rises exactly where a subscriber is dropped
pub record IsCaused (dropped before now : ℕ) : Type 0 where
  pub none : dropped ≡ 0 → now ≡ before
  pub some : 0 < dropped → Rose before now
  pub stays : before ≤ now

abbrev pub PassCause : ℕ → ℕ → Result Passed NoMemory → Type 0
PassCause before now (Ok p) = IsCaused p.dropped before now
PassCause before now (Err fault) = before ≤ now
