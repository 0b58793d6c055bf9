-- How a control message is read to its end.
use Rattle.std.specs.Prelude.{◌≡◌, ℕ, ◌≤◌, ◌<◌, true, false, List, [], ◌++◌, length, Option, Some, None, Result, Ok, Err}
use Rattle.chk_site.specs.declared.acts.Who.{Who}
use Rattle.chk_site.specs.declared.acts.Call.TheVariants.{More}
use Rattle.chk_site.specs.declared.acts.CallFault.{CallFault}
use Rattle.chk_site.specs.declared.acts.CallFault.TheVariants.{Failed, NoMemory as site_wanting}
use Rattle.chk_site.specs.History.{History}
use Rattle.chk_site.specs.Site.{Adds, Asked, asked, answered, bytes_given, Calls}
use Rattle.chk_agent.specs.declared.answers.AgentFault.{AgentFault}
use Rattle.chk_agent.specs.declared.answers.AgentFault.TheVariants.{NoMemory}
use Rattle.chk_agent_run.specs.Closing.{is_closed_by, capped, IsOpen, IsPassed, message_limit}
use Rattle.chk_agent_run.specs.declared.message.Scan.{Scan}
use Rattle.chk_agent_run.specs.declared.message.Scan.TheVariants.{Closed, Open}

-- the whole lines were passed: one of them ends the message, or none does
abbrev pub Scanned : List ℕ → Scan → Type 0
Scanned bytes Closed = is_closed_by bytes ≡ true
Scanned bytes (Open at) = IsPassed at bytes × (is_closed_by bytes ≡ false)

-- what a call for a piece is taken for: the piece, or none where it failed
abbrev pub Brought : Result (List ℕ) CallFault → Result (Option (List ℕ)) AgentFault → Type 0
Brought (Ok piece) result = result ≡ Ok (Some piece)
Brought (Err Failed) result = result ≡ Ok None
Brought (Err site_wanting) result = result ≡ Err NoMemory
Brought (Err fault) result = ⊥

abbrev pub AsksMore : Who → ℕ → Asked
AsksMore who t = asked who More [] t 0

-- The pieces of a taken message in turn, up to a line that ends it, to 65,536 bytes, to an empty piece or to one that failed;
-- then there is nothing to run.
pub data IsRead (who : Who) (t : ℕ) : List ℕ → Result (Option (List ℕ)) AgentFault → Option History → Option History → Type 0 where
  closed : {bytes : List ℕ} {now : Option History} → is_closed_by bytes ≡ true → IsRead who t bytes (Ok (Some bytes)) now now
  long : {bytes : List ℕ} {now : Option History} → message_limit ≤ length bytes → IsRead who t bytes (Ok (Some bytes)) now now
  came : {bytes : List ℕ} {result : Result (Option (List ℕ)) AgentFault} {old mid new : Option History} (piece : List ℕ)
      → IsOpen bytes → 0 < length piece
      → Adds old mid (Calls (AsksMore who t) (answered bytes_given (Ok piece)))
      → IsRead who t (capped (bytes ++ piece)) result mid new → IsRead who t bytes result old new
  over : {bytes : List ℕ} {old new : Option History} → IsOpen bytes
      → Adds old new (Calls (AsksMore who t) (answered bytes_given (Ok []))) → IsRead who t bytes (Ok (Some bytes)) old new
  broken : {bytes : List ℕ} {old new : Option History} → IsOpen bytes
      → Adds old new (Calls (AsksMore who t) (answered bytes_given (Err Failed))) → IsRead who t bytes (Ok None) old new
  ungiven : {bytes : List ℕ} {old new : Option History} → IsOpen bytes
      → Adds old new (Calls (AsksMore who t) (answered bytes_given (Err site_wanting))) → IsRead who t bytes (Err NoMemory) old new
  unkept : {bytes : List ℕ} {old new : Option History} (piece : List ℕ) → IsOpen bytes
      → Adds old new (Calls (AsksMore who t) (answered bytes_given (Ok piece))) → IsRead who t bytes (Err NoMemory) old new
  wanting : {bytes : List ℕ} {now : Option History} → IsRead who t bytes (Err NoMemory) now now
