-- What stays of the agent while it sends a message and gets the reply.
use Rattle.std.proofs.Common.{◌≡◌, ℕ, true, List, Option, Ok, ap, ◌∙◌}
use Rattle.std.specs.Prelude.{IsTrue}
use Rattle.chk_bytes.specs.Words.{is_word}
use Rattle.chk_site.specs.History.{History}
use Rattle.chk_agent_delivery.specs.Scripts.{Sends}
use Rattle.chk_agent_delivery.specs.States.{State as Delivery, address_now}
use Rattle.chk_agent.specs.States.{State as Agents, process as agent_of}
use Rattle.chk_agent.specs.Turns.{with_delivery}

-- another state of the agent, with the same addresses
pub record KeepsAgent (a b : Agents) : Type 0 where
  pub delivery : Delivery
  pub state : b ≡ with_delivery a delivery
  pub addresses : delivery.ring.addresses ≡ a.delivery.ring.addresses

pub same_agent : {a b : Agents} → KeepsAgent a b → agent_of b ≡ agent_of a
same_agent keeps = ap agent_of keeps.state

pub still_ready : {a b : Agents} → KeepsAgent a b → a.ready ≡ true → b.ready ≡ true
still_ready keeps ready = ap (λ (x : Agents). x.ready) keeps.state ∙ ready

pub same_addresses : {a b : Agents} → KeepsAgent a b
    → b.delivery.ring.addresses ≡ a.delivery.ring.addresses
same_addresses keeps = ap (λ (x : Agents). x.delivery.ring.addresses) keeps.state ∙ keeps.addresses

-- the message that was sent, and how the agent went on
pub record SentMessage (a b : Agents) (old new : Option History) : Type 0 where
  pub message : ℕ
  pub bytes : List ℕ
  pub word : IsTrue (is_word (address_now a.delivery.ring))
  pub sends : Sends (agent_of a) (address_now a.delivery.ring) bytes (Ok message) old new
  pub keeps : KeepsAgent a b
