-- The script of the sending of a poll, exit by exit.
use Rattle.std.proofs.Common.{◌≡◌, ℕ, List, length, Ok, ap, sym, subst, ◌∙◌}
use Rattle.chk_bytes.specs.Stems.{Stem}
use Rattle.chk_site.specs.declared.acts.Who.{Who}
use Rattle.chk_site.specs.History.{History}
use Rattle.std.specs.Prelude.{Option, Some, slice_get}
use Rattle.chk_http_grammar.specs.Messages.{WrittenPoll}
use Rattle.chk_agent_delivery.specs.declared.answers.Polled.TheVariants.{Sent}
use Rattle.chk_agent_delivery.specs.States.{State, address_now}
use Rattle.chk_agent_delivery.specs.Turns.{asked_stems, asked_for}
use Rattle.chk_agent_delivery.specs.Scripts.{Sends, IsPolled, sent}
use Rattle.chk_agent_delivery.proofs.PostStates.{got_at}

-- what is written for the stems is the next poll
pub is_poll : (s : State) (a text bytes : List ℕ) (stems : List Stem) → stems ≡ asked_stems s.table
    → slice_get s.ring.addresses s.ring.place ≡ Some a → text ≡ a → WrittenPoll text stems bytes
    → WrittenPoll (address_now s.ring) (asked_stems s.table) bytes
is_poll s a text bytes stems are at is written =
    subst (λ t. WrittenPoll t (asked_stems s.table) bytes) (is ∙ sym (got_at s.ring.addresses s.ring.place a at))
    (subst (λ xs. WrittenPoll text xs bytes) are written)

pub is_sent : (who : Who) (s : State) (bytes : List ℕ) (stems : List Stem) (count m : ℕ) {old new : Option History}
    → stems ≡ asked_stems s.table → count ≡ length stems → WrittenPoll (address_now s.ring) (asked_stems s.table) bytes
    → Sends who (address_now s.ring) bytes (Ok m) old new → IsPolled who s (Ok (Sent count)) (asked_for m stems s) old new
is_sent who s bytes stems count m {old = old} {new = new} are many written call =
    subst (λ k. IsPolled who s (Ok (Sent k)) (asked_for m stems s) old new) (sym (many ∙ ap length are))
    (subst (λ xs. IsPolled who s (Ok (Sent (length (asked_stems s.table)))) (asked_for m xs s) old new) (sym are) (sent bytes m written call))
