use Rattle.std.proofs.Common.{ap, sym, subst, ◌∙◌, refl}
use Rattle.std.specs.Prelude.{option_map, is_some}
use Rattle.chk_chunk.specs.Lent.{AreValid}
use Rattle.chk_agent_delivery.specs.States.{State}
use Rattle.chk_agent_delivery.specs.Fields.{delivery_view, poll_view}
use Rattle.chk_agent_delivery.specs.Scripts.{nothing, silent, wanting}
use Rattle.chk_agent_delivery.proofs.LengthsTold.{lengths_lead}
use Rattle.chk_agent_delivery.proofs.LengthStates.{got_all}
use Rattle.chk_agent_delivery.proofs.delivery.Delivery.poll_reply.Goals as goal

pub returns-in_default-clause-state : goal.returns-in_default-clause-state
returns-in_default-clause-state g c = rw (← c.self.view_is) (nothing (ap (option_map poll_view) c.in_default.is))

pub take_lengths-requires : goal.take_lengths-requires
take_lengths-requires g c =
    ap (λ (s : State). is_some s.poll) (sym c.self.view_is) ∙ ap (λ o. is_some (option_map poll_view o)) c.in-Some.is

pub returns-in-Ok-clause-state : goal.returns-in-Ok-clause-state
returns-in-Ok-clause-state g c =
    got_all c.args.who.now (delivery_view c.self.inside) c.args.self.now c.take_lengths.new.self c.self.inside.poll c.in-Some.poll
    c.in-Ok.bytes c.as_slice.result.now c.take_lengths.result c.self.view_is refl c.in-Some.is c.as_slice.ensures c.in-Ok.ensures.told
    c.take_lengths.ensures.taken

pub returns-in-Ok-clause-cause : goal.returns-in-Ok-clause-cause
returns-in-Ok-clause-cause g c = rw c.take_lengths.ensures.answered c.in-Ok.ensures.cause

pub returns-in-Err-Failed-clause-state : goal.returns-in-Err-Failed-clause-state
returns-in-Err-Failed-clause-state g c =
    rw (← c.self.view_is, c.failed.ensures.turned)
    (silent (poll_view c.in-Some.poll) (ap (option_map poll_view) c.in-Some.is) (rw c.in-Err-Failed.field-0-is at c.in-Err-Failed.ensures.told))

pub returns-in-Err-NoMemory-clause-state : goal.returns-in-Err-NoMemory-clause-state
returns-in-Err-NoMemory-clause-state g c =
    rw (← c.self.view_is)
    (wanting (record {}) (poll_view c.in-Some.poll) (ap (option_map poll_view) c.in-Some.is)
    (rw c.in-Err-NoMemory.field-0-is at c.in-Err-NoMemory.ensures.told))

pub returns-in-Ok-clause-told : goal.returns-in-Ok-clause-told
returns-in-Ok-clause-told g c stamped b is known fits =
    lengths_lead stamped b c.args.who.now c.args.self.now (subst (λ (t : State). AreValid t.queue.chunks) c.self.view_is c.self.invariant.valid)
    is known fits (returns-in-Ok-clause-state g c)

pub returns-in-Err-Failed-clause-told : goal.returns-in-Err-Failed-clause-told
returns-in-Err-Failed-clause-told g c stamped b is known fits =
    lengths_lead stamped b c.args.who.now c.args.self.now (subst (λ (t : State). AreValid t.queue.chunks) c.self.view_is c.self.invariant.valid)
    is known fits (returns-in-Err-Failed-clause-state g c)

pub returns-in-Err-NoMemory-clause-told : goal.returns-in-Err-NoMemory-clause-told
returns-in-Err-NoMemory-clause-told g c stamped b is known fits =
    lengths_lead stamped b c.args.who.now c.args.self.now (subst (λ (t : State). AreValid t.queue.chunks) c.self.view_is c.self.invariant.valid)
    is known fits (returns-in-Err-NoMemory-clause-state g c)
