use Rattle.std.proofs.Common.{ap, subst, refl}
use Rattle.std.specs.Prelude.{option_map}
use Rattle.chk_agent_delivery.specs.Fields.{delivery_view, post_view}
use Rattle.chk_agent_delivery.specs.Sound.{IsSound}
use Rattle.chk_agent_delivery.specs.Scripts.{nothing, silent, wanting}
use Rattle.chk_agent_delivery.proofs.ReplyTold.{reply_leads}
use Rattle.chk_agent_delivery.proofs.ReplyStates.{got_all}
use Rattle.chk_agent_delivery.proofs.delivery.Delivery.post_reply.Goals as goal

pub returns-in_default-clause-state : goal.returns-in_default-clause-state
returns-in_default-clause-state g c = rw (← c.self.view_is) (nothing (ap (option_map post_view) c.in_default.is))

pub returns-in-Ok-clause-state : goal.returns-in-Ok-clause-state
returns-in-Ok-clause-state g c =
    got_all c.args.who.now c.args.now (delivery_view c.self.inside) c.args.self.now c.take_reply.new.self c.self.inside.post c.in-Some.post
    c.in-Ok.bytes c.as_slice.result.now c.take_reply.result c.self.view_is refl c.in-Some.is c.as_slice.ensures c.in-Ok.ensures.told
    c.take_reply.ensures

pub returns-in-Ok-clause-told : goal.returns-in-Ok-clause-told
returns-in-Ok-clause-told g c stamped b is known fits =
    reply_leads stamped b c.args.who.now c.args.now c.args.self.now (subst IsSound c.self.view_is c.self.invariant) is known fits
    (returns-in-Ok-clause-state g c)

pub returns-in-Err-Failed-clause-state : goal.returns-in-Err-Failed-clause-state
returns-in-Err-Failed-clause-state g c =
    rw (← c.self.view_is, c.failed.ensures.turned)
    (silent (post_view c.in-Some.post) (ap (option_map post_view) c.in-Some.is) (rw c.in-Err-Failed.field-0-is at c.in-Err-Failed.ensures.told))

pub returns-in-Err-Failed-clause-told : goal.returns-in-Err-Failed-clause-told
returns-in-Err-Failed-clause-told g c stamped b is known fits =
    reply_leads stamped b c.args.who.now c.args.now c.args.self.now (subst IsSound c.self.view_is c.self.invariant) is known fits
    (returns-in-Err-Failed-clause-state g c)

pub returns-in-Err-NoMemory-clause-state : goal.returns-in-Err-NoMemory-clause-state
returns-in-Err-NoMemory-clause-state g c =
    rw (← c.self.view_is)
    (wanting (record {}) (post_view c.in-Some.post) (ap (option_map post_view) c.in-Some.is)
    (rw c.in-Err-NoMemory.field-0-is at c.in-Err-NoMemory.ensures.told))

pub returns-in-Err-NoMemory-clause-told : goal.returns-in-Err-NoMemory-clause-told
returns-in-Err-NoMemory-clause-told g c stamped b is known fits =
    reply_leads stamped b c.args.who.now c.args.now c.args.self.now (subst IsSound c.self.view_is c.self.invariant) is known fits
    (returns-in-Err-NoMemory-clause-state g c)
