-- What the fields stand for.
use Rattle.std.specs.Prelude.{option_map}
use Rattle.chk_agent_delivery.specs.States.{State, Post, Poll}
use Rattle.chk_agent_delivery.specs.Sound.{IsSound}
use Rattle.chk_agent_delivery.specs.declared.delivery.OutPost.{OutPost}
use Rattle.chk_agent_delivery.specs.declared.delivery.OutPoll.{OutPoll}
use Rattle.chk_agent_delivery.specs.declared.delivery.Delivery.TheInside.{Inside}

abbrev pub post_view : OutPost → Post
post_view p = record { message = p.message; count = p.count }

abbrev pub poll_view : OutPoll → Poll
poll_view p = record { message = p.message; stems = p.stems.items }

abbrev pub delivery_view : Inside → State
delivery_view d = record {
  rules = d.rules;
  queue = d.queue;
  owners = d.owners.items;
  table = d.acks;
  ring = d.ring;
  post = option_map post_view d.post;
  poll = option_map poll_view d.poll;
  polled = d.polled;
}

abbrev pub IsSoundInside : Inside → Type 0
IsSoundInside d = IsSound (delivery_view d)
