-- The reply that a script names, with the steps around its making.
use Rattle.std.proofs.Common.{ℕ, List, Option}
use Rattle.chk_site.specs.History.{History}
use Rattle.chk_site.specs.Site.{Adds}
use Rattle.chk_site.proofs.Runs.{adds_none}
use Rattle.chk_http_grammar.specs.Messages.{IsReply}
use Rattle.chk_sink.specs.States.{State as Sinks}
use Rattle.chk_collector.specs.Outcomes.{Replied, body_of, code_of}
use Rattle.chk_exchange.specs.Least.{RepliedIn}
use Rattle.chk_exchange.proofs.Ways.{any, any_then}

pub replied_in : {s u : Sinks} {request reply : List ℕ} {before now : ℕ} {old mid new : Option History}
    {P : History → History → Type 0} (replied : Replied request s u before now old mid reply)
    → IsReply (code_of replied.outcome) (body_of replied.outcome) reply → Adds mid new P
    → RepliedIn s u old new request reply
replied_in {before = before} {now = now} {old = old} {mid = mid} replied read call = record {
  before = before;
  now = now;
  mid = old;
  next = mid;
  went = adds_none old (λ added history. Unit {0}) (λ history. tt);
  replied = replied;
  read = read;
  left = any call;
}

-- behind some steps
pub replied_behind : {s u : Sinks} {request reply : List ℕ} {old mid new : Option History}
    {P : History → History → Type 0} → Adds old mid P → RepliedIn s u mid new request reply
    → RepliedIn s u old new request reply
replied_behind call r = record {
  before = r.before;
  now = r.now;
  mid = r.mid;
  next = r.next;
  went = any_then (any call) r.went;
  replied = r.replied;
  read = r.read;
  left = r.left;
}
