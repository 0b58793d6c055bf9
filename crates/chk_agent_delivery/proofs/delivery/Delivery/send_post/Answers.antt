use Rattle.std.proofs.Common.{Ok, Err, sym, subst}
use Rattle.std.proofs.lemmas.Result.{err_from_is_err_and}
use Rattle.chk_site.specs.declared.acts.CallFault.TheVariants.{Failed, NoMemory}
use Rattle.chk_agent_delivery.specs.Fields.{delivery_view}
use Rattle.chk_agent_delivery.specs.Scripts.{IsNextPost, unsent}
use Rattle.chk_agent_delivery.proofs.PostStates.{sends_at, is_sent, is_failed, is_refused}
use Rattle.chk_agent_delivery.proofs.delivery.Delivery.send_post.Goals as goal

pub returns-in_err-bytes-clause-state : goal.returns-in_err-bytes-clause-state
returns-in_err-bytes-clause-state g c =
    let p = err_from_is_err_and c.from_residual.result c.from_residual.ensures.1 in
    rw p.1 (unsent p.0)

pub returns-in-Ok-clause-state : goal.returns-in-Ok-clause-state
returns-in-Ok-clause-state g c =
    let s = delivery_view c.self.inside in
    let post = c.in_ok-bytes in
    rw (← c.self.view_is)
    (is_sent c.args.who.now s post.bytes post.count c.in-Ok.message
    (subst (λ t. IsNextPost t post.bytes post.count) (sym c.self.view_is) post.ensures)
    (sends_at c.args.who.now s.ring c.now.result.now c.as_str.result.now c.as_slice.result.now post.bytes (Ok c.in-Ok.message) c.now.ensures
    c.as_str.ensures.text c.as_slice.ensures c.in-Ok.ensures.told))

pub returns-in-Err-Failed-clause-state : goal.returns-in-Err-Failed-clause-state
returns-in-Err-Failed-clause-state g c =
    let s = delivery_view c.self.inside in
    let post = c.in_ok-bytes in
    rw (← c.self.view_is, c.failed.ensures.turned)
    (is_failed c.args.who.now s post.bytes post.count (subst (λ t. IsNextPost t post.bytes post.count) (sym c.self.view_is) post.ensures)
    (sends_at c.args.who.now s.ring c.now.result.now c.as_str.result.now c.as_slice.result.now post.bytes (Err Failed) c.now.ensures
    c.as_str.ensures.text c.as_slice.ensures (rw c.in-Err-Failed.field-0-is at c.in-Err-Failed.ensures.told)))

pub returns-in-Err-NoMemory-clause-state : goal.returns-in-Err-NoMemory-clause-state
returns-in-Err-NoMemory-clause-state g c =
    let s = delivery_view c.self.inside in
    let post = c.in_ok-bytes in
    rw (← c.self.view_is)
    (is_refused c.args.who.now s post.bytes post.count (record {}) (subst (λ t. IsNextPost t post.bytes post.count) (sym c.self.view_is) post.ensures)
    (sends_at c.args.who.now s.ring c.now.result.now c.as_str.result.now c.as_slice.result.now post.bytes (Err NoMemory) c.now.ensures
    c.as_str.ensures.text c.as_slice.ensures (rw c.in-Err-NoMemory.field-0-is at c.in-Err-NoMemory.ensures.told)))
