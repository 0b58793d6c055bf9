use Rattle.std.proofs.Common.{Ok, Err, length, ap, sym, subst, ◌∙◌}
use Rattle.std.proofs.lemmas.Result.{err_from_is_err_and}
use Rattle.chk_site.specs.declared.acts.CallFault.TheVariants.{Failed, NoMemory}
use Rattle.chk_http_grammar.specs.Messages.{WrittenPoll}
use Rattle.chk_agent_delivery.specs.States.{State}
use Rattle.chk_agent_delivery.specs.Turns.{asked_stems}
use Rattle.chk_agent_delivery.specs.Fields.{delivery_view}
use Rattle.chk_agent_delivery.specs.Scripts.{unsent, failed, refused}
use Rattle.chk_agent_delivery.proofs.PostStates.{sends_at}
use Rattle.chk_agent_delivery.proofs.PollStates.{is_poll, is_sent}
use Rattle.chk_agent_delivery.proofs.delivery.Delivery.send_poll.Goals as goal

pub returns-in_err-bytes-clause-state : goal.returns-in_err-bytes-clause-state
returns-in_err-bytes-clause-state g c =
    let p = err_from_is_err_and c.from_residual.result c.from_residual.ensures.1 in
    rw p.1 (unsent p.0)

pub returns-in-Ok-clause-state : goal.returns-in-Ok-clause-state
returns-in-Ok-clause-state g c =
    let s = delivery_view c.self.inside in
    let stems = c.args.stems.items in
    let are = c.requires.asked ∙ ap (λ (t : State). asked_stems t.table) (sym c.self.view_is) in
    rw (← c.self.view_is)
    (is_sent c.args.who.now s c.in_ok-bytes.bytes stems _ c.in-Ok.message are (ap length c.as_slice.ensures.value)
    (is_poll s c.now.result.now c.as_str-address.result.now c.in_ok-bytes.bytes stems are c.now.ensures c.as_str-address.ensures.text
    (subst (λ xs. WrittenPoll c.as_str-address.result.now xs c.in_ok-bytes.bytes) c.as_slice-2.ensures.value c.in_ok-bytes.ensures.written))
    (sends_at c.args.who.now s.ring c.now.result.now c.as_str-address.result.now c.as_slice-3.result.now c.in_ok-bytes.bytes (Ok c.in-Ok.message)
    c.now.ensures c.as_str-address.ensures.text c.as_slice-3.ensures c.in-Ok.ensures.told))

pub returns-in-Err-Failed-clause-state : goal.returns-in-Err-Failed-clause-state
returns-in-Err-Failed-clause-state g c =
    let s = delivery_view c.self.inside in
    let stems = c.args.stems.items in
    let are = c.requires.asked ∙ ap (λ (t : State). asked_stems t.table) (sym c.self.view_is) in
    rw (← c.self.view_is, c.failed.ensures.turned)
    (failed c.in_ok-bytes.bytes
    (is_poll s c.now.result.now c.as_str-address.result.now c.in_ok-bytes.bytes stems are c.now.ensures c.as_str-address.ensures.text
    (subst (λ xs. WrittenPoll c.as_str-address.result.now xs c.in_ok-bytes.bytes) c.as_slice-2.ensures.value c.in_ok-bytes.ensures.written))
    (sends_at c.args.who.now s.ring c.now.result.now c.as_str-address.result.now c.as_slice-3.result.now c.in_ok-bytes.bytes (Err Failed)
    c.now.ensures c.as_str-address.ensures.text c.as_slice-3.ensures (rw c.in-Err-Failed.field-0-is at c.in-Err-Failed.ensures.told)))

pub returns-in-Err-NoMemory-clause-state : goal.returns-in-Err-NoMemory-clause-state
returns-in-Err-NoMemory-clause-state g c =
    let s = delivery_view c.self.inside in
    let stems = c.args.stems.items in
    let are = c.requires.asked ∙ ap (λ (t : State). asked_stems t.table) (sym c.self.view_is) in
    rw (← c.self.view_is)
    (refused (record {}) c.in_ok-bytes.bytes
    (is_poll s c.now.result.now c.as_str-address.result.now c.in_ok-bytes.bytes stems are c.now.ensures c.as_str-address.ensures.text
    (subst (λ xs. WrittenPoll c.as_str-address.result.now xs c.in_ok-bytes.bytes) c.as_slice-2.ensures.value c.in_ok-bytes.ensures.written))
    (sends_at c.args.who.now s.ring c.now.result.now c.as_str-address.result.now c.as_slice-3.result.now c.in_ok-bytes.bytes (Err NoMemory)
    c.now.ensures c.as_str-address.ensures.text c.as_slice-3.ensures (rw c.in-Err-NoMemory.field-0-is at c.in-Err-NoMemory.ensures.told)))
