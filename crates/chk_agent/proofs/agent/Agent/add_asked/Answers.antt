use Rattle.std.proofs.Common.{length, sym, ◌∙◌}
use Rattle.std.proofs.lemmas.Result.{err_from_is_err_and}
use Rattle.chk_agent.specs.Adds.{named_in, stream_in}
use Rattle.chk_agent.specs.Commands.{wanting, failed_add}
use Rattle.chk_agent.proofs.CommandingAdds.{may_take, refused_line, added_line}
use Rattle.chk_agent.proofs.NamingFirst.{a_name}
use Rattle.chk_agent.proofs.agent.Agent.add_asked.Goals as goal

pub returns-in_err-name-clause-state : goal.returns-in_err-name-clause-state
returns-in_err-name-clause-state g c line means =
    let p = err_from_is_err_and c.from_residual.result c.from_residual.ensures.1 in rw
    (p.1, p.2) wanting

pub returns-in-Some-clause-state : goal.returns-in-Some-clause-state
returns-in-Some-clause-state g c line means =
    refused_line line c.args.self.now c.args.given c.args.class c.args.kind.now c.args.path.now
    (a_name c.args.self.now c.refusal_of.ensures.few c.args.given).0 c.args.offset means
    c.in-Some.number c.answer.result _
    (a_name c.args.self.now c.refusal_of.ensures.few c.args.given).1
    (sym (c.refusal_of.ensures.refusal
    (a_name c.args.self.now c.refusal_of.ensures.few c.args.given).0
    (a_name c.args.self.now c.refusal_of.ensures.few c.args.given).1) ∙ c.in-Some.is)
    c.answer.ensures

pub returns-in_err-copy-clause-state : goal.returns-in_err-copy-clause-state
returns-in_err-copy-clause-state g c line means =
    let r = c.from_residual-in_err-copy in
    let p = err_from_is_err_and r.result r.ensures.1 in rw (p.1, p.2) wanting

pub returns-in_err-reply-clause-state : goal.returns-in_err-reply-clause-state
returns-in_err-reply-clause-state g c line means =
    let r = c.from_residual-in_err-reply in
    let p = err_from_is_err_and r.result r.ensures.1 in rw
    (p.1, p.2, c.in_err-reply.ensures) wanting

pub take_stream-requires-clause-may : goal.take_stream-requires-clause-may
take_stream-requires-clause-may g c =
    may_take (named_in c.in_ok-name.name 0 c.args.self.now.adaptors)
    (stream_in c.args.kind.now c.args.path.now 0 c.args.self.now.adaptors)
    (length c.args.self.now.adaptors) c.args.class c.args.offset
    (sym (c.refusal_of.ensures.refusal c.in_ok-name.name c.in_ok-name.ensures.name)
    ∙ c.in_default.is) c.refusal_of.ensures.few

pub returns-in_err-take_stream-clause-state : goal.returns-in_err-take_stream-clause-state
returns-in_err-take_stream-clause-state g c line means =
    let r = c.from_residual-in_err-take_stream in
    let p = err_from_is_err_and r.result r.ensures.1 in
    rw (p.1, p.2)
    (failed_add c.args.given c.args.class c.args.kind.now c.args.path.now c.in_ok-name.name c.args.offset
    c.in_err-take_stream.field-0.0 means
    c.in_ok-name.ensures.name
    (sym (c.refusal_of.ensures.refusal c.in_ok-name.name c.in_ok-name.ensures.name)
    ∙ c.in_default.is) c.in_err-take_stream.ensures.state)

pub returns-clause-state : goal.returns-clause-state
returns-clause-state g c line means =
    added_line line c.args.self.now c.args.given c.args.class c.args.kind.now c.args.path.now
    c.in_ok-name.name c.args.offset means
    c.in_ok-copy.field-0 c.in_ok-reply.reply c.take_stream.new.self _ _ c.in_ok-name.ensures.name
    (sym (c.refusal_of.ensures.refusal c.in_ok-name.name c.in_ok-name.ensures.name)
    ∙ c.in_default.is) c.in_ok-copy.ensures c.in_ok-reply.ensures
    c.in_ok-take_stream.ensures.state
