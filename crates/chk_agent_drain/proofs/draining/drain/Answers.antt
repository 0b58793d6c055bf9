use Rattle.std.proofs.Common.{Err, ap, sym, subst, ◌∙◌}
use Rattle.std.proofs.lemmas.Result.{err_from_is_err_and}
use Rattle.chk_agent.specs.States.{State}
use Rattle.chk_agent_drain.proofs.DrainingAll.{EndedSo, delivered_ready, delivering_ended, done_cause, done_last, done_ready, done_state, done_told, read_ready, reading_ended, settling_ended}
use Rattle.chk_agent_drain.proofs.draining.drain.Goals as goal

pub read_all-requires : goal.read_all-requires
read_all-requires g c = record {
  ready = ap (λ (k : State). k.ready) c.first_address.ensures ∙ c.requires.ready;
  some = c.requires.a_read;
}

pub deliver-requires : goal.deliver-requires
deliver-requires g c = record {
  ready = read_ready c.args.now c.args.reads c.args.polls c.args.agent.now c.first_address.new.self
      c.read_all.new.agent
      c.first_address.ensures c.read_all.result c.read_all.ensures.part c.in_default.is ∙
      c.requires.ready;
}

pub settle-requires : goal.settle-requires
settle-requires g c = record {
  ready = delivered_ready c.args.now c.args.reads c.args.polls c.args.agent.now
      c.first_address.new.self c.read_all.new.agent
      c.first_address.ensures c.read_all.result c.read_all.ensures.part c.in_default.is
      c.deliver.new.agent c.deliver.result c.deliver.ensures c.in_default-deliver.is ∙
      c.requires.ready;
}

pub returns-in-Some : goal.returns-in-Some
returns-in-Some g c =
    let e = reading_ended c.args.now c.args.reads c.args.polls c.args.agent.now
    c.first_address.new.self c.read_all.new.agent
    c.first_address.ensures c.read_all.result c.read_all.ensures.part c.in-Some.end c.in-Some.is in
    record {
      state = e.state;
      told = e.told;
      ready = e.ready c.requires.ready;
      undamaged = e.undamaged;
      last = e.last;
      cause = e.cause;
    }

pub returns-in-Some-deliver : goal.returns-in-Some-deliver
returns-in-Some-deliver g c =
    let e = delivering_ended c.args.now c.args.reads c.args.polls c.args.agent.now
    c.first_address.new.self c.read_all.new.agent
    c.first_address.ensures c.read_all.result c.read_all.ensures.part c.in_default.is
    c.deliver.new.agent c.deliver.result c.deliver.ensures c.in-Some-deliver.end
    c.in-Some-deliver.is in
    record {
      state = e.state;
      told = e.told;
      ready = e.ready c.requires.ready;
      undamaged = e.undamaged;
      last = e.last;
      cause = e.cause;
    }

pub returns-in_err-_settled : goal.returns-in_err-_settled
returns-in_err-_settled g c =
    let p = err_from_is_err_and c.from_residual.result c.from_residual.ensures.1 in
    let e = subst (λ r. EndedSo c.args.now c.args.reads c.args.polls c.args.agent.now r
    c.settle.new.self
    (g.S.Site.told c.args.site.now) (g.S.Site.told c.settle.new.site)
    (g.S.Site.fault_count c.args.site.now)
    (g.S.Site.fault_count c.settle.new.site)) (sym (p.1 ∙ ap Err p.2))
    (settling_ended c.args.now c.args.reads c.args.polls c.args.agent.now c.first_address.new.self
    c.read_all.new.agent
    c.first_address.ensures c.read_all.result c.read_all.ensures.part c.in_default.is
    c.deliver.new.agent c.deliver.result c.deliver.ensures c.in_default-deliver.is
    c.settle.new.self (g.S.Site.fault_count c.settle.new.site) c.settle.result
    c.settle.ensures.state c.settle.ensures.told c.in_err-_settled.field-0.0 c.in_err-_settled.was
    c.settle.ensures.undamaged c.settle.ensures.last c.settle.ensures.cause) in
    record {
      state = e.state;
      told = e.told;
      ready = e.ready c.requires.ready;
      undamaged = e.undamaged;
      last = e.last;
      cause = e.cause;
    }

pub returns : goal.returns
returns g c = record {
  state = done_state c.args.now c.args.reads c.args.polls c.args.agent.now c.first_address.new.self
      c.read_all.new.agent
      c.first_address.ensures c.read_all.result c.read_all.ensures.part c.in_default.is
      c.deliver.new.agent c.deliver.result c.deliver.ensures c.in_default-deliver.is
      c.settle.new.self (g.S.Site.fault_count c.settle.new.site) c.settle.result
      c.settle.ensures.state c.settle.ensures.told
      c.in_ok-_settled._settled c.in_ok-_settled.was;
  told = λ stamped. done_told c.args.now c.args.reads c.args.polls c.args.agent.now
      c.first_address.new.self c.read_all.new.agent
      c.first_address.ensures c.read_all.result c.read_all.ensures.part c.in_default.is
      c.deliver.new.agent c.deliver.result c.deliver.ensures c.in_default-deliver.is
      c.settle.new.self (g.S.Site.fault_count c.settle.new.site) c.settle.result
      c.settle.ensures.state c.settle.ensures.told
      c.in_ok-_settled._settled c.in_ok-_settled.was stamped (c.read_all.ensures.told stamped);
  ready = done_ready c.args.now c.args.reads c.args.polls c.args.agent.now c.first_address.new.self
      c.read_all.new.agent
      c.first_address.ensures c.read_all.result c.read_all.ensures.part c.in_default.is
      c.deliver.new.agent c.deliver.result c.deliver.ensures c.in_default-deliver.is
      c.settle.new.self (g.S.Site.fault_count c.settle.new.site) c.settle.result
      c.settle.ensures.state c.settle.ensures.told
      c.in_ok-_settled._settled c.in_ok-_settled.was c.requires.ready;
  undamaged = tt;
  last = done_last c.args.now c.args.reads c.args.polls c.args.agent.now c.first_address.new.self
      c.read_all.new.agent
      c.first_address.ensures c.read_all.result c.read_all.ensures.part c.in_default.is
      c.deliver.new.agent c.deliver.result c.deliver.ensures c.in_default-deliver.is
      c.settle.new.self (g.S.Site.fault_count c.settle.new.site) c.settle.result
      c.settle.ensures.state c.settle.ensures.told
      c.in_ok-_settled._settled c.in_ok-_settled.was;
  cause = done_cause c.args.now c.args.reads c.args.polls c.args.agent.now c.first_address.new.self
      c.read_all.new.agent
      c.first_address.ensures c.read_all.result c.read_all.ensures.part c.in_default.is
      c.deliver.new.agent c.deliver.result c.deliver.ensures c.in_default-deliver.is
      c.settle.new.self (g.S.Site.fault_count c.settle.new.site) c.settle.result
      c.settle.ensures.state c.settle.ensures.told
      c.in_ok-_settled._settled c.in_ok-_settled.was c.settle.ensures.cause;
}
