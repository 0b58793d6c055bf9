use Rattle.std.proofs.Common.{◌∙◌, sym, subst, length, Option}
use Rattle.chk_agent.specs.Adds.{Found, MayTake, TakesStream, stream_in}
use Rattle.chk_agent.proofs.AddingFound.{found_of, none_of, takes_past}
use Rattle.chk_agent.proofs.agent.Agent.take_stream.Goals as goal

pub take_past-requires-clause-there : goal.take_past-requires-clause-there
take_past-requires-clause-there g c =
    let f = found_of c.args.kind.now c.args.path.now c.args.self.now.adaptors c.in-Some.place (sym c.in-Some.is ∙ c.requires.found) in
    (f.found.adaptor, f.there, subst (λ (o : Option Found). MayTake o (length c.args.self.now.adaptors)) f.is c.requires.may)

pub returns-in-Some-clause-state : goal.returns-in-Some-clause-state
returns-in-Some-clause-state g c =
    let f = found_of c.args.kind.now c.args.path.now c.args.self.now.adaptors c.in-Some.place (sym c.in-Some.is ∙ c.requires.found) in
    subst
    (λ (o : Option Found). TakesStream c.args.self.now c.args.name c.args.class c.args.kind.now c.args.path.now c.args.start o c.take_past.result
    c.take_past.new.self (g.S.Site.told c.args.site.now) (g.S.Site.told c.take_past.new.site)) (sym f.is)
    (takes_past c.args.self.now c.args.name c.args.class c.args.kind.now c.args.path.now c.args.start c.in-Some.place f.found f.number
    (c.take_past.ensures.state f.found.adaptor f.there))

pub returns-in-None-clause-state : goal.returns-in-None-clause-state
returns-in-None-clause-state g c =
    subst
    (λ (o : Option Found). TakesStream c.args.self.now c.args.name c.args.class c.args.kind.now c.args.path.now c.args.start o c.take_new.result
    c.take_new.new.self (g.S.Site.told c.args.site.now) (g.S.Site.told c.take_new.new.site))
    (sym (none_of (stream_in c.args.kind.now c.args.path.now 0 c.args.self.now.adaptors) (sym c.in-None.is ∙ c.requires.found)))
    c.take_new.ensures.state
