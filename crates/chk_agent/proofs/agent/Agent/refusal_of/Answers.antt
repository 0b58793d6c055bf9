use Rattle.std.proofs.Common.{◌≡◌, Some, None, length, ap, sym, ◌∙◌, arith}
use Rattle.std.specs.Prelude.{slice_get}
use Rattle.std.proofs.lemmas.Option.{same_Some}
use Rattle.chk_agent_adaptor.specs.Adaptors.{Adaptor}
use Rattle.chk_agent.specs.States.{State}
use Rattle.chk_agent.specs.Adds.{named_in, stream_in}
use Rattle.chk_agent.specs.Commands.{add_refusal}
use Rattle.chk_agent.proofs.AddingFound.{found_of}
use Rattle.chk_agent.proofs.Soundness.{below_at}
use Rattle.chk_agent.proofs.CommandingAdds.{refused_there, none_named}
use Rattle.chk_agent.proofs.agent.Agent.refusal_of.Goals as goal

pub at-requires : goal.at-requires
at-requires c =
    let f = found_of c.args.kind.now c.args.path.now c.args.self.now.adaptors c.in-Some.place
    (sym c.in-Some.is ∙ c.requires) in
    let below = below_at c.args.self.now.adaptors c.in-Some.place f.found.adaptor f.there in
    let same = ap (λ (k : State). length k.adaptors) c.self.view_is in omega (arith, below, same)

pub returns-in-Some-clause-refusal : goal.returns-in-Some-clause-refusal
returns-in-Some-clause-refusal c name good =
    let xs = c.args.self.now.adaptors in
    let f = found_of c.args.kind.now c.args.path.now xs c.in-Some.place
    (sym c.in-Some.is ∙ c.requires) in
    let here : slice_get xs c.in-Some.place ≡ Some c.at.result.now =
    sym (ap (λ (k : State). slice_get k.adaptors c.in-Some.place) c.self.view_is) ∙ c.at.ensures in
    let same : c.at.result.now ≡ f.found.adaptor =
    same_Some c.at.result.now f.found.adaptor (sym here ∙ f.there) in
    let free : named_in name 0 xs ≡ None =
    none_named (named_in name 0 xs) (sym c.if-is_taken.false ∙ c.is_taken.ensures name good) in
    refused_there (named_in name 0 xs) xs (stream_in c.args.kind.now c.args.path.now 0 xs)
    c.in-Some.place f.found c.args.class c.args.offset c.refusal_by.result free f.is
    (λ i count. c.refusal_by.ensures.refusal i count
    ∙ ap (λ (a : Adaptor). add_refusal None
    (Some (record { number = i; adaptor = a })) count c.args.class c.args.offset) same)
