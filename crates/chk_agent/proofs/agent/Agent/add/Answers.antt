use Rattle.std.proofs.Common.{◌≡◌, ◌≢◌, Option, ◌∙◌, ◌<◌, ap, sym, subst, refl, true, false, length}
use Rattle.std.proofs.Common.{arith, rules, Some, None, Ok}
use Rattle.std.specs.Prelude.{slice_get}
use Rattle.std.proofs.lemmas.Option.{same_Some}
use Rattle.std.proofs.lemmas.Result.{err_from_is_err_and}
use Rattle.chk_agent_adaptor.specs.Adaptors.{Adaptor, is_past}
use Rattle.chk_agent.specs.declared.answers.Added.TheVariants.{New, Live as live_already}
use Rattle.chk_agent.specs.States.{State}
use Rattle.chk_agent.specs.Fields.{agent_view}
use Rattle.chk_agent.specs.Adds.{Found, IsAdded, MayTake, stream_in, live, too_many}
use Rattle.chk_agent.proofs.Soundness.{below_at}
use Rattle.chk_agent.proofs.AddingFound.{found_of, none_of, added_as, refused_as}
use Rattle.chk_agent.proofs.agent.Agent.add.Goals as goal

pub at-adaptor-requires : goal.at-adaptor-requires
at-adaptor-requires g c =
    let s = agent_view c.self.inside in
    let kind = c.args.kind.now in
    let path = c.args.path.now in
    let f = found_of kind path c.args.self.now.adaptors c.in-Some.place (sym c.in-Some.is ∙ c.find_stream-found.ensures) in
    let here : slice_get s.adaptors c.in-Some.place ≡ Some f.found.adaptor =
    ap (λ (t : State). slice_get t.adaptors c.in-Some.place) c.self.view_is ∙ f.there in
    let below = below_at s.adaptors c.in-Some.place f.found.adaptor here in
    below

pub returns-then-not-is_past-clause-state : goal.returns-then-not-is_past-clause-state
returns-then-not-is_past-clause-state g c =
    let s = agent_view c.self.inside in
    let kind = c.args.kind.now in
    let path = c.args.path.now in
    let f = found_of kind path c.args.self.now.adaptors c.in-Some.place (sym c.in-Some.is ∙ c.find_stream-found.ensures) in
    let here : slice_get s.adaptors c.in-Some.place ≡ Some f.found.adaptor =
    ap (λ (t : State). slice_get t.adaptors c.in-Some.place) c.self.view_is ∙ f.there in
    let same : c.at-adaptor.result.now ≡ f.found.adaptor =
    same_Some c.at-adaptor.result.now f.found.adaptor (sym c.at-adaptor.ensures ∙ here) in
    let seen : is_past c.at-adaptor.result.now.phase ≡ false = search rules in
    let going : is_past f.found.adaptor.phase ≡ false = ap (λ (x : Adaptor). is_past x.phase) (sym same) ∙ seen in
    let now = g.S.Site.told c.args.site.now in
    subst (λ n. IsAdded c.args.class kind path c.args.self.now (Ok (live_already n)) c.args.self.now now now) f.number
    (live f.found f.is going)

pub take_named-requires-clause-may : goal.take_named-requires-clause-may
take_named-requires-clause-may g c =
    let s = agent_view c.self.inside in
    let kind = c.args.kind.now in
    let path = c.args.path.now in
    let f = found_of kind path c.args.self.now.adaptors c.in-Some.place (sym c.in-Some.is ∙ c.find_stream-found.ensures) in
    let here : slice_get s.adaptors c.in-Some.place ≡ Some f.found.adaptor =
    ap (λ (t : State). slice_get t.adaptors c.in-Some.place) c.self.view_is ∙ f.there in
    let same : c.at-adaptor.result.now ≡ f.found.adaptor =
    same_Some c.at-adaptor.result.now f.found.adaptor (sym c.at-adaptor.ensures ∙ here) in
    let seen : is_past c.at-adaptor.result.now.phase ≡ true = search rules in
    let past : is_past f.found.adaptor.phase ≡ true = ap (λ (x : Adaptor). is_past x.phase) (sym same) ∙ seen in
    subst (λ (o : Option Found). MayTake o (length c.args.self.now.adaptors)) (sym f.is) past

pub returns-in_err-take_named-in-Some-clause-state : goal.returns-in_err-take_named-in-Some-clause-state
returns-in_err-take_named-in-Some-clause-state g c =
    let s = agent_view c.self.inside in
    let kind = c.args.kind.now in
    let path = c.args.path.now in
    let f = found_of kind path c.args.self.now.adaptors c.in-Some.place (sym c.in-Some.is ∙ c.find_stream-found.ensures) in
    let here : slice_get s.adaptors c.in-Some.place ≡ Some f.found.adaptor =
    ap (λ (t : State). slice_get t.adaptors c.in-Some.place) c.self.view_is ∙ f.there in
    let same : c.at-adaptor.result.now ≡ f.found.adaptor =
    same_Some c.at-adaptor.result.now f.found.adaptor (sym c.at-adaptor.ensures ∙ here) in
    let seen : is_past c.at-adaptor.result.now.phase ≡ true = search rules in
    let past : is_past f.found.adaptor.phase ≡ true = ap (λ (x : Adaptor). is_past x.phase) (sym same) ∙ seen in
    let class : c.class-class.result ≡ f.found.adaptor.class = c.class-class.ensures ∙ ap (λ (x : Adaptor). x.class) same in
    let p = err_from_is_err_and c.from_residual.result c.from_residual.ensures.1 in
    rw (p.1, p.2)
    (refused_as c.args.class kind path c.args.self.now (Some f.found) f.is past c.class-class.result class c.in_err-take_named-in-Some.field-0.0
    c.take_named.new.self (g.S.Site.told c.args.site.now) (g.S.Site.told c.take_named.new.site) c.in_err-take_named-in-Some.ensures.state)

pub returns-then-count-eq-MOST_LINES-clause-state : goal.returns-then-count-eq-MOST_LINES-clause-state
returns-then-count-eq-MOST_LINES-clause-state g c =
    let kind = c.args.kind.now in
    let path = c.args.path.now in
    let s = c.args.self.now in
    let none = none_of (stream_in kind path 0 s.adaptors) (sym c.in-None.is ∙ c.find_stream-found.ensures) in
    let size = ap (λ (t : State). length t.adaptors) c.self.view_is in
    let number : c.len-count.result ≡ length s.adaptors = c.len-count.ensures.len ∙ size in
    let full : c.len-count.result ≡ 10000 = search rules in
    too_many none (sym number ∙ full)

pub returns-in_err-take_named-in-None-clause-state : goal.returns-in_err-take_named-in-None-clause-state
returns-in_err-take_named-in-None-clause-state g c =
    let kind = c.args.kind.now in
    let path = c.args.path.now in
    let s = c.args.self.now in
    let none = none_of (stream_in kind path 0 s.adaptors) (sym c.in-None.is ∙ c.find_stream-found.ensures) in
    let size = ap (λ (t : State). length t.adaptors) c.self.view_is in
    let number : c.len-count.result ≡ length s.adaptors = c.len-count.ensures.len ∙ size in
    let few = c.self.invariant.sound.few in
    let other : c.len-count.result ≢ 10000 = search rules in
    let room : length s.adaptors < 10000 = grind (arith, number, few, other, size) in
    let r = c.from_residual-in_err-take_named-in-None in
    let p = err_from_is_err_and r.result r.ensures.1 in
    rw (p.1, p.2)
    (refused_as c.args.class kind path s None none room c.args.class refl c.in_err-take_named-in-None.field-0.0
    c.take_named-in-None.new.self (g.S.Site.told c.args.site.now) (g.S.Site.told c.take_named-in-None.new.site)
    c.in_err-take_named-in-None.ensures.state)

pub returns-in_ok-take_named-in-Some-clause-state : goal.returns-in_ok-take_named-in-Some-clause-state
returns-in_ok-take_named-in-Some-clause-state g c =
    let s = agent_view c.self.inside in
    let kind = c.args.kind.now in
    let path = c.args.path.now in
    let f = found_of kind path c.args.self.now.adaptors c.in-Some.place (sym c.in-Some.is ∙ c.find_stream-found.ensures) in
    let here : slice_get s.adaptors c.in-Some.place ≡ Some f.found.adaptor =
    ap (λ (t : State). slice_get t.adaptors c.in-Some.place) c.self.view_is ∙ f.there in
    let same : c.at-adaptor.result.now ≡ f.found.adaptor =
    same_Some c.at-adaptor.result.now f.found.adaptor (sym c.at-adaptor.ensures ∙ here) in
    let seen : is_past c.at-adaptor.result.now.phase ≡ true = search rules in
    let past : is_past f.found.adaptor.phase ≡ true = ap (λ (x : Adaptor). is_past x.phase) (sym same) ∙ seen in
    let class : c.class-class.result ≡ f.found.adaptor.class = c.class-class.ensures ∙ ap (λ (x : Adaptor). x.class) same in
    let old = g.S.Site.told c.args.site.now in
    let new = g.S.Site.told c.take_named.new.site in
    subst (λ n. IsAdded c.args.class kind path c.args.self.now (Ok (New n)) c.take_named.new.self old new) f.number
    (added_as c.args.class kind path c.args.self.now (Some f.found) f.is past c.class-class.result class c.take_named.new.self old new
    c.in_ok-take_named-in-Some.ensures.state)

pub returns-in_ok-take_named-in-None-clause-state : goal.returns-in_ok-take_named-in-None-clause-state
returns-in_ok-take_named-in-None-clause-state g c =
    let kind = c.args.kind.now in
    let path = c.args.path.now in
    let s = c.args.self.now in
    let none = none_of (stream_in kind path 0 s.adaptors) (sym c.in-None.is ∙ c.find_stream-found.ensures) in
    let size = ap (λ (t : State). length t.adaptors) c.self.view_is in
    let number : c.len-count.result ≡ length s.adaptors = c.len-count.ensures.len ∙ size in
    let few = c.self.invariant.sound.few in
    let other : c.len-count.result ≢ 10000 = search rules in
    let room : length s.adaptors < 10000 = grind (arith, number, few, other, size) in
    let old = g.S.Site.told c.args.site.now in
    let new = g.S.Site.told c.take_named-in-None.new.site in
    subst (λ n. IsAdded c.args.class kind path s (Ok (New n)) c.take_named-in-None.new.self old new) (sym number)
    (added_as c.args.class kind path s None none room c.args.class refl c.take_named-in-None.new.self old new
    c.in_ok-take_named-in-None.ensures.state)
