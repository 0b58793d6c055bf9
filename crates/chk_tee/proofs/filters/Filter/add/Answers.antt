use Rattle.std.proofs.Common.{refl, Some}
use Rattle.chk_tee.proofs.FilterLemmas.{host_ok, kind_ok, name_ok, err_made, added_host, added_kind, added_name, added_none}
use Rattle.chk_tee.proofs.filters.Filter.add.Goals as goal

pub returns-in-Some-clause-ok : goal.returns-in-Some-clause-ok
returns-in-Some-clause-ok c =
    host_ok c.args.self.now c.args.part.now _ _ c.ask.result c.in-Some.ensures c.ask.ensures.ok c.ask.ensures.new

pub returns-in-Some-clause-err : goal.returns-in-Some-clause-err
returns-in-Some-clause-err c =
    let f = c.args.self.now in
    err_made f c.args.part.now _ c.args.at f.host (λ w. record { host = Some w; kind = f.kind; name = f.name }) c.ask.result
    (added_host f c.args.part.now _ c.in-Some.ensures) c.ask.ensures.err

pub returns-in-Some-behind-clause-ok : goal.returns-in-Some-behind-clause-ok
returns-in-Some-behind-clause-ok c =
    let a = c.ask-in-Some-behind in
    kind_ok c.args.self.now c.args.part.now _ _ a.result c.in_default.ensures c.in-Some-behind.ensures a.ensures.ok a.ensures.new

pub returns-in-Some-behind-clause-err : goal.returns-in-Some-behind-clause-err
returns-in-Some-behind-clause-err c =
    let f = c.args.self.now in
    let a = c.ask-in-Some-behind in
    err_made f c.args.part.now _ c.args.at f.kind (λ w. record { host = f.host; kind = Some w; name = f.name }) a.result
    (added_kind f c.args.part.now _ c.in_default.ensures c.in-Some-behind.ensures) a.ensures.err

pub returns-in-Some-behind-2-clause-ok : goal.returns-in-Some-behind-2-clause-ok
returns-in-Some-behind-2-clause-ok c =
    let a = c.ask-in-Some-behind-2 in
    name_ok c.args.self.now c.args.part.now _ _ a.result c.in_default.ensures c.in_default-behind.ensures c.in-Some-behind-2.ensures
    a.ensures.ok a.ensures.new

pub returns-in-Some-behind-2-clause-err : goal.returns-in-Some-behind-2-clause-err
returns-in-Some-behind-2-clause-err c =
    let f = c.args.self.now in
    let a = c.ask-in-Some-behind-2 in
    err_made f c.args.part.now _ c.args.at f.name (λ w. record { host = f.host; kind = f.kind; name = Some w }) a.result
    (added_name f c.args.part.now _ c.in_default.ensures c.in_default-behind.ensures c.in-Some-behind-2.ensures) a.ensures.err

pub returns-in_default-behind-2-clause-err : goal.returns-in_default-behind-2-clause-err
returns-in_default-behind-2-clause-err c = (
  added_none c.args.self.now c.args.part.now c.in_default.ensures c.in_default-behind.ensures c.in_default-behind-2.ensures,
  refl,
)
