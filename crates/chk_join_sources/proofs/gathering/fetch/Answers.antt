use Rattle.std.proofs.Common.{◌≡◌, ◌∙◌, [], ap, sym, get_or}
use Rattle.std.specs.Prelude.{Contains}
use Rattle.chk_record_index.specs.Heads.{Head}
use Rattle.chk_record_index.specs.Order.{no_head}
use Rattle.chk_join_sources.proofs.OneFetch.{one_fetched, none_fetched}
use Rattle.chk_join_sources.proofs.gathering.fetch.Goals as goal

pub returns-in-Some-clause-raw : goal.returns-in-Some-clause-raw
returns-in-Some-clause-raw g c most all held few settled within known windows =
    let names = c.args.side.now.names.now in
    let heads = c.args.side.now.heads.now in
    let w = c.as_str.result.now in
    let found = c.in-Some.ensures.lookup.3 in
    let one : Contains names w = (c.get.result.file, found.0, sym (c.as_str.ensures.text ∙ found.1 w)) in
    let same = ap (λ (h : Head). h.file) c.get.ensures.head in
    let is : w ≡ get_or names (get_or heads c.args.index no_head).file [] =
    c.as_str.ensures.text ∙ (found.1 [] ∙ ap (λ n. get_or names n []) same) in
    one_fetched most all names held settled within heads known c.args.index c.requires.index w one is c.args.reader.now
    c.fetch.new.self windows c.fetch.result (c.fetch.ensures.raw most (held w) few (settled w (within w one)).1)
    (c.fetch.ensures.own c.requires.job)

pub returns-in-None-clause-raw : goal.returns-in-None-clause-raw
returns-in-None-clause-raw g c most all held few settled within known windows =
    none_fetched all c.args.side.now.names.now held (get_or c.args.side.now.heads.now c.args.index no_head) c.args.reader.now
    (g.S.Site.told c.args.site.now)
