use Rattle.std.proofs.Common.{◌≡◌, ◌∙◌, [], ap, sym, get_or}
use Rattle.std.specs.Prelude.{Contains}
use Rattle.chk_site.proofs.Leads.{leads_none}
use Rattle.chk_record_index.specs.Heads.{Head}
use Rattle.chk_record_index.specs.Order.{no_head}
use Rattle.chk_record_reader.proofs.AllRead.{read_all, not_read_all}
use Rattle.chk_site.proofs.Runs.{adds_none}
use Rattle.chk_record_reader.proofs.Causes.{at_place, shows_one}
use Rattle.chk_record_reader.proofs.gathering.fetch.Goals as goal

pub returns-in-Some-clause-raw : goal.returns-in-Some-clause-raw
returns-in-Some-clause-raw g c most held few settled =
    let names = c.args.names.now in
    let w = c.as_str.result.now in
    let found = c.in-Some.ensures.lookup.3 in
    let one : Contains names w = (
      c.get.result.file,
      found.0,
      sym (c.as_str.ensures.text
          ∙ found.1 w),
    ) in
    let same = ap (λ (h : Head). h.file) c.get.ensures.head in
    let is : w ≡ get_or names (get_or c.args.heads.now c.args.index no_head).file [] =
    c.as_str.ensures.text ∙ (found.1 [] ∙ ap (λ n. get_or names n []) same) in
    read_all most names held c.args.heads.now c.args.index c.requires w one is c.args.reader.now
    c.fetch.new.self c.fetch.result
    (c.fetch.ensures.raw most (held w) few (settled w one).1)
    (λ v file. c.fetch.ensures.stays v file)

pub returns-in-None-clause-raw : goal.returns-in-None-clause-raw
returns-in-None-clause-raw g c most held few settled =
    not_read_all most c.args.names.now held c.args.heads.now
    (get_or c.args.heads.now c.args.index no_head) c.args.reader.now c.args.reader.now
    (g.S.Site.told c.args.site.now)

pub returns-in-None-clause-stays : goal.returns-in-None-clause-stays
returns-in-None-clause-stays g c other file = leads_none (g.S.Site.told c.args.site.now)
    (λ h x. tt)

pub returns-in-Some-clause-shown : goal.returns-in-Some-clause-shown
returns-in-Some-clause-shown g c =
    let names = c.args.names.now in
    let found = c.in-Some.ensures.lookup.3 in
    let same = ap (λ (h : Head). h.file) c.get.ensures.head in
    shows_one names c.args.heads.now c.as_str.result.now (get_or c.args.heads.now c.args.index no_head)
    (at_place c.args.heads.now c.args.index no_head c.requires) (c.as_str.ensures.text ∙ (found.1 [] ∙ ap (λ n. get_or names n []) same))
    c.fetch.result c.fetch.ensures.shown

pub returns-in-None-clause-shown : goal.returns-in-None-clause-shown
returns-in-None-clause-shown g c = adds_none _ _ (λ history. tt)
