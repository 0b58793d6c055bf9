use Rattle.std.proofs.Common.{◌≡◌, ◌∙◌, [], ap, subst}
use Rattle.std.specs.Prelude.{slice_index_or}
use Rattle.chk_site.specs.Site.{Adds}
use Rattle.chk_site.specs.Runs.{Leads, anyhow}
use Rattle.chk_site.proofs.Leads.{leads_none}
use Rattle.chk_world.specs.JobSteps.{SparesFile}
use Rattle.chk_record_index.specs.Heads.{Head}
use Rattle.chk_archive_plan.specs.Passes.{head_in}
use Rattle.chk_record_reader.specs.ReadBack.{CanRead, HasRead}
use Rattle.chk_archive_parts.specs.Fetching.{head_file}
use Rattle.chk_archive_parts.proofs.Fetches.{fetched}
use Rattle.chk_record_index.specs.Order.{no_head}
use Rattle.chk_site.proofs.Runs.{adds_none}
use Rattle.chk_record_reader.proofs.Causes.{at_place, shows_one}
use Rattle.chk_archive_parts.proofs.fetching.fetch_by_head.Goals as goal

pub returns-in-Some-clause-raw : goal.returns-in-Some-clause-raw
returns-in-Some-clause-raw g c v d sound is =
    let files = c.args.files.now in
    let heads = c.args.heads.now in
    let h : Head = head_in heads c.args.index in
    let r = c.args.reader.now in
    let t = c.fetch_by_head.new.self in
    let name : c.as_str.result.now ≡ head_file files heads c.args.index = c.as_str.ensures.text
    ∙ (c.in-Some.ensures.lookup.3.1 [] ∙ ap (λ (x : Head). slice_index_or files x.file []) c.requires.head) in
    fetched v files heads c.args.index d sound is r t c.fetch_by_head.result
    (λ most f low small.
    subst (λ w. Adds (g.S.Site.told c.args.site.now) (g.S.Site.told c.fetch_by_head.new.site)
    (Leads (anyhow (SparesFile w)) (CanRead most w f h r) (HasRead w f h t c.fetch_by_head.result))) name
    (c.fetch_by_head.ensures.raw most f low small))

pub returns-in-None-clause-stays : goal.returns-in-None-clause-stays
returns-in-None-clause-stays g c other file = leads_none (g.S.Site.told c.args.site.now) (λ h k. tt)

pub returns-in-Some-clause-shown : goal.returns-in-Some-clause-shown
returns-in-Some-clause-shown g c =
    let files = c.args.files.now in
    let heads = c.args.heads.now in
    shows_one files heads c.as_str.result.now (head_in heads c.args.index) (at_place heads c.args.index no_head c.requires.index)
    (c.as_str.ensures.text ∙ (c.in-Some.ensures.lookup.3.1 [] ∙ ap (λ (x : Head). slice_index_or files x.file []) c.requires.head))
    c.fetch_by_head.result c.fetch_by_head.ensures.shown

pub returns-in-None-clause-shown : goal.returns-in-None-clause-shown
returns-in-None-clause-shown g c = adds_none _ _ (λ history. tt)
