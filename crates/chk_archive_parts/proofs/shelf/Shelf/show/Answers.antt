use Rattle.std.proofs.Common.{◌∙◌, ap}
use Rattle.std.specs.Prelude.{slice_index_or}
use Rattle.chk_site.proofs.Leads.{leads_as, leads_none}
use Rattle.chk_archive_parts.specs.Cuts.{no_chunk}
use Rattle.chk_archive_parts.specs.Shelves.{value_kept}
use Rattle.chk_archive_parts.proofs.Among.{record_at}
use Rattle.chk_archive_parts.proofs.ManyFiles.{fetch_all}
use Rattle.chk_archive_parts.proofs.Shelved.{value_is, shown_so}
use Rattle.chk_archive_parts.proofs.shelf.Shelf.show.Goals as goal

pub returns-then-find-clause-raw : goal.returns-then-find-clause-raw
returns-then-find-clause-raw g c v cs records =
    let files = c.args.files.now in
    let heads = c.args.heads.now in
    leads_none (g.S.Site.told c.args.site.now)
    (λ h k. (
      (k.0, c.find.ensures.kept v files heads k.1),
      c.find.ensures.found c.if-find.true v files heads k.1
          ∙ value_is v files heads cs records c.args.index c.requires.index,
    ))

pub returns-clause-raw : goal.returns-clause-raw
returns-clause-raw g c v cs records =
    let files = c.args.files.now in
    let heads = c.args.heads.now in
    let i = c.args.index in
    let d = slice_index_or cs i no_chunk in
    let is = record_at v files heads cs records i c.requires.index in
    let s = c.find.new.self in
    let q = c.fetch.new.reader in
    leads_as (λ h k. (k.0, c.find.ensures.kept v files heads k.1)) (λ h k. k)
    (shown_so v files heads cs records i c.requires.index s q c.fetch.result
    (fetch_all v files heads i d records.sound is s.reader q c.fetch.result (c.fetch.ensures.raw v d records.sound is)
    c.fetch.ensures.stays)
    (record s { reader = q; within = _ }) (λ w k. record { windows = w; slots = k.slots })
    (ap (λ b. value_kept (record s { reader = q; is_held = b })) (c.find.ensures.lost c.if-find.false)))
