use Rattle.chk_site.proofs.Leads.{leads_as}
use Rattle.chk_archive_parts.proofs.shelf.Shelf.fill.Goals as goal

pub returns-clause-raw : goal.returns-clause-raw
returns-clause-raw g c v cs records =
    let files = c.args.files.now in
    let heads = c.args.heads.now in
    leads_as (λ h k. (k.0, c.open.ensures v files heads (record { windows = k.1.windows; slots = k.1.slots }))) (λ h k. k)
    (c.gather.ensures.raw v cs records)
