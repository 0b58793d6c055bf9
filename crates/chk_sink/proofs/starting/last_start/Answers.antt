use Rattle.chk_site.specs.declared.acts.Call.TheVariants.{Start}
use Rattle.chk_sink.proofs.Owned.{reads_works}
use Rattle.chk_world.proofs.Working.{works_then}
use Rattle.chk_sink.proofs.Owning.{once_works, refused_by}
use Rattle.std.proofs.Common.{◌≡◌, ◌∙◌, ap, []}
use Rattle.chk_site.specs.declared.acts.OutsideFault.TheVariants.{NoMemory as no_memory}
use Rattle.chk_site.specs.Site.{asked}
use Rattle.chk_world.specs.Names.{BornFile, read}
use Rattle.chk_world.proofs.NameLemmas.{read-spell}
use Rattle.chk_site.proofs.Runs.{start_then}
use Rattle.chk_sink.proofs.StartShows.{begin_shows, read_shows, shows_then}
use Rattle.chk_sink.proofs.StartTold.{unbegun_told, looked_told, start_begun, if_ok}
use Rattle.chk_sink.proofs.starting.last_start.Goals as goal

pub returns-in_err-begin-clause-told : goal.returns-in_err-begin-clause-told
returns-in_err-begin-clause-told g c stamped =
    rw (refused_by c.from_residual.ensures.1)
    (unbegun_told stamped c.in_err-begin.field-0.0 c.args.who.now c.requires.role c.requires.collector c.in_err-begin.ensures.told)

pub returns-in_err-begin-clause-shown : goal.returns-in_err-begin-clause-shown
returns-in_err-begin-clause-shown g c =
    rw (refused_by c.from_residual.ensures.1) (begin_shows c.args.who.now c.args.name.now c.begin.result c.in_err-begin.field-0.0 c.begin.ensures.told)

pub returns-clause-told : goal.returns-clause-told
returns-clause-told g c stamped =
    looked_told stamped c.args.name.now _ c.read_number.result c.args.who.now c.requires.role c.requires.collector c.requires.name
    c.in_ok-begin.ensures.told c.read_number.ensures.told

pub returns-clause-shown : goal.returns-clause-shown
returns-clause-shown g c =
    let name = c.args.name.now in
    let reads : read name ≡ BornFile c.args.who.now.name = ap read c.requires.name ∙ read-spell (BornFile c.args.who.now.name) c.requires.collector in
    shows_then name c.read_number.result
    (begin_shows c.args.who.now name c.begin.result no_memory c.begin.ensures.told)
    (read_shows c.args.who.now name reads c.read_number.result c.read_number.ensures.told)

pub returns-clause-starts : goal.returns-clause-starts
returns-clause-starts g c =
    if_ok _ c.read_number.result (start_then c.args.who.now (start_begun c.args.who.now c.in_ok-begin.ensures.told) c.read_number.ensures.told.told)

pub returns-in_err-begin-clause-own : goal.returns-in_err-begin-clause-own
returns-in_err-begin-clause-own g c =
    rw (refused_by c.from_residual.ensures.1) (once_works (asked c.args.who.now Start [] 0 0) c.begin.result _ c.in_err-begin.was tt c.begin.ensures.told)

pub returns-clause-own : goal.returns-clause-own
returns-clause-own g c =
    works_then (once_works (asked c.args.who.now Start [] 0 0) c.begin.result _ c.in_ok-begin.was tt c.begin.ensures.told)
    (reads_works c.args.who.now c.args.name.now c.read_number.result c.requires.name c.read_number.ensures.told)
