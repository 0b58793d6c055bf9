use Rattle.std.proofs.Common.{◌≡◌, refl}
use Rattle.chk_world.specs.Sight.{job}
use Rattle.chk_ctl_streams.proofs.Again.{looks_again}
use Rattle.chk_ctl_run.proofs.Shown.{listed_cause}
use Rattle.chk_ctl_verify.proofs.FolderWords.{records_folder, archive_folder}
use Rattle.chk_ctl_run.proofs.showing.list_streams.Goals as goal

pub print_streams-given-requires-clause-archive : goal.print_streams-given-requires-clause-archive
print_streams-given-requires-clause-archive g c = archive_folder

pub print_streams-given-requires-clause-records : goal.print_streams-given-requires-clause-records
print_streams-given-requires-clause-records g c = records_folder

pub returns : goal.returns
returns g c =
    let given = c.print_streams-given.result in
    let is : c.args.who.now ≡ job = c.requires.job in
    rw c.listed_as.ensures
    (record {
      told = record {
        given = given;
        listed = rw is at c.print_streams-given.ensures.told;
        is = refl;
      };
      own = looks_again c.print_streams-given.ensures.own;
      cause = listed_cause given (g.S.Site.fault_count c.args.site.now)
          (g.S.Site.fault_count c.print_streams-given.new.site)
          c.print_streams-given.ensures.cause;
    })
