use Rattle.std.proofs.Common.{◌∙◌, ap, refl, sym}
use Rattle.chk_site.specs.History.{Every}
use Rattle.chk_site.proofs.Runs.{adds_none}
use Rattle.chk_world.specs.JobSteps.{IsOf}
use Rattle.chk_ctl_streams.specs.Following.{LooksAgain}
use Rattle.chk_ctl_run.specs.Several.{archive_of, book_of, unnamed}
use Rattle.chk_ctl_run.proofs.several.find_store.Goals as goal

pub find_named-requires-clause-folder : goal.find_named-requires-clause-folder
find_named-requires-clause-folder g c =
    c.in-Ok.ensures.folder ∙ ap archive_of (sym c.in-Ok.ensures.store)

pub find_named-requires-clause-book : goal.find_named-requires-clause-book
find_named-requires-clause-book g c =
    c.in-Ok.ensures.book ∙ ap book_of (sym c.in-Ok.ensures.store)

pub returns-in-Ok : goal.returns-in-Ok
returns-in-Ok g c = record {
  told = rw c.in-Ok.ensures.store at c.find_named.ensures.told;
  own = c.find_named.ensures.own;
  cause = c.find_named.ensures.cause;
}

pub returns-in-Err : goal.returns-in-Err
returns-in-Err g c = record {
  told = unnamed;
  own = adds_none (g.S.Site.told c.args.site.now) (Every (IsOf LooksAgain)) (λ history. tt);
  cause = refl;
}
