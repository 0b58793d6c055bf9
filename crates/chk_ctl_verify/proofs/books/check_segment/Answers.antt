use Rattle.std.proofs.Common.{refl}
use Rattle.chk_site.specs.declared.acts.OutsideFault.TheVariants.{NoMemory as no_memory}
use Rattle.chk_ctl_verify.specs.Books.{unlooked}
use Rattle.chk_ctl_verify.proofs.Steps.{no_call, no_quiet}
use Rattle.chk_ctl_verify.proofs.books.check_segment.Goals as goal

pub returns-in-Err : goal.returns-in-Err
returns-in-Err g c = record {
  told = unlooked no_memory (no_quiet (g.S.Site.told c.args.site.now));
  own = no_call (g.S.Site.told c.args.site.now);
  cause = refl;
}
