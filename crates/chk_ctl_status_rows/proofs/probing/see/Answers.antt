use Rattle.std.proofs.Common.{Ok, Err, refl, subst, Option, ℕ}
use Rattle.std.specs.Option.{option_copied}
use Rattle.chk_ctl_status_rows.specs.Ends.{BySize}
use Rattle.chk_world.specs.Checkpoints.{after_text}
use Rattle.chk_ctl_status_rows.proofs.Parts.{probes_after}
use Rattle.chk_ctl_passed.proofs.Joined.{cause_then}
use Rattle.chk_ctl_status_rows.proofs.probing.see.Goals as goal

pub returns-in-Ok : goal.returns-in-Ok
returns-in-Ok g c = record {
  told = record {
    given = Ok c.in-Ok.probe;
    middle = g.S.Site.told c.read_at.new.site;
    probes = probes_after c.args.after c.in-Ok.ensures.told;
    behind =
        subst (λ (size : Option ℕ). BySize c.args.who.now c.args.path.now
        (after_text (option_copied c.args.after)) c.args.first size c.see_by.result
        (g.S.Site.told c.read_at.new.site) (g.S.Site.told c.see_by.new.site))
        c.size_shown.ensures c.see_by.ensures.told;
  };
  cause =
      cause_then c.see_by.result (g.S.Site.fault_count c.args.site.now)
      (g.S.Site.fault_count c.read_at.new.site) (g.S.Site.fault_count c.see_by.new.site)
      c.in-Ok.ensures.cause c.see_by.ensures.cause;
}

pub returns-in-Err : goal.returns-in-Err
returns-in-Err g c = record {
  told = record {
    given = Err c.in-Err.fault;
    middle = g.S.Site.told c.read_at.new.site;
    probes = probes_after c.args.after c.in-Err.ensures.told;
    behind = (refl, refl);
  };
  cause = c.in-Err.ensures.cause;
}
