use Rattle.std.proofs.Common.{refl, sym}
use Rattle.chk_site.specs.Logs.{log_dropped}
use Rattle.chk_site_mem_store.proofs.NamedLemmas.{asked_of}
use Rattle.chk_site_mem_store.proofs.LogLemmas.{log_changed_at, none_dropped}
use Rattle.chk_site_mem_store.proofs.logs.drop_generation.Goals as goal

pub returns-in-Some : goal.returns-in-Some
returns-in-Some c =
    let path = c.args.path.now in
    let logs = c.args.logs.now.items in
    let at = asked_of path logs c.place.ensures c.deref.ensures.value c.in-Some.is in
    record {
      at = log_changed_at path logs logs c.in-Some.at c.index_mut-entry.result.now _ (log_dropped c.args.suffix.now) at
          c.index_mut-entry.ensures.value refl (sym c.mark.ensures) (record { at = λ p. refl });
    }

pub returns-in_default : goal.returns-in_default
returns-in_default c =
    let path = c.args.path.now in
    let logs = c.args.logs.now.items in
    none_dropped path c.args.suffix.now logs (asked_of path logs c.place.ensures c.deref.ensures.value c.in_default.is)
