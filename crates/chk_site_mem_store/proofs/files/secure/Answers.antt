use Rattle.std.proofs.Common.{refl, arith}
use Rattle.std.specs.Prelude.{option_map}
use Rattle.chk_site.specs.Files.{secured}
use Rattle.chk_site_mem_store.specs.Stored.{file_of}
use Rattle.chk_site_mem_store.proofs.NamedLemmas.{changed_at, absent}
use Rattle.chk_site_mem_store.proofs.FileLemmas.{some_is}
use Rattle.chk_site_mem_store.proofs.files.secure.Goals as goal

pub returns-in-Some : goal.returns-in-Some
returns-in-Some c = record {
  at = changed_at file_of c.args.name.now _ c.in-Some.at c.index_mut-entry.result.now _ (option_map secured)
      (cc) c.index_mut-entry.ensures.value refl (some_is _ _ refl (omega arith));
}

pub returns-in_default : goal.returns-in_default
returns-in_default c = record { at = absent file_of c.args.name.now _ (option_map secured) (cc) refl }
