use Rattle.std.proofs.Common.{refl}
use Rattle.std.specs.Prelude.{option_map}
use Rattle.chk_site_mem_store.specs.Stored.{file_of}
use Rattle.chk_site_mem_store.proofs.NamedLemmas.{changed_at, absent}
use Rattle.chk_site_mem_store.proofs.files.put.Goals as goal

pub returns-in-Some : goal.returns-in-Some
returns-in-Some c = record {
  at = changed_at file_of c.args.name.now _ c.in-Some.at c.index_mut-entry.result.now _ (option_map (λ _. file_of c.args.file))
      (cc) c.index_mut-entry.ensures.value refl refl;
}

pub returns-in_default : goal.returns-in_default
returns-in_default c = record { at = absent file_of c.args.name.now _ (option_map (λ _. file_of c.args.file)) (cc) refl }
