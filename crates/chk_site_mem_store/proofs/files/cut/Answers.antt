use Rattle.std.proofs.Common.{◌∙◌, sym, refl, length, ap, arith}
use Rattle.std.proofs.lemmas.List.{length-take, take_all}
use Rattle.std.specs.Prelude.{option_map}
use Rattle.chk_site.specs.Files.{shortened}
use Rattle.chk_site_mem_store.specs.Stored.{file_of}
use Rattle.chk_site_mem_store.proofs.NamedLemmas.{changed_at, absent}
use Rattle.chk_site_mem_store.proofs.FileLemmas.{some_is}
use Rattle.chk_site_mem_store.proofs.files.cut.Goals as goal

pub returns-then-length-len : goal.returns-then-length-len
returns-then-length-len c =
    let file = c.index_mut-entry.result.now.value in
    let shorter = ap length c.truncate.ensures ∙ length-take c.args.length file.bytes in
    record {
      at = changed_at file_of c.args.name.now _ c.in-Some.at c.index_mut-entry.result.now _ (option_map (shortened c.args.length))
          (cc) c.index_mut-entry.ensures.value refl (some_is _ _ (sym c.truncate.ensures) (omega arith));
    }

pub returns-else-length-len : goal.returns-else-length-len
returns-else-length-len c =
    let file = c.index_mut-entry.result.now.value in
    record {
      at = changed_at file_of c.args.name.now _ c.in-Some.at c.index_mut-entry.result.now _ (option_map (shortened c.args.length))
          (cc) c.index_mut-entry.ensures.value refl (some_is _ _ (take_all c.args.length file.bytes (omega arith)) (omega arith));
    }

pub returns-in_default : goal.returns-in_default
returns-in_default c = record { at = absent file_of c.args.name.now _ (option_map (shortened c.args.length)) (cc) refl }
