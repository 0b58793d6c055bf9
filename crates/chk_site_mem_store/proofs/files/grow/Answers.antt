use Rattle.std.proofs.Common.{◌∙◌, sym, refl, length, ap, arith}
use Rattle.std.proofs.lemmas.List.{length-append}
use Rattle.std.specs.Prelude.{option_map}
use Rattle.chk_site.specs.Files.{grown}
use Rattle.chk_site_mem_store.specs.Stored.{file_of}
use Rattle.chk_site_mem_store.proofs.NamedLemmas.{changed_at, absent}
use Rattle.chk_site_mem_store.proofs.FileLemmas.{some_is}
use Rattle.chk_site_mem_store.proofs.files.grow.Goals as goal

pub returns-in_ok-push_all-clause-ok : goal.returns-in_ok-push_all-clause-ok
returns-in_ok-push_all-clause-ok c =
    let file = c.index_mut-entry.result.now.value in
    let more = c.in_ok-push_all.ensures.ok in
    let longer = ap length more ∙ length-append file.bytes c.args.piece.now in
    record {
      at = changed_at file_of c.args.name.now _ c.in-Some.at c.index_mut-entry.result.now _ (option_map (grown c.args.piece.now))
          (cc) c.index_mut-entry.ensures.value refl (some_is _ _ (sym more) (omega arith));
    }

pub returns-in_default-clause-ok : goal.returns-in_default-clause-ok
returns-in_default-clause-ok c = record { at = absent file_of c.args.name.now _ (option_map (grown c.args.piece.now)) (cc) refl }
