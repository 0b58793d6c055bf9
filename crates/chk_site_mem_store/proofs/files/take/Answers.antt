use Rattle.std.proofs.Common.{refl, sym, ◌∙◌, ap, Some}
use Rattle.std.specs.Prelude.{option_map}
use Rattle.chk_site_mem_store.specs.declared.files.MemFile.{MemFile}
use Rattle.chk_site_mem_store.specs.Stored.{file_of, empty_file}
use Rattle.chk_site_mem_store.proofs.NamedLemmas.{asked_of, changed_at, absent, some_named, none_named}
use Rattle.chk_site_mem_store.proofs.files.take.Goals as goal

pub returns-in_err-at-clause-taken : goal.returns-in_err-at-clause-taken
returns-in_err-at-clause-taken c =
    let none = none_named file_of c.args.name.now c.args.files.now.items (asked_of c.args.name.now c.args.files.now.items c.place.ensures c.deref.ensures.value c.in_err-at.was) in
    rw c.from_residual.ensures (sym none)

pub returns-in_err-at-clause-left : goal.returns-in_err-at-clause-left
returns-in_err-at-clause-left c = record {
  at = absent file_of c.args.name.now c.args.files.now.items (option_map (λ _. empty_file)) (asked_of c.args.name.now c.args.files.now.items c.place.ensures c.deref.ensures.value c.in_err-at.was) refl;
}

pub returns-clause-taken : goal.returns-clause-taken
returns-clause-taken c =
    let at = asked_of c.args.name.now c.args.files.now.items c.place.ensures c.deref.ensures.value c.in_ok-at.was in
    ap (λ (f : MemFile). Some (file_of f)) c.replace.ensures.value
    ∙ sym (some_named file_of c.args.name.now c.args.files.now.items c.in_ok-at.at c.index_mut-entry.result.now at c.index_mut-entry.ensures.value)

pub returns-clause-left : goal.returns-clause-left
returns-clause-left c =
    let at = asked_of c.args.name.now c.args.files.now.items c.place.ensures c.deref.ensures.value c.in_ok-at.was in
    let empty = ap file_of c.replace.ensures.after ∙ c.new.ensures in
    record {
      at = changed_at file_of c.args.name.now _ c.in_ok-at.at c.index_mut-entry.result.now _ (option_map (λ _. empty_file)) at
          c.index_mut-entry.ensures.value refl (ap (λ f. Some f) (sym empty));
    }
