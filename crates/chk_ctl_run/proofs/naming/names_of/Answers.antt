use Rattle.std.proofs.Common.{◌∙◌, ◌++◌, ℕ, List, ap, subst, sym}
use Rattle.std.specs.Prelude.{IsTrue, codes}
use Rattle.chk_bytes.specs.Words.{is_word}
use Rattle.chk_book.specs.Folders.{is_folder}
use Rattle.chk_ctl_run.proofs.StoreSteps.{archive_can, archive_word, book_word}
use Rattle.chk_ctl_run.proofs.naming.names_of.Goals as goal

pub from_text-requires-2 : goal.from_text-requires-2
from_text-requires-2 c = record {
  word = subst (λ (t : List ℕ). IsTrue (is_word t))
      (sym (c.as_str.ensures.value ∙ c.in_ok-folder.ensures.ok))
      (archive_word c.args.store.now c.requires);
}

pub from_text-requires-3 : goal.from_text-requires-3
from_text-requires-3 c = record {
  word = subst (λ (t : List ℕ). IsTrue (is_word t))
      (sym (c.as_str-2.ensures.value
      ∙ (c.in_ok-book.ensures.ok
      ∙ ap (λ (t : List ℕ). t ++ codes "/book") c.in_ok-folder.ensures.ok)))
      (book_word c.args.store.now c.requires);
}

pub returns-clause-can : goal.returns-clause-can
returns-clause-can c =
    subst (λ (t : List ℕ). IsTrue (is_folder t))
    (sym (c.in_ok-folder-2.ensures ∙ (c.as_str.ensures.value ∙ c.in_ok-folder.ensures.ok)))
    (archive_can c.args.store.now c.requires)
