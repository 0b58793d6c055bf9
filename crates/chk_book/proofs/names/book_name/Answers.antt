use Rattle.std.proofs.Common.{◌≡◌, ◌∙◌, ℕ, ◌≤◌, List, length, subst, arith, refl}
use Rattle.std.specs.Prelude.{IfOk, IsTrue, codes, nat_le}
use Rattle.std.proofs.lemmas.Bool.{and_parts, leb-true}
use Rattle.chk_bytes.specs.Words.{is_word}
use Rattle.chk_bytes.proofs.WordLemmas.{plain_behind_word}
use Rattle.chk_book.specs.Folders.{is_folder, book_name}
use Rattle.chk_book.proofs.names.book_name.Goals as goal

book_word : (folder : List ℕ) → IsTrue (is_folder folder) → IsTrue (is_word (book_name folder))
book_word folder h =
    let both = and_parts (is_word folder) (nat_le (length folder) 4072) h in
    let short : length folder ≤ 4072 = leb-true (length folder) 4072 both.1 in
    plain_behind_word folder (codes "/book") both.0 refl (omega arith)

pub from_text-requires : goal.from_text-requires
from_text-requires c = record { word = rw (c.as_str.ensures.value, c.in_ok-text.ensures.ok) (book_word c.args.folder.now c.requires) }

pub returns : goal.returns
returns c =
    let name : c.as_str.result.now ≡ book_name c.args.folder.now = c.as_str.ensures.value ∙ c.in_ok-text.ensures.ok in
    record { name = subst (λ (t : List ℕ). IfOk c.from_text.result (λ (w : List ℕ). w ≡ t)) name c.from_text.ensures }
