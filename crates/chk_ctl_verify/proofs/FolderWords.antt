-- The folders of a store can be named.
use Rattle.std.proofs.Common.{refl, arith}
use Rattle.std.specs.Prelude.{IsTrue, codes}
use Rattle.std.proofs.lemmas.Bool.{and_from}
use Rattle.chk_bytes.proofs.WordLemmas.{plain_word}
use Rattle.chk_book.specs.Folders.{is_folder}

pub archive_folder : IsTrue (is_folder (codes "archive"))
archive_folder = and_from _ _ (plain_word (codes "archive") refl (omega arith) (omega arith)) refl

pub records_folder : IsTrue (is_folder (codes "demux"))
records_folder = and_from _ _ (plain_word (codes "demux") refl (omega arith) (omega arith)) refl

pub joined_folder : IsTrue (is_folder (codes "joined"))
joined_folder = and_from _ _ (plain_word (codes "joined") refl (omega arith) (omega arith)) refl
