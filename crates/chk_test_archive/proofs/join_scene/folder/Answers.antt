use Rattle.std.proofs.Common.{refl, arith}
use Rattle.std.specs.Prelude.{codes}
use Rattle.std.proofs.lemmas.Bool.{and_from}
use Rattle.chk_bytes.proofs.WordLemmas.{plain_word}
use Rattle.chk_test_archive.proofs.join_scene.folder.Goals as goal

pub returns-in-a : goal.returns-in-a
returns-in-a c = and_from _ _ (and_from _ _ (plain_word (codes "a") refl (omega arith) (omega arith)) refl) refl

pub returns-in-b : goal.returns-in-b
returns-in-b c = and_from _ _ (and_from _ _ (plain_word (codes "b") refl (omega arith) (omega arith)) refl) refl
