-- Tests of word lists.
use Rattle.std.proofs.Common.{◌≡◌, ◌≤◌, ℕ, List, length, map, refl}
use lib.Utf8.{encode}
use Rattle.std.specs.Prelude.{IsTrue, codes}
use Rattle.std.specs.Str.{is_utf8, chars}
use Rattle.std.specs.List.{list_all}
use Rattle.std.specs.Borrow.{Bor}
use Rattle.std.proofs.lemmas.Bool.{le-leb}
use Rattle.std.proofs.lemmas.List.{length-map}
use Rattle.std.proofs.lemmas.List.Folds.{list_all-map}
use Rattle.chk_bytes.specs.Words.{is_word}
use Rattle.chk_cmd_line.specs.Names.{are_words}

-- so many words, of which each is one
pub words_fit : (least most : ℕ) (xs : List (Bor (List ℕ))) → least ≤ length xs → length xs ≤ most
    → list_all (λ w. is_word w.now) xs ≡ are_words least most (map (λ w. w.now) xs)
words_fit least most xs low high = rw (
  length-map xs (λ (w : Bor (List ℕ)). w.now),
  le-leb least (length xs) low,
  le-leb (length xs) most high,
  list_all-map is_word (λ (w : Bor (List ℕ)). w.now) xs,
) refl

-- the cluster where none is named is a word
pub none_is_word : IsTrue (is_word (codes "none"))
unfolding is_word is_utf8 chars encode
none_is_word = refl
