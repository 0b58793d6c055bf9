-- The line of a stream is one line, and lists in their order.
use Rattle.std.proofs.Common.{◌≡◌, ℕ, ◌+◌, ◌<◌, List, [], ◌∷◌, ◌++◌}
use Rattle.std.proofs.Common.{map, refl, ap, append_assoc, arith}
use Rattle.std.specs.Prelude.{IsTrue, codes, decimal, ◌^◌}
use Rattle.chk_bytes.specs.Words.{is_word}
use Rattle.chk_bytes.proofs.WordLemmas.{word_lacks}
use Rattle.chk_world.specs.ArchiveRuns.{is_one_line}
use Rattle.chk_world.specs.Books.{End}
use Rattle.chk_book.specs.Views.{end_view}
use Rattle.chk_book.specs.declared.lists.End.{End as EndStruct}
use Rattle.chk_cmd_output.proofs.OneLine.{number_lacks, Lack, none, next, words_line}
use Rattle.chk_ctl_streams.specs.Lines.{line_in, line_of, named, stream_words}

pub words_one : (source kind name : List ℕ) (start end split : ℕ) → IsTrue (is_word source)
    → IsTrue (is_word kind)
    → IsTrue (is_word name) → start < 2 ^ 64 → end < 2 ^ 64 → split < 2 ^ 64
    → IsTrue (is_one_line (line_of (stream_words source kind name start end split)))
words_one source kind name start end split a b c d e f =
    let all : Lack (stream_words source kind name start end split) =
    next refl (next (word_lacks 10 source (omega arith) a)
    (next (word_lacks 10 kind (omega arith) b)
    (next (word_lacks 10 name (omega arith) c) (next refl (next (number_lacks start d)
    (next refl (next (number_lacks end e) (next refl (next (number_lacks split f) none))))))))) in
    words_line all

-- the offsets behind the words that name a stream
abbrev pub placed : ℕ → ℕ → ℕ → List ℕ
placed start end split =
    codes " start " ++ (decimal start ++ (codes " end " ++ (decimal end ++ (codes " demuxed "
    ++ (decimal split ++ codes "\n")))))

-- the words, as they are put together
pub spelled : (source kind name : List ℕ) (start end split : ℕ)
    → named source kind name ++ placed start end split
    ≡ line_of (stream_words source kind name start end split)
spelled source kind name start end split = simp append_assoc

-- the lines of the structs of ends are those of the ends
pub same_lines : (records : List End) (ends : List EndStruct)
    → map {A = EndStruct} {B = List ℕ} (λ e. line_in records (end_view e)) ends
    ≡ map (line_in records) (map end_view ends)
same_lines records [] = refl
same_lines records (e ∷ ends) = ap (λ (lines : List (List ℕ)). line_in records (end_view e)
    ∷ lines) (same_lines records ends)
