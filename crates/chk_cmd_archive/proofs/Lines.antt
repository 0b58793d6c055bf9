-- The lines of a report are single lines, and the first of them is the report.
use Rattle.std.proofs.Common.{◌≡◌, ℕ, false, List, [], ◌∷◌, map, ap, refl, append_assoc, ◌<◌, arith}
use Rattle.std.specs.Prelude.{IsTrue, decimal, ◌^◌, codes}
use Rattle.std.specs.List.{list_all}
use Rattle.std.proofs.lemmas.Bool.{and_from}
use Rattle.chk_bytes.specs.Words.{lacks, joined_at, is_word}
use Rattle.chk_bytes.proofs.WordLemmas.{word_lacks}
use Rattle.chk_world.specs.ArchiveRuns.{is_one_line, is_report, report}
use Rattle.chk_cmd_line.specs.Lines.{line_of, archive_line, end_line}
use Rattle.chk_book.specs.Views.{end_view}
use Rattle.chk_book.specs.declared.lists.End.{End as EndStruct}
use Rattle.chk_cmd_archive.specs.Telling.{stream_line}
use Rattle.chk_cmd_output.proofs.OneLine.{Lack, none, next, number_lacks, words_line}

pub run_line_one : (unclosed taken held removed : ℕ) → unclosed < 2 ^ 64 → taken < 2 ^ 64 → held < 2 ^ 64 → removed < 2 ^ 64
    → IsTrue (is_one_line (archive_line unclosed taken held removed))
run_line_one unclosed taken held removed a b c d =
    let all : Lack (codes "archive" ∷ codes "unclosed" ∷ decimal unclosed ∷ codes "taken" ∷ decimal taken ∷ codes "held" ∷ decimal held ∷ codes "removed" ∷ decimal removed ∷ []) =
    next refl (next refl (next (number_lacks unclosed a) (next refl (next (number_lacks taken b)
    (next refl (next (number_lacks held c) (next refl (next (number_lacks removed d) none)))))))) in
    words_line all

pub end_line_one : (source kind name : List ℕ) (end : ℕ) → IsTrue (is_word source) → IsTrue (is_word kind) → IsTrue (is_word name)
    → end < 2 ^ 64 → IsTrue (is_one_line (end_line source kind name end))
end_line_one source kind name end a b c d =
    let all : Lack (codes "end" ∷ source ∷ kind ∷ name ∷ decimal end ∷ []) =
    next refl (next (word_lacks 10 source (omega arith) a) (next (word_lacks 10 kind (omega arith) b)
    (next (word_lacks 10 name (omega arith) c) (next (number_lacks end d) none)))) in
    words_line all

-- the line of a run is its report
pub line_is_report : (unclosed taken held removed : ℕ) → archive_line unclosed taken held removed ≡ report unclosed taken held removed
line_is_report unclosed taken held removed = simp append_assoc

-- the line of a stream is none
pub end_is_no_report : (source kind name : List ℕ) (end : ℕ) → is_report (end_line source kind name end) ≡ false
end_is_no_report source kind name end = refl

-- the lines of the structs of ends are those of the ends
pub same_lines : (ends : List EndStruct) → map {A = EndStruct} {B = List ℕ} (λ e. stream_line (end_view e)) ends ≡ map stream_line (map end_view ends)
same_lines [] = refl
same_lines (e ∷ ends) = ap (λ (lines : List (List ℕ)). stream_line (end_view e) ∷ lines) (same_lines ends)
