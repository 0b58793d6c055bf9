-- The lines are single lines, and so they are put together.
use Rattle.std.proofs.Common.{◌≡◌, ℕ, ◌<◌, ◌^◌, List, [], ◌∷◌, ◌++◌, append_assoc, refl, arith}
use Rattle.std.specs.Prelude.{IsTrue, codes, decimal}
use Rattle.chk_bytes.specs.Words.{is_word}
use Rattle.chk_bytes.proofs.WordLemmas.{word_lacks}
use Rattle.chk_chunk.specs.Keys.{Stream}
use Rattle.chk_world.specs.ArchiveRuns.{is_one_line}
use Rattle.chk_cmd_output.proofs.OneLine.{Lack, none, next, number_lacks, words_line}
use Rattle.chk_ctl_held.specs.Elsewhere.{found_named, found_words, store_line}
use Rattle.chk_ctl_held.specs.Lines.{line_of, held_words, named, places}

pub words_one : (source kind name : List ℕ) (archived begin end count : ℕ)
    → IsTrue (is_word source) → IsTrue (is_word kind) → IsTrue (is_word name)
    → archived < 2 ^ 64 → begin < 2 ^ 64 → end < 2 ^ 64 → count < 2 ^ 64
    → IsTrue (is_one_line (line_of (held_words source kind name archived begin end count)))
words_one source kind name archived begin end count a b c d e f g =
    let all : Lack (held_words source kind name archived begin end count) =
    next refl (next (word_lacks 10 source (omega arith) a)
    (next (word_lacks 10 kind (omega arith) b) (next (word_lacks 10 name (omega arith) c)
    (next refl (next (number_lacks archived d) (next refl (next (number_lacks archived d)
    (next refl (next (number_lacks begin e) (next refl (next (number_lacks begin e)
    (next refl (next (number_lacks end f) (next refl (next (number_lacks count g)
    none))))))))))))))) in
    words_line all

-- what stands behind the offsets
abbrev pub counted : ℕ → List ℕ
counted count = codes " chunks " ++ (decimal count ++ codes "\n")

pub spelled : (source kind name : List ℕ) (archived begin end count : ℕ)
    → named source kind name ++ (places archived begin end ++ counted count)
    ≡ line_of (held_words source kind name archived begin end count)
spelled source kind name archived begin end count = simp append_assoc

-- ---- the line of a part that was found

pub found_one : (s : Stream) (from to : ℕ) (how name : List ℕ) → IsTrue (is_word s.source)
    → IsTrue (is_word s.kind) → IsTrue (is_word s.name) → IsTrue (is_word how)
    → IsTrue (is_word name) → from < 2 ^ 64 → to < 2 ^ 64
    → IsTrue (is_one_line (line_of (found_words s from to how name)))
found_one s from to how name a b c d e f g =
    let all : Lack (found_words s from to how name) =
    next refl (next (word_lacks 10 s.source (omega arith) a)
    (next (word_lacks 10 s.kind (omega arith) b) (next (word_lacks 10 s.name (omega arith) c)
    (next refl (next (number_lacks from f) (next refl (next (number_lacks to g)
    (next (word_lacks 10 how (omega arith) d) (next refl
    (next (word_lacks 10 name (omega arith) e) none)))))))))) in
    words_line all

-- what stands behind the words that name the stream
abbrev pub found_behind : ℕ → ℕ → List ℕ → List ℕ → List ℕ
found_behind from to how store =
    codes " from " ++ (decimal from ++ (codes " to " ++ (decimal to ++ (codes " " ++ (how
    ++ (codes " in " ++ (store ++ codes "\n")))))))

pub found_spelled : (s : Stream) (from to : ℕ) (how store : List ℕ)
    → found_named s.source s.kind s.name ++ found_behind from to how store
    ≡ line_of (found_words s from to how store)
found_spelled s from to how store = simp append_assoc

-- ---- the line of a store

pub store_one : (name : List ℕ) → IsTrue (is_word name) → IsTrue (is_one_line (store_line name))
store_one name word =
    let all : Lack (codes "store" ∷ name ∷ []) =
    next refl (next (word_lacks 10 name (omega arith) word) none) in
    words_line all
