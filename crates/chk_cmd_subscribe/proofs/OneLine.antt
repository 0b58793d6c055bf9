-- The lines of a watcher are single lines.
use Rattle.std.proofs.Common.{◌≡◌, ℕ, List, [], ◌∷◌, ◌++◌, length, refl, append_assoc, ◌<◌, ◌≤◌, arith}
use Rattle.std.specs.Prelude.{IsTrue, nat_lt, decimal, ◌^◌, codes}
use Rattle.std.specs.List.{list_all}
use Rattle.std.proofs.lemmas.Bool.{and_from, and_parts, ltb-true}
use Rattle.chk_bytes.specs.Stems.{Stem, is_stem, is_count, stem_text}
use Rattle.chk_bytes.specs.Words.{lacks, joined_at, is_word}
use Rattle.chk_bytes.specs.Numbers.{limit}
use Rattle.chk_bytes.proofs.WordLemmas.{word_lacks, plain_word}
use Rattle.chk_bytes.proofs.StemLemmas.{stem_text_plain, length-stem_text}
use Rattle.chk_chunk.proofs.KeyLemmas.{key_facts, stream_facts}
use Rattle.chk_chunk.proofs.PostGrammar.{value_facts}
use Rattle.chk_world.specs.ArchiveRuns.{is_one_line}
use Rattle.chk_cmd_output.proofs.OneLine.{Lack, none, next, number_lacks, words_line}
use Rattle.chk_tee.specs.Messages.{Teed, is_teed}
use Rattle.chk_cmd_subscribe.specs.Lines.{line_of, chunk_line, end_line}
use Rattle.chk_tee.proofs.FieldLemmas.{stem_is_word as stem_word}

pub end_line_one : (printed refused : ℕ) → printed < 2 ^ 64 → refused < 2 ^ 64 → IsTrue (is_one_line (end_line printed refused))
end_line_one printed refused a b =
    let all : Lack (codes "subscribe" ∷ codes "chunks" ∷ decimal printed ∷ codes "refused" ∷ decimal refused ∷ []) =
    next refl (next refl (next (number_lacks printed a) (next refl (next (number_lacks refused b) none)))) in
    words_line all

pub chunk_line_one : (t : Teed) → IsTrue (is_teed t) → IsTrue (is_one_line (chunk_line t))
chunk_line_one t h =
    let p = and_parts (is_stem t.stem) _ h in
    let q = and_parts (is_count t.offset) _ p.1 in
    let r = and_parts _ _ q.1 in
    let k = key_facts t.chunk.key r.0 in
    let s = stream_facts t.chunk.key.stream k.stream in
    let v = value_facts t.chunk.key t.chunk.value r.1 in
    let place : t.offset < 2 ^ 63 = ltb-true t.offset limit (and_parts (nat_lt 0 t.offset) (nat_lt t.offset limit) q.0).1 in
    let seq : t.chunk.key.seq < 2 ^ 63 = k.fits in
    let size : length t.chunk.value ≤ 131072 = v.most in
    let all : Lack (codes "chunk" ∷ stem_text t.stem ∷ decimal t.offset ∷ t.chunk.key.stream.source ∷ t.chunk.key.stream.kind
    ∷ t.chunk.key.stream.name ∷ decimal t.chunk.key.seq ∷ decimal (length t.chunk.value) ∷ []) =
    next refl (next (word_lacks 10 (stem_text t.stem) (omega arith) (stem_word t.stem p.0)) (next (number_lacks t.offset (omega (arith, place)))
    (next (word_lacks 10 t.chunk.key.stream.source (omega arith) s.source) (next (word_lacks 10 t.chunk.key.stream.kind (omega arith) s.kind)
    (next (word_lacks 10 t.chunk.key.stream.name (omega arith) s.name) (next (number_lacks t.chunk.key.seq (omega (arith, seq)))
    (next (number_lacks (length t.chunk.value) (omega (arith, size))) none))))))) in
    words_line all

-- the parts of the line of a chunk, one behind the other
pub chunk_text : (t : Teed) (a b c d : List ℕ) → a ≡ []
    → b ≡ a ++ (codes "chunk " ++ (stem_text t.stem ++ 32 ∷ decimal t.offset))
    → c ≡ b ++ 32 ∷ (t.chunk.key.stream.source ++ 32 ∷ (t.chunk.key.stream.kind ++ 32 ∷ t.chunk.key.stream.name))
    → d ≡ c ++ 32 ∷ (decimal t.chunk.key.seq ++ 32 ∷ (decimal (length t.chunk.value) ++ 10 ∷ []))
    → d ≡ chunk_line t
chunk_text t a b c d e f g h = rw (h, g, f, e) (simp append_assoc)

-- the same of the last line
pub end_text : (printed refused : ℕ) (a b c d e f : List ℕ) → a ≡ [] → b ≡ a ++ codes "subscribe chunks" → c ≡ b ++ 32 ∷ decimal printed
    → d ≡ c ++ codes " refused" → e ≡ d ++ 32 ∷ decimal refused → f ≡ e ++ codes "\n" → f ≡ end_line printed refused
end_text printed refused a b c d e f p q r s t u = rw (u, t, s, r, q, p) (simp append_assoc)
