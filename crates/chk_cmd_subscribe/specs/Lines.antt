-- The lines that a watcher prints.
use Rattle.std.specs.Prelude.{ℕ, List, [], ◌∷◌, length, codes, decimal}
use Rattle.chk_bytes.specs.Stems.{stem_text}
use Rattle.chk_tee.specs.Messages.{Teed}
pub use Rattle.chk_cmd_output.specs.Lines.{line_of}

-- a chunk: its sink and place, its stream, its offset and its size
abbrev pub chunk_line : Teed → List ℕ
chunk_line t =
    line_of (codes "chunk" ∷ stem_text t.stem ∷ decimal t.offset ∷ t.chunk.key.stream.source ∷ t.chunk.key.stream.kind
    ∷ t.chunk.key.stream.name ∷ decimal t.chunk.key.seq ∷ decimal (length t.chunk.value) ∷ [])

-- how many chunks were printed, and how many messages were refused
abbrev pub end_line : ℕ → ℕ → List ℕ
end_line printed refused =
    line_of (codes "subscribe" ∷ codes "chunks" ∷ decimal printed ∷ codes "refused" ∷ decimal refused ∷ [])
