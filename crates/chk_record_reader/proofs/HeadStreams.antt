-- The chunks of heads by their streams.
use Rattle.std.proofs.Common.{◌≡◌, Bool, true, false, List, [], ◌∷◌, map, refl, ap, ◌∙◌, if◌then◌else◌}
use Rattle.std.specs.Prelude.{filter}
use Rattle.chk_chunk.specs.Keys.{Stream, Chunk, same_stream, is_of}
use Rattle.chk_world.specs.Books.{chunks_of_stream}
use Rattle.chk_record_index.specs.Heads.{Head}
use Rattle.chk_record_reader.specs.Courses.{is_head_of}

-- the stream's among the chunks of heads
pub chunks_of_heads : (s : Stream) (f : Head → Chunk) (hs : List Head)
    → ((h : Head) → (f h).key ≡ h.key)
    → chunks_of_stream s (map f hs) ≡ map f (filter (is_head_of s) hs)
chunks_of_heads s f [] key = refl
chunks_of_heads s f (h ∷ hs) key =
    ap (λ k. if same_stream s k.stream then f h ∷ filter (is_of s) (map f hs)
    else filter (is_of s) (map f hs)) (key h)
    ∙ go (is_head_of s h) (chunks_of_heads s f hs key)
  where
    go : (b : Bool) → chunks_of_stream s (map f hs) ≡ map f (filter (is_head_of s) hs)
        → (if b then f h ∷ filter (is_of s) (map f hs) else filter (is_of s) (map f hs))
        ≡ map f (if b then h ∷ filter (is_head_of s) hs else filter (is_head_of s) hs)
    go true rest = ap (λ l. f h ∷ l) rest
    go false rest = rest
