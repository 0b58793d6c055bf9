-- The last key is of the stream of the last end.
use Rattle.std.proofs.Common.{◌≡◌, ℕ, List, [], subst}
use Rattle.std.specs.Prelude.{IsTrue}
use Rattle.chk_chunk.specs.Keys.{Stream, Key, is_key, written_key}
use Rattle.chk_record_index.proofs.LastKeys.{of_its_stream, none_is_but}
use Rattle.chk_book.specs.declared.lists.End.{End}
use Rattle.chk_book.specs.Recent.{IsLast, IsRecent}

-- the key is that of a record of the last end's stream
pub now_recent : (c : Key) (bytes : List ℕ) (ends : List End) → IsTrue (is_key c)
    → bytes ≡ written_key c → IsLast c.stream ends → IsRecent bytes ends
now_recent c bytes ends known is last k valid but =
    subst (λ (s : Stream). IsLast s ends) (of_its_stream c k bytes known valid is but) last

-- no bytes are a key
pub none_recent : (bytes : List ℕ) (ends : List End) → bytes ≡ [] → IsRecent bytes ends
none_recent bytes ends none k valid but = absurd (none_is_but k bytes none but)
