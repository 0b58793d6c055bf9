-- The messages of a whole round over the one line `hello`, as they are written.
use Rattle.std.proofs.Common.{◌≡◌, [], ◌∷◌, length, refl}
use Rattle.std.specs.Prelude.{codes}
use Rattle.std.specs.Fmt.{digits}
use Rattle.chk_bytes.specs.Stems.{Stem, stem_of}
use Rattle.chk_chunk.specs.Keys.{Chunk, no_cluster, key_1, written_key}
use Rattle.chk_chunk.specs.Posts.{written_post, written_part}
use Rattle.chk_http_grammar.specs.Messages.{ack_of, acks_text, written_post_request, written_poll_request, written_reply}

-- the chunk of the line
unfoldable hello : Chunk
hello = record {
  key = record {
    stream = record { source = codes "h1"; kind = codes "Log"; name = codes "/a.log" };
    start = 0;
    cluster = no_cluster;
    seq = 6;
  };
  value = codes "hello\n";
}

unfoldable first_sink : Stem
first_sink = stem_of (codes "c1") 1 1

-- a post of 44 bytes behind 116 of the head
post_request : length (written_post_request (codes "self") (written_post (hello ∷ []))) ≡ 160
unfolding written_post_request written_part hello written_key key_1 digits
post_request = refl

poll_request : written_poll_request (codes "self") (first_sink ∷ [])
    ≡ codes "GET /acks?c1.1.1 HTTP/1.1\r\nHost: self\r\nConnection: close\r\n\r\n"
unfolding written_poll_request first_sink digits
poll_request = refl

poll_size : length (written_poll_request (codes "self") (first_sink ∷ [])) ≡ 60
unfolding written_poll_request first_sink digits
poll_size = refl

reply : written_reply 200 (codes "OK") (acks_text (ack_of first_sink 144 ∷ []))
    ≡ codes "HTTP/1.1 200 OK\r\nContent-Type: text/plain\r\nContent-Length: 11\r\nConnection: close\r\n\r\nc1.1.1 144\n"
unfolding written_reply first_sink digits
reply = refl

reply_size : length (written_reply 200 (codes "OK") (acks_text (ack_of first_sink 144 ∷ []))) ≡ 95
unfolding written_reply first_sink digits
reply_size = refl
