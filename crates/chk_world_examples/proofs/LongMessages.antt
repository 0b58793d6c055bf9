-- The messages of the longer history are what they are read as.
use Rattle.std.proofs.Common.{◌≡◌, ℕ, [], ◌∷◌, refl, arith}
use Rattle.std.specs.Prelude.{codes}
use Rattle.chk_http_grammar.specs.Messages.{IsPostOf, IsReply, WrittenPost, WrittenReply}
use Rattle.chk_http_grammar.proofs.Written.{written_is_post, written_is_reply}
use Rattle.chk_world_examples.specs.LongRound.{first_chunk, second_chunk, request_1, request_2, body_1, body_2, reply_1, reply_2}
use Rattle.chk_world_examples.proofs.Unfolded.{texts}

pub is_post_1 : WrittenPost (codes "self") (first_chunk ∷ []) request_1
unfolding texts
is_post_1 = record { to = refl; some = omega arith; few = omega arith; are = refl; short = omega arith; is = refl }

pub is_post_2 : WrittenPost (codes "self") (second_chunk ∷ []) request_2
unfolding texts
is_post_2 = record { to = refl; some = omega arith; few = omega arith; are = refl; short = omega arith; is = refl }

pub posted_1 : IsPostOf (first_chunk ∷ []) request_1
posted_1 = written_is_post (codes "self") (first_chunk ∷ []) request_1 is_post_1

pub posted_2 : IsPostOf (second_chunk ∷ []) request_2
posted_2 = written_is_post (codes "self") (second_chunk ∷ []) request_2 is_post_2

is_written_1 : WrittenReply 200 (codes "OK") body_1 reply_1
unfolding texts
is_written_1 = record { from = omega arith; below = omega arith; phrase_is = refl; short = omega arith; is = refl }

is_written_2 : WrittenReply 200 (codes "OK") body_2 reply_2
unfolding texts
is_written_2 = record { from = omega arith; below = omega arith; phrase_is = refl; short = omega arith; is = refl }

pub replied_1 : IsReply 200 body_1 reply_1
replied_1 = written_is_reply 200 (codes "OK") body_1 reply_1 is_written_1

pub replied_2 : IsReply 200 body_2 reply_2
replied_2 = written_is_reply 200 (codes "OK") body_2 reply_2 is_written_2

pub three_not_zero : ◌≡◌ {A = ℕ} 3 0 → ⊥
three_not_zero e = omega arith
