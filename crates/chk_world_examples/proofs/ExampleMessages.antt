-- The messages of the worked history are what they are read as.
use Rattle.std.proofs.Common.{◌≡◌, ℕ, List, [], ◌∷◌, refl, arith, subst, append-nil, ◌<◌, sym}
use Rattle.std.specs.Prelude.{codes, zero, suc, slice_index_or, Contains}
use Rattle.chk_chunk.specs.Keys.{Chunk}
use Rattle.chk_http_grammar.specs.Messages.{IsPostOf, PollRequest, IsReply, WrittenPost, WrittenPoll, WrittenReply}
use Rattle.chk_http_grammar.proofs.Written.{written_is_post, written_is_poll, written_is_reply}
use Rattle.chk_http_grammar.proofs.Accepted.{IsReply-same}
use Rattle.chk_http_grammar.proofs.Fronts.{front_of_post_chunks}
use Rattle.chk_world_examples.specs.Texts.{request, chunk, stem, body, reply, poll}
use Rattle.chk_world_examples.proofs.Unfolded.{texts}

pub is_post : WrittenPost (codes "self") (chunk ∷ []) request
unfolding texts
is_post = record { to = refl; some = omega arith; few = omega arith; are = refl; short = omega arith; is = refl }

pub posted : IsPostOf (chunk ∷ []) request
posted = written_is_post (codes "self") (chunk ∷ []) request is_post

pub is_poll : WrittenPoll (codes "self") (stem ∷ []) poll
unfolding texts
is_poll = record { to = refl; some = omega arith; few = omega arith; are = refl; is = refl }

pub polled_so : PollRequest (stem ∷ []) poll
polled_so = written_is_poll (codes "self") (stem ∷ []) poll is_poll

is_written : WrittenReply 200 (codes "OK") body reply
unfolding texts
is_written = record { from = omega arith; below = omega arith; phrase_is = refl; short = omega arith; is = refl }

pub replied_so : IsReply 200 body reply
replied_so = written_is_reply 200 (codes "OK") body reply is_written

-- a written post is one of the written chunks alone
pub written_chunks : (address : List ℕ) (chunks others : List Chunk) (bytes : List ℕ) → WrittenPost address chunks bytes
    → IsPostOf others bytes → others ≡ chunks
written_chunks address chunks others bytes w p =
    (front_of_post_chunks address chunks others bytes []
    (subst (λ b. WrittenPost address chunks b) (sym (append-nil bytes)) w) p).1

-- the chunks of the worked post
pub posts_same : (chunks : List Chunk) → IsPostOf chunks request → chunks ≡ chunk ∷ []
posts_same chunks p = written_chunks (codes "self") (chunk ∷ []) chunks request is_post p

pub one_body : (c d : ℕ) (a b bytes : List ℕ) → IsReply c a bytes → IsReply d b bytes → a ≡ b
one_body c d a b bytes r q = (IsReply-same c d a b bytes r q).1

-- what is in a list of one
pub in_one : {X : Type 0} (x y : X) → Contains (x ∷ []) y → x ≡ y
in_one x y c = go c.0 c.1 c.2
  where
    go : (k : ℕ) → k < 1 → slice_index_or (x ∷ []) k y ≡ y → x ≡ y
    go zero h e = e
    go (suc k) h e = absurd (let z : ⊥ = omega arith in z)

pub in_none : {X : Type 0} (y : X) → Contains [] y → ⊥
in_none y c = go c.0 c.1
  where
    go : (k : ℕ) → k < 0 → ⊥
    go k h = omega arith

pub one_not_zero : ◌≡◌ {A = ℕ} 1 0 → ⊥
one_not_zero e = omega arith

pub two_not_zero : ◌≡◌ {A = ℕ} 2 0 → ⊥
two_not_zero e = omega arith
