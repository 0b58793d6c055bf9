-- The post that is made of a queue's front.
use Rattle.std.proofs.Common.{◌≡◌, ℕ, zero, suc, ◌+◌, ◌≤◌, ◌<◌, List, [], ◌∷◌, length, take, min, Some, ap, sym, subst, ◌∙◌, refl, arith}
use Rattle.std.specs.Prelude.{IsTrue, slice_get}
use Rattle.std.specs.List.{list_all}
use Rattle.std.proofs.lemmas.Bool.{and_from}
use Rattle.std.proofs.lemmas.List.{length-append}
use Rattle.chk_bytes.specs.Words.{is_word}
use Rattle.chk_chunk.specs.Keys.{is_chunk}
use Rattle.chk_chunk.specs.declared.Chunk.{Chunk}
use Rattle.chk_chunk.specs.Lent.{chunk_of, chunks_of, AreValid}
use Rattle.chk_chunk.specs.Posts.{post_limit, most_chunks, written_part, written_post}
use Rattle.chk_chunk.proofs.PostWriting.{written_part_small}
use Rattle.chk_http_grammar.specs.Messages.{WrittenPost, written_post_request}
use Rattle.chk_queue.specs.Queues.{IsLongestFront}
use Rattle.chk_agent_delivery.specs.States.{State, address_now, free_rows}
use Rattle.chk_agent_delivery.specs.Scripts.{IsNextPost}
use Rattle.chk_agent_delivery.proofs.PostStates.{got_at}

-- one chunk fits always
pub front_some : (chunks front : List Chunk) (most : ℕ) → IsLongestFront chunks front most post_limit → 0 < length chunks → 0 < most
    → AreValid chunks → 0 < length front
front_some [] front most l some room valid = absurd (let z : ⊥ = omega (arith, some) in z)
front_some (c ∷ chunks) [] most l some room valid =
    let more = l.longest 1 (omega arith) (omega arith) (omega (arith, room)) in
    let small = written_part_small (chunk_of c) (valid 0 c (omega arith)) in
    absurd (let z : ⊥ = omega (arith, more, small, length-append (written_part (chunk_of c)) []) in z)
front_some (c ∷ chunks) (d ∷ front) most l some room valid = omega arith

taken_valid : (n : ℕ) (chunks : List Chunk) → AreValid chunks → IsTrue (list_all is_chunk (chunks_of (take n chunks)))
taken_valid zero chunks valid = refl
taken_valid (suc n) [] valid = refl
taken_valid (suc n) (c ∷ chunks) valid =
    and_from (is_chunk (chunk_of c)) (list_all is_chunk (chunks_of (take n chunks))) (valid 0 c (omega arith))
    (taken_valid n chunks (λ i d below. valid (suc i) d (omega (arith, below))))

pub is_next : (s : State) (front : List Chunk) (free most : ℕ) (a text bytes : List ℕ) → AreValid s.queue.chunks
    → free + length s.table.rows ≡ s.table.room → most ≡ min free 1000 → IsLongestFront s.queue.chunks front most post_limit
    → 0 < length front → slice_get s.ring.addresses s.ring.place ≡ Some a → text ≡ a → IsTrue (is_word text)
    → bytes ≡ written_post_request text (written_post (chunks_of front))
    → IsNextPost s bytes (length front)
is_next s front free most a text bytes valid room least longest some at is word written =
    let rows : free_rows s ≡ free = omega (arith, room) in
    let limit : min (free_rows s) most_chunks ≡ most = ap (λ n. min n 1000) rows ∙ sym least in
    let here : text ≡ address_now s.ring = is ∙ sym (got_at s.ring.addresses s.ring.place a at) in
    record {
      front = front;
      is_front = record { longest = subst (λ n. IsLongestFront s.queue.chunks front n post_limit) (sym limit) longest; some = some };
      written = subst (λ t. WrittenPost t (chunks_of front) bytes) here (record {
        to = word;
        some = subst (λ n. 0 < n) (sym (sizes front)) some;
        few = let few = longest.few in subst (λ n. n ≤ 1000) (sym (sizes front)) (omega (arith, few, least));
        are = subst (λ cs. IsTrue (list_all is_chunk (chunks_of cs))) (sym longest.is) (taken_valid (length front) s.queue.chunks valid);
        short = longest.short some;
        is = written;
      });
      count_is = refl;
    }
  where
    sizes : (cs : List Chunk) → length (chunks_of cs) ≡ length cs
    sizes [] = refl
    sizes (c ∷ cs) = ap suc (sizes cs)
