-- A chunk that comes behind the others.
use Rattle.std.proofs.Common.{◌≡◌, ℕ, zero, suc, ◌+◌, ◌≤◌, ◌<◌, List, [], ◌∷◌, ◌++◌, length, Option, Some, None, Result, Ok, Err, false, true≢false, ap, sym, subst, arith}
use Rattle.std.specs.Prelude.{IsTrue, OnOk, OnErr, slice_index, slice_set}
use Rattle.std.specs.Result.{is_err}
use Rattle.std.proofs.lemmas.List.{length-append, take-append-le}
use Rattle.chk_chunk.specs.Keys.{is_chunk}
use Rattle.chk_chunk.specs.declared.Chunk.{Chunk}
use Rattle.chk_chunk.specs.Lent.{chunk_of, chunks_of, AreValid}
use Rattle.chk_chunk.specs.Posts.{post_limit, written_post}
use Rattle.chk_world.proofs.StaysTrue.{has_room}
use Rattle.chk_bytes.specs.declared.NoMemory.{NoMemory}
use Rattle.chk_queue.specs.Queues.{Waiting}
use Rattle.chk_agent_delivery.specs.States.{Post, State}
use Rattle.chk_agent_delivery.specs.Turns.{with_chunk}
use Rattle.chk_agent_delivery.specs.Sound.{InTurn, ends_after, next_begins, PostFits, IsSound}

turn_end : (last owners : List ℕ) (chunks : List Chunk) (i : ℕ) (c : Chunk) → length owners ≡ length chunks → InTurn last owners chunks
    → i < length (ends_after last owners chunks) → c.seq ≡ slice_index (ends_after last owners chunks) i + length c.body
    → 0 < length c.body → InTurn last (owners ++ i ∷ []) (chunks ++ c ∷ [])
turn_end last [] [] i c many turn known next some = (known, next, some, tt)
turn_end last [] (d ∷ chunks) i c many turn known next some = absurd turn
turn_end last (j ∷ owners) [] i c many turn known next some = absurd (let z : ⊥ = omega (arith, many) in z)
turn_end last (j ∷ owners) (d ∷ chunks) i c many turn known next some =
    (turn.0, turn.1, turn.2, turn_end (slice_set last j d.seq) owners chunks i c (omega (arith, many)) turn.3 known next some)

valid_more : (chunks : List Chunk) (c : Chunk) → AreValid chunks → IsTrue (is_chunk (chunk_of c)) → AreValid (chunks ++ c ∷ [])
valid_more [] c valid v zero d below = v
valid_more [] c valid v (suc i) d below = absurd (let z : ⊥ = omega (arith, below) in z)
valid_more (x ∷ chunks) c valid v zero d below = valid 0 d (omega arith)
valid_more (x ∷ chunks) c valid v (suc i) d below =
    valid_more chunks c (λ i d below. valid (suc i) d (omega (arith, below))) v i d (omega (arith, below))

pub put_sound : (s : State) (i : ℕ) (c : Chunk) → IsSound s → IsTrue (is_chunk (chunk_of c)) → i < length (next_begins s)
    → c.seq ≡ slice_index (next_begins s) i + length c.body → IsSound (with_chunk i c s)
put_sound s i c sound valid known next = record {
  as_many =
      let many = sound.as_many in omega (arith, many, length-append s.owners (i ∷ []), length-append s.queue.chunks (c ∷ []));
  turn = turn_end s.table.last s.owners s.queue.chunks i c sound.as_many sound.turn known next (has_room (chunk_of c) valid).some;
  valid = valid_more s.queue.chunks c sound.valid valid;
  room = sound.room;
  most = sound.most;
  post = post s.post sound.post;
  poll = sound.poll;
}
  where
    post : (p : Option Post) → PostFits s p → PostFits (with_chunk i c s) p
    post None fits = tt
    post (Some p) fits =
        let there = fits.there in
        record {
          some = fits.some;
          few = fits.few;
          there = omega (arith, there, length-append s.queue.chunks (c ∷ []));
          room = fits.room;
          short = subst (λ cs. length (written_post (chunks_of cs)) ≤ post_limit) (sym (take-append-le p.count s.queue.chunks (c ∷ []) there)) fits.short;
        }

-- the state behind a chunk that was put, or wasn't
pub any_sound : (s : State) (i : ℕ) (c : Chunk) (r : Result Unit NoMemory) (owners : List ℕ) (queue : Waiting) → IsSound s
    → IsTrue (is_chunk (chunk_of c)) → i < length (next_begins s) → c.seq ≡ slice_index (next_begins s) i + length c.body
    → OnOk r (owners ≡ s.owners ++ i ∷ []) → OnOk r (queue ≡ record s.queue { chunks = s.queue.chunks ++ c ∷ [] })
    → OnErr r (owners ≡ s.owners) → OnErr r (queue ≡ s.queue) → IsSound (record s { queue = queue; owners = owners })
any_sound s i c (Ok value) owners queue sound valid known next owned queued left same = rw (owned, queued) (put_sound s i c sound valid known next)
any_sound s i c (Err fault) owners queue sound valid known next owned queued left same = rw (left, same) sound

pub put_ok : (s old : State) (i : ℕ) (c : Chunk) (r : Result Unit NoMemory) (owners : List ℕ) (queue : Waiting) → s ≡ old
    → OnOk r (owners ≡ s.owners ++ i ∷ []) → OnOk r (queue ≡ record s.queue { chunks = s.queue.chunks ++ c ∷ [] })
    → OnOk r (record s { queue = queue; owners = owners } ≡ with_chunk i c old)
put_ok s old i c (Ok value) owners queue e owned queued = rw (owned, queued) (ap (with_chunk i c) e)
put_ok s old i c (Err fault) owners queue e owned queued = tt

pub put_err : (s old : State) (r : Result Unit NoMemory) (owners : List ℕ) (queue : Waiting) → s ≡ old
    → OnErr r (owners ≡ s.owners) → OnErr r (queue ≡ s.queue) → OnErr r (record s { queue = queue; owners = owners } ≡ old)
put_err s old (Ok value) owners queue e left same = tt
put_err s old (Err fault) owners queue e left same = rw (left, same) e

-- what holds where a call was done
pub by_ok : {T E : Type 0} (r : Result T E) (P : Type 0) → false ≡ is_err r → OnOk r P → P
by_ok (Ok value) P e p = p
by_ok (Err fault) P e p = absurd (true≢false (sym e))
