-- A post that is out, and what is left behind it.
use Rattle.std.proofs.Common.{◌≡◌, ℕ, zero, suc, ◌+◌, ◌≤◌, List, [], ◌∷◌, length, take, drop, Option, Some, None, ap, sym, subst, ◌∙◌, refl, arith}
use Rattle.std.specs.Prelude.{option_map}
use Rattle.std.proofs.lemmas.Option.{same_Some, none-some}
use Rattle.std.proofs.lemmas.List.{length-drop}
use Rattle.chk_chunk.specs.declared.Chunk.{Chunk}
use Rattle.chk_chunk.specs.Lent.{AreValid, chunks_of}
use Rattle.chk_chunk.specs.Posts.{written_post}
use Rattle.chk_http_grammar.specs.Messages.{Ack}
use Rattle.chk_queue.specs.Queues.{IsLongestFront}
use Rattle.chk_agent_delivery.specs.States.{Post, State}
use Rattle.chk_agent_delivery.specs.Turns.{post_taken}
use Rattle.chk_agent_delivery.specs.Sound.{InTurn, PostIsFront, PostFits, IsSound}
use Rattle.chk_agent_delivery.proofs.Rows.{turn_front, turn_behind, whole_front, answered_same}

-- the post that is out has so many chunks
pub record IsOut (s : State) (count : ℕ) : Type 0 where
  pub post : Post
  pub is : s.post ≡ Some post
  pub count_is : post.count ≡ count
  pub front : PostIsFront s post

pub is_out : (s : State) (count : ℕ) → IsSound s → option_map (λ (p : Post). p.count) s.post ≡ Some count → IsOut s count
is_out s count sound = go s.post refl sound.post
  where
    go : (o : Option Post) → s.post ≡ o → PostFits s o → option_map (λ (p : Post). p.count) o ≡ Some count → IsOut s count
    go None is fits e = absurd (none-some count e)
    go (Some p) is fits e = record { post = p; is = is; count_is = same_Some p.count count e; front = fits }

-- its chunks are the longest front of as many
pub out_front : (s : State) (count : ℕ) (front : List Chunk) → IsOut s count → IsLongestFront s.queue.chunks front count 4194304
    → front ≡ take count s.queue.chunks
out_front s count front o longest =
    let there = o.front.there in
    let is = o.count_is in
    whole_front s.queue.chunks front count 4194304 longest (omega (arith, there, is))
    (subst (λ n. length (written_post (chunks_of (take n s.queue.chunks))) ≤ 4194304) is o.front.short)

pub taken_size : {X : Type 0} (n : ℕ) (xs : List X) → n ≤ length xs → length (take n xs) ≡ n
taken_size zero xs few = refl
taken_size (suc n) [] few = absurd (let z : ⊥ = omega (arith, few) in z)
taken_size (suc n) (x ∷ xs) few = ap suc (taken_size n xs (omega (arith, few)))

-- what is needed for the rows of a front
pub record MayAddRows (s : State) (count : ℕ) (front : List Chunk) : Type 0 where
  pub size : length front ≡ count
  pub owned : length front ≤ length s.owners
  pub turn : InTurn s.table.last s.owners front
  pub room : length s.table.rows + length front ≤ s.table.room
  pub there : count ≤ length s.queue.chunks

pub may_add_rows : (s : State) (count : ℕ) (front : List Chunk) → IsSound s → IsOut s count → front ≡ take count s.queue.chunks
    → MayAddRows s count front
may_add_rows s count front sound o is =
    let there = o.front.there in
    let same = o.count_is in
    let few : count ≤ length s.queue.chunks = omega (arith, there, same) in
    let size : length front ≡ count = ap length is ∙ taken_size count s.queue.chunks few in
    let as_many = sound.as_many in
    let room = o.front.room in
    record {
      size = size;
      owned = omega (arith, size, few, as_many);
      turn = subst (InTurn s.table.last s.owners) (sym is) (turn_front count s.table.last s.owners s.queue.chunks sound.turn);
      room = omega (arith, room, same, size);
      there = few;
    }

dropped_valid : (n : ℕ) (chunks : List Chunk) → AreValid chunks → AreValid (drop n chunks)
dropped_valid zero chunks valid = valid
dropped_valid (suc n) [] valid = valid
dropped_valid (suc n) (c ∷ chunks) valid = dropped_valid n chunks (λ i d below. valid (suc i) d (omega (arith, below)))

-- the state behind it is sound
pub taken_sound : (s : State) (now count : ℕ) (acks : List Ack) → IsSound s → count ≤ length s.queue.chunks → length acks ≡ count
    → IsSound (post_taken now count acks s)
taken_sound s now count acks sound few many = record {
  as_many =
      let same = sound.as_many in
      omega (arith, same, length-drop count s.owners, length-drop count s.queue.chunks);
  turn = turn_behind now count s.owners s.queue.chunks acks s.table many few sound.turn;
  valid = dropped_valid count s.queue.chunks sound.valid;
  room = sound.room;
  most = (answered_same now s.owners (take count s.queue.chunks) acks s.table).1 ∙ sound.most;
  post = tt;
  poll = sound.poll;
}

-- the front that is lent, and its rows
pub record IsFrontOut (s : State) (count : ℕ) (front : List Chunk) : Type 0 where
  pub is : front ≡ take count s.queue.chunks
  pub may : MayAddRows s count front

pub front_out : (s t : State) (count : ℕ) (front : List Chunk) → s ≡ t → IsSound s → option_map (λ (p : Post). p.count) t.post ≡ Some count
    → IsLongestFront s.queue.chunks front count 4194304 → IsFrontOut s count front
front_out s t count front same sound out longest =
    let o = is_out s count sound (ap (λ (k : State). option_map (λ (p : Post). p.count) k.post) same ∙ out) in
    let is = out_front s count front o longest in
    record { is = is; may = may_add_rows s count front sound o is }
