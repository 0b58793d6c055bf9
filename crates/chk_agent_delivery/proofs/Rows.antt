-- Rows for a front of chunks that lie in turn.
use Rattle.std.proofs.Common.{◌≡◌, inl, inr, ℕ, zero, suc, ◌+◌, ◌-◌, ◌≤◌, ◌<◌, List, [], ◌∷◌, length, take, drop, ap, sym, subst, ◌∙◌, refl, arith}
use Rattle.std.specs.Prelude.{slice_index, slice_set, slice_index_or}
use Rattle.std.proofs.lemmas.List.{length-append, drop_more}
use Rattle.std.proofs.lemmas.Bool.{cases_lt}
use Rattle.chk_chunk.specs.declared.Chunk.{Chunk}
use Rattle.chk_chunk.specs.Lent.{chunks_of}
use Rattle.chk_chunk.specs.Posts.{written_post}
use Rattle.chk_http_grammar.specs.Messages.{Ack}
use Rattle.chk_queue.specs.Queues.{IsLongestFront}
use Rattle.chk_acks.specs.Table.{Table, added, answer_row}
use Rattle.chk_agent_delivery.specs.Turns.{answered_rows}
use Rattle.chk_agent_delivery.specs.Sound.{InTurn}

-- ---- lists

-- what is left begins with what stands at the place
pub drop_at : {X : Type 0} (xs : List X) (i : ℕ) (x : X) → i < length xs → x ≡ slice_index_or xs i x → drop i xs ≡ x ∷ drop (i + 1) xs
drop_at xs i x below is = drop_more xs i x below ∙ ap (λ k. k ∷ drop (i + 1) xs) (sym is)

pub length_set : (xs : List ℕ) (i x : ℕ) → length (slice_set xs i x) ≡ length xs
length_set [] i x = refl
length_set (y ∷ ys) zero x = refl
length_set (y ∷ ys) (suc i) x = ap suc (length_set ys i x)

-- ---- the loop that adds them

-- before the chunk at a place: what is to be added is what is left, and may be added
pub record RowsOn (now : ℕ) (owners : List ℕ) (front : List Chunk) (all : List Ack) (from : Table) (i : ℕ) (lines : List Ack) (t : Table) : Type 0 where
  pub total : answered_rows now (drop i owners) (drop i front) lines t ≡ answered_rows now owners front all from
  pub turn : InTurn t.last (drop i owners) (drop i front)
  pub many : length lines + i ≡ length front
  pub room : length t.rows + (length front - i) ≤ t.room
  pub ends : length t.last ≡ length t.committed

pub rows_begin : (now : ℕ) (owners : List ℕ) (front : List Chunk) (all : List Ack) (t : Table) → length all ≡ length front
    → InTurn t.last owners front → length t.rows + length front ≤ t.room → length t.last ≡ length t.committed
    → RowsOn now owners front all t 0 all t
rows_begin now owners front all t many turn room ends =
    record { total = refl; turn = turn; many = omega (arith, many); room = omega (arith, room); ends = ends }

-- the next row may be added
pub record MayAdd (t : Table) (owner : ℕ) (c : Chunk) : Type 0 where
  pub known : owner < length t.committed
  pub next : c.seq ≡ slice_index t.last owner + length c.body
  pub some : 0 < length c.body

pub may_add : (now : ℕ) (owners : List ℕ) (front : List Chunk) (all : List Ack) (from : Table) (i : ℕ) (lines : List Ack) (t : Table)
    (owner : ℕ) (c : Chunk) → RowsOn now owners front all from i lines t → drop i owners ≡ owner ∷ drop (i + 1) owners
    → drop i front ≡ c ∷ drop (i + 1) front → MayAdd t owner c
may_add now owners front all from i lines t owner c r here chunk =
    let first = subst (λ os. InTurn t.last os (c ∷ drop (i + 1) front)) here (subst (λ cs. InTurn t.last (drop i owners) cs) chunk r.turn) in
    let below = first.0 in
    let ends = r.ends in
    record { known = omega (arith, below, ends); next = first.1; some = first.2 }

-- it is added
pub rows_on : (now : ℕ) (owners : List ℕ) (front : List Chunk) (all : List Ack) (from : Table) (i : ℕ) (k : Ack) (lines : List Ack) (t : Table)
    (owner begin : ℕ) (c : Chunk) → RowsOn now owners front all from i (k ∷ lines) t → i < length front
    → drop i owners ≡ owner ∷ drop (i + 1) owners → drop i front ≡ c ∷ drop (i + 1) front → begin ≡ c.seq - length c.body
    → RowsOn now owners front all from (i + 1) lines (added (answer_row owner begin c.seq k.stem k.number now) t)
rows_on now owners front all from i k lines t owner begin c r below here chunk is =
    let first = subst (λ os. InTurn t.last os (c ∷ drop (i + 1) front)) here (subst (λ cs. InTurn t.last (drop i owners) cs) chunk r.turn) in
    let row = answer_row owner begin c.seq k.stem k.number now in
    let many = r.many in
    let room = r.room in
    record {
      total = ap (λ b. answered_rows now (drop (i + 1) owners) (drop (i + 1) front) lines (added (answer_row owner b c.seq k.stem k.number now) t)) is
          ∙ (sym (ap (λ os. answered_rows now os (c ∷ drop (i + 1) front) (k ∷ lines) t) here)
          ∙ (sym (ap (λ cs. answered_rows now (drop i owners) cs (k ∷ lines) t) chunk) ∙ r.total));
      turn = first.3;
      many = omega (arith, many);
      room = let size = length-append t.rows (row ∷ []) in omega (arith, room, below, size);
      ends = length_set t.last owner c.seq ∙ r.ends;
    }

-- at the end
pub rows_end : (now : ℕ) (owners : List ℕ) (front : List Chunk) (all : List Ack) (from : Table) (i : ℕ) (lines : List Ack) (t : Table)
    → RowsOn now owners front all from i lines t → length front ≤ i → t ≡ answered_rows now owners front all from
rows_end now owners front all from i lines t r last = none (drop i owners) (drop i front) lines (no_more front i last) ∙ r.total
  where
    no_more : (xs : List Chunk) (i : ℕ) → length xs ≤ i → drop i xs ≡ []
    no_more [] zero below = refl
    no_more [] (suc i) below = refl
    no_more (x ∷ xs) zero below = absurd (let z : ⊥ = omega (arith, below) in z)
    no_more (x ∷ xs) (suc i) below = no_more xs i (omega (arith, below))

    none : (os : List ℕ) (cs : List Chunk) (lines : List Ack) → cs ≡ [] → t ≡ answered_rows now os cs lines t
    none [] cs lines e = refl
    none (o ∷ os) [] lines e = refl
    none (o ∷ os) (c ∷ cs) lines e = absurd (cc)

-- ---- what the rows leave

-- they leave the committed ends and the room, and each has a place
pub answered_same : (now : ℕ) (owners : List ℕ) (front : List Chunk) (acks : List Ack) (t : Table)
    → ((answered_rows now owners front acks t).committed ≡ t.committed) × ((answered_rows now owners front acks t).room ≡ t.room)
answered_same now [] front acks t = (refl, refl)
answered_same now (i ∷ owners) [] acks t = (refl, refl)
answered_same now (i ∷ owners) (c ∷ front) [] t = (refl, refl)
answered_same now (i ∷ owners) (c ∷ front) (k ∷ acks) t =
    answered_same now owners front acks (added (answer_row i (c.seq - length c.body) c.seq k.stem k.number now) t)

-- what waits behind the front goes on where the rows end
pub turn_behind : (now n : ℕ) (owners : List ℕ) (chunks : List Chunk) (acks : List Ack) (t : Table) → length acks ≡ n → n ≤ length chunks
    → InTurn t.last owners chunks → InTurn (answered_rows now owners (take n chunks) acks t).last (drop n owners) (drop n chunks)
turn_behind now zero [] chunks acks t many few turn = turn
turn_behind now zero (i ∷ owners) chunks acks t many few turn = turn
turn_behind now (suc n) owners [] acks t many few turn = absurd (let z : ⊥ = omega (arith, few) in z)
turn_behind now (suc n) [] (c ∷ chunks) acks t many few turn = absurd turn
turn_behind now (suc n) (i ∷ owners) (c ∷ chunks) [] t many few turn = absurd (let z : ⊥ = omega (arith, many) in z)
turn_behind now (suc n) (i ∷ owners) (c ∷ chunks) (k ∷ acks) t many few turn =
    turn_behind now n owners chunks acks (added (answer_row i (c.seq - length c.body) c.seq k.stem k.number now) t)
    (omega (arith, many)) (omega (arith, few)) turn.3

-- the front of chunks that lie in turn does
pub turn_front : (n : ℕ) (last owners : List ℕ) (chunks : List Chunk) → InTurn last owners chunks → InTurn last owners (take n chunks)
turn_front zero last owners chunks turn = tt
turn_front (suc n) last owners [] turn = tt
turn_front (suc n) last [] (c ∷ chunks) turn = absurd turn
turn_front (suc n) last (i ∷ owners) (c ∷ chunks) turn = (turn.0, turn.1, turn.2, turn_front n (slice_set last i c.seq) owners chunks turn.3)

-- the longest front of at most so many chunks is all of them, where they fit
pub whole_front : (chunks front : List Chunk) (count bytes : ℕ) → IsLongestFront chunks front count bytes → count ≤ length chunks
    → length (written_post (chunks_of (take count chunks))) ≤ bytes → front ≡ take count chunks
whole_front chunks front count bytes l there fits =
    let few = l.few in
    let long : count ≤ length front = least (length front) refl in
    let same : length front ≡ count = omega (arith, few, long) in
    l.is ∙ ap (λ n. take n chunks) same
  where
    least : (n : ℕ) → length front ≡ n → count ≤ n
    least n is = elim (cases_lt n count) [
      | inr below ↦ below
      | inl above ↦
          let more = l.longest count (omega (arith, is, above)) there (omega arith) in
          absurd (let z : ⊥ = omega (arith, more, fits) in z)
    ]
