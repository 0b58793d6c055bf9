-- The state that is left where adaptors go is sound.
use Rattle.std.proofs.Common.{◌≡◌, ◌≤◌, ◌<◌, ℕ, zero, suc, ◌+◌, Bool, true, false, not, if◌then◌else◌, map, fold, replicate, List, [], ◌∷◌, length, take, inl, inr, Option, Some, None, refl, sym, subst, ap, ap₂, ◌∙◌, arith, true≢false}
use Rattle.std.specs.Prelude.{filter, option_map, slice_index, slice_set}
use Rattle.std.specs.List.{list_any, All}
use Rattle.std.proofs.lemmas.Bool.{cases_eq}
use Rattle.std.proofs.lemmas.List.{get_or-set_same, get_or-set_other, length-replicate}
use Rattle.chk_chunk.specs.declared.Chunk.{Chunk}
use Rattle.chk_chunk.specs.Lent.{AreValid, chunks_of}
use Rattle.chk_chunk.specs.Posts.{post_limit, written_post}
use Rattle.chk_queue.specs.Queues.{Waiting, marked}
use Rattle.chk_acks.specs.declared.row.Row.{Row}
use Rattle.chk_acks.specs.Resets.{without_rows}
use Rattle.chk_acks.specs.Sound.{IsSound as IsSoundTable}
use Rattle.chk_acks.specs.Table.{Table}
use Rattle.chk_agent_delivery.specs.States.{Post, State}
use Rattle.chk_agent_delivery.specs.Turns.{is_one_of, last_back, table_without, without_adaptors, without_chunks}
use Rattle.chk_agent_delivery.specs.declared.delivery.OutPost.{OutPost}
use Rattle.chk_agent_delivery.specs.Fields.{post_view}
use Rattle.chk_agent_delivery.specs.Marks.{is_left, with_mark}
use Rattle.chk_agent_delivery.specs.Sound.{InTurn, IsSound, PostFits}
use Rattle.chk_agent_delivery.proofs.Due.{neither}
use Rattle.chk_agent_delivery.proofs.LengthStates.{kept_less}
use Rattle.chk_agent_delivery.proofs.Marked.{AreBelow, AreMarks, any_gone, are_marks, kept_chunks, kept_ends, kept_owners, kept_rows, length-marks}
use Rattle.chk_agent_delivery.proofs.Rows.{length_set}

-- each owner has its last end
pub owners_below : (last owners : List ℕ) (chunks : List Chunk) → length owners ≡ length chunks
    → InTurn last owners chunks
    → AreBelow (length last) owners
owners_below last [] chunks many turn = tt
owners_below last (i ∷ owners) [] many turn = absurd (omega arith)
owners_below last (i ∷ owners) (c ∷ chunks) many turn = (
  turn.0,
  subst (λ n. AreBelow n owners) (length_set last i c.seq)
      (owners_below (slice_set last i c.seq) owners chunks (omega arith) turn.3),
)

-- the last ends of the others stay
pub length-last_back : (gone committed : List ℕ) (i : ℕ) (last : List ℕ)
    → length (last_back gone committed i last) ≡ length last
length-last_back gone committed i [] = refl
length-last_back gone committed i (o ∷ last) = ap suc (length-last_back gone committed (suc i) last)

last_back-other : (gone committed : List ℕ) (i : ℕ) (last : List ℕ) (k : ℕ)
    → is_one_of gone (i + k) ≡ false
    → slice_index (last_back gone committed i last) k ≡ slice_index last k
last_back-other gone committed i [] k other = refl
last_back-other gone committed i (o ∷ last) zero other =
    ap (λ b. if b then slice_index committed i else o) (ap (is_one_of gone) (omega arith) ∙ other)
last_back-other gone committed i (o ∷ last) (suc k) other =
    last_back-other gone committed (suc i) last k (ap (is_one_of gone) (omega arith) ∙ other)

-- the last ends agree but for these adaptors
record Agree (gone last new : List ℕ) : Type 0 where
  as_many : length new ≡ length last
  others : (k : ℕ) → is_one_of gone k ≡ false → slice_index new k ≡ slice_index last k

-- they still do after a chunk of one of them, and of another
agree_gone : (gone last new : List ℕ) (i at : ℕ) → is_one_of gone i ≡ true → Agree gone last new
    → Agree gone (slice_set last i at) new
agree_gone gone last new i at is agree = record {
  as_many = agree.as_many ∙ sym (length_set last i at);
  others = λ k other.
      agree.others k other
      ∙ sym (get_or-set_other last i k at 0
      (λ e. true≢false (sym is ∙ ap (is_one_of gone) (sym e) ∙ other)));
}

agree_other : (gone last new : List ℕ) (i at : ℕ) → i < length last → Agree gone last new
    → Agree gone (slice_set last i at) (slice_set new i at)
agree_other gone last new i at within agree = record {
  as_many = length_set new i at ∙ agree.as_many ∙ sym (length_set last i at);
  others = λ k other. elim (cases_eq k i) [
    | inl same ↦
        ap (slice_index (slice_set new i at)) same
        ∙ get_or-set_same new i at 0 (omega (arith, agree.as_many))
        ∙ sym (ap (slice_index (slice_set last i at)) same ∙ get_or-set_same last i at 0 within)
    | inr apart ↦
        get_or-set_other new i k at 0 apart ∙ agree.others k other
        ∙ sym (get_or-set_other last i k at 0 apart)
  ];
}

-- the chunks that are left lie in turn
turn_left : (gone last new owners : List ℕ) (chunks : List Chunk) → Agree gone last new
    → InTurn last owners chunks
    → InTurn new (filter (λ i. not (is_one_of gone i)) owners) (without_chunks gone owners chunks)
turn_left gone last new [] [] agree turn = tt
turn_left gone last new (i ∷ owners) [] agree turn = tt
turn_left gone last new [] (c ∷ chunks) agree turn = absurd turn
turn_left gone last new (i ∷ owners) (c ∷ chunks) agree turn =
    by (is_one_of gone i) refl (λ last' new' agree' turn'. turn_left gone last' new' owners chunks
    agree' turn')
  where
    by : (b : Bool) → is_one_of gone i ≡ b
        → ((last' new' : List ℕ) → Agree gone last' new' → InTurn last' owners chunks
        → InTurn new' (filter (λ i. not (is_one_of gone i)) owners)
        (without_chunks gone owners chunks))
        → InTurn new
        (if not b then i ∷ filter (λ i. not (is_one_of gone i)) owners
        else filter (λ i. not (is_one_of gone i)) owners)
        (if b then without_chunks gone owners chunks else c ∷ without_chunks gone owners chunks)
    by true is rest = rest (slice_set last i c.seq) new (agree_gone gone last new i c.seq is agree)
        turn.3
    by false is rest = (
      (let many = agree.as_many in let below = turn.0 in omega (arith, many, below)),
      turn.1 ∙ ap (λ k. k + length c.body) (sym (agree.others i is)),
      turn.2,
      rest (slice_set last i c.seq) (slice_set new i c.seq)
          (agree_other gone last new i c.seq turn.0 agree) turn.3,
    )

as_many_left : (gone owners : List ℕ) (chunks : List Chunk) → length owners ≡ length chunks
    → length (filter (λ i. not (is_one_of gone i)) owners)
    ≡ length (without_chunks gone owners chunks)
as_many_left gone [] [] many = refl
as_many_left gone [] (c ∷ chunks) many = absurd (omega arith)
as_many_left gone (i ∷ owners) [] many = absurd (omega arith)
as_many_left gone (i ∷ owners) (c ∷ chunks) many =
    by (is_one_of gone i) (as_many_left gone owners chunks (omega arith))
  where
    by : (b : Bool)
        → length (filter (λ i. not (is_one_of gone i)) owners)
        ≡ length (without_chunks gone owners chunks)
        → length (if not b then i ∷ filter (λ i. not (is_one_of gone i)) owners
        else filter (λ i. not (is_one_of gone i)) owners)
        ≡ length (if b then without_chunks gone owners chunks
        else c ∷ without_chunks gone owners chunks)
    by true e = e
    by false e = ap suc e

valid_left : (gone owners : List ℕ) (chunks : List Chunk) → AreValid chunks
    → AreValid (without_chunks gone owners chunks)
valid_left gone [] chunks valid i c within = absurd (omega arith)
valid_left gone (j ∷ owners) [] valid i c within = absurd (omega arith)
valid_left gone (j ∷ owners) (d ∷ chunks) valid i c within =
    by (is_one_of gone j)
    (λ k e there. valid_left gone owners chunks
    (λ m f below. valid (suc m) f (omega (arith, below))) k e there)
    i c within
  where
    with_first : AreValid (without_chunks gone owners chunks)
        → AreValid (d ∷ without_chunks gone owners chunks)
    with_first rest zero e there = valid 0 d (omega arith)
    with_first rest (suc k) e there = rest k e (omega (arith, there))

    by : (b : Bool) → AreValid (without_chunks gone owners chunks)
        → AreValid (if b then without_chunks gone owners chunks
        else d ∷ without_chunks gone owners chunks)
    by true rest = rest
    by false rest = with_first rest

-- where no adaptor of a chunk goes, each chunk stays
all_left : (gone owners : List ℕ) (chunks : List Chunk) → length owners ≡ length chunks
    → list_any (is_one_of gone) owners ≡ false → without_chunks gone owners chunks ≡ chunks
all_left gone [] [] many other = refl
all_left gone [] (c ∷ chunks) many other = absurd (omega arith)
all_left gone (i ∷ owners) [] many other = absurd (omega arith)
all_left gone (i ∷ owners) (c ∷ chunks) many other =
    let n = neither (is_one_of gone i) (list_any (is_one_of gone) owners) other in
    ap₂ (λ b l. if b then without_chunks gone owners chunks else c ∷ l) n.0
    (all_left gone owners chunks (omega arith) n.1)

-- the state that is left
pub sound_without : (gone : List ℕ) (s : State) → IsSound s → IsSound (without_adaptors gone s)
sound_without gone s sound = record {
  as_many = as_many_left gone s.owners s.queue.chunks sound.as_many;
  turn = turn_left gone s.table.last (last_back gone s.table.committed 0 s.table.last) s.owners
      s.queue.chunks
      (record {
        as_many = length-last_back gone s.table.committed 0 s.table.last;
        others = λ k other. last_back-other gone s.table.committed 0 s.table.last k
            (ap (is_one_of gone) (omega arith) ∙ other);
      })
      sound.turn;
  valid = valid_left gone s.owners s.queue.chunks sound.valid;
  room = sound.room;
  most = sound.most;
  post = by (list_any (is_one_of gone) s.owners) refl;
  poll = sound.poll;
}
  where
    fits : (p : Option Post) → list_any (is_one_of gone) s.owners ≡ false → PostFits s p
        → PostFits (without_adaptors gone s) p
    fits None other front = tt
    fits (Some p) other front =
        let same = all_left gone s.owners s.queue.chunks sound.as_many other in
        let less = kept_less (λ (row : Row). not (is_one_of gone row.adaptor)) s.table.rows in
        let room = front.room in
        record {
          some = front.some;
          few = front.few;
          there = subst (λ chunks. p.count ≤ length chunks) (sym same) front.there;
          room = omega (arith, room, less);
          short = subst (λ chunks. length (written_post (chunks_of (take p.count chunks))) ≤
              post_limit) (sym same) front.short;
        }

    by : (b : Bool) → list_any (is_one_of gone) s.owners ≡ b
        → PostFits (without_adaptors gone s) (if b then None else s.post)
    by true is = tt
    by false is = fits s.post is sound.post

-- ---- the calls

-- there is a mark for each adaptor, and each owner has one
marks_size : (gone : List ℕ) (count : ℕ) → length (fold with_mark (replicate count false) gone)
    ≡ count
marks_size gone count = length-marks gone (replicate count false) ∙ length-replicate count false

-- the post that is out is seen so
pub post_left : (b : Bool) (o : Option OutPost)
    → option_map post_view (if b then None else o) ≡ (if b then None else option_map post_view o)
post_left true o = refl
post_left false o = refl

-- what is left of a sound state, by the marks of those that go
pub record IsLeft (s : State) (gone : List ℕ) (marks : List Bool) : Type 0 where
  pub size : length marks ≡ length s.table.committed
  pub chunks : marked (map (is_left marks) s.owners) s.queue.chunks
      ≡ without_chunks gone s.owners s.queue.chunks
  pub owners : filter (is_left marks) s.owners ≡ filter (λ i. not (is_one_of gone i)) s.owners
  pub table : without_rows marks s.table ≡ table_without gone s.table
  pub dropped : list_any not (map (is_left marks) s.owners) ≡ list_any (is_one_of gone) s.owners

pub is_left_by : (s : State) (gone : List ℕ) (marks : List Bool) → IsSound s → IsSoundTable s.table
    → marks ≡ fold with_mark (replicate (length s.table.committed) false) gone → IsLeft s gone marks
is_left_by s gone marks sound table made =
    let count = length s.table.committed in
    let size : length marks ≡ count = ap length made ∙ marks_size gone count in
    let last : length marks ≡ length s.table.last = size ∙ sym table.as_many in
    let are : AreMarks gone 0 marks = subst (AreMarks gone 0) (sym made) (are_marks gone count) in
    let below : AreBelow (length marks) s.owners =
    subst (λ n. AreBelow n s.owners) (sym last)
    (owners_below s.table.last s.owners s.queue.chunks sound.as_many sound.turn) in
    record {
      size = size;
      chunks = kept_chunks gone marks are s.owners s.queue.chunks below;
      owners = kept_owners gone marks are s.owners below;
      table = ap₂ (λ rows ends. record s.table { rows = rows; last = ends })
          (kept_rows gone marks are s.table.rows
          (subst (λ n. All (λ (row : Row). row.adaptor < n) s.table.rows) (sym size) table.known))
          (kept_ends gone marks s.table.committed s.table.last (sym table.as_many) last are);
      dropped = any_gone gone marks are s.owners below;
    }

-- the state after the passes
pub left_state : (s : State) (gone : List ℕ) (marks kept : List Bool) (queue : Waiting)
    (owners : List ℕ) (table : Table)
    (out : Option Post) → IsLeft s gone marks → kept ≡ map (is_left marks) s.owners
    → queue ≡ record s.queue { chunks = marked kept s.queue.chunks } → owners
    ≡ filter (is_left marks) s.owners
    → table ≡ without_rows marks s.table → out ≡ (if list_any not kept then None else s.post)
    → record s { queue = queue; owners = owners; table = table; post = out }
    ≡ without_adaptors gone s
left_state s gone marks kept queue owners table out left kept_is queue_is owners_is table_is out_is =
    let chunks : marked kept s.queue.chunks ≡ without_chunks gone s.owners s.queue.chunks =
    ap (λ k. marked k s.queue.chunks) kept_is ∙ left.chunks in
    let dropped : list_any not kept ≡ list_any (is_one_of gone) s.owners =
    ap (list_any not) kept_is ∙ left.dropped in
    rw (queue_is, owners_is, table_is, out_is, chunks, left.owners, left.table, dropped) refl
