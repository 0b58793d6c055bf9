-- What is taken of each stream.
use Rattle.std.proofs.Common.{◌≡◌, ℕ, zero, suc, ◌+◌, ◌-◌, ◌<◌, ◌≤◌, Bool, true, false, List, []}
use Rattle.std.proofs.Common.{◌∷◌, ◌++◌, length, map, take, drop, Some, None, refl, ap, ap₂, sym}
use Rattle.std.proofs.Common.{subst, ◌∙◌, arith, append-nil, if◌then◌else◌}
use Rattle.std.specs.Prelude.{flat_map, filter}
use Rattle.std.proofs.lemmas.List.Elements.{filter-append}
use Rattle.std.proofs.lemmas.Option.{none-some, same_Some}
use Rattle.chk_site.specs.Files.{Files}
use Rattle.chk_chunk.specs.Keys.{Stream, Chunk, same_stream, stream_lt, is_of}
use Rattle.chk_world.specs.Books.{chunks_of_stream, values}
use Rattle.chk_world.proofs.Each.{Each}
use Rattle.chk_world.proofs.NameTests.{streams_same}
use Rattle.chk_record_index.specs.Heads.{Head}
use Rattle.chk_record_reader.specs.Courses.{is_head_of}
use Rattle.chk_record_reader.specs.Archives.{chunk_in}
use Rattle.chk_record_reader.proofs.Joining.{values_of}
use Rattle.chk_join_sources.specs.declared.gathering.Side.{Side}
use Rattle.chk_join_sources.specs.Blocks.{head_in, StreamsRise}
use Rattle.chk_join_sources.specs.declared.plan.Choice.{Choice}
use Rattle.chk_join_sources.specs.Pairs.{Pair, is_from_right, taken_end}
use Rattle.chk_join_sources.specs.Plans.{IsBlockOf, IsChoiceOf, AreChoicesOf}
use Rattle.chk_join_sources.specs.Differing.{bytes_of}
use Rattle.chk_join_sources.proofs.Lookup.{pair_stream, pair_for}
use Rattle.chk_join_sources.specs.Copying.{chunks_between, chosen_chunks}
use Rattle.chk_join.proofs.BlockHeads.{block_heads}
use Rattle.chk_join.proofs.PairFacts.{IsMatched, PairsRise, taken_stream, no_pair}
use Rattle.chk_join.proofs.RunFacts.{all_of, none_of}
use Rattle.chk_record_reader.proofs.HeadStreams.{chunks_of_heads}

-- ---- a block

each_front : (P : Head → Type 0) (hs : List Head) (n : ℕ) → n ≤ length hs → ((k : ℕ) → k < n → P (head_in hs k))
    → Each P (take n hs)
each_front P hs zero low all = tt
each_front P [] (suc n) low all = absurd (let z : ⊥ = omega (arith, low) in z)
each_front P (h ∷ hs) (suc n) low all =
    (all 0 (omega arith), each_front P hs n (omega (arith, low)) (λ k less. all (suc k) (omega (arith, less))))

each_block : (P : Head → Type 0) (hs : List Head) (first n : ℕ) → first + n ≤ length hs
    → ((k : ℕ) → first ≤ k → k < first + n → P (head_in hs k)) → Each P (take n (drop first hs))
each_block P hs zero n low all = each_front P hs n (omega (arith, low)) (λ k less. all k (omega arith) (omega (arith, less)))
each_block P [] (suc first) n low all = absurd (let z : ⊥ = omega (arith, low) in z)
each_block P (h ∷ hs) (suc first) n low all =
    each_block P hs first n (omega (arith, low))
    (λ k from less. all (suc k) (omega (arith, from)) (omega (arith, less)))

each_chunk : (side : Side) (held : Files) (s : Stream) (hs : List Head) → Each (λ (h : Head). h.key.stream ≡ s) hs
    → Each (λ (c : Chunk). c.key.stream ≡ s) (map (chunk_in side.names.now held) hs)
each_chunk side held s [] all = tt
each_chunk side held s (h ∷ hs) all = (all.0, each_chunk side held s hs all.1)

block_stream : (side : Side) (held : Files) (s : Stream) (first end : ℕ) → first ≤ end → end ≤ length side.heads.now
    → ((k : ℕ) → first ≤ k → k < end → is_head_of s (head_in side.heads.now k) ≡ true)
    → Each (λ (c : Chunk). c.key.stream ≡ s) (chunks_between side held first end)
block_stream side held s first end low high all =
    each_chunk side held s (take (end - first) (drop first side.heads.now))
    (each_block (λ (h : Head). h.key.stream ≡ s) side.heads.now first (end - first) (omega (arith, low, high))
    (λ k from less. sym (streams_same s (head_in side.heads.now k).key.stream
    (all k from (omega (arith, low, from, less))))))

-- the chunks of the stream's heads
abbrev pub side_chunks : Side → Files → Stream → List Chunk
side_chunks side held s = map (chunk_in side.names.now held) (filter (is_head_of s) side.heads.now)

-- their values are the bytes of the side
pub side_bytes : (side : Side) (held : Files) (s : Stream)
    → bytes_of side held s ≡ values (side_chunks side held s)
side_bytes side held s =
    values_of s side.names.now held side.heads.now
    ∙ ap values (chunks_of_heads s (chunk_in side.names.now held) side.heads.now (λ h. refl))

module _ (l r : Side) (held : Files) (left : StreamsRise l.heads.now) (right : StreamsRise r.heads.now) where
  abbrev f : Choice → List Chunk
  f = chosen_chunks l r held

  -- what the pair's side has of the stream
  abbrev pub taken_chunks : Pair → Stream → List Chunk
  taken_chunks p s = if is_from_right p then side_chunks r held s else side_chunks l held s

  pub taken_values : (p : Pair) (s : Stream)
      → values (taken_chunks p s)
      ≡ (if is_from_right p then bytes_of r held s else bytes_of l held s)
  taken_values p s = go (is_from_right p)
    where
      go : (t : Bool) → values (if t then side_chunks r held s else side_chunks l held s)
          ≡ (if t then bytes_of r held s else bytes_of l held s)
      go true = sym (side_bytes r held s)
      go false = sym (side_bytes l held s)

  choice_stream : (p : Pair) (c : Choice) → IsChoiceOf l.heads.now r.heads.now p c
      → Each (λ (ch : Chunk). ch.key.stream ≡ (taken_end p).stream) (f c)
  choice_stream p c is = go (is_from_right p) is.side is.block
    where
      go : (t : Bool) → c.from_right ≡ t
          → IsBlockOf (if t then r.heads.now else l.heads.now) (taken_end p).stream c.block
          → Each (λ (ch : Chunk). ch.key.stream ≡ (taken_end p).stream) (f c)
      go true e b =
          subst (λ u. Each (λ (ch : Chunk). ch.key.stream ≡ (taken_end p).stream)
          (if u then chunks_between r held c.block.first c.block.end
          else chunks_between l held c.block.first c.block.end)) (sym e)
          (block_stream r held (taken_end p).stream c.block.first c.block.end b.low b.high b.all)
      go false e b =
          subst (λ u. Each (λ (ch : Chunk). ch.key.stream ≡ (taken_end p).stream)
          (if u then chunks_between r held c.block.first c.block.end
          else chunks_between l held c.block.first c.block.end)) (sym e)
          (block_stream l held (taken_end p).stream c.block.first c.block.end b.low b.high b.all)

  abbrev chunks_of : Choice → Bool → List Chunk
  chunks_of c t =
      if t then chunks_between r held c.block.first c.block.end
      else chunks_between l held c.block.first c.block.end

  choice_chunks : (p : Pair) (c : Choice) → IsChoiceOf l.heads.now r.heads.now p c
      → f c ≡ taken_chunks p (taken_end p).stream
  choice_chunks p c is = go (is_from_right p) is.side is.block
    where
      go : (t : Bool) → c.from_right ≡ t
          → IsBlockOf (if t then r.heads.now else l.heads.now) (taken_end p).stream c.block
          → f c ≡ (if t then side_chunks r held (taken_end p).stream
          else side_chunks l held (taken_end p).stream)
      go true e b =
          ap (chunks_of c) e
          ∙ ap (map (chunk_in r.names.now held))
          (block_heads r.heads.now (taken_end p).stream c.block right b)
      go false e b =
          ap (chunks_of c) e
          ∙ ap (map (chunk_in l.names.now held))
          (block_heads l.heads.now (taken_end p).stream c.block left b)

  -- nothing of a stream without a pair
  pub none_taken : (s : Stream) (ps : List Pair) (cs : List Choice) → AreChoicesOf l.heads.now r.heads.now ps cs
      → Each IsMatched ps → pair_for s ps ≡ None → chunks_of_stream s (flat_map f cs) ≡ []
  none_taken s [] [] are m none = refl
  none_taken s [] (c ∷ cs) are m none = absurd are
  none_taken s (p ∷ ps) [] are m none = absurd are
  none_taken s (p ∷ ps) (c ∷ cs) are m none =
      filter-append (is_of s) (f c) (flat_map f cs)
      ∙ go (same_stream s (pair_stream p)) refl none (λ n. none_taken s ps cs are.1 m.1 n)
    where
      go : (b : Bool) → same_stream s (pair_stream p) ≡ b → (if b then Some p else pair_for s ps) ≡ None
          → (pair_for s ps ≡ None → filter (is_of s) (flat_map f cs) ≡ [])
          → filter (is_of s) (f c) ++ filter (is_of s) (flat_map f cs) ≡ []
      go true same n rest = absurd (none-some p (sym n))
      go false other n rest =
          ap₂ (λ x y. x ++ y)
          (none_of s (taken_end p).stream (ap (same_stream s) (taken_stream p m.0) ∙ other) (f c) (choice_stream p c are.0))
          (rest n)

  -- of a stream with a pair what its side has
  pub some_taken : (s : Stream) (ps : List Pair) (cs : List Choice) (q : Pair) → AreChoicesOf l.heads.now r.heads.now ps cs
      → Each IsMatched ps → PairsRise ps → pair_for s ps ≡ Some q
      → chunks_of_stream s (flat_map f cs) ≡ taken_chunks q s
  some_taken s [] cs q are m rise is = absurd (none-some q is)
  some_taken s (p ∷ ps) [] q are m rise is = absurd are
  some_taken s (p ∷ ps) (c ∷ cs) q are m rise is =
      filter-append (is_of s) (f c) (flat_map f cs)
      ∙ go (same_stream s (pair_stream p)) refl is (λ n. some_taken s ps cs q are.1 m.1 rise.1 n)
    where
      go : (b : Bool) → same_stream s (pair_stream p) ≡ b → (if b then Some p else pair_for s ps) ≡ Some q
          → (pair_for s ps ≡ Some q → filter (is_of s) (flat_map f cs) ≡ taken_chunks q s)
          → filter (is_of s) (f c) ++ filter (is_of s) (flat_map f cs) ≡ taken_chunks q s
      go true same i rest =
          let stream : s ≡ pair_stream p = streams_same s (pair_stream p) same in
          let mine : same_stream s (taken_end p).stream ≡ true = ap (same_stream s) (taken_stream p m.0) ∙ same in
          let behind : pair_for s ps ≡ None =
          no_pair s ps (subst (λ t. Each (λ k. stream_lt t (pair_stream k) ≡ true) ps) (sym stream) rise.0) in
          ap₂ (λ x y. x ++ y) (all_of s (taken_end p).stream mine (f c) (choice_stream p c are.0))
          (none_taken s ps cs are.1 m.1 behind)
          ∙ (append-nil (f c)
          ∙ (choice_chunks p c are.0
          ∙ (ap (taken_chunks p) (taken_stream p m.0 ∙ sym stream)
          ∙ ap (λ k. taken_chunks k s) (same_Some p q i))))
      go false other i rest =
          ap (λ x. x ++ filter (is_of s) (flat_map f cs))
          (none_of s (taken_end p).stream (ap (same_stream s) (taken_stream p m.0) ∙ other) (f c) (choice_stream p c are.0))
          ∙ rest i
