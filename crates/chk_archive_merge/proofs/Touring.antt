-- How a tour goes on.
use Rattle.std.proofs.Common.{◌≡◌, ℕ, ◌+◌, ◌<◌, ◌≤◌, List, [], ◌∷◌, ◌++◌, length, take, refl, sym, ◌∙◌, ap, subst, arith, append_assoc, append-nil}
use Rattle.std.specs.Prelude.{◌==◌, ◌&&◌, nat_le, true}
use Rattle.std.proofs.lemmas.Bool.{and_from}
use Rattle.std.proofs.lemmas.List.{take_more, take_all}
use Rattle.chk_chunk.specs.Keys.{Chunk, chunk_begin}
use Rattle.chk_world.specs.Books.{End}
use Rattle.chk_record_index.specs.Heads.{Head, head_of}
use Rattle.chk_record_reader.specs.OnePass.{no_end, end_at}
use Rattle.chk_archive_merge.specs.declared.cursor.Cursor.{Cursor}
use Rattle.chk_archive_merge.specs.declared.tour.Tour.{Tour}
use Rattle.chk_archive_merge.specs.Cursors.{IsNext}
use Rattle.chk_archive_merge.specs.Tours.{GoesOnIn, IsBlock, AreBlocks, IsToured, GoesFurther}
use Rattle.chk_archive_merge.proofs.Blocks.{block_more, block_further, blocks_more}

module _ (es : List End) where
  pub first_tour : (t : Tour) → t.stream ≡ 0 → t.file ≡ 0 → t.reached ≡ (end_at es 0).start → IsToured es t []
  first_tour t stream file reached = record {
    past = [];
    now = [];
    split = refl;
    whole = subst (λ n. AreBlocks (take n es) []) (sym stream) refl;
    block = λ low. (reached ∙ ap (λ n. (end_at es n).start) (sym stream), omega arith);
    none = λ past. refl;
  }

  module _ (t u : Tour) (heads : List Head) (was : IsToured es t heads) where
    pub file_further : u.stream ≡ t.stream → u.reached ≡ t.reached → t.file ≤ u.file → IsToured es u heads
    file_further stream reached file = record {
      past = was.past;
      now = was.now;
      split = was.split;
      whole = subst (λ n. AreBlocks (take n es) was.past) (sym stream) was.whole;
      block = λ low.
          subst (λ n. IsBlock (end_at es n) (end_at es n).start 0 was.now u.reached u.file) (sym stream)
          (subst (λ n. IsBlock (end_at es t.stream) (end_at es t.stream).start 0 was.now n u.file) (sym reached)
          (block_further (end_at es t.stream) (end_at es t.stream).start 0 was.now t.reached t.file u.file
          (was.block (omega (arith, low, stream))) file));
      none = λ past. was.none (omega (arith, past, stream));
    }

    pub next_stream : t.stream < length es → t.reached ≡ (end_at es t.stream).end → u.stream ≡ t.stream + 1
        → u.reached ≡ (end_at es u.stream).start → IsToured es u heads
    next_stream low reached stream start = record {
      past = was.past ++ was.now;
      now = [];
      split = was.split ∙ sym (append-nil (was.past ++ was.now));
      whole =
          subst (λ l. AreBlocks l (was.past ++ was.now))
          (sym (ap (λ n. take n es) stream ∙ take_more es t.stream no_end low))
          (blocks_more (take t.stream es) (end_at es t.stream) was.past was.now t.file was.whole
          (subst (λ n. IsBlock (end_at es t.stream) (end_at es t.stream).start 0 was.now n t.file) reached (was.block low)));
      block = λ low. (start, omega arith);
      none = λ past. refl;
    }

    pub head_more : (h : Head) → t.stream < length es → GoesOnIn (end_at es t.stream) t.reached h → h.file ≡ t.file
        → u.stream ≡ t.stream → u.file ≡ t.file → u.reached ≡ h.key.seq → IsToured es u (heads ++ h ∷ [])
    head_more h low on here stream file reached = record {
      past = was.past;
      now = was.now ++ h ∷ [];
      split = ap (λ l. l ++ h ∷ []) was.split ∙ append_assoc was.past was.now (h ∷ []);
      whole = subst (λ n. AreBlocks (take n es) was.past) (sym stream) was.whole;
      block = λ within.
          subst (λ n. IsBlock (end_at es n) (end_at es n).start 0 (was.now ++ h ∷ []) u.reached u.file) (sym stream)
          (subst (λ n. IsBlock (end_at es t.stream) (end_at es t.stream).start 0 (was.now ++ h ∷ []) n u.file) (sym reached)
          (block_more (end_at es t.stream) (end_at es t.stream).start 0 was.now h t.reached t.file u.file (was.block low) on
          (omega (arith, here)) (omega (arith, here, file))));
      none = λ past. absurd (let z : ⊥ = omega (arith, past, low, stream) in z);
    }

    pub all_toured : length es ≤ t.stream → AreBlocks es heads
    all_toured past =
        subst (λ l. AreBlocks l heads) (take_all t.stream es past)
        (subst (AreBlocks (take t.stream es)) (sym (was.split ∙ (ap (λ l. was.past ++ l) (was.none past) ∙ append-nil was.past))) was.whole)

-- ---- without a record

pub on_none : (es : List End) (t : Tour) → GoesFurther es t t
on_none es t = record { same = λ heads x. x }

pub on_file : (es : List End) (t u v : Tour) → GoesFurther es t u → v.stream ≡ u.stream → v.reached ≡ u.reached → u.file ≤ v.file
    → GoesFurther es t v
on_file es t u v g stream reached file = record { same = λ heads x. file_further es u v heads (g.same heads x) stream reached file }

pub on_stream : (es : List End) (t u v : Tour) → GoesFurther es t u → u.stream < length es → u.reached ≡ (end_at es u.stream).end
    → v.stream ≡ u.stream + 1 → v.reached ≡ (end_at es v.stream).start → GoesFurther es t v
on_stream es t u v g low reached stream start = record { same = λ heads x. next_stream es u v heads (g.same heads x) low reached stream start }

-- a chunk that goes on is one whose head does
pub next_goes : (most : ℕ) (e : End) (reached : ℕ) (c : Cursor) (d : Chunk) (file at : ℕ) → IsNext most e reached c d
    → GoesOnIn e reached (head_of file at d)
next_goes most e reached c d file at n =
    let begins = n.begins in
    let further = n.further in
    let start : (d.key.start == e.start) ≡ true = let k = n.start in grind (arith, k) in
    let begin : (chunk_begin d == reached) ≡ true = grind (arith, begins) in
    let low : nat_le d.key.seq e.end ≡ true = let k = n.within in grind (arith, k) in
    record {
      of = n.of;
      on = and_from (d.key.start == e.start) (chunk_begin d == reached && nat_le d.key.seq e.end) start
          (and_from (chunk_begin d == reached) (nat_le d.key.seq e.end) begin low);
      some = (let z : chunk_begin d < d.key.seq = omega (arith, begins, further) in z);
    }
