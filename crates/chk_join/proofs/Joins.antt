-- The chosen records of two archives are their join.
use Rattle.std.proofs.Common.{◌≡◌, inl, inr, ℕ, ◌+◌, Bool, true, false, List, [], ◌∷◌, ◌++◌, length}
use Rattle.std.proofs.Common.{map, Option, Some, None, Ok, Err, Result, refl, ap, ap₂, sym, subst}
use Rattle.std.proofs.Common.{◌∙◌, arith, if◌then◌else◌}
use Rattle.std.specs.Prelude.{option_map, nat_lt, sum_by}
use Rattle.std.proofs.lemmas.Bool.{ltb-true, ltb-false}
use Rattle.std.proofs.lemmas.List.{length-append}
use Rattle.std.proofs.lemmas.List.Sums.{sum_by-cons, sum_by-append}
use Rattle.std.proofs.lemmas.Option.{none-some, same_Some}
use Rattle.chk_site.specs.Files.{Files}
use Rattle.chk_site.specs.History.{History}
use Rattle.chk_book.specs.Folders.{most_in}
use Rattle.chk_record_reader.specs.Segments.{names_of, heads_from}
use Rattle.chk_chunk.specs.Keys.{Stream, Chunk, chunk_limit, same_stream}
use Rattle.chk_world.specs.TrueBooks.{HasBytes as HasRoom}
use Rattle.chk_world.specs.Books.{End, Book, chunks_of_stream, values}
use Rattle.chk_world.proofs.Each.{Each}
use Rattle.chk_world.proofs.NameTests.{streams_same}
use Rattle.chk_world.proofs.BooksTrue.{run_length, each_within}
use Rattle.chk_record_index.specs.declared.fault.JobFault.{JobFault}
use Rattle.chk_record_index.specs.declared.fault.JobFault.TheVariants.{Outside, Damaged, Spent, NoMemory}
use Rattle.chk_book.specs.Books.{book_view}
use Rattle.chk_record_reader.specs.Courses.{end_of}
use Rattle.chk_archive_parts.proofs.EndsInOrder.{sorted}
use Rattle.chk_join_sources.specs.declared.gathering.Side.{Side}
use Rattle.chk_join_sources.specs.Blocks.{StreamsRise}
use Rattle.chk_join_sources.specs.Pairs.{Pair, left_alone, right_alone, paired, pairs_of, is_from_right}
use Rattle.chk_join_sources.specs.Pairs.{taken_end}
use Rattle.chk_join_sources.specs.Plans.{size_of}
use Rattle.chk_join_sources.specs.Differing.{bytes_of, DifferAt, AreAlike, PairAgrees, PairDiffers}
use Rattle.chk_join_sources.proofs.Lookup.{pair_stream, pair_for, pair_with_both, lookup, each_for}
use Rattle.chk_join.specs.Archives.{Archived, Archive, join, longer, AgreeAt, Agree}
use Rattle.chk_join.specs.Runs.{AreRuns, IsAlone, bytes_of as size_of_chunks}
use Rattle.chk_join.specs.Joined.{archived_with, archive_with, archive_by, records_of_book}
use Rattle.chk_join.specs.Joined.{records_by, AreJoined, DiffersAt, FirstDiffers}
use Rattle.chk_join.specs.Preparing.{IsGathered, HasOrder, IsPlanned, JoinedSides, JoinsAs}
use Rattle.chk_join.specs.Preparing.{stream_of}
use Rattle.chk_join.specs.declared.preparing.Prepared.{Prepared}
use Rattle.chk_join.specs.declared.preparing.Prepared.TheVariants.{Ready, Differs}
use Rattle.chk_world.proofs.Rounds.{stream_self}
use Rattle.chk_join.proofs.Gathered.{stream_records, stream_bytes, stream_length, heads_rise}
use Rattle.chk_join.proofs.PairFacts.{AreInTurn, in_turn, end_of_taken}
use Rattle.chk_join.proofs.Taken.{side_chunks, taken_chunks, taken_values, none_taken, some_taken}
use Rattle.chk_join.proofs.Agreed.{fronts, IsFirst, is_first}

-- ---- sums

-- runs have as many bytes as their ends say
front_size : (cs : List Chunk) → size_of_chunks cs ≡ length (values cs)
front_size [] = refl
front_size (c ∷ cs) =
    sum_by-cons (λ (c : Chunk). length c.value) c cs
    ∙ (ap (λ n. length c.value + n) (front_size cs) ∙ sym (length-append c.value (values cs)))

pub runs_size : (es : List End) (cs : List Chunk) → AreRuns es cs → Each HasRoom cs → size_of_chunks cs ≡ sum_by size_of es
runs_size [] cs runs room = ap size_of_chunks runs
runs_size (e ∷ es) cs runs room =
    let front = runs.0 in
    let back = runs.1.0 in
    let both : Each HasRoom (front ++ back) = subst (Each HasRoom) runs.1.1.0 room in
    let p = each_parts front back both in
    let run = run_length e.start e.start front e.end p.0 runs.1.1.1.0.run in
    let rest = runs_size es back runs.1.1.1.1 p.1 in
    let size = front_size front in
    ap size_of_chunks runs.1.1.0
    ∙ (sum_by-append (λ (c : Chunk). length c.value) front back
    ∙ (ap₂ (λ m n. m + n) (let z : size_of_chunks front ≡ size_of e = omega (arith, run, size) in z) rest
    ∙ sym (sum_by-cons size_of e es)))
  where
    each_parts : (xs ys : List Chunk) → Each HasRoom (xs ++ ys) → Each HasRoom xs × Each HasRoom ys
    each_parts [] ys all = (tt, all)
    each_parts (x ∷ xs) ys all = let r = each_parts xs ys all.1 in ((all.0, r.0), r.1)

-- ---- one stream

-- what an end and these bytes are of a stream
abbrev side_with : Option End → List ℕ → Option Archived
side_with None v = None
side_with (Some e) v = Some (record { start = e.start; bytes = v })

-- one end lies past the other where its bytes are more
module _ (v w : List ℕ) where
  same_test : (a b : End) → a.start + length v ≡ a.end → b.start + length w ≡ b.end
      → a.start ≡ b.start → nat_lt a.end b.end ≡ nat_lt (length v) (length w)
  same_test a b m n start = go (nat_lt a.end b.end) refl (nat_lt (length v) (length w)) refl
    where
      go : (x : Bool) → nat_lt a.end b.end ≡ x → (y : Bool) → nat_lt (length v) (length w) ≡ y
          → x ≡ y
      go true e true k = refl
      go true e false k =
          let p = ltb-true a.end b.end e in
          let q = ltb-false (length v) (length w) k in
          absurd (let z : ⊥ = omega (arith, p, q, m, n, start) in z)
      go false e true k =
          let p = ltb-false a.end b.end e in
          let q = ltb-true (length v) (length w) k in
          absurd (let z : ⊥ = omega (arith, p, q, m, n, start) in z)
      go false e false k = refl

  -- what an archive has of the stream of a pair, by its ends
  record AreEnds (o p : Option End) : Type 0 where
    left : (e : End) → o ≡ Some e → e.start + length v ≡ e.end
    right : (e : End) → p ≡ Some e → e.start + length w ≡ e.end
    same : (a b : End) → o ≡ Some a → p ≡ Some b → a.start ≡ b.start

  abbrev pair_bytes : Pair → List ℕ
  pair_bytes p = if is_from_right p then w else v

  abbrev longer_by : End → End → Bool → Option Archived
  longer_by a b x = Some (record { start = (if x then b else a).start; bytes = if x then w else v })

  longer_pair : (o p : Option End) (q : Option Pair) → q ≡ pair_with_both o p → AreEnds o p
      → (side : Option Archived)
      → ((k : Pair) → q ≡ Some k → side ≡ side_with (option_map taken_end q) (pair_bytes k))
      → (q ≡ None → side ≡ None)
      → side ≡ longer (side_with o v) (side_with p w)
  longer_pair None None q is ends side some none = none is
  longer_pair (Some a) None q is ends side some none =
      some (left_alone a) is ∙ ap (λ k. side_with (option_map taken_end k) v) is
  longer_pair None (Some b) q is ends side some none =
      some (right_alone b) is ∙ ap (λ k. side_with (option_map taken_end k) w) is
  longer_pair (Some a) (Some b) q is ends side some none =
      some (paired a b) is
      ∙ (ap (λ k. side_with (option_map taken_end k) (pair_bytes (paired a b))) is
      ∙ (ap (longer_by a b) (same_test a b (ends.left a refl) (ends.right b refl)
      (ends.same a b refl refl))
      ∙ go (nat_lt (length v) (length w))))
    where
      go : (x : Bool) → Path (Option Archived) (longer_by a b x)
          (if x then Some (record { start = b.start; bytes = w }) else Some
          (record { start = a.start; bytes = v }))
      go true = refl
      go false = refl

  -- and of its records
  module _ (xs ys : List Chunk) where
    abbrev pair_records : Pair → List Chunk
    pair_records p = if is_from_right p then ys else xs

    records_pair : (o p : Option End) (q : Option Pair) → q ≡ pair_with_both o p → AreEnds o p
        → (cs : List Chunk) → ((k : Pair) → q ≡ Some k → cs ≡ pair_records k) → (q ≡ None → cs ≡ [])
        → cs ≡ records_by (side_with o v) (side_with p w) xs ys
    records_pair None None q is ends cs some none = none is
    records_pair (Some a) None q is ends cs some none = some (left_alone a) is
    records_pair None (Some b) q is ends cs some none = some (right_alone b) is
    records_pair (Some a) (Some b) q is ends cs some none =
        some (paired a b) is
        ∙ ap (λ x. if x then ys else xs)
        (same_test a b (ends.left a refl) (ends.right b refl) (ends.same a b refl refl))

-- an end that is found is of the stream
end_stream : (s : Stream) (es : List End) (e : End) → end_of s es ≡ Some e → e.stream ≡ s
end_stream s [] e is = absurd (none-some e is)
end_stream s (d ∷ es) e is = go (same_stream s d.stream) refl is (λ i. end_stream s es e i)
  where
    go : (b : Bool) → same_stream s d.stream ≡ b → (if b then Some d else end_of s es) ≡ Some e
        → (end_of s es ≡ Some e → e.stream ≡ s) → e.stream ≡ s
    go true mine i rest =
        ap (λ (x : End). x.stream) (sym (same_Some d e i)) ∙ sym (streams_same s d.stream mine)
    go false mine i rest = rest i

-- what chunks have of a stream, by its end
archived_so : (s : Stream) (cs : List Chunk) (o : Option End)
    → archived_with s cs o ≡ side_with o (values (chunks_of_stream s cs))
archived_so s cs None = refl
archived_so s cs (Some e) = refl

-- the chunks of a written segment have room
alone_room : (next : ℕ) (es : List End) (b : Book) (cs : List Chunk) (h : History) → IsAlone next es b cs h
    → Each HasRoom cs
alone_room next es b cs h (beside, inl k) = subst (Each HasRoom) (sym k.1.1.0) tt
alone_room next es b cs h (beside, inr k) =
    let w = k.1.1.1.1 in
    subst (Each HasRoom) (w.form.are ∙ w.chunks_are) (each_within chunk_limit _)

-- ---- both archives

module _ (left right : List ℕ) (a b : Book) (held : Files) (l r : Side) (gl : IsGathered left a held l)
    (gr : IsGathered right b held r) (oa : HasOrder a) (ob : HasOrder b) where
  abbrev A : Archive
  A = archive_by left a held

  abbrev B : Archive
  B = archive_by right b held

  abbrev Ps : List Pair
  Ps = pairs_of a.ends b.ends

  turn : AreInTurn Ps
  turn = in_turn a.ends b.ends (sorted a.ends oa) (sorted b.ends ob)

  found : (s : Stream) → pair_for s Ps ≡ pair_with_both (end_of s a.ends) (end_of s b.ends)
  found s = lookup s a.ends b.ends oa ob

  left_is : (s : Stream) → A s ≡ side_with (end_of s a.ends) (bytes_of l held s)
  left_is s = go (end_of s a.ends) refl
    where
      go : (o : Option End) → end_of s a.ends ≡ o
          → archived_with s (records_of_book left a held) o ≡ side_with o (bytes_of l held s)
      go None has = refl
      go (Some e) has =
          ap (λ v. Some (record { start = e.start; bytes = v })) (sym (stream_bytes left a held l gl s e has))

  right_is : (s : Stream) → B s ≡ side_with (end_of s b.ends) (bytes_of r held s)
  right_is s = go (end_of s b.ends) refl
    where
      go : (o : Option End) → end_of s b.ends ≡ o
          → archived_with s (records_of_book right b held) o ≡ side_with o (bytes_of r held s)
      go None has = refl
      go (Some e) has =
          ap (λ v. Some (record { start = e.start; bytes = v })) (sym (stream_bytes right b held r gr s e has))

  -- what is alike of a pair's ends is alike of its stream
  alike : (s : Stream) (x y : End) → end_of s a.ends ≡ Some x → end_of s b.ends ≡ Some y
      → PairAgrees l r held (paired x y) → AreAlike x.start y.start (bytes_of l held s) (bytes_of r held s)
  alike s x y hx hy k =
      subst (λ t. AreAlike x.start y.start (bytes_of l held t) (bytes_of r held s)) (end_stream s a.ends x hx)
      (subst (λ t. AreAlike x.start y.start (bytes_of l held x.stream) (bytes_of r held t)) (end_stream s b.ends y hy) k)

  agrees : (s : Stream) → ((q : Pair) → pair_for s Ps ≡ Some q → PairAgrees l r held q) → AgreeAt (A s) (B s)
  agrees s each =
      subst (λ x. AgreeAt x (B s)) (sym (left_is s))
      (subst (AgreeAt (side_with (end_of s a.ends) (bytes_of l held s))) (sym (right_is s))
      (go (end_of s a.ends) (end_of s b.ends) refl refl (found s)))
    where
      go : (o p : Option End) → end_of s a.ends ≡ o → end_of s b.ends ≡ p → pair_for s Ps ≡ pair_with_both o p
          → AgreeAt (side_with o (bytes_of l held s)) (side_with p (bytes_of r held s))
      go None p ho hp is = tt
      go (Some x) None ho hp is = tt
      go (Some x) (Some y) ho hp is =
          let k = alike s x y ho hp (each (paired x y) is) in
          (k.0, fronts (bytes_of l held s) (bytes_of r held s) k.1)

  -- of all pairs
  all_agree : Each (PairAgrees l r held) Ps → Agree A B
  all_agree each s = agrees s (λ q is. each_for (PairAgrees l r held) s Ps q each is)

  -- ---- the plan was written

  module _ (next : ℕ) (c : Book) (report : _) (h : History) (each : Each (PairAgrees l r held) Ps)
      (plan : IsPlanned next l r held Ps c report h) where
    ends_are : c.ends ≡ map taken_end Ps
    ends_are = plan.ends ∙ plan.is.ends

    rise_left : StreamsRise l.heads.now
    rise_left = subst StreamsRise (sym gl.heads_are)
        (heads_rise (heads_from (most_in left) held 0 (names_of left a)))

    rise_right : StreamsRise r.heads.now
    rise_right = subst StreamsRise (sym gr.heads_are)
        (heads_rise (heads_from (most_in right) held 0 (names_of right b)))

    ends_so : (s : Stream) → AreEnds (bytes_of l held s) (bytes_of r held s) (end_of s a.ends)
        (end_of s b.ends)
    ends_so s = record {
      left = λ e has. stream_length left a held l gl s e has;
      right = λ e has. stream_length right b held r gr s e has;
      same = λ x y hx hy.
          (alike s x y hx hy
          (each_for (PairAgrees l r held) s Ps (paired x y) each
          (found s ∙ ap₂ pair_with_both hx hy))).0;
    }

    -- the records of a stream are those that its pair's side has
    taken_so : (s : Stream) (k : Pair) → pair_for s Ps ≡ Some k
        → chunks_of_stream s plan.chunks ≡ taken_chunks l r held rise_left rise_right k s
    taken_so s k is =
        ap (chunks_of_stream s) plan.are
        ∙ some_taken l r held rise_left rise_right s Ps plan.plan.choices.items k plan.is.choices
        turn.matched turn.rise is

    joined_is : (s : Stream) → archive_with c plan.chunks s ≡ join A B s
    joined_is s =
        longer_pair v w (end_of s a.ends) (end_of s b.ends) (pair_for s Ps) (found s) (ends_so s)
        (archived_with s plan.chunks (end_of s c.ends)) some none
        ∙ ap₂ longer (sym (left_is s)) (sym (right_is s))
      where
        v : List ℕ
        v = bytes_of l held s

        w : List ℕ
        w = bytes_of r held s

        end_is : end_of s c.ends ≡ option_map taken_end (pair_for s Ps)
        end_is = ap (end_of s) ends_are ∙ end_of_taken s Ps turn.matched

        some : (k : Pair) → pair_for s Ps ≡ Some k
            → archived_with s plan.chunks (end_of s c.ends)
            ≡ side_with (option_map taken_end (pair_for s Ps)) (pair_bytes v w k)
        some k is =
            archived_so s plan.chunks (end_of s c.ends)
            ∙ (ap (λ x. side_with x (values (chunks_of_stream s plan.chunks))) end_is
            ∙ ap (side_with (option_map taken_end (pair_for s Ps)))
            (ap values (taken_so s k is) ∙ taken_values l r held rise_left rise_right k s))

        none : pair_for s Ps ≡ None → archived_with s plan.chunks (end_of s c.ends) ≡ None
        none is = ap (archived_with s plan.chunks) (end_is ∙ ap (option_map taken_end) is)

    records_are : AreJoined A B (records_of_book left a held)
        (records_of_book right b held) plan.chunks
    records_are s =
        records_pair (bytes_of l held s) (bytes_of r held s) xs ys (end_of s a.ends)
        (end_of s b.ends) (pair_for s Ps)
        (found s) (ends_so s) (chunks_of_stream s plan.chunks)
        (λ k is. taken_so s k is ∙ of_pair k (end_of s a.ends) (end_of s b.ends) refl refl
        (sym is ∙ found s))
        (λ is. ap (chunks_of_stream s) plan.are
        ∙ none_taken l r held rise_left rise_right s Ps plan.plan.choices.items plan.is.choices
        turn.matched is)
        ∙ ap₂ (λ o p. records_by o p xs ys) (sym (left_is s)) (sym (right_is s))
      where
        xs : List Chunk
        xs = chunks_of_stream s (records_of_book left a held)

        ys : List Chunk
        ys = chunks_of_stream s (records_of_book right b held)

        of_side : (k : Pair) (t : Bool)
            → (t ≡ false → side_chunks l held s ≡ xs) → (t ≡ true → side_chunks r held s ≡ ys)
            → (if t then side_chunks r held s else side_chunks l held s) ≡ (if t then ys else xs)
        of_side k true first second = second refl
        of_side k false first second = first refl

        of_pair : (k : Pair) (o p : Option End) → end_of s a.ends ≡ o → end_of s b.ends ≡ p
            → Some k ≡ pair_with_both o p
            → taken_chunks l r held rise_left rise_right k s
            ≡ pair_records (bytes_of l held s) (bytes_of r held s) xs ys k
        of_pair k None None ho hp is = absurd (none-some k (sym is))
        of_pair k (Some x) None ho hp is =
            subst (λ q. taken_chunks l r held rise_left rise_right q s
            ≡ pair_records (bytes_of l held s) (bytes_of r held s) xs ys q)
            (sym (same_Some k (left_alone x) is))
            (stream_records left a held l gl s x ho)
        of_pair k None (Some y) ho hp is =
            subst (λ q. taken_chunks l r held rise_left rise_right q s
            ≡ pair_records (bytes_of l held s) (bytes_of r held s) xs ys q)
            (sym (same_Some k (right_alone y) is))
            (stream_records right b held r gr s y hp)
        of_pair k (Some x) (Some y) ho hp is =
            of_side k (is_from_right k) (λ e. stream_records left a held l gl s x ho)
            (λ e. stream_records right b held r gr s y hp)

    bytes_are : report.bytes ≡ size_of_chunks plan.chunks
    bytes_are =
        plan.bytes
        ∙ (plan.is.bytes
        ∙ (ap (sum_by size_of) (sym ends_are)
        ∙ sym (runs_size c.ends plan.chunks plan.runs (alone_room next c.ends c plan.chunks h plan.alone))))

  -- ---- the first difference

  differs_so : (d : _) → IsFirst l r held Ps d → FirstDiffers A B (stream_of d) d.at
  differs_so d x = record {
    there =
        subst (λ o. DiffersAt o (B s) d.at) (sym (left_is s))
        (subst (λ o. DiffersAt (side_with (end_of s a.ends) (bytes_of l held s)) o d.at) (sym (right_is s))
        (go (end_of s a.ends) (end_of s b.ends) refl refl (sym x.there ∙ found s)));
    first = λ t below. agrees t (λ q is. x.first t below q is);
  }
    where
      s : Stream
      s = stream_of d

      said : (m n at : ℕ) (v w : List ℕ) → DifferAt m n v w at
          → DiffersAt (Some (record { start = m; bytes = v })) (Some (record { start = n; bytes = w })) at
      said m n at v w (inl k) = inl k
      said m n at v w (inr k) = inr (k.0, (k.1.0, (k.1.1, k.1.2)))

      go : (o p : Option End) → end_of s a.ends ≡ o → end_of s b.ends ≡ p → Some x.pair ≡ pair_with_both o p
          → DiffersAt (side_with o (bytes_of l held s)) (side_with p (bytes_of r held s)) d.at
      go None None ho hp is = absurd (none-some x.pair (sym is))
      go (Some e) None ho hp is =
          absurd (subst (λ q. PairDiffers l r held q d) (same_Some x.pair (left_alone e) is) x.differs)
      go None (Some e) ho hp is =
          absurd (subst (λ q. PairDiffers l r held q d) (same_Some x.pair (right_alone e) is) x.differs)
      go (Some e) (Some f) ho hp is =
          let k = subst (λ q. PairDiffers l r held q d) (same_Some x.pair (paired e f) is) x.differs in
          said e.start f.start d.at (bytes_of l held s) (bytes_of r held s)
          (subst (λ t. DifferAt e.start f.start (bytes_of l held t) (bytes_of r held s) d.at) (end_stream s a.ends e ho)
          (subst (λ t. DifferAt e.start f.start (bytes_of l held e.stream) (bytes_of r held t) d.at)
          (end_stream s b.ends f hp) k.1))

  -- ---- there is a stream

  some_stream : (ps : List Pair) → Ps ≡ ps → (ps ≡ [] → ⊥) → (s : Stream) × (join A B s ≡ None → ⊥)
  some_stream [] is none = absurd (none refl)
  some_stream (p ∷ ps) is none = (
    pair_stream p,
    λ gone. go (end_of (pair_stream p) a.ends) (end_of (pair_stream p) b.ends)
        (sym (here ∙ refl) ∙ found (pair_stream p))
        (ap₂ longer (sym (left_is (pair_stream p))) (sym (right_is (pair_stream p))) ∙ gone),
  )
    where
      here : pair_for (pair_stream p) Ps ≡ Some p
      here = ap (pair_for (pair_stream p)) is
          ∙ ap (λ t. if t then Some p else pair_for (pair_stream p) ps) (stream_self (pair_stream p))

      go : (o q : Option End) → Some p ≡ pair_with_both o q
          → longer (side_with o (bytes_of l held (pair_stream p))) (side_with q (bytes_of r held (pair_stream p))) ≡ None → ⊥
      go None None e gone = none-some p (sym e)
      go (Some x) None e gone = none-some _ (sym gone)
      go None (Some y) e gone = none-some _ (sym gone)
      go (Some x) (Some y) e gone = pick (nat_lt (length (bytes_of l held (pair_stream p)))
          (length (bytes_of r held (pair_stream p)))) gone
        where
          pick : (t : Bool)
              → if◌then◌else◌ {A = Option Archived} t (Some (record { start = y.start; bytes = bytes_of r held (pair_stream p) }))
              (Some (record { start = x.start; bytes = bytes_of l held (pair_stream p) })) ≡ None → ⊥
          pick true g = none-some _ (sym g)
          pick false g = none-some _ (sym g)

  -- ---- by the answer

  pub joins : (next : ℕ) (result : Result Prepared JobFault) (h : History) → JoinedSides held next l r Ps result h
      → JoinsAs A B (records_of_book left a held) (records_of_book right b held) next result h
  joins next (Ok (Ready c report)) h x = (
    all_agree x.0,
    (
      x.1.chunks,
      (
        x.1.alone,
        (
          joined_is next (book_view c) report h x.0 x.1,
          (
            bytes_are next (book_view c) report h x.0 x.1,
            (x.1.unspent, (records_are next (book_view c) report h x.0 x.1, x.1.runs)),
          ),
        ),
      ),
    ),
  )
  joins next (Ok (Differs d)) h x = differs_so d (is_first l r held Ps d turn.rise x)
  joins next (Err (Spent n)) h x = (all_agree x.0, (x.1.0, (x.1.1.0, some_stream Ps refl x.1.1.1)))
  joins next (Err (Damaged name at)) h x = tt
  joins next (Err (Outside call)) h x = tt
  joins next (Err NoMemory) h x = tt
