-- What is given as bytes of a stream are fed.
use Rattle.std.proofs.Common.{◌≡◌, ℕ, zero, suc, ◌+◌, ◌-◌, ◌<◌, Bool, true, false, List, [], ◌∷◌, ◌++◌, length, map, take, drop, ap, sym, subst, ◌∙◌, refl, arith, append_assoc, append-nil, length-append, length-drop}
use Rattle.std.proofs.lemmas.List.{map-append, take-append-drop}
use Rattle.chk_bytes.specs.Words.{joined}
use Rattle.chk_chunk.specs.Keys.{Chunk}
use Rattle.chk_world.specs.Books.{End}
use Rattle.chk_world.specs.Splits.{ends_from}
use Rattle.chk_record_index.specs.Heads.{Head}
use Rattle.chk_archive_plan.specs.Passes.{head_in}
use Rattle.chk_demux_split.specs.Splitting.{Splitting, Feeds, fresh, record_of, pieces_of, records_ahead}
use Rattle.chk_demux.specs.Giving.{keyed, made_chunk, given_chunks, pending_of, place_given, IsSplitting, IsPlaced, record_chunk, chunks_of_fed}
use Rattle.chk_demux_split.proofs.FeedLemmas.{none_ahead, joined-append, joined-record}
use Rattle.chk_demux_split.proofs.RecordLemmas.{ends-append}

-- before the first byte
pub fresh_splits : (t : Bool) → IsSplitting t [] (fresh t)
fresh_splits true = record { kind = refl; rest = refl; ahead = λ more. refl }
fresh_splits false = record { kind = refl; rest = refl; ahead = λ more. refl }

module _ (t : Bool) (fed bytes : List ℕ) (old new : Splitting) (s : IsSplitting t fed old) (f : Feeds old new bytes) where
  ahead_now : (more : List ℕ) → pieces_of t ((fed ++ bytes) ++ more)
      ≡ (pieces_of t fed ++ record_of new.given) ++ records_ahead new more
  ahead_now more =
      ap (pieces_of t) (append_assoc fed bytes more)
      ∙ (s.ahead (bytes ++ more)
      ∙ (ap (λ l. pieces_of t fed ++ l) (f.ahead more)
      ∙ sym (append_assoc (pieces_of t fed) (record_of new.given) (records_ahead new more))))

  pub one_more : pieces_of t (fed ++ bytes) ≡ pieces_of t fed ++ record_of new.given
  one_more =
      ap (pieces_of t) (sym (append-nil (fed ++ bytes)))
      ∙ (ahead_now []
      ∙ (ap (λ l. (pieces_of t fed ++ record_of new.given) ++ l) (none_ahead new)
      ∙ append-nil (pieces_of t fed ++ record_of new.given)))

  rest_now : fed ++ bytes ≡ joined (pieces_of t (fed ++ bytes)) ++ new.begun ++ new.line
  rest_now =
      let all = joined (pieces_of t fed) in
      let same : joined (pieces_of t (fed ++ bytes)) ≡ all ++ new.given =
      ap joined one_more ∙ (joined-append (pieces_of t fed) (record_of new.given)
      ∙ ap (λ l. all ++ l) (joined-record new.given)) in
      ap (λ l. l ++ bytes) s.rest
      ∙ (append_assoc (all ++ old.begun) old.line bytes
      ∙ (append_assoc all old.begun (old.line ++ bytes)
      ∙ (ap (λ l. all ++ l) (sym (append_assoc old.begun old.line bytes) ∙ f.kept)
      ∙ (sym (append_assoc all (new.given ++ new.begun) new.line)
      ∙ (ap (λ l. l ++ new.line) (sym (append_assoc all new.given new.begun))
      ∙ ap (λ l. (l ++ new.begun) ++ new.line) (sym same))))))

  pub splits_on : IsSplitting t (fed ++ bytes) new
  splits_on = record {
    kind = f.kind ∙ s.kind;
    rest = rest_now;
    ahead = λ more. ahead_now more ∙ ap (λ l. l ++ records_ahead new more) (sym one_more);
  }

-- how many bytes are of complete records, and of none
pub held_size : (t : Bool) (fed : List ℕ) (s : Splitting) → IsSplitting t fed s
    → length fed ≡ length (joined (pieces_of t fed)) + pending_of s
held_size t fed s k =
    let a = ap length k.rest in
    let b = length-append (joined (pieces_of t fed) ++ s.begun) s.line in
    let c = length-append (joined (pieces_of t fed)) s.begun in
    omega (arith, a, b, c)

module _ (heads : List Head) (e : End) (from : ℕ) where
  pub chunks_on : (t : Bool) (a b : List ℕ) (more : List (List ℕ)) → pieces_of t b ≡ pieces_of t a ++ more
      → chunks_of_fed heads e from t b
      ≡ chunks_of_fed heads e from t a ++ map (record_chunk heads e) (ends_from (from + length (joined (pieces_of t a))) more)
  chunks_on t a b more is =
      ap (λ l. map (record_chunk heads e) (ends_from from l)) is
      ∙ (ap (map (record_chunk heads e)) (ends-append from (pieces_of t a) more)
      ∙ map-append (record_chunk heads e) (ends_from from (pieces_of t a))
      (ends_from (from + length (joined (pieces_of t a))) more))

  -- what is written of the record that the splitter gives
  module _ (t : Bool) (fed bytes more : List ℕ) (old new : Splitting) (s : IsSplitting t fed old) (f : Feeds old new bytes)
      (index : ℕ) (placed : IsPlaced heads e index from ((fed ++ bytes) ++ more)) where
    abbrev Seq : ℕ
    Seq = (head_in heads index).key.seq

    given_is : (g : List ℕ) → new.given ≡ g
        → given_chunks heads e index (place_given heads index (length more) new) g
        ≡ map (record_chunk heads e) (ends_from (from + length (joined (pieces_of t fed))) (record_of g))
    given_is [] is = refl
    given_is (b ∷ g) is =
        let size = held_size t (fed ++ bytes) new (splits_on t fed bytes old new s f) in
        let parts = ap (λ l. length (joined l)) (one_more t fed bytes old new s f) in
        let both = ap length (joined-append (pieces_of t fed) (record_of new.given)) in
        let sum = length-append (joined (pieces_of t fed)) (joined (record_of new.given)) in
        let one = ap length (joined-record new.given) in
        let len : length new.given ≡ suc (length g) = ap length is in
        let all = length-append (fed ++ bytes) more in
        let ends = placed.ends in
        let place : place_given heads index (length more) new
        ≡ from + length (joined (pieces_of t fed)) + suc (length g) = omega (arith, size, parts, both, sum, one, len, all, ends) in
        let at : ℕ = from + length (joined (pieces_of t fed)) + suc (length g) in
        let low : at - suc (length g) < Seq = omega (arith, size, parts, both, sum, one, len, all, ends) in
        ap (λ n. made_chunk heads e (index + 1) n (b ∷ g) ∷ []) place
        ∙ ap (λ c. keyed e c at (b ∷ g) ∷ []) (placed.alone (at - suc (length g)) low)

    pub written_on : chunks_of_fed heads e from t (fed ++ bytes)
        ≡ chunks_of_fed heads e from t fed
        ++ given_chunks heads e index (place_given heads index (length more) new) new.given
    written_on =
        chunks_on t fed (fed ++ bytes) (record_of new.given) (one_more t fed bytes old new s f)
        ∙ ap (λ l. chunks_of_fed heads e from t fed ++ l) (sym (given_is new.given refl))

-- where there are bytes they are a record
pub given_made : (heads : List Head) (e : End) (index seq : ℕ) (bytes : List ℕ) → 0 < length bytes
    → given_chunks heads e index seq bytes ≡ made_chunk heads e (index + 1) seq bytes ∷ []
given_made heads e index seq [] some = absurd (let z : ⊥ = omega (arith, some) in z)
given_made heads e index seq (b ∷ bytes) some = refl

pub given_none : (heads : List Head) (e : End) (index seq : ℕ) (g : List ℕ) (outs : List Chunk) → g ≡ []
    → outs ++ given_chunks heads e index seq g ≡ outs
given_none heads e index seq g outs none =
    ap (λ x. outs ++ given_chunks heads e index seq x) none ∙ append-nil outs

take_add : (a n : ℕ) (xs : List ℕ) → take a xs ++ take n (drop a xs) ≡ take (a + n) xs
take_add zero n xs = ap (λ m. take m xs) (let z : n ≡ 0 + n = omega arith in z)
take_add (suc a) n [] = ap (λ l. [] ++ l) (take_none n) ∙ sym (take_none (suc a + n))
  where
    take_none : (m : ℕ) → take {A = ℕ} m [] ≡ []
    take_none zero = refl
    take_none (suc m) = refl
take_add (suc a) n (x ∷ xs) =
    ap (λ l. x ∷ l) (take_add a n xs) ∙ ap (λ m. take m (x ∷ xs)) (let z : suc (a + n) ≡ suc a + n = omega arith in z)

-- ---- one feed of a value, behind its first bytes

module _ (heads : List Head) (e : End) (index from : ℕ) (t : Bool) (fed value : List ℕ) (at n : ℕ) (old new : Splitting)
    (s : IsSplitting t (fed ++ take at value) old) (f : Feeds old new (take n (drop at value))) where
  abbrev A : List ℕ
  A = fed ++ take at value

  abbrev N : List ℕ
  N = take n (drop at value)

  pub fed_now : A ++ N ≡ fed ++ take (at + n) value
  fed_now = append_assoc fed (take at value) N ∙ ap (λ l. fed ++ l) (take_add at n value)

  pub still_splits : IsSplitting t (fed ++ take (at + n) value) new
  still_splits = subst (λ l. IsSplitting t l new) fed_now (splits_on t A N old new s f)

  pub value_on : IsPlaced heads e index from (fed ++ value) → (outs : List Chunk)
      → (outs ++ chunks_of_fed heads e from t A)
      ++ given_chunks heads e index (place_given heads index (length value - (at + n)) new) new.given
      ≡ outs ++ chunks_of_fed heads e from t (fed ++ take (at + n) value)
  value_on placed outs =
      let all : fed ++ value ≡ (A ++ N) ++ drop (at + n) value =
      ap (λ l. fed ++ l) (sym (take-append-drop (at + n) value))
      ∙ (sym (append_assoc fed (take (at + n) value) (drop (at + n) value))
      ∙ ap (λ l. l ++ drop (at + n) value) (sym fed_now)) in
      append_assoc outs (chunks_of_fed heads e from t A)
      (given_chunks heads e index (place_given heads index (length value - (at + n)) new) new.given)
      ∙ ap (λ l. outs ++ l)
      (ap (λ m. chunks_of_fed heads e from t A ++ given_chunks heads e index (place_given heads index m new) new.given)
      (sym (length-drop (at + n) value))
      ∙ (sym (written_on heads e from t A N (drop (at + n) value) old new s f index
      (subst (IsPlaced heads e index from) all placed))
      ∙ ap (chunks_of_fed heads e from t) fed_now))
