-- The heads of what was fed.
use Rattle.std.proofs.Common.{◌≡◌, ℕ, ◌<◌, ◌≤◌, List, [], ◌∷◌, ◌++◌, length, take, Option, Some, None, refl, sym, ap, subst, ◌∙◌, append_assoc, append-nil, arith, length-append}
use Rattle.std.specs.Prelude.{filter_map, true}
use Rattle.std.proofs.lemmas.List.Elements.{filter_map-append}
use Rattle.chk_seqfile.specs.Entries.{Placed, records_of}
use Rattle.chk_seqfile.specs.declared.headers.HeaderFault.{HeaderFault}
use Rattle.chk_seqfile.specs.declared.entries.Why.{Why}
use Rattle.chk_chunk.specs.Keys.{Chunk}
use Rattle.chk_salvage.specs.declared.pieces.Pieces.{Pieces}
use Rattle.chk_salvage.specs.declared.entry.EntryRef.{EntryRef}
use Rattle.chk_salvage.specs.declared.fed.Fed.{Fed}
use Rattle.chk_salvage.specs.declared.fed.Fed.TheVariants.{Entry, Header, Damaged, Long}
use Rattle.chk_salvage.specs.Views.{placed_of}
use Rattle.chk_salvage.specs.Longs.{IsLong}
use Rattle.chk_salvage.specs.Feeding.{fed_place, fed_limit, fed_marker, IsFed, IsFedSo, Stands, Answered, record_fed}
use Rattle.chk_world.specs.Books.{chunk_of}
use Rattle.chk_record_index.specs.Heads.{Head, head_of, head_at, IsTaken}
use Rattle.chk_record_index.specs.Feeding.{AreChunks, WentOver, IsSpoiled, bad_header, bad_entry, long_entry, bad_record}

-- the reader stands there, and went over all that it has passed
pub record GoesOver (most file : ℕ) (p q : Pieces) (old new : List Head) (place : ℕ) : Type 0 where
  pub limit : fed_limit q ≡ fed_limit p
  pub here : place ≡ fed_place q
  pub some : (fed : List ℕ) × IsFed p fed
  pub over : (fed : List ℕ) → IsFed p fed → WentOver most file p q fed old new

pub both_chunks : (most : ℕ) (rs more : List Placed) → AreChunks most rs → AreChunks most more → AreChunks most (rs ++ more)
both_chunks most rs more all also =
    let a = ap length (filter_map-append (chunk_of most) rs more) in
    let b = length-append (filter_map (chunk_of most) rs) (filter_map (chunk_of most) more) in
    let e = length-append rs more in
    omega arith

-- one record more
module _ (most : ℕ) (r : Placed) (c : Chunk) (is : chunk_of most r ≡ Some c) where
  one_chunk : filter_map (chunk_of most) (r ∷ []) ≡ c ∷ []
  one_chunk = rw is refl

  one_head : (file : ℕ) → filter_map (head_at most file) (r ∷ []) ≡ head_of file r.at c ∷ []
  one_head file = rw is refl

  pub chunks_more : (more : List Placed) → AreChunks most more → AreChunks most (more ++ r ∷ [])
  chunks_more more all =
      let a = ap length (filter_map-append (chunk_of most) more (r ∷ [])) in
      let b = length-append (filter_map (chunk_of most) more) (filter_map (chunk_of most) (r ∷ [])) in
      let d = ap length one_chunk in
      let e = length-append more (r ∷ []) in
      omega arith

  pub heads_more : (file : ℕ) (more : List Placed)
      → filter_map (head_at most file) (more ++ r ∷ []) ≡ filter_map (head_at most file) more ++ head_of file r.at c ∷ []
  heads_more file more = filter_map-append (head_at most file) more (r ∷ []) ∙ ap (λ hs. filter_map (head_at most file) more ++ hs) (one_head file)

-- what was gone over, and then one answer
module _ (most file : ℕ) (p q r : Pieces) (old now : List Head) (place : ℕ) (inv : GoesOver most file p q old now place) where
  records_then : (answer : Fed) → Answered q r answer → (fed : List ℕ) (state : IsFed p fed)
      → records_of (take (fed_place r) fed) ≡ records_of (take (fed_place p) fed) ++ ((inv.over fed state).more ++ record_fed answer)
  records_then answer a fed state =
      let w = inv.over fed state in
      (a.by_fed fed w.state).records
      ∙ (ap (λ rs. rs ++ record_fed answer) w.records
      ∙ append_assoc (records_of (take (fed_place p) fed)) w.more (record_fed answer))

  pub goes_entry : (e : EntryRef) (new : List Head) → Answered q r (Entry e) → IsTaken true most file (placed_of e) now new
      → GoesOver most file p r old new e.end
  goes_entry e new a taken = record {
    limit = a.limit ∙ inv.limit;
    here = (a.by_fed inv.some.0 (inv.over inv.some.0 inv.some.1).state).stands.0;
    some = inv.some;
    over = λ fed state.
        let w = inv.over fed state in
        record {
          state = (a.by_fed fed w.state).state;
          more = w.more ++ placed_of e ∷ [];
          records = records_then (Entry e) a fed state;
          chunks = chunks_more most (placed_of e) taken.0 taken.1 w.more w.chunks;
          heads = taken.2
              ∙ (ap (λ hs. hs ++ head_of file e.at taken.0 ∷ []) w.heads
              ∙ (append_assoc old (filter_map (head_at most file) w.more) (head_of file e.at taken.0 ∷ [])
              ∙ ap (λ hs. old ++ hs) (sym (heads_more most (placed_of e) taken.0 taken.1 file w.more))));
        };
  }

  -- the reader comes further with each record
  pub goes_further : (e : EntryRef) → Answered q r (Entry e) → place < e.end
  goes_further e a =
      let fed = inv.some.0 in
      let w = inv.over fed inv.some.1 in
      let x = a.by_fed fed w.state in
      let end : e.end ≡ fed_place r = x.stands.0 in
      let here : place ≡ fed_place q = inv.here in
      let onward : fed_place q ≤ fed_place r = a.onward in
      let moved : (fed_place q ≡ fed_place r → ⊥) = λ same.
      let n = ap length (x.records) in
      let m = length-append (records_of (take (fed_place q) fed)) (placed_of e ∷ []) in
      let l = ap (λ (k : ℕ). length (records_of (take k fed))) same in
      omega arith in
      omega arith

  pub spoiled_record : (e : EntryRef) → Answered q r (Entry e) → chunk_of most (placed_of e) ≡ None → (fed : List ℕ) → IsFed p fed → AreChunks most (records_of (take (fed_place p) fed))
      → IsSpoiled most (fed_limit p) fed e.at
  spoiled_record e a none fed state old_all =
      by (fed_marker r) (a.by_fed fed (inv.over fed state).state).state.so
    where
      by : (m : Option (List ℕ)) → IsFedSo m fed (fed_place r) → IsSpoiled most (fed_limit p) fed e.at
      by None so = absurd (let z : ⊥ = omega (arith, goes_further e a, (a.by_fed fed (inv.over fed state).state).stands.0, so) in z)
      by (Some marker) so =
          bad_record marker (fed_place r) (records_of (take (fed_place p) fed) ++ (inv.over fed state).more) (placed_of e) so none refl
          (records_then (Entry e) a fed state ∙ sym (append_assoc (records_of (take (fed_place p) fed)) (inv.over fed state).more (placed_of e ∷ [])))
          (both_chunks most (records_of (take (fed_place p) fed)) (inv.over fed state).more old_all (inv.over fed state).chunks)

  pub spoiled_header : (fault : HeaderFault) → Answered q r (Header fault) → (fed : List ℕ) → IsFed p fed → AreChunks most (records_of (take (fed_place p) fed))
      → IsSpoiled most (fed_limit p) fed 0
  spoiled_header fault a fed state old_all = by (fed_marker r) (a.by_fed fed (inv.over fed state).state).stands
    where
      by : (m : Option (List ℕ)) → Stands (fed_limit r) fed m (fed_place r) (Header fault) → IsSpoiled most (fed_limit p) fed 0
      by None s = bad_header fault s.0 s.1 refl
      by (Some marker) s = absurd s

  records_none : (answer : Fed) → record_fed answer ≡ [] → Answered q r answer → (fed : List ℕ) (state : IsFed p fed)
      → records_of (take (fed_place r) fed) ≡ records_of (take (fed_place p) fed) ++ (inv.over fed state).more
  records_none answer none a fed state =
      records_then answer a fed state
      ∙ ap (λ rs. records_of (take (fed_place p) fed) ++ rs)
      (ap (λ rs. (inv.over fed state).more ++ rs) none ∙ append-nil (inv.over fed state).more)

  all_chunks : (answer : Fed) → record_fed answer ≡ [] → Answered q r answer → (fed : List ℕ) (state : IsFed p fed)
      → AreChunks most (records_of (take (fed_place p) fed)) → AreChunks most (records_of (take (fed_place r) fed))
  all_chunks answer none a fed state old_all =
      subst (AreChunks most) (sym (records_none answer none a fed state))
      (both_chunks most (records_of (take (fed_place p) fed)) (inv.over fed state).more old_all (inv.over fed state).chunks)

  pub spoiled_entry : (at : ℕ) (why : Why) → Answered q r (Damaged at why) → (fed : List ℕ) → IsFed p fed → AreChunks most (records_of (take (fed_place p) fed))
      → IsSpoiled most (fed_limit p) fed at
  spoiled_entry at why a fed state old_all =
      by (fed_marker r) (a.by_fed fed (inv.over fed state).state).state.so (a.by_fed fed (inv.over fed state).state).stands
    where
      by : (m : Option (List ℕ)) → IsFedSo m fed (fed_place r) → Stands (fed_limit r) fed m (fed_place r) (Damaged at why)
          → IsSpoiled most (fed_limit p) fed at
      by None so s = absurd s
      by (Some marker) so s = subst (λ k. IsSpoiled most (fed_limit p) fed k) (sym s.0)
          (bad_entry marker why so s.1 s.2 (all_chunks (Damaged at why) refl a fed state old_all))

  pub spoiled_long : (at need : ℕ) → Answered q r (Long at need) → (fed : List ℕ) → IsFed p fed → AreChunks most (records_of (take (fed_place p) fed))
      → IsSpoiled most (fed_limit p) fed at
  spoiled_long at need a fed state old_all =
      by (fed_marker r) (a.by_fed fed (inv.over fed state).state).state.so (a.by_fed fed (inv.over fed state).state).stands
    where
      by : (m : Option (List ℕ)) → IsFedSo m fed (fed_place r) → Stands (fed_limit r) fed m (fed_place r) (Long at need)
          → IsSpoiled most (fed_limit p) fed at
      by None so s = absurd s
      by (Some marker) so s = subst (λ k. IsSpoiled most (fed_limit p) fed k) (sym s.0)
          (long_entry marker need so (subst (λ l. IsLong l fed (fed_place r) need) (a.limit ∙ inv.limit) s.1)
          (all_chunks (Long at need) refl a fed state old_all))
