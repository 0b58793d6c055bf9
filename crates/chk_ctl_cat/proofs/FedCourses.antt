-- A course over what was fed.
use Rattle.std.proofs.Common.{◌≡◌, ◌⊎◌, inl, inr, ℕ, ◌<◌, ◌≤◌, List, [], ◌∷◌, ◌++◌, length, take, Option, Some, None, refl, sym, ap, subst, ◌∙◌, append_assoc, append-nil, arith, length-append}
use Rattle.std.specs.Prelude.{true, false}
use Rattle.chk_seqfile.specs.Entries.{Placed, records_of}
use Rattle.chk_seqfile.specs.declared.headers.HeaderFault.{HeaderFault}
use Rattle.chk_seqfile.specs.declared.entries.Why.{Why}
use Rattle.chk_salvage.specs.declared.pieces.Pieces.{Pieces}
use Rattle.chk_salvage.specs.declared.entry.EntryRef.{EntryRef}
use Rattle.chk_salvage.specs.declared.fed.Fed.{Fed}
use Rattle.chk_salvage.specs.declared.fed.Fed.TheVariants.{Entry, More, Header, Damaged, Long}
use Rattle.chk_salvage.specs.Views.{placed_of}
use Rattle.chk_salvage.specs.Longs.{IsLong}
use Rattle.chk_salvage.specs.Feeding.{fed_place, fed_limit, fed_marker, IsFed, IsFedSo, Stands, Answered, record_fed}
use Rattle.chk_world.specs.Books.{chunk_of}
use Rattle.chk_record_index.specs.Feeding.{AreChunks, IsSpoiled, bad_header, bad_entry, long_entry, bad_record}
use Rattle.chk_record_index.proofs.FedRecords.{both_chunks, chunks_more}
use Rattle.chk_ctl_cat.specs.declared.course.Course.{Course}
use Rattle.chk_ctl_cat.specs.Courses.{KeepsCourse, GoesOver, wanted_by, chunks_at, IsWrong, TookRecord, Followed, IsOffAt, FollowedFed}
use Rattle.chk_ctl_cat.proofs.CourseLemmas.{keeps_then, followed_then, followed_same, off_back}

-- what was gone over
pub record IsAlong (most : ℕ) (p q : Pieces) (c d : Course) (out out' fed : List ℕ) : Type 0 where
  pub state : IsFed q fed
  pub followed : Followed most c d (fed_place p) (fed_place q) fed out out'

-- the reader stands there, and the course went over all that the reader has passed
pub record GoesAlong (most : ℕ) (p q : Pieces) (c d : Course) (out out' : List ℕ) (place : ℕ) : Type 0 where
  pub limit : fed_limit q ≡ fed_limit p
  pub here : place ≡ fed_place q
  pub keeps : KeepsCourse c d
  pub some : (fed : List ℕ) × IsFed p fed
  pub along : (fed : List ℕ) → IsFed p fed → IsAlong most p q c d out out' fed

-- one record more
followed_one : (most : ℕ) (c d : Course) (from to : ℕ) (fed out out' : List ℕ) (r : Placed)
    → records_of (take to fed) ≡ records_of (take from fed) ++ r ∷ [] → TookRecord true most r c d out out' → Followed most c d from to fed out out'
followed_one most c d from to fed out out' r records (k, is, took) = record {
  more = r ∷ [];
  records = records;
  chunks = chunks_more most r k is [] refl;
  over = subst (λ ks. GoesOver c ks d.reached) (sym one) took.0;
  text = took.1 ∙ ap (λ ks. out ++ wanted_by c ks) (sym one);
}
  where
    one : chunks_at most (r ∷ []) ≡ k ∷ []
    one = rw is refl

-- what was gone over, and then one answer
module _ (most : ℕ) (p q r : Pieces) (c d : Course) (out now : List ℕ) (place : ℕ) (inv : GoesAlong most p q c d out now place) where
  records_then : (answer : Fed) → Answered q r answer → (fed : List ℕ) (state : IsFed p fed)
      → records_of (take (fed_place r) fed) ≡ records_of (take (fed_place p) fed) ++ ((inv.along fed state).followed.more ++ record_fed answer)
  records_then answer a fed state =
      let w = inv.along fed state in
      (a.by_fed fed w.state).records
      ∙ (ap (λ rs. rs ++ record_fed answer) w.followed.records
      ∙ append_assoc (records_of (take (fed_place p) fed)) w.followed.more (record_fed answer))

  pub goes_entry : (e : EntryRef) (next : Course) (new : List ℕ) → Answered q r (Entry e) → KeepsCourse d next
      → TookRecord true most (placed_of e) d next now new
      → GoesAlong most p r c next out new e.end
  goes_entry e next new a keeps took = record {
    limit = a.limit ∙ inv.limit;
    here = (a.by_fed inv.some.0 (inv.along inv.some.0 inv.some.1).state).stands.0;
    keeps = keeps_then c d next inv.keeps keeps;
    some = inv.some;
    along = λ fed state.
        let w = inv.along fed state in
        let x = a.by_fed fed w.state in
        record {
          state = x.state;
          followed = followed_then most c d next (fed_place p) (fed_place q) (fed_place r) fed out now new inv.keeps w.followed
              (followed_one most d next (fed_place q) (fed_place r) fed now new (placed_of e) x.records took);
        };
  }

  -- the reader comes further with each record
  pub goes_further : (e : EntryRef) → Answered q r (Entry e) → place < e.end
  goes_further e a =
      let fed = inv.some.0 in
      let w = inv.along fed inv.some.1 in
      let x = a.by_fed fed w.state in
      let end : e.end ≡ fed_place r = x.stands.0 in
      let here : place ≡ fed_place q = inv.here in
      let onward : fed_place q ≤ fed_place r = a.onward in
      let moved : (fed_place q ≡ fed_place r → ⊥) = λ same.
      let n = ap length (x.records) in
      let m = length-append (records_of (take (fed_place q) fed)) (placed_of e ∷ []) in
      let l = ap (λ (k : ℕ). length (records_of (take k fed))) same in
      omega arith in
      omega arith

  spoiled_record : (e : EntryRef) → Answered q r (Entry e) → chunk_of most (placed_of e) ≡ None → (fed : List ℕ) → IsFed p fed
      → AreChunks most (records_of (take (fed_place p) fed)) → IsSpoiled most (fed_limit p) fed e.at
  spoiled_record e a none fed state old_all =
      by (fed_marker r) (a.by_fed fed (inv.along fed state).state).state.so
    where
      by : (m : Option (List ℕ)) → IsFedSo m fed (fed_place r) → IsSpoiled most (fed_limit p) fed e.at
      by None so = absurd (let z : ⊥ = omega (arith, goes_further e a, (a.by_fed fed (inv.along fed state).state).stands.0, so) in z)
      by (Some marker) so =
          bad_record marker (fed_place r) (records_of (take (fed_place p) fed) ++ (inv.along fed state).followed.more) (placed_of e) so none refl
          (records_then (Entry e) a fed state ∙ sym (append_assoc (records_of (take (fed_place p) fed)) (inv.along fed state).followed.more (placed_of e ∷ [])))
          (both_chunks most (records_of (take (fed_place p) fed)) (inv.along fed state).followed.more old_all (inv.along fed state).followed.chunks)

  -- a record that is no chunk, or is off
  pub wrong_record : (e : EntryRef) (next : Course) (new : List ℕ) → Answered q r (Entry e) → KeepsCourse d next
      → TookRecord false most (placed_of e) d next now new → (fed : List ℕ) → IsFed p fed → AreChunks most (records_of (take (fed_place p) fed))
      → FollowedFed most c next p r out new fed (Some e.at)
  wrong_record e next new a keeps (wrong, same, also) fed state old_all = (
    fed_place q,
    followed_same most c d next (fed_place p) (fed_place q) fed out now new same also (inv.along fed state).followed,
    by wrong,
  )
    where
      by : IsWrong most d (placed_of e) → IsSpoiled most (fed_limit p) fed e.at ⊎ IsOffAt most next fed (fed_place q) e.at
      by (inl none) = inl (spoiled_record e a none fed state old_all)
      by (inr (k, is, off)) = inr (record {
        end = fed_place r;
        next = placed_of e;
        chunk = k;
        stands = (a.by_fed fed (inv.along fed state).state).records;
        at_is = refl;
        is = is;
        off = off_back d next keeps k same off;
      })

  stopped : (at : ℕ) (fed : List ℕ) → IsFed p fed → IsSpoiled most (fed_limit p) fed at → FollowedFed most c d p r out now fed (Some at)
  stopped at fed state bad = (fed_place q, (inv.along fed state).followed, inl bad)

  pub wrong_header : (fault : HeaderFault) → Answered q r (Header fault) → (fed : List ℕ) → IsFed p fed → AreChunks most (records_of (take (fed_place p) fed))
      → FollowedFed most c d p r out now fed (Some 0)
  wrong_header fault a fed state old_all = stopped 0 fed state (by (fed_marker r) (a.by_fed fed (inv.along fed state).state).stands)
    where
      by : (m : Option (List ℕ)) → Stands (fed_limit r) fed m (fed_place r) (Header fault) → IsSpoiled most (fed_limit p) fed 0
      by None s = bad_header fault s.0 s.1 refl
      by (Some marker) s = absurd s

  records_none : (answer : Fed) → record_fed answer ≡ [] → Answered q r answer → (fed : List ℕ) (state : IsFed p fed)
      → records_of (take (fed_place r) fed) ≡ records_of (take (fed_place p) fed) ++ (inv.along fed state).followed.more
  records_none answer none a fed state =
      records_then answer a fed state
      ∙ ap (λ rs. records_of (take (fed_place p) fed) ++ rs)
      (ap (λ rs. (inv.along fed state).followed.more ++ rs) none ∙ append-nil (inv.along fed state).followed.more)

  all_chunks : (answer : Fed) → record_fed answer ≡ [] → Answered q r answer → (fed : List ℕ) (state : IsFed p fed)
      → AreChunks most (records_of (take (fed_place p) fed)) → AreChunks most (records_of (take (fed_place r) fed))
  all_chunks answer none a fed state old_all =
      subst (AreChunks most) (sym (records_none answer none a fed state))
      (both_chunks most (records_of (take (fed_place p) fed)) (inv.along fed state).followed.more old_all (inv.along fed state).followed.chunks)

  pub wrong_entry : (at : ℕ) (why : Why) → Answered q r (Damaged at why) → (fed : List ℕ) → IsFed p fed → AreChunks most (records_of (take (fed_place p) fed))
      → FollowedFed most c d p r out now fed (Some at)
  wrong_entry at why a fed state old_all =
      stopped at fed state
      (by (fed_marker r) (a.by_fed fed (inv.along fed state).state).state.so (a.by_fed fed (inv.along fed state).state).stands)
    where
      by : (m : Option (List ℕ)) → IsFedSo m fed (fed_place r) → Stands (fed_limit r) fed m (fed_place r) (Damaged at why)
          → IsSpoiled most (fed_limit p) fed at
      by None so s = absurd s
      by (Some marker) so s = subst (λ k. IsSpoiled most (fed_limit p) fed k) (sym s.0)
          (bad_entry marker why so s.1 s.2 (all_chunks (Damaged at why) refl a fed state old_all))

  pub wrong_long : (at need : ℕ) → Answered q r (Long at need) → (fed : List ℕ) → IsFed p fed → AreChunks most (records_of (take (fed_place p) fed))
      → FollowedFed most c d p r out now fed (Some at)
  wrong_long at need a fed state old_all =
      stopped at fed state
      (by (fed_marker r) (a.by_fed fed (inv.along fed state).state).state.so (a.by_fed fed (inv.along fed state).state).stands)
    where
      by : (m : Option (List ℕ)) → IsFedSo m fed (fed_place r) → Stands (fed_limit r) fed m (fed_place r) (Long at need)
          → IsSpoiled most (fed_limit p) fed at
      by None so s = absurd s
      by (Some marker) so s = subst (λ k. IsSpoiled most (fed_limit p) fed k) (sym s.0)
          (long_entry marker need so (subst (λ l. IsLong l fed (fed_place r) need) (a.limit ∙ inv.limit) s.1)
          (all_chunks (Long at need) refl a fed state old_all))

  -- all was gone over
  pub all_over : Answered q r More → (fed : List ℕ) → IsFed p fed → FollowedFed most c d p r out now fed None
  all_over a fed state =
      let w = inv.along fed state in
      let x = a.by_fed fed w.state in (
        x.state,
        followed_then most c d d (fed_place p) (fed_place q) (fed_place r) fed out now now inv.keeps w.followed
            (record {
              more = [];
              records = x.records;
              chunks = refl;
              over = refl;
              text = sym (append-nil now);
            }),
        subst (λ l. Stands l fed (fed_marker r) (fed_place r) More) (a.limit ∙ inv.limit) x.stands,
      )
