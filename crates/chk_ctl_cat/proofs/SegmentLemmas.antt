-- A segment that is followed, piece by piece.
use Rattle.std.proofs.Common.{◌≡◌, inl, inr, ℕ, ◌+◌, ◌<◌, ◌≤◌, ◌^◌, min, List, [], ◌++◌, length, take, drop, Option, Some, None, Ok, Err, Result, refl, sym, ap, ap₂, subst, ◌∙◌, append_assoc, append-nil, arith, length-append, length-take}
use Rattle.std.proofs.lemmas.List.{nil_from_length, length-drop, take-append-drop, take-append-le, take_all}
use Rattle.std.proofs.lemmas.List.Elements.{filter_map-append}
use Rattle.std.proofs.Math.Seq.{drop-append_seam}
use Rattle.chk_bytes.specs.Words.{BeginsWith}
use Rattle.chk_site.specs.declared.acts.OutsideFault.{OutsideFault}
use Rattle.chk_site.specs.declared.acts.OutsideFault.TheVariants.{Outside as site_failed, NoMemory as no_memory}
use Rattle.chk_site.specs.Files.{File, Files}
use Rattle.chk_site.specs.History.{History}
use Rattle.chk_site.specs.Site.{Adds, LastFailed, OutsideCause}
use Rattle.chk_site.proofs.Runs.{adds_as, adds_none, adds_then}
use Rattle.chk_site.proofs.LastCalls.{last_of_both as last_then}
use Rattle.chk_seqfile.specs.Entries.{IsSequenceFile, records_of}
use Rattle.chk_salvage.specs.declared.pieces.Pieces.{Pieces}
use Rattle.chk_salvage.specs.declared.fed.Fed.TheVariants.{More}
use Rattle.chk_salvage.specs.Feeding.{fed_place, fed_rest, fed_limit, fed_marker, IsFed, Stands}
use Rattle.chk_world.specs.Books.{chunk_of, chunks_within}
use Rattle.chk_record_index.specs.Feeding.{AreChunks, limit_of, IsSpoiled, IsEnd, IsBadAt, no_header, torn, spoiled}
use Rattle.chk_record_index.proofs.FedRecords.{both_chunks}
use Rattle.chk_ctl_cat.specs.declared.course.Course.{Course}
use Rattle.chk_ctl_cat.specs.declared.fault.LookFault.{LookFault}
use Rattle.chk_ctl_cat.specs.declared.fault.LookFault.TheVariants.{Outside, Damaged, Gone, NoMemory}
use Rattle.chk_ctl_cat.specs.Faults.{look_fault, IsDamage, IsLoss, FailsLast, LookCause}
use Rattle.chk_ctl_cat.specs.Courses.{KeepsCourse, GoesOver, wanted_by, chunks_at, Followed, FollowedFed}
use Rattle.chk_ctl_cat.specs.Looking.{AreOrWent, Sees}
use Rattle.chk_ctl_cat.specs.Segments.{asks_at, Looked, Said, FollowedSaid, EndsSo, IsFrontText, IsWholeText, IsWrongAt, Printed}
use Rattle.chk_ctl_cat.proofs.CourseLemmas.{keeps_self, keeps_then, over_then, wanted_then}
use Rattle.chk_ctl_cat.proofs.Texts.{sees_then, sees_as}
use Rattle.chk_record_index.proofs.Gathering.{no_records}

-- all of these bytes was fed, and the records up to the reader's place are chunks
pub record HasFed (most : ℕ) (p : Pieces) (at : ℕ) (fed : List ℕ) : Type 0 where
  pub state : IsFed p fed
  pub size : at ≡ length fed
  pub chunks : AreChunks most (records_of (take (fed_place p) fed))

-- a front of the file was fed, and the course went over the records in it
pub record HasCome (most : ℕ) (c d : Course) (p : Pieces) (at : ℕ) (bytes text : List ℕ) : Type 0 where
  pub fed : List ℕ
  pub begins : BeginsWith bytes fed
  pub has : HasFed most p at fed
  pub over : GoesOver c (chunks_at most (records_of (take (fed_place p) fed))) d.reached
  pub printed : text ≡ wanted_by c (chunks_at most (records_of (take (fed_place p) fed)))

-- and the reader wants more
pub record HasPast (most : ℕ) (c d : Course) (p : Pieces) (at : ℕ) (bytes text : List ℕ) : Type 0 where
  pub come : HasCome most c d p at bytes text
  pub stands : Stands (fed_limit p) come.fed (fed_marker p) (fed_place p) More

abbrev pub CameTo : ℕ → List ℕ → Course → Course → Pieces → ℕ → Files → List ℕ → History → Type 0
CameTo most name c d p at held text history =
    AreOrWent held history × ((f : File) → held name ≡ Some f → HasCome most c d p at f.bytes text)

abbrev pub CamePast : ℕ → List ℕ → Course → Course → Pieces → ℕ → Files → List ℕ → History → Type 0
CamePast most name c d p at held text history =
    AreOrWent held history × ((f : File) → held name ≡ Some f → HasPast most c d p at f.bytes text)

-- before each piece
pub record IsFollowing (old now : Option History) (most : ℕ) (name : List ℕ) (c d : Course) (p : Pieces) (at : ℕ) : Type 0 where
  pub some : List ℕ
  pub has : HasFed most p at some
  pub limit : fed_limit p ≡ limit_of most
  pub small : at < 2 ^ 63
  pub keeps : KeepsCourse c d
  pub told : Adds old now (Sees (CameTo most name c d p at))

pub begins : (now : Option History) (most : ℕ) (name : List ℕ) (c : Course) (p : Pieces) → fed_limit p ≡ limit_of most → IsFed p []
    → IsFollowing now now most name c c p 0
begins now most name c p limits state = record {
  some = [];
  has = has;
  limit = limits;
  small = omega arith;
  keeps = keeps_self c;
  told = adds_none now (Sees (CameTo most name c c p 0)) (λ history. record {
    sees = λ held s h. (
      h,
      λ f is. record {
        fed = [];
        begins = (f.bytes, refl);
        has = has;
        over = subst (λ rs. GoesOver c (chunks_at most rs) c.reached) (sym (no_records (fed_place p))) refl;
        printed = ap (λ rs. wanted_by c (chunks_at most rs)) (sym (no_records (fed_place p)));
      },
    );
    own = tt;
  });
}
  where
    has : HasFed most p 0 []
    has = record { state = state; size = refl; chunks = subst (AreChunks most) (sym (no_records (fed_place p))) refl }

-- ---- what was fed is gone over

module _ (most : ℕ) (c d e : Course) (keeps : KeepsCourse c d) (p : Pieces) (at : ℕ) (bytes t u : List ℕ) (h : HasCome most c d p at bytes t)
    (place : ℕ) (w : Followed most d e (fed_place p) place h.fed [] u) where
  more_chunks : AreChunks most (records_of (take place h.fed))
  more_chunks = subst (AreChunks most) (sym w.records)
      (both_chunks most (records_of (take (fed_place p) h.fed)) w.more h.has.chunks w.chunks)

  parts : chunks_at most (records_of (take place h.fed)) ≡ chunks_at most (records_of (take (fed_place p) h.fed)) ++ chunks_at most w.more
  parts = ap (chunks_at most) w.records
      ∙ filter_map-append (chunk_of most) (records_of (take (fed_place p) h.fed)) w.more

  more_over : GoesOver c (chunks_at most (records_of (take place h.fed))) e.reached
  more_over = subst (λ ks. GoesOver c ks e.reached) (sym parts)
      (over_then c d keeps e.reached (chunks_at most (records_of (take (fed_place p) h.fed))) (chunks_at most w.more) h.over w.over)

  more_text : t ++ u ≡ wanted_by c (chunks_at most (records_of (take place h.fed)))
  more_text =
      ap₂ (λ x y. x ++ y) h.printed w.text
      ∙ sym (ap (wanted_by c) parts
      ∙ wanted_then c d keeps (chunks_at most (records_of (take (fed_place p) h.fed))) (chunks_at most w.more))

-- the first bytes up to a place
front_begins : (bytes fed : List ℕ) (place : ℕ) → BeginsWith bytes fed → BeginsWith bytes (take place fed)
front_begins bytes fed place (rest, front) = (
  drop place fed ++ rest,
  front ∙ ap (λ x. x ++ rest) (sym (take-append-drop place fed)) ∙ append_assoc (take place fed) (drop place fed) rest,
)

come_on : (most : ℕ) (c d e : Course) → KeepsCourse c d → (p q : Pieces) (at : ℕ) (bytes t u : List ℕ) → fed_limit q ≡ fed_limit p
    → (h : HasCome most c d p at bytes t) → FollowedFed most d e p q [] u h.fed None → HasPast most c e q at bytes (t ++ u)
come_on most c d e keeps p q at bytes t u limits h (state, w, stands) = record {
  come = record {
    fed = h.fed;
    begins = h.begins;
    has = record {
      state = state;
      size = h.has.size;
      chunks = more_chunks most c d e keeps p at bytes t u h (fed_place q) w;
    };
    over = more_over most c d e keeps p at bytes t u h (fed_place q) w;
    printed = more_text most c d e keeps p at bytes t u h (fed_place q) w;
  };
  stands = subst (λ l. Stands l h.fed (fed_marker q) (fed_place q) More) (sym limits) stands;
}

-- what was printed is that of a front
front_of : (most : ℕ) (c d : Course) (p : Pieces) (at : ℕ) (bytes t u : List ℕ) → HasCome most c d p at bytes t → u ≡ []
    → IsFrontText most c d.reached bytes (t ++ u)
front_of most c d p at bytes t u h none = record {
  front = take (fed_place p) h.fed;
  begins = front_begins bytes h.fed (fed_place p) h.begins;
  chunks = h.has.chunks;
  over = h.over;
  printed = ap (λ x. t ++ x) none ∙ append-nil t ∙ h.printed;
}

-- a failure says no more
fails_so : (most : ℕ) (name : List ℕ) (c x : Course) (fault : OutsideFault) (held : Files) (text : List ℕ) (history : History)
    → ((f : File) → held name ≡ Some f → (to : ℕ) × IsFrontText most c to f.bytes text)
    → Printed most name c x (Err (look_fault fault)) held text history
fails_so most name c x (site_failed call) held text history front = front
fails_so most name c x no_memory held text history front = front

module _ (old now : Option History) (most : ℕ) (name : List ℕ) (c d : Course) (p : Pieces) (at : ℕ)
    (inv : IsFollowing old now most name c d p at) where
  -- a print or the memory failed
  pub follow_failed : (e x : Course) (q : Pieces) (fault : OutsideFault) {new : Option History}
      → Adds now new (Sees (FollowedSaid most d e p q (Err fault))) → Adds old new (Sees (Printed most name c x (Err (look_fault fault))))
  follow_failed e x q fault told =
      sees_then (Printed most name c x (Err (look_fault fault))) (λ held t h a. a.0)
      (λ held t u m h a b. fails_so most name c x fault held (t ++ u) h (λ f is. (d.reached, front_of most c d p at f.bytes t u (a.1 f is) b)))
      inv.told told

  -- something else stands there
  pub follow_stopped : (e : Course) (q : Pieces) (place : ℕ) (fault : LookFault) {new : Option History} → KeepsCourse d e → IsDamage name place fault
      → Adds now new (Sees (FollowedSaid most d e p q (Ok (Some place)))) → Adds old new (Sees (Printed most name c e (Err fault)))
  follow_stopped e q place fault keeps damage told =
      sees_then (Printed most name c e (Err fault)) (λ held t h a. a.0)
      (λ held t u m h a b. by fault damage held t u h (λ f is. let k = a.1 f is in (k, b.1 k.fed k.has.state k.has.chunks)))
      inv.told told
    where
      front : (bytes t u : List ℕ) (h : HasCome most c d p at bytes t) → FollowedFed most d e p q [] u h.fed (Some place)
          → IsFrontText most c e.reached bytes (t ++ u)
      front bytes t u h (stop, w, bad) = record {
        front = take stop h.fed;
        begins = front_begins bytes h.fed stop h.begins;
        chunks = more_chunks most c d e inv.keeps p at bytes t u h stop w;
        over = more_over most c d e inv.keeps p at bytes t u h stop w;
        printed = more_text most c d e inv.keeps p at bytes t u h stop w;
      }

      wrong : (bytes t u : List ℕ) (h : HasCome most c d p at bytes t) → FollowedFed most d e p q [] u h.fed (Some place)
          → IsWrongAt most c bytes place
      wrong bytes t u h (stop, w, inl bad) =
          inl (spoiled h.fed h.begins (subst (λ l. IsSpoiled most l h.fed place) inv.limit bad))
      wrong bytes t u h (stop, w, inr off) = inr (record {
        fed = h.fed;
        begins = h.begins;
        place = stop;
        there = e;
        keeps = keeps_then c d e inv.keeps keeps;
        chunks = more_chunks most c d e inv.keeps p at bytes t u h stop w;
        over = more_over most c d e inv.keeps p at bytes t u h stop w;
        off = off;
      })

      by : (fault : LookFault) → IsDamage name place fault → (held : Files) (t u : List ℕ) (history : History)
          → ((f : File) → held name ≡ Some f
          → (h : HasCome most c d p at f.bytes t) × FollowedFed most d e p q [] u h.fed (Some place))
          → Printed most name c e (Err fault) held (t ++ u) history
      by (Outside call) damage held t u history come = absurd damage
      by (Damaged which there) damage held t u history come = (
        damage.0,
        λ f is small. let k = come f is in (
          subst (IsWrongAt most c f.bytes) (sym damage.1) (wrong f.bytes t u k.0 k.1),
          front f.bytes t u k.0 k.1,
        ),
      )
      by (Gone which) damage held t u history come = absurd damage
      by NoMemory damage held t u history come = λ f is. let k = come f is in (e.reached, front f.bytes t u k.0 k.1)

  -- all was gone over
  module _ (e : Course) (q : Pieces) (keeps : KeepsCourse d e) (limits : fed_limit q ≡ fed_limit p) {mid : Option History}
      (over : (text : List ℕ) × ((fed : List ℕ) → IsFed p fed → AreChunks most (records_of (take (fed_place p) fed))
      → FollowedFed most d e p q [] text fed None))
      (told : Adds now mid (Sees (FollowedSaid most d e p q (Ok None)))) where
    some_past : HasFed most q at inv.some × Stands (fed_limit q) inv.some (fed_marker q) (fed_place q) More
    some_past =
        let (state, w, stands) = over.1 inv.some inv.has.state inv.has.chunks in (
          record {
            state = state;
            size = inv.has.size;
            chunks = subst (AreChunks most) (sym w.records)
                (both_chunks most (records_of (take (fed_place p) inv.some)) w.more inv.has.chunks w.chunks);
          },
          subst (λ l. Stands l inv.some (fed_marker q) (fed_place q) More) (sym limits) stands,
        )

    pub follow_past : Adds old mid (Sees (CamePast most name c e q at))
    follow_past =
        sees_then (CamePast most name c e q at) (λ held t h a. a.0)
        (λ held t u m h a b. (
          b.0,
          λ f is. let k = a.1 f is in
              come_on most c d e inv.keeps p q at f.bytes t u limits k (b.1 k.fed k.has.state k.has.chunks),
        ))
        inv.told told

    -- a read failed, or the segment went
    pub look_failed : (fault : LookFault) {new : Option History} → Adds mid new (Sees (Looked name at (Err fault)))
        → Adds old new (Sees (Printed most name c e (Err fault)))
    look_failed fault looked =
        sees_then (Printed most name c e (Err fault)) (λ held t h a. a.0)
        (λ held t u m h a b. by fault held t u h (λ f is. (a.1 f is).come) b)
        follow_past looked
      where
        by : (fault : LookFault) (held : Files) (t u : List ℕ) (history : History)
            → ((f : File) → held name ≡ Some f → HasCome most c e q at f.bytes t) → Looked name at (Err fault) held u history
            → Printed most name c e (Err fault) held (t ++ u) history
        by (Outside call) held t u history come none = λ f is. (e.reached, front_of most c e q at f.bytes t u (come f is) none)
        by (Damaged which place) held t u history come none = absurd none
        by (Gone which) held t u history come b =
            (b.0, b.1, b.2, λ f is. front_of most c e q at f.bytes t u (come f is) b.3)
        by NoMemory held t u history come none = λ f is. (e.reached, front_of most c e q at f.bytes t u (come f is) none)

    -- a piece came
    module _ (piece : List ℕ) {new : Option History} (looked : Adds mid new (Sees (Looked name at (Ok piece)))) where
      -- no memory for it
      pub feed_failed : Adds old new (Sees (Printed most name c e (Err NoMemory)))
      feed_failed =
          sees_then (Printed most name c e (Err NoMemory)) (λ held t h a. a.0)
          (λ held t u m h a b f is. (e.reached, front_of most c e q at f.bytes t u (a.1 f is).come b.1))
          follow_past looked

      -- what was read ends below the place at which each file counts as ended
      pub room : length piece ≤ asks_at at → at + length piece < 2 ^ 63
      room few = let low = inv.small in omega (arith, few, low)

      all_fed : at ≡ fed_place q + length (fed_rest q)
      all_fed =
          let h = some_past.0 in let within = h.state.within in let rest = ap length h.state.rest in
          omega (arith, h.size, within, rest, length-drop (fed_place q) inv.some)

      pub room_fed : length piece ≤ asks_at at → fed_place q + length (fed_rest q) + length piece < 2 ^ 63
      room_fed few = subst (λ k. k + length piece < 2 ^ 63) all_fed (room few)

      -- the reader is fed
      pub goes_on : (r : Pieces) (next : ℕ) → length piece ≤ asks_at at → 0 < length piece
          → (fed_limit r ≡ fed_limit q) × (fed_marker r ≡ fed_marker q) × (fed_place r ≡ fed_place q)
          → ((fed : List ℕ) → IsFed q fed → IsFed r (fed ++ piece)) → next ≡ at + length piece
          → IsFollowing old new most name c e r next
      goes_on r next few some same fedfrom is = record {
        some = inv.some ++ piece;
        has = then inv.some some_past.0;
        limit = same.0 ∙ limits ∙ inv.limit;
        small = subst (λ n. n < 2 ^ 63) (sym is) (room few);
        keeps = keeps_then c d e inv.keeps keeps;
        told = sees_then (CameTo most name c e r next) (λ held t h a. a.0)
            (λ held t u m h a b. (b.0, λ f at_name. come f.bytes t u (a.1 f at_name).come b.1 (b.2 f at_name)))
            follow_past looked;
      }
        where
          records : (fed : List ℕ) → IsFed q fed
              → records_of (take (fed_place r) (fed ++ piece)) ≡ records_of (take (fed_place q) fed)
          records fed state =
              ap (λ n. records_of (take n (fed ++ piece))) same.2
              ∙ ap records_of (take-append-le (fed_place q) fed piece state.within)

          then : (fed : List ℕ) → HasFed most q at fed → HasFed most r next (fed ++ piece)
          then fed h = record {
            state = fedfrom fed h.state;
            size = is ∙ ap (λ n. n + length piece) h.size ∙ sym (length-append fed piece);
            chunks = subst (AreChunks most) (sym (records fed h.state)) h.chunks;
          }

          begins_more : (bytes fed : List ℕ) → at ≡ length fed → piece ≡ take (asks_at at) (drop at bytes) → BeginsWith bytes fed
              → BeginsWith bytes (fed ++ piece)
          begins_more bytes fed size piece_is (rest, front) =
              let left : drop at bytes ≡ rest = ap₂ (λ n b. drop n b) size front ∙ drop-append_seam fed rest in
              let head : piece ≡ take (asks_at at) rest = piece_is ∙ ap (take (asks_at at)) left in (
                drop (asks_at at) rest,
                front ∙ ap (λ x. fed ++ x) (sym (take-append-drop (asks_at at) rest) ∙ ap (λ x. x ++ drop (asks_at at) rest) (sym head))
                    ∙ sym (append_assoc fed piece (drop (asks_at at) rest)),
              )

          come : (bytes t u : List ℕ) → HasCome most c e q at bytes t → u ≡ [] → piece ≡ take (asks_at at) (drop at bytes)
              → HasCome most c e r next bytes (t ++ u)
          come bytes t u h none piece_is = record {
            fed = h.fed ++ piece;
            begins = begins_more bytes h.fed h.has.size piece_is h.begins;
            has = then h.fed h.has;
            over = subst (λ rs. GoesOver c (chunks_at most rs) e.reached) (sym (records h.fed h.has.state)) h.over;
            printed = ap (λ x. t ++ x) none ∙ append-nil t ∙ h.printed
                ∙ ap (λ rs. wanted_by c (chunks_at most rs)) (sym (records h.fed h.has.state));
          }

      pub some_ended : (result : Result (Unit {0}) LookFault)
          → ((fed : List ℕ) → IsFed q fed → Stands (fed_limit q) fed (fed_marker q) (fed_place q) More → EndsSo name fed (fed_place q) result)
          → EndsSo name inv.some (fed_place q) result
      some_ended result ends = ends inv.some some_past.0.state some_past.1

      -- the file ends there
      pub is_ended : (result : Result (Unit {0}) LookFault) → length piece ≡ 0
          → ((fed : List ℕ) → IsFed q fed → Stands (fed_limit q) fed (fed_marker q) (fed_place q) More → EndsSo name fed (fed_place q) result)
          → Adds old new (Sees (Printed most name c e result))
      is_ended result empty ends =
          sees_then (Printed most name c e result) (λ held t h a. a.0)
          (λ held t u m h a b. by result held t u h b.0 b.1 (λ f is. (a.1 f is, b.2 f is)) (λ f is. let k = a.1 f is in ends k.come.fed k.come.has.state k.stands)
          (ends inv.some some_past.0.state some_past.1))
          follow_past looked
        where
          -- all of the file was fed
          all_of : (bytes fed : List ℕ) → at ≡ length fed → piece ≡ take (asks_at at) (drop at bytes) → length bytes < 2 ^ 63
              → BeginsWith bytes fed → bytes ≡ fed
          all_of bytes fed size piece_is low (rest, front) =
              let few : length piece ≡ min (asks_at at) (length (drop at bytes)) = ap length piece_is ∙ length-take (asks_at at) (drop at bytes) in
              let past_end : length bytes ≤ at = omega (arith, few, empty, low, length-drop at bytes) in
              let all : length bytes ≡ length fed + length rest = ap length front ∙ length-append fed rest in
              let none : rest ≡ [] = nil_from_length rest (omega (arith, all, past_end, size)) in
              front ∙ ap (λ x. fed ++ x) none ∙ append-nil fed

          bad : (bytes fed : List ℕ) (place found : ℕ) → AreChunks most (records_of (take place fed)) → bytes ≡ fed → IsEnd fed place (Some found)
              → IsBadAt most bytes found
          bad bytes fed place found chunks same (here, inl none) = subst (λ b. IsBadAt most b found) (sym same) (no_header none.0 none.1)
          bad bytes fed place found chunks same (here, inr there) =
              subst (λ b. IsBadAt most b found) (sym same)
              (torn there.0 there.1 there.2 (subst (λ k. AreChunks most (records_of (take k fed))) (sym here) chunks))

          whole : (bytes t u : List ℕ) (h : HasCome most c e q at bytes t) → u ≡ [] → bytes ≡ h.fed → IsEnd h.fed (fed_place q) None
              → IsWholeText most c e.reached bytes (t ++ u)
          whole bytes t u h none same ends =
              let all : take (fed_place q) h.fed ≡ bytes = take_all (fed_place q) h.fed (omega (arith, ends.2)) ∙ sym same in
              record {
                chunks = record {
                  form = subst IsSequenceFile all ends.1.file;
                  all = subst (λ b. AreChunks most (records_of b)) all h.has.chunks;
                };
                over = subst (λ b. GoesOver c (chunks_within most b) e.reached) all h.over;
                printed = ap (λ x. t ++ x) none ∙ append-nil t ∙ h.printed ∙ ap (λ b. wanted_by c (chunks_within most b)) all;
              }

          by : (result : Result (Unit {0}) LookFault) (held : Files) (t u : List ℕ) (history : History) → AreOrWent held history → u ≡ []
              → (k : (f : File) → held name ≡ Some f
              → HasPast most c e q at f.bytes t × (piece ≡ take (asks_at at) (drop at f.bytes)))
              → ((f : File) (is : held name ≡ Some f) → EndsSo name (k f is).0.come.fed (fed_place q) result)
              → EndsSo name inv.some (fed_place q) result → Printed most name c e result held (t ++ u) history
          by (Ok value) held t u history are none k ended some = (
            are,
            λ f is small. let h = (k f is).0.come in
                whole f.bytes t u h none (all_of f.bytes h.fed h.has.size (k f is).1 small h.begins) (ended f is),
          )
          by (Err (Outside call)) held t u history are none k ended some = absurd some.2
          by (Err (Gone which)) held t u history are none k ended some = absurd some.2
          by (Err NoMemory) held t u history are none k ended some = λ f is. (e.reached, front_of most c e q at f.bytes t u (k f is).0.come none)
          by (Err (Damaged which place)) held t u history are none k ended some = (
            some.2.0,
            λ f is small.
                let h = (k f is).0.come in
                let x = ended f is in
                let same = all_of f.bytes h.fed h.has.size (k f is).1 small h.begins in (
                  inl (subst (IsBadAt most f.bytes) (sym x.2.1) (bad f.bytes h.fed (fed_place q) x.0 h.has.chunks same x.1)),
                  front_of most c e q at f.bytes t u h none,
                ),
          )

-- ---- which call comes last, and the count

pub fails_then : (T V : Type 0) {P : History → History → Type 0} (fault : OutsideFault) {old mid new : Option History} → Adds old mid P
    → Adds mid new (LastFailed {T = V} (Err fault)) → Adds old new (FailsLast {T = T} (Err (look_fault fault)))
fails_then T V fault so_far last =
    adds_as (FailsLast {T = T} (Err (look_fault fault)))
    (adds_then (LastFailed {T = V} (Err fault)) so_far last (λ a b history p q. last_then {T = V} (Err fault) b a history q))
    (λ added history x. by fault added history x)
  where
    by : (fault : OutsideFault) (added history : History) → LastFailed {T = V} (Err fault) added history → FailsLast {T = T} (Err (look_fault fault)) added history
    by (site_failed call) added history x = x
    by no_memory added history x = tt

pub looks_last : (T V : Type 0) {P : History → History → Type 0} (fault : LookFault) {old mid new : Option History} → Adds old mid P
    → Adds mid new (FailsLast {T = V} (Err fault)) → Adds old new (FailsLast {T = T} (Err fault))
looks_last T V fault so_far last =
    adds_then (FailsLast {T = T} (Err fault)) so_far last (λ a b history p q. by fault a b history q)
  where
    by : (fault : LookFault) (a b history : History) → FailsLast {T = V} (Err fault) b (a ++ history) → FailsLast {T = T} (Err fault) (b ++ a) history
    by (Outside call) a b history q = last_then {T = Unit {0}} (Err (site_failed call)) b a history q
    by (Damaged which place) a b history q = tt
    by (Gone which) a b history q = tt
    by NoMemory a b history q = tt

pub caused : (T V : Type 0) (fault : OutsideFault) (before mid now : ℕ) → mid ≡ before → OutsideCause {T = V} mid now (Err fault)
    → LookCause {T = T} before now (Err (look_fault fault))
caused T V (site_failed call) before mid now same cause = rw (← same) cause
caused T V no_memory before mid now same cause = cause ∙ same

pub looks_cause : (T V : Type 0) (fault : LookFault) (before mid now : ℕ) → mid ≡ before → LookCause {T = V} mid now (Err fault)
    → LookCause {T = T} before now (Err fault)
looks_cause T V (Outside call) before mid now same cause = rw (← same) cause
looks_cause T V (Damaged which place) before mid now same cause = cause ∙ same
looks_cause T V (Gone which) before mid now same cause = cause ∙ same
looks_cause T V NoMemory before mid now same cause = cause ∙ same

-- damage is no call
pub no_call : {P : History → History → Type 0} (name : List ℕ) (at : ℕ) (fault : LookFault) {old new : Option History} → IsDamage name at fault
    → Adds old new P → Adds old new (FailsLast {T = Unit {0}} (Err fault))
no_call name at fault damage told = adds_as (FailsLast {T = Unit {0}} (Err fault)) told (λ added history x. by fault damage added history)
  where
    by : (fault : LookFault) → IsDamage name at fault → (added history : History) → FailsLast {T = Unit {0}} (Err fault) added history
    by (Outside call) damage added history = absurd damage
    by (Damaged which place) damage added history = tt
    by (Gone which) damage added history = absurd damage
    by NoMemory damage added history = tt

pub no_cause : (name : List ℕ) (at : ℕ) (fault : LookFault) (before now : ℕ) → IsDamage name at fault → now ≡ before
    → LookCause {T = Unit {0}} before now (Err fault)
no_cause name at (Outside call) before now damage same = absurd damage
no_cause name at (Damaged which place) before now damage same = same
no_cause name at (Gone which) before now damage same = absurd damage
no_cause name at NoMemory before now damage same = same

-- nor is a file that isn't there
pub loss_last : (T : Type 0) {P : History → History → Type 0} (name : List ℕ) (fault : LookFault)
    {old new : Option History} → IsLoss name fault → Adds old new P → Adds old new (FailsLast {T = T} (Err fault))
loss_last T name fault loss told = adds_as (FailsLast {T = T} (Err fault)) told (λ added history x. by fault loss added history)
  where
    by : (fault : LookFault) → IsLoss name fault → (added history : History) → FailsLast {T = T} (Err fault) added history
    by (Outside call) loss added history = absurd loss
    by (Damaged which place) loss added history = tt
    by (Gone which) loss added history = tt
    by NoMemory loss added history = tt

pub loss_cause : (T : Type 0) (name : List ℕ) (fault : LookFault) (before now : ℕ) → IsLoss name fault → now ≡ before
    → LookCause {T = T} before now (Err fault)
loss_cause T name (Outside call) before now loss same = absurd loss
loss_cause T name (Damaged which place) before now loss same = same
loss_cause T name (Gone which) before now loss same = same
loss_cause T name NoMemory before now loss same = same

-- nor is an end
pub ends_last : {P : History → History → Type 0} (name fed : List ℕ) (place : ℕ) (result : Result (Unit {0}) LookFault) {old new : Option History}
    → EndsSo name fed place result → Adds old new P → Adds old new (FailsLast result)
ends_last name fed place (Ok value) ends told = adds_as (FailsLast (Ok value)) told (λ added history x. tt)
ends_last name fed place (Err fault) ends told = no_call name ends.0 fault ends.2 told

pub ends_cause : (name fed : List ℕ) (place : ℕ) (result : Result (Unit {0}) LookFault) (before now : ℕ) → EndsSo name fed place result
    → now ≡ before → LookCause before now result
ends_cause name fed place (Ok value) before now ends same = same
ends_cause name fed place (Err fault) before now ends same = no_cause name ends.0 fault before now ends.2 same

-- ---- what is wanted is printed

pub follow_said : (most : ℕ) (c d : Course) (p q : Pieces) (stop : Option ℕ) (begun out text : List ℕ) {old new : Option History}
    → begun ≡ [] → text ≡ out
    → ((fed : List ℕ) → IsFed p fed → AreChunks most (records_of (take (fed_place p) fed)) → FollowedFed most c d p q begun out fed stop)
    → Adds old new (Sees (Said text (Ok tt))) → Adds old new (Sees (FollowedSaid most c d p q (Ok stop)))
follow_said most c d p q stop begun out text none same over told =
    sees_as (FollowedSaid most c d p q (Ok stop))
    (λ held t h x. (
      x.0,
      λ fed state chunks.
          subst (λ (b : List ℕ). FollowedFed most c d p q b t fed stop) none
          (subst (λ (o : List ℕ). FollowedFed most c d p q begun o fed stop) (sym (x.1 ∙ same)) (over fed state chunks)),
    ))
    told

pub over_some : (most : ℕ) (c d : Course) (p q : Pieces) (stop : Option ℕ) (begun out : List ℕ) → begun ≡ []
    → ((fed : List ℕ) → IsFed p fed → AreChunks most (records_of (take (fed_place p) fed)) → FollowedFed most c d p q begun out fed stop)
    → (text : List ℕ) × ((fed : List ℕ) → IsFed p fed → AreChunks most (records_of (take (fed_place p) fed))
    → FollowedFed most c d p q [] text fed stop)
over_some most c d p q stop begun out none over =
    (out, λ fed state chunks. subst (λ (b : List ℕ). FollowedFed most c d p q b out fed stop) none (over fed state chunks))

pub follow_unsaid : (most : ℕ) (c d : Course) (p q : Pieces) (text : List ℕ) (fault : OutsideFault) {old new : Option History}
    → Adds old new (Sees (Said text (Err fault))) → Adds old new (Sees (FollowedSaid most c d p q (Err fault)))
follow_unsaid most c d p q text fault told = sees_as (FollowedSaid most c d p q (Err fault)) (λ held t h x. x) told

pub unfollowed : (now : Option History) (most : ℕ) (c d : Course) (p q : Pieces) → Adds now now (Sees (FollowedSaid most c d p q (Err no_memory)))
unfollowed now most c d p q =
    adds_none now (Sees (FollowedSaid most c d p q (Err no_memory))) (λ history. record { sees = λ held s h. refl; own = tt })
