-- How a cursor goes on among the records of a file.
use Rattle.std.proofs.Common.{◌≡◌, ℕ, ◌+◌, ◌-◌, ◌<◌, ◌≤◌, ◌^◌, min, true, false, List, [], ◌∷◌, ◌++◌, length, take, drop, None, refl, sym, ◌∙◌, ap, ap₂, subst, arith, append_assoc, append-nil, length-append, length-take, true≢false}
use Rattle.std.proofs.lemmas.List.{length-drop, take_all, take-append-le, take-append-drop, nil_from_length}
use Rattle.std.proofs.Math.Seq.{drop-append_seam}
use Rattle.std.specs.Prelude.{nat_lt, nat_le, ◌&&◌}
use Rattle.std.proofs.lemmas.Bool.{and_from, ltb-true}
use Rattle.chk_chunk.specs.Keys.{Key, has_value}
use Rattle.chk_seqfile.specs.Entries.{IsSequenceFile, Placed, records_of}
use Rattle.chk_salvage.specs.declared.pieces.Pieces.{Pieces}
use Rattle.chk_salvage.specs.declared.fed.Fed.TheVariants.{More}
use Rattle.chk_salvage.specs.Feeding.{fed_place, fed_rest, fed_limit, fed_marker, IsFed, Stands}
use Rattle.chk_record_index.specs.Feeding.{IsEnd}
use Rattle.chk_record_index.specs.Pieces.{asks_for}
use Rattle.chk_record_index.proofs.Gathering.{no_records}
use Rattle.chk_archive_merge.specs.declared.cursor.Cursor.{Cursor}
use Rattle.chk_archive_merge.specs.declared.cursor.Taken.TheVariants as taken
use Rattle.chk_archive_merge.specs.Cursors.{HasGone, Took, StandsBehind, at_record, at_end}

-- a reader to which nothing was fed
pub none_gone : (bytes : List ℕ) (c : Cursor) → IsFed c.pieces [] → c.whole ≡ false → HasGone bytes c []
none_gone bytes c state some = record {
  fed = [];
  front = (bytes, refl);
  state = state;
  gone = no_records (fed_place c.pieces);
  all = λ whole. absurd (true≢false (sym whole ∙ some));
}

module _ (bytes : List ℕ) (small : length bytes < 2 ^ 63) (p : Pieces) (at : ℕ)
    (sat : at ≡ min (fed_place p + length (fed_rest p)) (2 ^ 64 - 1)) where
  -- the next read is of what stands behind all that was fed
  next_at : (fed rest : List ℕ) → bytes ≡ fed ++ rest → IsFed p fed → at ≡ length fed
  next_at fed rest front state =
      let within = state.within in
      let left = ap length state.rest in
      let all = ap length front ∙ length-append fed rest in
      omega (arith, length-drop (fed_place p) fed, sat, within, left, all, small)

  next_rest : (fed rest : List ℕ) → bytes ≡ fed ++ rest → IsFed p fed → drop at bytes ≡ rest
  next_rest fed rest front state =
      ap₂ (λ n b. drop n b) (next_at fed rest front state) front ∙ drop-append_seam fed rest

  pub more_gone : (c d : Cursor) (piece : List ℕ) (records : List Placed) → c.pieces ≡ p
      → piece ≡ take (asks_for 262144 at) (drop at bytes)
      → fed_place d.pieces ≡ fed_place c.pieces → ((fed : List ℕ) → IsFed c.pieces fed → IsFed d.pieces (fed ++ piece))
      → d.whole ≡ nat_lt (length piece) 262144 → HasGone bytes c records → HasGone bytes d records
  more_gone c d piece records own given place feeds whole g =
      let rest : List ℕ = g.front.0 in
      let state : IsFed p g.fed = subst (λ q. IsFed q g.fed) own g.state in
      let is : piece ≡ take (asks_for 262144 at) rest = given ∙ ap (take (asks_for 262144 at)) (next_rest g.fed rest g.front.1 state) in
      record {
        fed = g.fed ++ piece;
        front = (
          drop (asks_for 262144 at) rest,
          g.front.1 ∙ (ap (λ l. g.fed ++ l) (sym (take-append-drop (asks_for 262144 at) rest) ∙ ap (λ l. l ++ drop (asks_for 262144 at) rest) (sym is))
              ∙ sym (append_assoc g.fed piece (drop (asks_for 262144 at) rest))),
        );
        state = feeds g.fed g.state;
        gone = ap (λ k. records_of (take k (g.fed ++ piece))) place
            ∙ (ap records_of (take-append-le (fed_place c.pieces) g.fed piece g.state.within) ∙ g.gone);
        all = λ done.
            let short : length piece < 262144 = ltb-true (length piece) 262144 (sym whole ∙ done) in
            let few : length piece ≡ min (asks_for 262144 at) (length rest) = ap length is ∙ length-take (asks_for 262144 at) rest in
            let size : length bytes ≡ length g.fed + length rest = ap length g.front.1 ∙ length-append g.fed rest in
            let end : piece ≡ rest = is ∙ take_all (asks_for 262144 at) rest (omega (arith, short, few, size, small, next_at g.fed rest g.front.1 state)) in
            g.front.1 ∙ ap (λ l. g.fed ++ l) (sym end);
      }

  pub all_fed : (c : Cursor) (piece : List ℕ) → c.pieces ≡ p → piece ≡ take (asks_for 262144 at) (drop at bytes) → length piece ≡ 0
      → (records : List Placed) (g : HasGone bytes c records) → bytes ≡ g.fed
  all_fed c piece own given empty records g =
      let rest : List ℕ = g.front.0 in
      let state : IsFed p g.fed = subst (λ q. IsFed q g.fed) own g.state in
      let is : piece ≡ take (asks_for 262144 at) rest = given ∙ ap (take (asks_for 262144 at)) (next_rest g.fed rest g.front.1 state) in
      let few : length piece ≡ min (asks_for 262144 at) (length rest) = ap length is ∙ length-take (asks_for 262144 at) rest in
      let all : length bytes ≡ length g.fed + length rest = ap length g.front.1 ∙ length-append g.fed rest in
      let none : rest ≡ [] = nil_from_length rest (omega (arith, few, empty, all, small, next_at g.fed rest g.front.1 state)) in
      g.front.1 ∙ (ap (λ l. g.fed ++ l) none ∙ append-nil g.fed)

-- a record is taken, or none
pub took_gone : (bytes : List ℕ) (old new : Cursor) (records : List Placed) → Took taken.Record old new
    → HasGone bytes old records → StandsBehind bytes new records
took_gone bytes old new records took g =
    let x = took.1 g.fed g.state in
    at_record x.1.0 took.0 x.1.1 x.1.2
    (record {
      fed = g.fed;
      front = g.front;
      state = x.0;
      gone = x.1.3 ∙ ap (λ l. l ++ x.1.0 ∷ []) g.gone;
      all = λ whole. g.all (sym took.2 ∙ whole);
    })

abbrev pub more_left : (bytes : List ℕ) (old new : Cursor) (records : List Placed) → Took taken.More old new
    → HasGone bytes old records → HasGone bytes new records
more_left bytes old new records took g =
    let x = took.1 g.fed g.state in
    record { fed = g.fed; front = g.front; state = x.0; gone = x.1 ∙ g.gone; all = λ whole. g.all (sym took.2 ∙ whole) }

-- all was fed, and the reader has come to its end
pub ended : (bytes : List ℕ) (old new last : Cursor) (records : List Placed) → Took taken.More old new → last ≡ new
    → ((records : List Placed) (g : HasGone bytes new records) → bytes ≡ g.fed)
    → ((fed : List ℕ) → IsFed last.pieces fed
    → Stands (fed_limit last.pieces) fed (fed_marker last.pieces) (fed_place last.pieces) More
    → IsEnd fed (fed_place last.pieces) None)
    → HasGone bytes old records → StandsBehind bytes last records
ended bytes old new last records took same all end g =
    subst (λ c. StandsBehind bytes c records) (sym same)
    (at_end took.0 (subst IsSequenceFile whole e.1.file) (sym (ap records_of whole) ∙ (x.1 ∙ g.gone)))
  where
    x : IsFed new.pieces g.fed × (records_of (take (fed_place new.pieces) g.fed) ≡ records_of (take (fed_place old.pieces) g.fed))
        × Stands (fed_limit new.pieces) g.fed (fed_marker new.pieces) (fed_place new.pieces) More
    x = took.1 g.fed g.state

    e : IsEnd g.fed (fed_place new.pieces) None
    e = subst
        (λ (c : Cursor). (fed : List ℕ) → IsFed c.pieces fed
        → Stands (fed_limit c.pieces) fed (fed_marker c.pieces) (fed_place c.pieces) More → IsEnd fed (fed_place c.pieces) None) same end
        g.fed x.0 x.2

    whole : take (fed_place new.pieces) g.fed ≡ bytes
    whole = take_all (fed_place new.pieces) g.fed (let a = e.2 in omega arith) ∙ sym (all records (more_left bytes old new records took g))

-- such a value is one of the key
pub has_it : (most : ℕ) (k : Key) (value : List ℕ) → 0 < length value → length value ≤ most → k.start + length value ≤ k.seq
    → has_value most k value ≡ true
has_it most k value some few fits =
    let n : ℕ = length value in
    and_from (nat_lt 0 n) (nat_le n most && nat_le (k.start + n) k.seq) (let z : nat_lt 0 n ≡ true = grind (arith, some) in z)
    (and_from (nat_le n most) (nat_le (k.start + n) k.seq) (let z : nat_le n most ≡ true = grind (arith, few) in z)
    (let z : nat_le (k.start + n) k.seq ≡ true = grind (arith, fits) in z))
