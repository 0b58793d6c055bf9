-- That a complete record is there where one is put, as the bytes of a stream are split.
use Rattle.std.proofs.Common.{◌≡◌, inl, inr, ℕ, ◌+◌, ◌<◌, ◌≤◌, Bool, true, false, List, [], ◌∷◌, ◌++◌, length, take, drop, Option, Some, None, Ok, Result, refl, ap, sym, subst, ◌∙◌, arith, length-append}
use Rattle.std.specs.Prelude.{Contains, OnOk, slice_index_or}
use Rattle.chk_chunk.specs.Keys.{Chunk}
use Rattle.chk_world.specs.ArchiveRuns.{in_order}
use Rattle.chk_world.specs.Books.{Book, End, ends_rise}
use Rattle.chk_world.specs.Sight.{Sight}
use Rattle.chk_world.specs.TrueBooks.{HasBytes}
use Rattle.chk_world.proofs.Each.{Each, each_from, each_at}
use Rattle.chk_world.proofs.SpelledLemmas.{book_so}
use Rattle.chk_record_index.specs.Heads.{Head}
use Rattle.chk_record_index.specs.declared.fault.JobFault.{JobFault}
use Rattle.chk_archive_plan.specs.Passes.{head_in}
use Rattle.chk_archive_plan.proofs.Runs.{all_put}
use Rattle.chk_book.specs.Loaded.{IsBookOf}
use Rattle.chk_archive_parts.specs.Cuts.{no_chunk}
use Rattle.chk_archive_parts.specs.Records.{AreRecords}
use Rattle.chk_demux_split.specs.Splitting.{Splitting, Feeds, fresh, record_of, pieces_of, records_ahead}
use Rattle.chk_demux.specs.Giving.{IsSplitting}
use Rattle.chk_demux.specs.Splitting.{split_from, ends_past, past_of, past_in, HoldsStream}
use Rattle.chk_demux.specs.Shown.{PutsIf}
use Rattle.chk_demux.specs.Due.{HasRecord, IsFed, StreamHasRecord, HasDue}
use Rattle.chk_demux.proofs.Feeding.{fresh_splits, one_more, fed_now}
use Rattle.chk_demux.proofs.Places.{not_past, is_past}
use Rattle.chk_demux.proofs.HeadsInOrder.{none_before, none_behind}
use Rattle.chk_demux.proofs.NewHeads.{then_put}
use Rattle.chk_demux.proofs.NewRecords.{rise_of}

pub put_as : {P Q : Type 0} (old new : ℕ) → (P → Q) → PutsIf P old new → PutsIf Q old new
put_as old new f (inl same) = inl same
put_as old new f (inr p) = inr (f p)

-- ---- bytes that are fed

-- a record stays complete, whatever comes behind it
longer : (t : Bool) (s : Splitting) (fed more : List ℕ) → IsSplitting t fed s → HasRecord t fed
    → HasRecord t (fed ++ more)
longer t s fed more k has =
    let all = ap length (k.ahead more) in
    let sum = length-append (pieces_of t fed) (records_ahead s more) in
    omega (arith, all, sum, has)

given_record : (given : List ℕ) → 0 < length given → 0 < length (record_of given)
given_record [] some = absurd (let z : ⊥ = omega (arith, some) in z)
given_record (b ∷ given) some = omega arith

-- one feed of a value, behind its first bytes
pub still_due : (heads : List Head) (e : End) (t : Bool) (fed value : List ℕ) (at n : ℕ)
    (old new : Splitting) → IsSplitting t (fed ++ take at value) old
    → Feeds old new (take n (drop at value)) → (m k j : ℕ)
    → PutsIf (HasRecord t (fed ++ take at value)) m k → PutsIf (0 < length new.given) k j
    → PutsIf (HasRecord t (fed ++ take (at + n) value)) m j
still_due heads e t fed value at n old new s f m k j so_far now =
    let a : List ℕ = fed ++ take at value in
    let b : List ℕ = take n (drop at value) in
    let all = ap length (one_more t a b old new s f) in
    let sum = length-append (pieces_of t a) (record_of new.given) in
    subst (λ l. PutsIf (HasRecord t l) m j) (fed_now heads e 0 0 t fed value at n old new s f)
    (then_put m k j (put_as m k (λ p. longer t old a b s p) so_far)
    (put_as k j (λ p. let one = given_record new.given p in
    let z : HasRecord t (a ++ b) = omega (arith, all, sum, one) in z) now))

-- ---- the chunks of a stream

module _ (v : Sight) (files : List (List ℕ)) (heads : List Head) (cs : List Chunk) (e : End) (from : ℕ)
    (records : AreRecords v files heads cs) (bytes : Each HasBytes cs) (b : Bool) where
  abbrev Fed : ℕ → List ℕ
  Fed n = past_in from e.stream (take n cs)

  module _ (first past : ℕ) (low : first ≤ past) (high : past ≤ length heads)
      (holds : HoldsStream heads e.stream first past) (s : Splitting) where
    pub fed_none : s ≡ fresh b → (m : ℕ) → IsFed cs e from first b s m m
    fed_none is m = record {
      splits = subst (λ l. IsSplitting b l s)
          (sym (none_before v files heads cs e from records bytes first past low high holds))
          (subst (IsSplitting b []) (sym is) (fresh_splits b));
      due = inl refl;
    }

    pub fed_all : (index m n : ℕ) → index ≡ past → IsFed cs e from index b s m n
        → PutsIf (HasRecord b (past_in from e.stream cs)) m n
    fed_all index m n is f =
        subst (λ l. PutsIf (HasRecord b l) m n)
        (ap Fed is ∙ sym (none_behind v files heads cs e from records bytes first past low high holds))
        f.due

  module _ (i : ℕ) (low : i < length heads) (s : Splitting) (m n : ℕ) where
    pub fed_passed : ends_past e from (head_in heads i) ≡ false → IsFed cs e from i b s m n
        → IsFed cs e from (i + 1) b s m n
    fed_passed misses f =
        let same = sym (not_past v files heads cs e from records bytes i low misses) in
        record {
          splits = subst (λ l. IsSplitting b l s) same f.splits;
          due = subst (λ l. PutsIf (HasRecord b l) m n) same f.due;
        }

    pub fed_more : ends_past e from (head_in heads i) ≡ true → (given : List ℕ)
        → given ≡ past_of from (slice_index_or cs i no_chunk) → (q : Splitting) (k : ℕ)
        (z : Result (Unit {0}) JobFault)
        → ((fed : List ℕ) → IsSplitting b fed s → OnOk z (IsSplitting b (fed ++ given) q))
        → ((fed : List ℕ) → IsSplitting b fed s → OnOk z (PutsIf (HasRecord b (fed ++ given)) n k))
        → (value : Unit {0}) → z ≡ Ok value → IsFed cs e from i b s m n
        → IsFed cs e from (i + 1) b q m k
    fed_more passes given is q k z split due value good f =
        let all : Fed i ++ given ≡ Fed (i + 1) =
        ap (λ l. Fed i ++ l) is
        ∙ sym (is_past v files heads cs e from records bytes i low passes) in
        record {
          splits = subst (λ l. IsSplitting b l q) all
              (subst (λ r. OnOk r (IsSplitting b (Fed i ++ given) q)) good (split (Fed i) f.splits));
          due = subst (λ l. PutsIf (HasRecord b l) m k) all
              (then_put m n k (put_as m n (λ p. longer b s (Fed i) given f.splits p) f.due)
              (subst (λ r. OnOk r (PutsIf (HasRecord b (Fed i ++ given)) n k)) good
              (due (Fed i) f.splits)));
        }

pub stream_due : (types : List (List ℕ)) (archive records : Book) (cs : List Chunk) (e : End)
    (from old new : ℕ) → Contains archive.ends e → from ≡ split_from records e
    → PutsIf (StreamHasRecord types cs e from) old new
    → PutsIf (HasDue types archive records cs) old new
stream_due types archive records cs e from old new named is due =
    put_as old new (λ p. (e, named, subst (StreamHasRecord types cs e) is p)) due

-- ---- what files have

pub order_bytes : (cs : List Chunk) → Each HasBytes cs → Each HasBytes (in_order cs)
order_bytes cs all =
    each_from HasBytes (in_order cs) (λ c one. each_at HasBytes cs c all (all_put cs c one))

pub book_rises : (given : Option (List ℕ)) (b : Book) → IsBookOf given b → ends_rise b.ends ≡ true
book_rises None b is = subst (λ (x : Book). ends_rise x.ends ≡ true) (sym is) refl
book_rises (Some bytes) b is = let so = book_so bytes b is.0 in rise_of so.0 b so.1
