-- A course over one stretch of records and then another.
use Rattle.std.proofs.Common.{◌≡◌, inr, ℕ, ◌≤◌, Bool, true, false, List, [], ◌∷◌, ◌++◌, take, Some, refl, sym, ap, subst, ◌∙◌, append_assoc, append-nil}
use Rattle.std.specs.Prelude.{flat_map}
use Rattle.std.proofs.lemmas.List.Elements.{filter_map-append, filter-append}
use Rattle.std.proofs.lemmas.List.Concat.{flat_map-append}
use Rattle.chk_chunk.specs.Keys.{Stream, Chunk, chunk_end, is_of}
use Rattle.chk_seqfile.specs.Entries.{Placed, records_of}
use Rattle.chk_world.specs.Books.{chunk_of, chunks_of_stream}
use Rattle.chk_world.specs.Jobs.{Run}
use Rattle.chk_record_index.proofs.FedRecords.{both_chunks}
use Rattle.chk_ctl_cat.specs.declared.course.Course.{Course}
use Rattle.chk_ctl_cat.specs.Courses.{stream_of, KeepsCourse, wanted_of, wanted, GoesOver, wanted_by, IsOff, TookChunk, TookRecord, chunks_at, Followed}

pub run_then : (start from mid to : ℕ) (ks ls : List Chunk) → Run start from ks mid → Run start mid ls to → Run start from (ks ++ ls) to
run_then start from mid to [] ls a b = subst (λ n. Run start n ls to) a b
run_then start from mid to (k ∷ ks) ls a b = (a.0, a.1, run_then start (chunk_end k) mid to ks ls a.2 b)

pub wanted_both : (s : Stream) (begin : ℕ) (ks ls : List Chunk) → wanted s begin (ks ++ ls) ≡ wanted s begin ks ++ wanted s begin ls
wanted_both s begin ks ls =
    ap (flat_map (wanted_of begin)) (filter-append (is_of s) ks ls)
    ∙ flat_map-append (wanted_of begin) (chunks_of_stream s ks) (chunks_of_stream s ls)

pub keeps_self : (c : Course) → KeepsCourse c c
keeps_self c = record { stream = refl; start = refl; end = refl; begin = refl }

pub keeps_then : (c d e : Course) → KeepsCourse c d → KeepsCourse d e → KeepsCourse c e
keeps_then c d e a b = record {
  stream = b.stream ∙ a.stream;
  start = b.start ∙ a.start;
  end = b.end ∙ a.end;
  begin = b.begin ∙ a.begin;
}

-- a course that is kept goes on
module _ (c d : Course) (keeps : KeepsCourse c d) where
  pub over_then : (to : ℕ) (ks ls : List Chunk) → GoesOver c ks d.reached → GoesOver d ls to → GoesOver c (ks ++ ls) to
  over_then to ks ls a b =
      subst (λ l. Run c.start c.reached l to) (sym (filter-append (is_of (stream_of c)) ks ls))
      (run_then c.start c.reached d.reached to (chunks_of_stream (stream_of c) ks) (chunks_of_stream (stream_of c) ls) a
      (subst (λ n. Run n d.reached (chunks_of_stream (stream_of c) ls) to) keeps.start
      (subst (λ s. Run d.start d.reached (chunks_of_stream s ls) to) keeps.stream b)))

  pub wanted_then : (ks ls : List Chunk) → wanted_by c (ks ++ ls) ≡ wanted_by c ks ++ wanted_by d ls
  wanted_then ks ls =
      wanted_both (stream_of c) c.begin ks ls
      ∙ ap (λ t. wanted_by c ks ++ t)
      (ap (λ s. wanted s c.begin ls) (sym keeps.stream) ∙ ap (λ n. wanted (stream_of d) n ls) (sym keeps.begin))

  pub off_back : (k : Chunk) → d.reached ≡ c.reached → IsOff c k → IsOff d k
  off_back k same o = record {
    of = subst (λ s. is_of s k ≡ true) (sym keeps.stream) o.of;
    off = λ a b l. o.off (a ∙ keeps.start) (b ∙ same) (subst (λ n. k.key.seq ≤ n) keeps.end l);
  }

-- a record that is this chunk
pub took_record : (most : ℕ) (r : Placed) (k : Chunk) (c d : Course) (out out' : List ℕ) → chunk_of most r ≡ Some k → (is : Bool)
    → TookChunk is k c d out out' → TookRecord is most r c d out out'
took_record most r k c d out out' e true took = (k, e, took)
took_record most r k c d out out' e false took = (inr (k, e, took.0), took.1, took.2)

-- nothing was gone over
pub followed_none : (most : ℕ) (c : Course) (place : ℕ) (fed out : List ℕ) → Followed most c c place place fed out out
followed_none most c place fed out = record {
  more = [];
  records = sym (append-nil (records_of (take place fed)));
  chunks = refl;
  over = refl;
  text = sym (append-nil out);
}

-- two stretches
pub followed_then : (most : ℕ) (c d e : Course) (from mid to : ℕ) (fed out out' out'' : List ℕ) → KeepsCourse c d
    → Followed most c d from mid fed out out' → Followed most d e mid to fed out' out'' → Followed most c e from to fed out out''
followed_then most c d e from mid to fed out out' out'' keeps a b = record {
  more = a.more ++ b.more;
  records = b.records ∙ ap (λ rs. rs ++ b.more) a.records ∙ append_assoc (records_of (take from fed)) a.more b.more;
  chunks = both_chunks most a.more b.more a.chunks b.chunks;
  over = subst (λ ks. GoesOver c ks e.reached) (sym (filter_map-append (chunk_of most) a.more b.more))
      (over_then c d keeps e.reached (chunks_at most a.more) (chunks_at most b.more) a.over b.over);
  text = b.text
      ∙ (ap (λ t. t ++ wanted_by d (chunks_at most b.more)) a.text
      ∙ (append_assoc out (wanted_by c (chunks_at most a.more)) (wanted_by d (chunks_at most b.more))
      ∙ ap (λ t. out ++ t)
      (sym (wanted_then c d keeps (chunks_at most a.more) (chunks_at most b.more))
      ∙ ap (wanted_by c) (sym (filter_map-append (chunk_of most) a.more b.more)))));
}

-- the same, but for what was reached and written, which is alike
pub followed_same : (most : ℕ) (c d e : Course) (from to : ℕ) (fed out out' out'' : List ℕ) → e.reached ≡ d.reached → out'' ≡ out'
    → Followed most c d from to fed out out' → Followed most c e from to fed out out''
followed_same most c d e from to fed out out' out'' same also a = record {
  more = a.more;
  records = a.records;
  chunks = a.chunks;
  over = subst (GoesOver c (chunks_at most a.more)) (sym same) a.over;
  text = also ∙ a.text;
}
