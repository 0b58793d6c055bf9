-- Where all of each stream's records and its end have one start, no record has another one.
use Rattle.std.proofs.Common.{◌≡◌, ◌<◌, ℕ, zero, suc, Bool, true, false, List, [], ◌∷◌, length, ap, sym, subst, ◌∙◌, refl, arith, if◌then◌else◌}
use Rattle.std.specs.List.{AllZip}
use Rattle.chk_chunk.specs.Keys.{Stream, Key, Chunk, same_stream}
use Rattle.chk_world.specs.Books.{End}
use Rattle.chk_world.specs.Sight.{Sight}
use Rattle.chk_world.proofs.Each.{Each}
use Rattle.chk_world.proofs.NameTests.{streams_same}
use Rattle.chk_record_index.specs.Heads.{Head}
use Rattle.chk_record_index.specs.declared.fault.JobFault.{JobFault}
use Rattle.chk_record_index.specs.declared.fault.JobFault.TheVariants.{Outside, Damaged, Spent, NoMemory}
use Rattle.chk_record_index.specs.Faults.{IsOfRead}
use Rattle.chk_archive_plan.specs.Passes.{head_in}
use Rattle.chk_archive_plan.specs.declared.spans.Known.{Known}
use Rattle.chk_archive_plan.specs.Starts.{first_start, start_known, HasStart, HaveStarts, IsOtherStart}
use Rattle.chk_archive_plan.proofs.Parts.{stream_self}
use Rattle.chk_archive_parts.specs.Records.{IsRecordOf, AreRecords}
use Rattle.chk_archive.specs.Starts.{start_in, HasStartIn, HaveStartsIn, IsOtherStartIn, ToldOtherStart}
use Rattle.chk_record_reader.specs.Archives.{IsHeadFault}

module _ (start : Stream → ℕ) where
  abbrev pub EndStarts : End → Type 0
  EndStarts e = e.start ≡ start e.stream

  abbrev pub HeadStarts : Head → Type 0
  HeadStarts h = h.key.start ≡ start h.key.stream

  abbrev pub ChunkStarts : Chunk → Type 0
  ChunkStarts c = c.key.start ≡ start c.key.stream

  in_ends : (n : ℕ) (es : List End) (s : Stream) → n ≡ start s → Each EndStarts es → start_in n es s ≡ start s
  in_ends n [] s is all = is
  in_ends n (e ∷ es) s is all = go (same_stream s e.stream) refl (in_ends n es s is all.1)
    where
      go : (b : Bool) → same_stream s e.stream ≡ b → start_in n es s ≡ start s
          → (if b then e.start else start_in n es s) ≡ start s
      go true same rest = all.0 ∙ ap start (sym (streams_same s e.stream same))
      go false other rest = rest

  in_heads : (heads : List Head) (i : ℕ) (s : Stream) → i < length heads
      → same_stream s (head_in heads i).key.stream ≡ true → Each HeadStarts heads → first_start s heads ≡ start s
  in_heads [] i s low is all = absurd (let z : ⊥ = omega (arith, low) in z)
  in_heads (h ∷ hs) zero s low is all =
      ap (λ b. if b then h.key.start else first_start s hs) is
      ∙ (all.0 ∙ ap start (sym (streams_same s h.key.stream is)))
  in_heads (h ∷ hs) (suc i) s low is all =
      go (same_stream s h.key.stream) refl (in_heads hs i s (omega (arith, low)) is all.1)
    where
      go : (b : Bool) → same_stream s h.key.stream ≡ b → first_start s hs ≡ start s
          → (if b then h.key.start else first_start s hs) ≡ start s
      go true same rest = all.0 ∙ ap start (sym (streams_same s h.key.stream same))
      go false other rest = rest

  head_starts : (heads : List Head) (i : ℕ) → i < length heads → Each HeadStarts heads → HeadStarts (head_in heads i)
  head_starts [] i low all = absurd (let z : ⊥ = omega (arith, low) in z)
  head_starts (h ∷ hs) zero low all = all.0
  head_starts (h ∷ hs) (suc i) low all = head_starts hs i (omega (arith, low)) all.1

  pub starts_agree : (es : List End) (heads : List Head) → Each EndStarts es → Each HeadStarts heads → HaveStartsIn es heads
  starts_agree es heads ends all i low =
      let s : Stream = (head_in heads i).key.stream in
      head_starts heads i low all
      ∙ sym (in_ends (first_start s heads) es s (in_heads heads i s low (stream_self s) all) ends)

  pub heads_of_records : (v : Sight) (files : List (List ℕ)) (heads : List Head) (cs : List Chunk)
      → AllZip (IsRecordOf v files) heads cs → Each ChunkStarts cs → Each HeadStarts heads
  heads_of_records v files [] [] zip all = tt
  heads_of_records v files [] (c ∷ cs) zip all = tt
  heads_of_records v files (h ∷ hs) [] zip all = absurd zip
  heads_of_records v files (h ∷ hs) (c ∷ cs) zip all = (
    subst (λ (k : Key). k.start ≡ start k.stream) (sym (ap (λ (d : Chunk). d.key) zip.0.is)) all.0,
    heads_of_records v files hs cs zip.1 all.1,
  )

  -- the same of chunks of which there are heads
  pub starts_of_records : (v : Sight) (files : List (List ℕ)) (es : List End) (heads : List Head) (cs : List Chunk)
      → AreRecords v files heads cs → Each EndStarts es → Each ChunkStarts cs → HaveStartsIn es heads
  starts_of_records v files es heads cs records ends all =
      starts_agree es heads ends (heads_of_records v files heads cs records.each all)

-- ---- the fault

module _ (files : List (List ℕ)) (es : List End) (heads : List Head) where
  -- where no head has another start no damage is told
  pub no_other_start : HaveStartsIn es heads → (name : List ℕ) (at : ℕ) → ToldOtherStart files es heads (Damaged name at) → ⊥
  no_other_start have name at told = told.1.other (have told.0 told.1.within)

  pub start_of_read : (fault : JobFault) → ToldOtherStart files es heads fault → IsOfRead fault
  start_of_read (Outside call) told = tt
  start_of_read (Damaged name at) told = tt
  start_of_read (Spent n) told = told
  start_of_read NoMemory told = tt

  pub start_no_call : (fault : JobFault) → ToldOtherStart files es heads fault → (call : _) → fault ≡ Outside call → ⊥
  start_no_call (Outside other) told call e = told
  start_no_call (Damaged name at) told call e = cc
  start_no_call (Spent n) told call e = told
  start_no_call NoMemory told call e = cc

-- ---- what is known of a book's streams

module _ (ks : List Known) (es : List End) (heads : List Head)
    (same : (n : ℕ) (s : Stream) → start_known n ks s ≡ start_in n es s) where
  has_in : (i : ℕ) → HasStart ks heads i → HasStartIn es heads i
  has_in i has = let s : Stream = (head_in heads i).key.stream in has ∙ same (first_start s heads) s

  has_back : (i : ℕ) → HasStartIn es heads i → HasStart ks heads i
  has_back i has = let s : Stream = (head_in heads i).key.stream in has ∙ sym (same (first_start s heads) s)

  pub all_in : HaveStarts ks heads → HaveStartsIn es heads
  all_in all i low = has_in i (all i low)

  pub other_in : (i : ℕ) → IsOtherStart ks heads i → IsOtherStartIn es heads i
  other_in i o = record {
    within = o.within;
    other = λ has. o.other (has_back i has);
    before = λ k low. has_in k (o.before k low);
  }

pub told_so : (files : List (List ℕ)) (es : List End) (heads : List Head) (i : ℕ) (fault : JobFault)
    → IsHeadFault files (head_in heads i) fault → IsOtherStartIn es heads i → ToldOtherStart files es heads fault
told_so files es heads i (Outside call) is o = absurd is
told_so files es heads i (Damaged name at) is o = (i, o, is.0, is.1)
told_so files es heads i (Spent n) is o = absurd is
told_so files es heads i NoMemory is o = tt
