-- A record that a cursor holds is written, and the cursor goes on behind it.
use Rattle.std.proofs.Common.{◌≡◌, ℕ, zero, suc, ◌<◌, Bool, true, false, List, [], ◌∷◌, ◌++◌, length, get_or, set, Option, Some, None, Ok, Err, Result, refl, sym, ◌∙◌, ap, subst, arith, inl, inr}
use Rattle.std.specs.Prelude.{IsTrue, unwrap_or}
use Rattle.std.proofs.lemmas.Bool.{and_parts}
use Rattle.std.proofs.lemmas.Option.{same_Some, none-some}
use Rattle.chk_site.specs.Files.{Files}
use Rattle.chk_site.specs.History.{History, Every}
use Rattle.chk_site.specs.Site.{Adds}
use Rattle.chk_site.specs.Runs.{anyhow, Leads}
use Rattle.chk_site.proofs.Runs.{adds_as}
use Rattle.chk_site.proofs.Leads.{leads_as, leads_then}
use Rattle.chk_chunk.specs.Keys.{Key, Chunk, is_key, fits_1, has_value, read_key}
use Rattle.chk_chunk.proofs.KeyLaws.{read_is_key}
use Rattle.chk_seqfile.specs.Entries.{Placed}
use Rattle.chk_world.specs.Books.{End, chunk_with, chunk_if}
use Rattle.chk_world.specs.JobSteps.{IsOf, WritesTo, SparesFile}
use Rattle.chk_record_index.specs.Order.{no_head}
use Rattle.chk_record_index.specs.Pieces.{bytes_in}
use Rattle.chk_record_index.specs.declared.fault.JobFault.{JobFault}
use Rattle.chk_book.specs.declared.segmenter.Segmenter.{Segmenter}
use Rattle.chk_book.specs.Folders.{segment_name}
use Rattle.chk_book.specs.Segmenting.{Writing, HoldsSegment}
use Rattle.chk_book.specs.Written.{IsAt, taken}
use Rattle.chk_record_reader.specs.Segments.{HasFiles, AreSettled}
use Rattle.chk_record_reader.specs.Merging.{SparesBoth, AreApart}
use Rattle.chk_record_reader.specs.OnePass.{end_at}
use Rattle.chk_archive_merge.specs.declared.cursor.Cursor.{Cursor}
use Rattle.chk_archive_merge.specs.declared.tour.Tour.{Tour}
use Rattle.chk_archive_merge.specs.Cursors.{StandsBehind, IsNext}
use Rattle.chk_archive_merge.specs.Merges.{chunk_here, chunk_at, IsBehind, IsPut, IsPutAt, CanPut, PutOne, WasNext, HasPut, IsMerging, WroteAt, at_offset}
use Rattle.chk_archive_merge.proofs.Values.{is_behind}
use Rattle.chk_archive_merge.proofs.Beside.{WentOn, write_beside}
use Rattle.chk_archive_merge.proofs.InTurn.{merging_more}

-- such a chunk can be written
pub chunk_can : (most : ℕ) (bytes value : List ℕ) (d : Chunk) → chunk_with most (read_key bytes) value ≡ Some d
    → IsTrue (is_key d.key) × IsTrue (has_value most d.key d.value)
chunk_can most bytes value d is = go (read_key bytes) refl is
  where
    key : (k : Key) → read_key bytes ≡ Some k → IsTrue (is_key k)
    key k e = elim (read_is_key k bytes e) [
      | inl one ↦ (and_parts (is_key k) (fits_1 k) one.0).0
      | inr two ↦ two.0
    ]

    go : (o : Option Key) → read_key bytes ≡ o → chunk_with most o value ≡ Some d → IsTrue (is_key d.key) × IsTrue (has_value most d.key d.value)
    go None e none = absurd (none-some d none)
    go (Some k) e some = both (has_value most k value) refl some
      where
        both : (b : Bool) → has_value most k value ≡ b → chunk_if b k value ≡ Some d → IsTrue (is_key d.key) × IsTrue (has_value most d.key d.value)
        both true fine same =
            subst (λ (c : Chunk). IsTrue (is_key c.key) × IsTrue (has_value most c.key c.value))
            (same_Some (record { key = k; value = value }) d same) (key k e, fine)
        both false fine same = absurd (none-some d same)

pub here_is : (most : ℕ) (e : End) (reached : ℕ) (c : Cursor) (d : Chunk) → IsNext most e reached c d → chunk_here most c ≡ d
here_is most e reached c d n =
    let none : Chunk = record { key = no_head.key; value = [] } in ap (λ (o : Option Chunk). unwrap_or o none) n.is

pub here_next : (most : ℕ) (e : End) (reached : ℕ) (c : Cursor) (d : Chunk) → IsNext most e reached c d → IsNext most e reached c (chunk_here most c)
here_next most e reached c d n = subst (IsNext most e reached c) (sym (here_is most e reached c d n)) n

pub chunk_at_here : (most : ℕ) (cs : List Cursor) (i : ℕ) (d : Cursor) → i < length cs → chunk_at most cs i ≡ chunk_here most (get_or cs i d)
chunk_at_here most [] i d low = absurd (let z : ⊥ = omega (arith, low) in z)
chunk_at_here most (c ∷ cs) zero d low = refl
chunk_at_here most (c ∷ cs) (suc i) d low = chunk_at_here most cs i d (omega (arith, low))

module _ (most : ℕ) (names : List (List ℕ)) (held : Files) (name : List ℕ) (s : Segmenter) (w : Writing) where
  -- written, and gone on
  pub put_on : (e : End) (reached next : ℕ) (old new : Cursor) {now mid after : Option History}
      → AreSettled names held → AreApart names (segment_name w.folder w.number) → WasNext most e reached old (Ok (Some next))
      → Adds now mid (Leads (anyhow (SparesFile (segment_name w.folder w.number))) (HoldsSegment w) (HasPut most s w old (Ok (Some next))))
      → Adds now mid (Every (IsOf (WritesTo (segment_name w.folder w.number))))
      → Adds mid after
      (Leads (anyhow (SparesBoth names (segment_name w.folder w.number)))
      (λ h. HasFiles names held h × HoldsSegment (taken s w (chunk_here most old)) h)
      (WentOn names held (taken s w (chunk_here most old)) name old new (Ok true)))
      → Adds now after
      (Leads (anyhow (SparesBoth names (segment_name w.folder w.number))) (CanPut names held w)
      (PutOne most names held name s w old new (Ok (Some next))))
  put_on e reached next old new settled apart was put own on =
      leads_then (write_beside names held (segment_name w.folder w.number) settled apart put own)
      (leads_as (λ h x. x)
      (λ h x. (
        (x.0, x.1),
        λ done stands.
            is_behind most (bytes_in (held name)) old new (chunk_here most old) done was.0.held was.0.is x.2 stands,
      )) on)

  -- written, and it can't go on
  pub put_off : (next : ℕ) (old new : Cursor) {now mid after : Option History}
      → AreSettled names held → AreApart names (segment_name w.folder w.number)
      → Adds now mid (Leads (anyhow (SparesFile (segment_name w.folder w.number))) (HoldsSegment w) (HasPut most s w old (Ok (Some next))))
      → Adds now mid (Every (IsOf (WritesTo (segment_name w.folder w.number))))
      → Adds mid after
      (Leads (anyhow (SparesBoth names (segment_name w.folder w.number)))
      (λ h. HasFiles names held h × HoldsSegment (taken s w (chunk_here most old)) h)
      (WentOn names held (taken s w (chunk_here most old)) name old new (Ok false)))
      → Adds now after
      (Leads (anyhow (SparesBoth names (segment_name w.folder w.number))) (CanPut names held w)
      (PutOne most names held name s w old new (Ok None)))
  put_off next old new settled apart put own on =
      leads_then (write_beside names held (segment_name w.folder w.number) settled apart put own) (leads_as (λ h x. x) (λ h x. x) on)

  -- nothing was written
  pub put_none : (old new : Cursor) {now after : Option History}
      → AreSettled names held → AreApart names (segment_name w.folder w.number)
      → Adds now after (Leads (anyhow (SparesFile (segment_name w.folder w.number))) (HoldsSegment w) (HasPut most s w old (Ok None)))
      → Adds now after (Every (IsOf (WritesTo (segment_name w.folder w.number))))
      → Adds now after
      (Leads (anyhow (SparesBoth names (segment_name w.folder w.number))) (CanPut names held w)
      (PutOne most names held name s w old new (Ok None)))
  put_none old new settled apart put own =
      leads_as (λ h x. x) (λ h x. x.0) (write_beside names held (segment_name w.folder w.number) settled apart put own)

-- one record more of the merge
module _ (most : ℕ) (names : List (List ℕ)) (held : Files) (es : List End) (t : Tour) (cs : List Cursor) (s : Segmenter) (w : Writing) where
  wrote : (name : List ℕ) (d new : Cursor) (news : List Cursor) (result : Result (Option ℕ) JobFault) (before after : History)
      → t.stream < length es → t.file < length names → t.file < length cs → name ≡ get_or names t.file [] → d ≡ get_or cs t.file d
      → news ≡ set cs t.file new → WasNext most (end_at es t.stream) t.reached d result
      → IsMerging most names held es t cs w before → PutOne most names held name s w d new result after
      → WroteAt most names held es t news (taken s w (chunk_at most cs t.file)) result after
  wrote name d new news (Ok (Some reached)) before after stream file low named own are was m x =
      let here : chunk_at most cs t.file ≡ chunk_here most d = chunk_at_here most cs t.file d low ∙ ap (chunk_here most) (sym own) in
      subst (λ c. IsMerging most names held es (at_offset t reached) news (taken s w c) after) (sym here)
      (subst (λ l. IsMerging most names held es (at_offset t reached) l (taken s w (chunk_here most d)) after) (sym are)
      (merging_more most names held es t (at_offset t reached) cs d new s w (chunk_here most d) before after m stream file x.0
      (subst (λ v. (done : List Placed) → StandsBehind (bytes_in (held v)) (get_or cs t.file d) done
      → IsBehind most (bytes_in (held v)) (chunk_here most d) done new) named
      (subst (λ c. (done : List Placed) → StandsBehind (bytes_in (held name)) c done → IsBehind most (bytes_in (held name)) (chunk_here most d) done new) own x.1))
      (subst (λ c. IsNext most (end_at es t.stream) t.reached c (chunk_here most d)) own was.0) refl refl was.1))
  wrote name d new news (Ok None) before after stream file low named own are was m x = x
  wrote name d new news (Err fault) before after stream file low named own are was m x = tt

  pub wrote_at : (name : List ℕ) (d new : Cursor) (news : List Cursor) (result : Result (Option ℕ) JobFault) {now next : Option History}
      → t.stream < length es → t.file < length names → t.file < length cs → name ≡ get_or names t.file [] → d ≡ get_or cs t.file d
      → news ≡ set cs t.file new → WasNext most (end_at es t.stream) t.reached d result
      → Adds now next
      (Leads (anyhow (SparesBoth names (segment_name w.folder w.number))) (CanPut names held w) (PutOne most names held name s w d new result))
      → Adds now next
      (Leads (anyhow (SparesBoth names (segment_name w.folder w.number))) (IsMerging most names held es t cs w)
      (WroteAt most names held es t news (taken s w (chunk_at most cs t.file)) result))
  wrote_at name d new news result stream file low named own are was told =
      adds_as
      (Leads (anyhow (SparesBoth names (segment_name w.folder w.number))) (IsMerging most names held es t cs w)
      (WroteAt most names held es t news (taken s w (chunk_at most cs t.file)) result)) told
      (λ added history x. record {
        leads = λ both m.
            wrote name d new news result history (added ++ history) stream file low named own are was m (x.leads both m.can);
        own = x.own;
      })

-- the segment has it, told by its cursor's place
pub is_put_at : (most : ℕ) (old new : Segmenter) (c : Cursor) (d : Chunk) (r : Result (Option ℕ) JobFault) → d ≡ chunk_here most c
    → IsPut most old new c r → IsPutAt old new d r
is_put_at most old new c d (Ok (Some seq)) same put =
    λ w at. subst (λ (x : Chunk). IsAt new (taken old w x)) (sym same) (put w at)
is_put_at most old new c d (Ok None) same put = tt
is_put_at most old new c d (Err fault) same put = tt
