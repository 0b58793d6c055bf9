use Rattle.std.proofs.Common.{◌≡◌, ◌∙◌, ◌+◌, ◌++◌, ◌<◌, ap, sym, subst, refl, inl, arith, length, map, take, Ok, ℕ, [], ap₂}
use Rattle.std.specs.Prelude.{codes, slice_index_or}
use Rattle.std.proofs.lemmas.Result.{err_from_is_err_and}
use Rattle.std.proofs.lemmas.List.{take_all, length-map}
use Rattle.chk_site.specs.Site.{Adds}
use Rattle.chk_site.proofs.Leads.{leads_none, leads_as, leads_then}
use Rattle.chk_world.specs.Places.{As}
use Rattle.chk_world.specs.Sight.{job, Sight, AtJob, sight}
use Rattle.chk_world.specs.JobSteps.{ReadsOrWrites}
use Rattle.chk_book.specs.Books.{book_view}
use Rattle.chk_book.specs.Views.{end_view}
use Rattle.chk_book.specs.Folders.{segment_name}
use Rattle.chk_archive_plan.proofs.Bridges.{each_index}
use Rattle.chk_archive_parts.specs.Fetching.{AreWindows}
use Rattle.chk_archive_parts.proofs.CutLists.{nothing_windows}
use Rattle.chk_demux.specs.Working.{Worked}
use Rattle.chk_demux.specs.Writes.{IsOutput}
use Rattle.chk_demux.specs.Splitting.{texts, split_from, RunsSo, stream_chunks, stream_left, all_chunks, all_left}
use Rattle.chk_demux.specs.Shown.{PutsIf}
use Rattle.chk_demux.specs.Due.{StreamHasRecord, HasDue}
use Rattle.chk_demux.proofs.Due.{stream_due}
use Rattle.chk_demux.proofs.RawReads.{beside, on_done, none_damaged}
use Rattle.chk_demux.proofs.Ends.{at_as, no_more}
use Rattle.chk_demux.proofs.Streams.{seen_at, chunks_more, left_more, stream_fails, stream_done}
use Rattle.chk_archive_parts.proofs.Works.{works_result, works_value, works_end}
use Rattle.chk_book.proofs.Works.{works_none, works_then}
use Rattle.chk_site.proofs.Runs.{adds_as}
use Rattle.chk_site.specs.declared.acts.OutsideFault.TheVariants.{NoMemory as no_memory}
use Rattle.chk_record_index.proofs.Causes.{shows_then, shows_outside}
use Rattle.chk_record_reader.specs.Gone.{IsGoneIn}
use Rattle.chk_record_reader.proofs.Causes.{late_gone_in}
use Rattle.chk_demux.proofs.NewHeads.{then_put, stream_put}
use Rattle.chk_demux.proofs.splitting.split_streams.Goals as goal

pub loop-end-init : goal.loop-end-init
loop-end-init g c = record {
  so_far = λ stamped v cs records free runs rise rises.
      leads_none (g.S.Site.told c.args.site.now)
      (λ h k. record {
        legal = k.legal;
        may_act = k.may_act;
        alive = λ running.
            (k.alive running, nothing_windows v c.args.files.now c.new-reader.result c.new-reader.ensures, refl);
      });
  raw_so_far = λ v cs ws records bytes within settled apart rise rises.
      leads_none (g.S.Site.told c.args.site.now)
      (λ h z. ((z, nothing_windows v c.args.files.now c.new-reader.result c.new-reader.ensures), inl refl));
  writer = c.requires.writer;
  due = λ rises. inl refl;
  works = works_none (ReadsOrWrites (segment_name (codes "demux") (book_view c.args.book.now).next)) tt (g.S.Site.told c.args.site.now);
  count = refl;
}

pub loop-end-preserved : goal.loop-end-preserved
loop-end-preserved g c =
    let l = c.loop-end in
    let types = texts c.args.types.now in
    let b = book_view c.args.book.now in
    let heads = c.args.heads.now in
    let files = c.args.files.now in
    let ends = (book_view c.args.archive.now).ends in
    let i = l.end-index in
    let e = end_view c.end-item.result in
    let high = c.loop-end-test.true in
    let size = length-map c.args.archive.now.ends end_view in
    let items = ap length c.as_slice-end-items.ensures in
    let low : i < length ends = omega (arith, high, size, items) in
    let is : slice_index_or ends i e ≡ e =
    ap (λ xs. slice_index_or (map end_view xs) i e) (sym c.as_slice-end-items.ensures)
    ∙ (seen_at end_view c.as_slice-end-items.result.now i c.end-item.result ∙ ap end_view (sym c.end-item.is)) in
    let w = segment_name (codes "demux") b.next in
    record {
      so_far = λ stamped v cs records free runs rise rises.
          let here : RunsSo cs e (split_from b e) =
          subst (λ x. RunsSo cs x (split_from b x)) is (each_index (λ x. RunsSo cs x (split_from b x)) ends runs i low e) in
          let so = all_chunks types b heads cs (take i ends) in
          let P : Sight → Type 0 = λ u. IsOutput v so l.output u × AreWindows v files l.reader in
          let X : Type 0 = l.left ≡ all_left types b cs (take i ends) in
          let R : ℕ → Sight → Type 0 = λ n u. IsOutput v (so ++ stream_chunks types b heads cs e) c.split_stream.new.output u
          × AreWindows v files c.split_stream.new.reader × (n ≡ stream_left types b cs e) in
          let A = AtJob stamped (IsOutput v [] c.args.output.now) in
          let first = leads_as {S = As stamped job} (λ h k. k)
          (λ h k. at_as stamped (λ u. IsOutput v so l.output u × AreWindows v files l.reader × X) (λ u. P u × X) (λ u p. ((p.0, p.1), p.2)) h k)
          (l.invariant.so_far stamped v cs records free runs rise rises) in
          let second = c.split_stream.ensures.told stamped v cs so records free here (c.block_of-block.ensures.holds rise)
          (c.split_from-from.ensures rises) in
          let w = segment_name (codes "demux") b.next in
          leads_as {S = As stamped job} (λ h k. k)
          (λ h k. at_as stamped (λ u. R c.in_ok-more.more u × X)
          (λ u. IsOutput v (all_chunks types b heads cs (take (i + 1) ends)) c.split_stream.new.output u
          × AreWindows v files c.split_stream.new.reader × (c.in_ok-left.left ≡ all_left types b cs (take (i + 1) ends)))
          (λ u p. (
            subst (λ x. IsOutput v x c.split_stream.new.output u) (sym (chunks_more types b heads cs ends i low e is)) p.0.0,
            p.0.1,
            c.in_ok-left.ensures.sum ∙ (ap₂ (λ m n. m + n) p.1 p.0.2 ∙ sym (left_more types b heads cs ends i low e is)),
          )) h k)
          (stream_done stamped w A P P X R c.split_stream.result first second c.split_stream.ensures.works
          c.in_ok-more.more c.in_ok-more.was);
      raw_so_far = λ v cs ws records bytes within settled apart rise rises.
          let a = book_view c.args.archive.now in
          let old = c.args.output.now.entries in
          let new = c.split_stream.new.output.entries in
          let from = c.split_from-from.result in
          leads_then (l.invariant.raw_so_far v cs ws records bytes within settled apart rise rises)
          (leads_as (λ h z. z)
          (λ h z. (
            z.0.0,
            then_put old l.output.entries new z.1
                (stream_due types a b cs e from l.output.entries new (i, low, is)
                (c.split_from-from.ensures rises) z.0.1),
          ))
          (beside (PutsIf (HasDue types a b cs) old l.output.entries)
          (on_done v files heads cs records ws within settled
          (PutsIf (StreamHasRecord types cs e from) l.output.entries new)
          c.split_stream.new.reader c.split_stream.result c.in_ok-more.more c.in_ok-more.was
          (c.split_stream.ensures.raw v cs ws records bytes within settled apart
          (c.block_of-block.ensures.holds rise)))));
      writer = c.in_ok-more.ensures.writer;
      due = λ rises.
          then_put c.args.output.now.entries l.output.entries c.split_stream.new.output.entries
          (l.invariant.due rises)
          (stream_put (book_view c.args.archive.now) b heads e c.split_from-from.result
          l.output.entries c.split_stream.new.output.entries (i, low, is)
          (c.split_from-from.ensures rises) c.in_ok-more.ensures.due);
      works = works_then (ReadsOrWrites w) (Ok tt) (Ok tt) l.invariant.works
          (works_value ℕ (Unit {0}) (ReadsOrWrites w) c.in_ok-more.more tt
          (subst (λ r. Adds (g.S.Site.told l.site) (g.S.Site.told c.split_stream.new.site) (Worked (ReadsOrWrites w) r))
          c.in_ok-more.was c.split_stream.ensures.works));
      count = c.in_ok-more.ensures.cause ∙ l.invariant.count;
    }

pub returns-in_err-more-clause-told : goal.returns-in_err-more-clause-told
returns-in_err-more-clause-told g c stamped v cs records free runs rise rises =
    let p = err_from_is_err_and c.from_residual.result c.from_residual.ensures.1 in
    let l = c.loop-end in
    let types = texts c.args.types.now in
    let b = book_view c.args.book.now in
    let heads = c.args.heads.now in
    let files = c.args.files.now in
    let ends = (book_view c.args.archive.now).ends in
    let i = l.end-index in
    let e = end_view c.end-item.result in
    let high = c.loop-end-test.true in
    let size = length-map c.args.archive.now.ends end_view in
    let items = ap length c.as_slice-end-items.ensures in
    let low : i < length ends = omega (arith, high, size, items) in
    let is : slice_index_or ends i e ≡ e =
    ap (λ xs. slice_index_or (map end_view xs) i e) (sym c.as_slice-end-items.ensures)
    ∙ (seen_at end_view c.as_slice-end-items.result.now i c.end-item.result ∙ ap end_view (sym c.end-item.is)) in
    let here : RunsSo cs e (split_from b e) =
    subst (λ x. RunsSo cs x (split_from b x)) is (each_index (λ x. RunsSo cs x (split_from b x)) ends runs i low e) in
    let so = all_chunks types b heads cs (take i ends) in
    let P : Sight → Type 0 = λ u. IsOutput v so l.output u × AreWindows v files l.reader in
    let X : Type 0 = l.left ≡ all_left types b cs (take i ends) in
    let R : ℕ → Sight → Type 0 = λ n u. IsOutput v (so ++ stream_chunks types b heads cs e) c.split_stream.new.output u
    × AreWindows v files c.split_stream.new.reader × (n ≡ stream_left types b cs e) in
    let A = AtJob stamped (IsOutput v [] c.args.output.now) in
    let first = leads_as {S = As stamped job} (λ h k. k)
    (λ h k. at_as stamped (λ u. IsOutput v so l.output u × AreWindows v files l.reader × X) (λ u. P u × X) (λ u p. ((p.0, p.1), p.2)) h k)
    (l.invariant.so_far stamped v cs records free runs rise rises) in
    let second = c.split_stream.ensures.told stamped v cs so records free here (c.block_of-block.ensures.holds rise)
    (c.split_from-from.ensures rises) in
    let w = segment_name (codes "demux") b.next in
    rw (p.1, p.2)
    (stream_fails stamped w A P P X R c.split_stream.result first second c.split_stream.ensures.works {U = ℕ}
    (λ left u. IsOutput v (all_chunks types b heads cs ends) c.split_stream.new.output u
    × (left ≡ all_left types b cs ends))
    c.in_err-more.field-0.0 c.in_err-more.was)

pub returns-in_err-more-clause-works : goal.returns-in_err-more-clause-works
returns-in_err-more-clause-works g c =
    let p = err_from_is_err_and c.from_residual.result c.from_residual.ensures.1 in
    let w = segment_name (codes "demux") (book_view c.args.book.now).next in
    rw (p.1, p.2)
    (works_result ℕ (ReadsOrWrites w) c.split_stream.result c.in_err-more.field-0.0 c.in_err-more.was
    (works_then (ReadsOrWrites w) (Ok tt) c.split_stream.result c.loop-end.invariant.works c.split_stream.ensures.works))

pub returns-in_err-left-clause-told : goal.returns-in_err-left-clause-told
returns-in_err-left-clause-told g c stamped v cs records free runs rise rises =
    let p = err_from_is_err_and c.from_residual-in_err-left.result c.from_residual-in_err-left.ensures.1 in
    let l = c.loop-end in
    let types = texts c.args.types.now in
    let b = book_view c.args.book.now in
    let heads = c.args.heads.now in
    let files = c.args.files.now in
    let ends = (book_view c.args.archive.now).ends in
    let i = l.end-index in
    let e = end_view c.end-item.result in
    let high = c.loop-end-test.true in
    let size = length-map c.args.archive.now.ends end_view in
    let items = ap length c.as_slice-end-items.ensures in
    let low : i < length ends = omega (arith, high, size, items) in
    let is : slice_index_or ends i e ≡ e =
    ap (λ xs. slice_index_or (map end_view xs) i e) (sym c.as_slice-end-items.ensures)
    ∙ (seen_at end_view c.as_slice-end-items.result.now i c.end-item.result ∙ ap end_view (sym c.end-item.is)) in
    let here : RunsSo cs e (split_from b e) =
    subst (λ x. RunsSo cs x (split_from b x)) is (each_index (λ x. RunsSo cs x (split_from b x)) ends runs i low e) in
    let so = all_chunks types b heads cs (take i ends) in
    let P : Sight → Type 0 = λ u. IsOutput v so l.output u × AreWindows v files l.reader in
    let X : Type 0 = l.left ≡ all_left types b cs (take i ends) in
    let R : ℕ → Sight → Type 0 = λ n u. IsOutput v (so ++ stream_chunks types b heads cs e) c.split_stream.new.output u
    × AreWindows v files c.split_stream.new.reader × (n ≡ stream_left types b cs e) in
    let A = AtJob stamped (IsOutput v [] c.args.output.now) in
    let first = leads_as {S = As stamped job} (λ h k. k)
    (λ h k. at_as stamped (λ u. IsOutput v so l.output u × AreWindows v files l.reader × X) (λ u. P u × X) (λ u p. ((p.0, p.1), p.2)) h k)
    (l.invariant.so_far stamped v cs records free runs rise rises) in
    let second = c.split_stream.ensures.told stamped v cs so records free here (c.block_of-block.ensures.holds rise)
    (c.split_from-from.ensures rises) in
    let w = segment_name (codes "demux") b.next in
    rw (p.1, p.2, c.in_err-left.ensures.only)
    (no_more {U = ℕ} stamped A (λ u. R c.in_ok-more.more u × X)
    (λ left u. IsOutput v (all_chunks types b heads cs ends) c.split_stream.new.output u
    × (left ≡ all_left types b cs ends))
    (stream_done stamped w A P P X R c.split_stream.result first second c.split_stream.ensures.works
    c.in_ok-more.more c.in_ok-more.was))

pub returns-in_err-left-clause-works : goal.returns-in_err-left-clause-works
returns-in_err-left-clause-works g c =
    let p = err_from_is_err_and c.from_residual-in_err-left.result c.from_residual-in_err-left.ensures.1 in
    let w = segment_name (codes "demux") (book_view c.args.book.now).next in
    rw (p.1, p.2, c.in_err-left.ensures.only)
    (works_end ℕ ℕ (ReadsOrWrites w) c.in_ok-more.more
    (subst (λ r. Adds (g.S.Site.told c.args.site.now) (g.S.Site.told c.split_stream.new.site) (Worked (ReadsOrWrites w) r))
    c.in_ok-more.was
    (works_then (ReadsOrWrites w) (Ok tt) c.split_stream.result c.loop-end.invariant.works c.split_stream.ensures.works)))

pub returns-clause-told : goal.returns-clause-told
returns-clause-told g c stamped v cs records free runs rise rises =
    let l = c.loop-end in
    let types = texts c.args.types.now in
    let b = book_view c.args.book.now in
    let heads = c.args.heads.now in
    let ends = (book_view c.args.archive.now).ends in
    let high = c.loop-end-test.false in
    let size = length-map c.args.archive.now.ends end_view in
    let items = ap length c.as_slice-end-items.ensures in
    let all : take l.end-index ends ≡ ends = take_all l.end-index ends (omega (arith, high, size, items)) in
    leads_as (λ h k. k)
    (λ h k. record {
      legal = k.legal;
      may_act = k.may_act;
      alive = λ running.
          let p = k.alive running in (
            subst (λ x. IsOutput v (all_chunks types b heads cs x) l.output (sight h)) all p.0,
            p.2 ∙ ap (all_left types b cs) all,
          );
    })
    (l.invariant.so_far stamped v cs records free runs rise rises)

pub returns-in_err-more-clause-raw : goal.returns-in_err-more-clause-raw
returns-in_err-more-clause-raw g c v cs ws records bytes within settled apart rise rises =
    let p = err_from_is_err_and c.from_residual.result c.from_residual.ensures.1 in
    let l = c.loop-end in
    let types = texts c.args.types.now in
    let b = book_view c.args.book.now in
    let new = c.split_stream.new.output.entries in
    rw (p.1, p.2)
    (none_damaged v c.args.files.now c.args.heads.now cs records ws within settled ℕ
    (PutsIf (StreamHasRecord types cs (end_view c.end-item.result) c.split_from-from.result)
    l.output.entries new)
    (PutsIf (HasDue types (book_view c.args.archive.now) b cs) c.args.output.now.entries new)
    c.split_stream.new.reader c.split_stream.result c.in_err-more.field-0.0 c.in_err-more.was
    (leads_then
    (leads_as (λ h z. z) (λ h z. z.0)
    (l.invariant.raw_so_far v cs ws records bytes within settled apart rise rises))
    (c.split_stream.ensures.raw v cs ws records bytes within settled apart
    (c.block_of-block.ensures.holds rise))))

pub returns-in_err-left-clause-raw : goal.returns-in_err-left-clause-raw
returns-in_err-left-clause-raw g c v cs ws records bytes within settled apart rise rises =
    let p = err_from_is_err_and c.from_residual-in_err-left.result c.from_residual-in_err-left.ensures.1 in
    let l = c.loop-end in
    rw (p.1, p.2, c.in_err-left.ensures.only)
    (leads_as (λ h z. z) (λ h z. tt)
    (leads_then
    (leads_as (λ h z. z) (λ h z. z.0)
    (l.invariant.raw_so_far v cs ws records bytes within settled apart rise rises))
    (c.split_stream.ensures.raw v cs ws records bytes within settled apart
    (c.block_of-block.ensures.holds rise))))

pub returns-clause-raw : goal.returns-clause-raw
returns-clause-raw g c v cs ws records bytes within settled apart rise rises =
    leads_as (λ h z. z) (λ h z. z.1)
    (c.loop-end.invariant.raw_so_far v cs ws records bytes within settled apart rise rises)

pub returns-in_err-more-clause-shown : goal.returns-in_err-more-clause-shown
returns-in_err-more-clause-shown g c =
    let p = err_from_is_err_and c.from_residual.result c.from_residual.ensures.1 in
    let files = c.args.files.now in
    let heads = c.args.heads.now in
    rw (p.1, p.2)
    (shows_then ℕ ℕ (IsGoneIn files heads) (late_gone_in files heads) c.in_err-more.field-0.0 c.loop-end.invariant.works
    c.in_err-more.ensures.shown)

pub returns-in_err-left-clause-shown : goal.returns-in_err-left-clause-shown
returns-in_err-left-clause-shown g c =
    let p = err_from_is_err_and c.from_residual-in_err-left.result c.from_residual-in_err-left.ensures.1 in
    let w = segment_name (codes "demux") (book_view c.args.book.now).next in
    rw (p.1, p.2, c.in_err-left.ensures.only)
    (shows_outside ℕ (IsGoneIn c.args.files.now c.args.heads.now) no_memory
    (works_then (ReadsOrWrites w) (Ok tt) c.split_stream.result c.loop-end.invariant.works c.split_stream.ensures.works))

pub returns-clause-shown : goal.returns-clause-shown
returns-clause-shown g c = adds_as _ c.loop-end.invariant.works (λ added history x. tt)

pub returns-in_err-more-clause-only : goal.returns-in_err-more-clause-only
returns-in_err-more-clause-only g c =
    let p = err_from_is_err_and c.from_residual.result c.from_residual.ensures.1 in
    rw (p.1, p.2) c.in_err-more.ensures.only

pub returns-in_err-left-clause-only : goal.returns-in_err-left-clause-only
returns-in_err-left-clause-only g c =
    let p = err_from_is_err_and c.from_residual-in_err-left.result
    c.from_residual-in_err-left.ensures.1 in
    rw (p.1, p.2, c.in_err-left.ensures.only) tt

pub returns-in_err-more-clause-due : goal.returns-in_err-more-clause-due
returns-in_err-more-clause-due g c =
    let p = err_from_is_err_and c.from_residual.result c.from_residual.ensures.1 in
    rw p.1 (λ rises. tt)

pub returns-in_err-left-clause-due : goal.returns-in_err-left-clause-due
returns-in_err-left-clause-due g c =
    let p = err_from_is_err_and c.from_residual-in_err-left.result
    c.from_residual-in_err-left.ensures.1 in
    rw p.1 (λ rises. tt)

pub returns-clause-due : goal.returns-clause-due
returns-clause-due g c = c.loop-end.invariant.due
