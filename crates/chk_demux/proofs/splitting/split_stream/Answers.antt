use Rattle.std.proofs.Common.{◌≡◌, ◌≤◌, ◌∙◌, ◌+◌, ◌-◌, ◌++◌, ap, sym, subst, refl, inl, arith, length, Ok, ℕ}
use Rattle.std.specs.Prelude.{codes}
use Rattle.std.proofs.lemmas.Result.{err_from_is_err_and}
use Rattle.chk_site.specs.Site.{Adds}
use Rattle.chk_site.proofs.Leads.{leads_none, leads_then, leads_as}
use Rattle.chk_world.specs.Sight.{AtJob, sight}
use Rattle.chk_world.specs.JobSteps.{ReadsOrWrites}
use Rattle.chk_bytes.specs.Words.{joined}
use Rattle.chk_book.specs.Books.{book_view}
use Rattle.chk_book.specs.Views.{end_view}
use Rattle.chk_book.specs.Folders.{segment_name}
use Rattle.chk_archive_parts.specs.Fetching.{AreWindows}
use Rattle.chk_demux_split.specs.Splitting.{fresh, pieces_of}
use Rattle.chk_demux.specs.Working.{Worked}
use Rattle.chk_demux.specs.Writes.{IsOutput}
use Rattle.chk_demux.specs.Giving.{chunks_of_fed}
use Rattle.chk_demux.specs.Splitting.{texts, past_in, split_from, is_stamped, RunsSo, SplitSoFar, stream_chunks, stream_left}
use Rattle.chk_demux.specs.Shown.{PutsIf}
use Rattle.chk_demux.specs.Due.{IsFed, StreamHasRecord}
use Rattle.chk_demux.proofs.Due.{fed_none, fed_all}
use Rattle.chk_demux.proofs.Quiet.{quiet}
use Rattle.chk_demux.proofs.RawReads.{on_refused, on_done}
use Rattle.chk_demux.proofs.Ends.{at_as, so_fails, so_done}
use Rattle.chk_demux.proofs.Streams.{stream_begun, stream_ended}
use Rattle.chk_archive_parts.proofs.Works.{works_result}
use Rattle.chk_book.proofs.Works.{works_none, works_then}
use Rattle.chk_site.proofs.Runs.{adds_as, adds_none}
use Rattle.chk_record_index.proofs.Causes.{shows_then}
use Rattle.chk_record_reader.specs.Gone.{IsGoneIn}
use Rattle.chk_record_reader.proofs.Causes.{late_gone_in}
use Rattle.chk_demux.proofs.NewHeads.{then_put, head_put}
use Rattle.chk_demux.proofs.splitting.split_stream.Goals as goal

pub returns-then-from-end-clause-told : goal.returns-then-from-end-clause-told
returns-then-from-end-clause-told g c stamped v cs outs records free runs holds goes =
    let e = end_view c.args.end.now in
    let types = texts c.args.types.now in
    let b = book_view c.args.book.now in
    let heads = c.args.heads.now in
    let files = c.args.files.now in
    let o = c.args.output.now in
    let r = c.args.reader.now in
    let low : e.end ≤ split_from b e = subst (λ n. e.end ≤ n) goes c.if-from-end.true in
    leads_none (g.S.Site.told c.args.site.now)
    (λ h k. at_as stamped (λ u. IsOutput v outs o u × AreWindows v files r)
    (λ u. IsOutput v (outs ++ stream_chunks types b heads cs e) o u × AreWindows v files r
    × (0 ≡ stream_left types b cs e))
    (λ u p. quiet types b heads cs outs e runs low v files o r u p) h k)

pub returns-then-from-end-clause-raw : goal.returns-then-from-end-clause-raw
returns-then-from-end-clause-raw g c v cs ws records bytes within settled apart holds =
    leads_none (g.S.Site.told c.args.site.now) (λ h z. (z, inl refl))

pub returns-then-from-end-clause-due : goal.returns-then-from-end-clause-due
returns-then-from-end-clause-due g c = inl refl

pub returns-then-from-end-clause-shown : goal.returns-then-from-end-clause-shown
returns-then-from-end-clause-shown g c = adds_none _ _ (λ history. tt)

pub returns-then-from-end-clause-works : goal.returns-then-from-end-clause-works
returns-then-from-end-clause-works g c =
    works_none (ReadsOrWrites (segment_name (codes "demux") (book_view c.args.book.now).next)) 0
    (g.S.Site.told c.args.site.now)

pub loop-index-init : goal.loop-index-init
loop-index-init g c = record {
  so_far = λ stamped v cs outs b records free runs holds is.
      leads_none (g.S.Site.told c.args.site.now)
      (λ h k. at_as stamped (λ u. IsOutput v outs c.args.output.now u × AreWindows v c.args.files.now c.args.reader.now)
      (SplitSoFar v c.args.files.now c.args.heads.now cs outs (end_view c.args.end.now) c.args.from c.args.block.first b c.args.output.now
      c.args.reader.now c.new-splitter.result)
      (λ u p. stream_begun v c.args.files.now c.args.heads.now cs outs (end_view c.args.end.now) c.args.from b
      c.args.output.now c.args.reader.now c.new-splitter.result u c.args.block.first c.args.block.end c.requires.block.0
      c.requires.block.1 records runs holds is p) h k);
  raw_so_far = λ v cs ws b records bytes within settled apart holds is.
      leads_none (g.S.Site.told c.args.site.now)
      (λ h z. (
        z,
        fed_none v c.args.files.now c.args.heads.now cs (end_view c.args.end.now)
            c.args.from records bytes b c.args.block.first c.args.block.end c.requires.block.0
            c.requires.block.1 holds c.new-splitter.result is c.args.output.now.entries,
      ));
  writer = c.requires.writer;
  due = inl refl;
  works = works_none (ReadsOrWrites (segment_name (codes "demux") (book_view c.args.book.now).next)) tt (g.S.Site.told c.args.site.now);
  count = refl;
}

pub loop-index-preserved : goal.loop-index-preserved
loop-index-preserved g c =
    let l = c.loop-index in
    let next = (book_view c.args.book.now).next in
    let w = segment_name (codes "demux") next in
    let e = end_view c.args.end.now in
    let from = c.args.from in
    record {
      so_far = λ stamped v cs outs b records free runs holds is.
          leads_then (l.invariant.so_far stamped v cs outs b records free runs holds is)
          (so_done {T = Unit {0}} stamped
          (AtJob stamped (SplitSoFar v c.args.files.now c.args.heads.now cs outs e from l.index b l.output l.reader l.splitter))
          (λ x u. SplitSoFar v c.args.files.now c.args.heads.now cs outs e from (l.index + 1) b c.split_record.new.output
          c.split_record.new.reader c.split_record.new.splitter u)
          c.split_record.result c.in_ok-split_record.field-0 c.in_ok-split_record.was
          (c.split_record.ensures.told stamped v cs outs b records free runs));
      raw_so_far = λ v cs ws b records bytes within settled apart holds is.
          leads_then (l.invariant.raw_so_far v cs ws b records bytes within settled apart holds is)
          (on_done v c.args.files.now c.args.heads.now cs records ws within settled
          (IsFed cs e from (l.index + 1) b c.split_record.new.splitter c.args.output.now.entries
          c.split_record.new.output.entries) c.split_record.new.reader
          c.split_record.result c.in_ok-split_record.field-0 c.in_ok-split_record.was
          (c.split_record.ensures.raw v cs ws b c.args.output.now.entries records bytes within settled apart));
      writer = c.in_ok-split_record.ensures.writer;
      due = then_put c.args.output.now.entries l.output.entries c.split_record.new.output.entries
          l.invariant.due
          (head_put c.args.heads.now e from l.index l.output.entries
          c.split_record.new.output.entries
          (let high = c.loop-index-test.true in
          let most = c.requires.block.1 in
          omega (arith, high, most))
          c.in_ok-split_record.ensures.due);
      works = works_then (ReadsOrWrites w) (Ok tt) (Ok tt) l.invariant.works
          (subst (λ r. Adds (g.S.Site.told l.site) (g.S.Site.told c.split_record.new.site) (Worked (ReadsOrWrites w) r))
          c.in_ok-split_record.was c.split_record.ensures.works);
      count = c.in_ok-split_record.ensures.cause ∙ l.invariant.count;
    }

pub returns-in_err-split_record-clause-told : goal.returns-in_err-split_record-clause-told
returns-in_err-split_record-clause-told g c stamped v cs outs records free runs holds goes =
    let p = err_from_is_err_and c.from_residual.result c.from_residual.ensures.1 in
    let l = c.loop-index in
    let e = end_view c.args.end.now in
    let from = c.args.from in
    let types = texts c.args.types.now in
    let b = is_stamped types e.stream.kind in
    let here : RunsSo cs e from = subst (RunsSo cs e) (sym goes) runs in
    let is : c.new-splitter.result ≡ fresh b =
    c.new-splitter.ensures ∙ ap fresh (c.is_stamped.ensures ∙ ap (is_stamped types) c.as_str.ensures.text) in
    rw (p.1, p.2)
    (leads_then (l.invariant.so_far stamped v cs outs b records free here holds is)
    (so_fails {T = Unit {0}} {U = ℕ} stamped
    (AtJob stamped (SplitSoFar v c.args.files.now c.args.heads.now cs outs e from l.index b l.output l.reader l.splitter))
    (λ x u. SplitSoFar v c.args.files.now c.args.heads.now cs outs e from (l.index + 1) b c.split_record.new.output
    c.split_record.new.reader c.split_record.new.splitter u)
    (λ left u. IsOutput v (outs ++ stream_chunks types (book_view c.args.book.now) c.args.heads.now cs e) c.split_record.new.output u
    × AreWindows v c.args.files.now c.split_record.new.reader × (left ≡ stream_left types (book_view c.args.book.now) cs e))
    c.split_record.result c.in_err-split_record.field-0.0 c.in_err-split_record.was
    (c.split_record.ensures.told stamped v cs outs b records free here)))

pub returns-in_err-split_record-clause-works : goal.returns-in_err-split_record-clause-works
returns-in_err-split_record-clause-works g c =
    let p = err_from_is_err_and c.from_residual.result c.from_residual.ensures.1 in
    let w = segment_name (codes "demux") (book_view c.args.book.now).next in
    rw (p.1, p.2)
    (works_result ℕ (ReadsOrWrites w) c.split_record.result c.in_err-split_record.field-0.0 c.in_err-split_record.was
    (works_then (ReadsOrWrites w) (Ok tt) c.split_record.result c.loop-index.invariant.works c.split_record.ensures.works))

pub returns-clause-told : goal.returns-clause-told
returns-clause-told g c stamped v cs outs records free runs holds goes =
    let l = c.loop-index in
    let e = end_view c.args.end.now in
    let from = c.args.from in
    let types = texts c.args.types.now in
    let heads = c.args.heads.now in
    let files = c.args.files.now in
    let b = is_stamped types e.stream.kind in
    let here : RunsSo cs e from = subst (RunsSo cs e) (sym goes) runs in
    let is : c.new-splitter.result ≡ fresh b =
    c.new-splitter.ensures ∙ ap fresh (c.is_stamped.ensures ∙ ap (is_stamped types) c.as_str.ensures.text) in
    let first = c.args.block.first in
    let past = c.args.block.end in
    let high = c.loop-index-test.false in
    let low = l.auto.index-end in
    let all : l.index ≡ past = omega (arith, high, low) in
    leads_as (λ h k. k)
    (λ h k. record {
      legal = k.legal;
      may_act = k.may_act;
      alive = λ running.
          let p : SplitSoFar v files heads cs outs e from past b l.output l.reader l.splitter (sight h) =
          subst (λ i. SplitSoFar v files heads cs outs e from i b l.output l.reader l.splitter (sight h)) all (k.alive running) in
          let q = stream_ended v files heads cs outs e from b l.output l.reader l.splitter (sight h) first past c.requires.block.0
          c.requires.block.1 records here holds p in
          subst (λ n. IsOutput v (outs ++ chunks_of_fed heads e n b (past_in n e.stream cs)) l.output (sight h)
          × AreWindows v files l.reader
          × (c.pending.result ≡ length (past_in n e.stream cs) - length (joined (pieces_of b (past_in n e.stream cs)))))
          goes (q.0, q.1, c.pending.ensures ∙ q.2);
    })
    (l.invariant.so_far stamped v cs outs b records free here holds is)

pub returns-in_err-split_record-clause-raw : goal.returns-in_err-split_record-clause-raw
returns-in_err-split_record-clause-raw g c v cs ws records bytes within settled apart holds =
    let p = err_from_is_err_and c.from_residual.result c.from_residual.ensures.1 in
    let l = c.loop-index in
    let e = end_view c.args.end.now in
    let from = c.args.from in
    let types = texts c.args.types.now in
    let b = is_stamped types e.stream.kind in
    let old = c.args.output.now.entries in
    let new = c.split_record.new.output.entries in
    let is : c.new-splitter.result ≡ fresh b =
    c.new-splitter.ensures ∙ ap fresh (c.is_stamped.ensures ∙ ap (is_stamped types) c.as_str.ensures.text) in
    rw (p.1, p.2)
    (leads_then (l.invariant.raw_so_far v cs ws b records bytes within settled apart holds is)
    (on_refused v c.args.files.now c.args.heads.now cs records ws within settled ℕ
    (IsFed cs e from (l.index + 1) b c.split_record.new.splitter old new)
    (PutsIf (StreamHasRecord types cs e from) old new) c.split_record.new.reader
    c.split_record.new.reader c.split_record.result c.in_err-split_record.field-0.0 c.in_err-split_record.was
    (c.split_record.ensures.raw v cs ws b old records bytes within settled apart)))

pub returns-clause-raw : goal.returns-clause-raw
returns-clause-raw g c v cs ws records bytes within settled apart holds =
    let l = c.loop-index in
    let e = end_view c.args.end.now in
    let types = texts c.args.types.now in
    let b = is_stamped types e.stream.kind in
    let is : c.new-splitter.result ≡ fresh b =
    c.new-splitter.ensures ∙ ap fresh (c.is_stamped.ensures ∙ ap (is_stamped types) c.as_str.ensures.text) in
    let past = c.args.block.end in
    let high = c.loop-index-test.false in
    let low = l.auto.index-end in
    let all : l.index ≡ past = omega (arith, high, low) in
    leads_as (λ h z. z)
    (λ h z. (
      z.0,
      fed_all v c.args.files.now c.args.heads.now cs e c.args.from records bytes b
          c.args.block.first past c.requires.block.0 c.requires.block.1 holds l.splitter l.index
          c.args.output.now.entries l.output.entries all z.1,
    ))
    (l.invariant.raw_so_far v cs ws b records bytes within settled apart holds is)

pub returns-in_err-split_record-clause-shown : goal.returns-in_err-split_record-clause-shown
returns-in_err-split_record-clause-shown g c =
    let p = err_from_is_err_and c.from_residual.result c.from_residual.ensures.1 in
    let files = c.args.files.now in
    let heads = c.args.heads.now in
    rw (p.1, p.2)
    (shows_then ℕ (Unit {0}) (IsGoneIn files heads) (late_gone_in files heads) c.in_err-split_record.field-0.0 c.loop-index.invariant.works
    c.in_err-split_record.ensures.shown)

pub returns-clause-shown : goal.returns-clause-shown
returns-clause-shown g c = adds_as _ c.loop-index.invariant.works (λ added history x. tt)

pub returns-in_err-split_record-clause-only : goal.returns-in_err-split_record-clause-only
returns-in_err-split_record-clause-only g c =
    let p = err_from_is_err_and c.from_residual.result c.from_residual.ensures.1 in
    rw (p.1, p.2) c.in_err-split_record.ensures.only

pub returns-in_err-split_record-clause-due : goal.returns-in_err-split_record-clause-due
returns-in_err-split_record-clause-due g c =
    let p = err_from_is_err_and c.from_residual.result c.from_residual.ensures.1 in
    rw p.1 tt

pub returns-clause-due : goal.returns-clause-due
returns-clause-due g c = c.loop-index.invariant.due
