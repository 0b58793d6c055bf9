use Rattle.std.proofs.Common.{◌≡◌, ◌∙◌, ◌+◌, ◌-◌, ◌++◌, drop, ap, ap₂, sym, subst, refl, inl, inr, true, false}
use Rattle.std.specs.Prelude.{codes, slice_index_or, OnOk}
use Rattle.std.proofs.lemmas.Result.{err_from_is_err_and}
use Rattle.chk_site.proofs.Leads.{leads_none, leads_then}
use Rattle.chk_record_index.specs.Heads.{Head}
use Rattle.chk_archive_plan.specs.Passes.{head_in}
use Rattle.chk_book.specs.Books.{book_view}
use Rattle.chk_book.specs.Views.{end_view}
use Rattle.chk_book.specs.Folders.{segment_name}
use Rattle.chk_world.specs.JobSteps.{ReadsFile, WritesTo, ReadsOrWrites}
use Rattle.chk_chunk.specs.Keys.{chunk_begin}
use Rattle.chk_record_reader.specs.ReadBack.{value_held}
use Rattle.chk_archive_parts.specs.Cuts.{no_chunk}
use Rattle.chk_demux.specs.Due.{IsFed}
use Rattle.chk_demux.specs.Giving.{IsSplitting}
use Rattle.chk_demux.specs.Splitting.{ends_past, SplitSoFar}
use Rattle.chk_demux.proofs.RawReads.{fetch_refused, fetched_on, written_on}
use Rattle.chk_demux.proofs.Due.{fed_passed, fed_more}
use Rattle.chk_demux.proofs.Places.{record_at}
use Rattle.chk_demux.proofs.Ends.{at_as}
use Rattle.chk_demux.proofs.Fetches.{P, passed, not_fetched, record_split}
use Rattle.chk_archive_parts.proofs.Works.{works_result, works_as}
use Rattle.chk_book.proofs.Works.{works_none, works_then, own_of, worked}
use Rattle.chk_site.proofs.Runs.{adds_none}
use Rattle.chk_record_index.proofs.Causes.{shows_first}
use Rattle.chk_record_reader.specs.Gone.{IsGoneIn}
use Rattle.chk_record_reader.proofs.Causes.{shows_written as shows_opened}
use Rattle.chk_demux.proofs.Shown.{writes_read}
use Rattle.chk_demux.proofs.NewHeads.{past_put}
use Rattle.chk_demux.proofs.splitting.split_record.Goals as goal

pub returns-then-not-ends_past-clause-told : goal.returns-then-not-ends_past-clause-told
returns-then-not-ends_past-clause-told g c stamped v cs outs b records free runs =
    let heads = c.args.heads.now in
    let e = end_view c.args.end.now in
    let o = c.args.output.now in
    let misses : ends_past e c.args.from (head_in heads c.args.index) ≡ false =
    sym (ap (ends_past e c.args.from) c.get-head.ensures.head) ∙ (sym c.ends_past.ensures ∙ c.if-not-ends_past.true) in
    leads_none (g.S.Site.told c.args.site.now)
    (λ h k. at_as stamped
    (P v c.args.files.now heads cs outs e c.args.from records runs c.args.index c.requires.index o c.args.reader.now c.args.splitter.now b)
    (λ u. SplitSoFar v c.args.files.now heads cs outs e c.args.from (c.args.index + 1) b o c.args.reader.now c.args.splitter.now u)
    (passed v c.args.files.now heads cs outs e c.args.from records runs c.args.index c.requires.index o c.args.reader.now
    c.args.splitter.now b misses) h k)

pub returns-then-not-ends_past-clause-works : goal.returns-then-not-ends_past-clause-works
returns-then-not-ends_past-clause-works g c =
    works_none (ReadsOrWrites (segment_name (codes "demux") (book_view c.args.book.now).next)) tt (g.S.Site.told c.args.site.now)

pub returns-in_err-fetch-clause-told : goal.returns-in_err-fetch-clause-told
returns-in_err-fetch-clause-told g c stamped v cs outs b records free runs =
    let p = err_from_is_err_and c.from_residual.result c.from_residual.ensures.1 in
    let heads = c.args.heads.now in
    let e = end_view c.args.end.now in
    let o = c.args.output.now in
    rw (p.1, p.2)
    (not_fetched v c.args.files.now heads cs outs e c.args.from records runs c.args.index c.requires.index o c.args.reader.now
    c.args.splitter.now b stamped c.fetch.new.reader c.fetch.result c.fetch.ensures.raw
    c.fetch.ensures.own {U = Unit {0}}
    (λ w u. SplitSoFar v c.args.files.now heads cs outs e c.args.from (c.args.index + 1) b o c.fetch.new.reader c.args.splitter.now u)
    c.in_err-fetch.field-0.0 c.in_err-fetch.was c.in_err-fetch.ensures.only)

pub returns-in_err-fetch-clause-works : goal.returns-in_err-fetch-clause-works
returns-in_err-fetch-clause-works g c =
    let p = err_from_is_err_and c.from_residual.result c.from_residual.ensures.1 in
    let w = segment_name (codes "demux") (book_view c.args.book.now).next in
    rw (p.1, p.2)
    (works_result (Unit {0}) (ReadsOrWrites w) c.fetch.result c.in_err-fetch.field-0.0 c.in_err-fetch.was
    (works_as ReadsFile (ReadsOrWrites w) (λ call k. inl k) c.fetch.result
    (worked ReadsFile c.fetch.result c.fetch.ensures.own c.fetch.ensures.pieces c.fetch.ensures.last)))

pub returns-clause-told : goal.returns-clause-told
returns-clause-told g c stamped v cs outs b records free runs =
    let heads = c.args.heads.now in
    let e = end_view c.args.end.now in
    let o = c.args.output.now in
    let s = c.args.splitter.now in
    let given = c.past-value.result.now in
    let w = segment_name (codes "demux") (book_view c.args.book.now).next in
    let passes : ends_past e c.args.from (head_in heads c.args.index) ≡ true =
    sym (ap (ends_past e c.args.from) c.get-head.ensures.head) ∙ (sym c.ends_past.ensures ∙ c.if-not-ends_past.false) in
    record_split v c.args.files.now heads cs outs e c.args.from records runs c.args.index c.requires.index o c.args.reader.now
    s b stamped c.fetch.new.reader c.fetch.result c.fetch.ensures.raw
    c.fetch.ensures.own c.in_ok-fetch.field-0 c.in_ok-fetch.was passes given c.get-head.result.begin
    (ap (λ (h : Head). h.begin) c.get-head.ensures.head) (c.past-value.ensures ∙ ap (λ l. drop (c.args.from - c.get-head.result.begin) l) c.value.ensures)
    c.split_value.new.output c.split_value.new.splitter
    c.split_value.result w (own_of (WritesTo w) c.split_value.result c.split_value.ensures.works)
    (λ fed split value done. subst (λ r. OnOk r (IsSplitting b (fed ++ given) c.split_value.new.splitter)) done
    (c.split_value.ensures.split b fed split))
    (λ fed split placed. c.split_value.ensures.told stamped v outs c.args.from b fed free split placed)

pub returns-clause-works : goal.returns-clause-works
returns-clause-works g c =
    let w = segment_name (codes "demux") (book_view c.args.book.now).next in
    works_then (ReadsOrWrites w) c.fetch.result c.split_value.result
    (works_as ReadsFile (ReadsOrWrites w) (λ call k. inl k) c.fetch.result
    (worked ReadsFile c.fetch.result c.fetch.ensures.own c.fetch.ensures.pieces c.fetch.ensures.last))
    (works_as (WritesTo w) (ReadsOrWrites w) (λ call k. inr k) c.split_value.result c.split_value.ensures.works)

pub returns-then-not-ends_past-clause-raw : goal.returns-then-not-ends_past-clause-raw
returns-then-not-ends_past-clause-raw g c v cs ws b count records bytes within settled apart =
    let heads = c.args.heads.now in
    let e = end_view c.args.end.now in
    let misses : ends_past e c.args.from (head_in heads c.args.index) ≡ false =
    sym (ap (ends_past e c.args.from) c.get-head.ensures.head)
    ∙ (sym c.ends_past.ensures ∙ c.if-not-ends_past.true) in
    leads_none (g.S.Site.told c.args.site.now)
    (λ h z. (
      z.0,
      fed_passed v c.args.files.now heads cs e c.args.from records bytes b c.args.index
          c.requires.index c.args.splitter.now count c.args.output.now.entries misses z.1,
    ))

pub returns-in_err-fetch-clause-raw : goal.returns-in_err-fetch-clause-raw
returns-in_err-fetch-clause-raw g c v cs ws b count records bytes within settled apart =
    let p = err_from_is_err_and c.from_residual.result c.from_residual.ensures.1 in
    rw (p.1, p.2)
    (fetch_refused v c.args.files.now c.args.heads.now cs records ws within settled c.args.index c.requires.index c.args.reader.now
    c.fetch.new.reader c.fetch.result c.fetch.ensures.raw c.fetch.ensures.own (Unit {0})
    (IsFed cs (end_view c.args.end.now) c.args.from c.args.index b c.args.splitter.now count
    c.args.output.now.entries)
    (IsFed cs (end_view c.args.end.now) c.args.from (c.args.index + 1) b c.args.splitter.now count
    c.args.output.now.entries)
    c.fetch.new.reader c.in_err-fetch.field-0.0 c.in_err-fetch.was)

pub returns-clause-raw : goal.returns-clause-raw
returns-clause-raw g c v cs ws b count records bytes within settled apart =
    let w = segment_name (codes "demux") (book_view c.args.book.now).next in
    let files = c.args.files.now in
    let heads = c.args.heads.now in
    let e = end_view c.args.end.now in
    let i = c.args.index in
    let given = c.past-value.result.now in
    let own = slice_index_or cs i no_chunk in
    let fed = IsFed cs e c.args.from i b c.args.splitter.now count c.args.output.now.entries in
    let more = IsFed cs e c.args.from (i + 1) b c.split_value.new.splitter count
    c.split_value.new.output.entries in
    let passes : ends_past e c.args.from (head_in heads i) ≡ true =
    sym (ap (ends_past e c.args.from) c.get-head.ensures.head)
    ∙ (sym c.ends_past.ensures ∙ c.if-not-ends_past.false) in
    let begins : c.get-head.result.begin ≡ chunk_begin own =
    ap (λ (h : Head). h.begin) c.get-head.ensures.head
    ∙ (record_at v files heads cs e c.args.from records bytes i c.requires.index).begin in
    leads_then
    (fetched_on v files heads cs records ws within settled i c.requires.index c.args.reader.now
    c.fetch.new.reader c.fetch.result c.fetch.ensures.raw c.fetch.ensures.own fed
    c.in_ok-fetch.field-0 c.in_ok-fetch.was)
    (written_on v files heads cs records ws within settled w apart c.fetch.new.reader
    ((value_held c.fetch.new.reader ≡ own.value) × fed) more c.split_value.result
    c.split_value.ensures.only
    (λ value good x.
    fed_more v files heads cs e c.args.from records bytes b i c.requires.index c.args.splitter.now
    count c.args.output.now.entries passes given
    (c.past-value.ensures
    ∙ ap₂ (λ m l. drop (c.args.from - m) l) begins (c.value.ensures ∙ x.0))
    c.split_value.new.splitter c.split_value.new.output.entries c.split_value.result
    (λ fed k. c.split_value.ensures.split b fed k) (λ fed k. c.split_value.ensures.due b fed k)
    value good x.1)
    (own_of (WritesTo w) c.split_value.result c.split_value.ensures.works))

pub returns-then-not-ends_past-clause-shown : goal.returns-then-not-ends_past-clause-shown
returns-then-not-ends_past-clause-shown g c = adds_none _ _ (λ history. tt)

pub returns-in_err-fetch-clause-shown : goal.returns-in_err-fetch-clause-shown
returns-in_err-fetch-clause-shown g c =
    let p = err_from_is_err_and c.from_residual.result c.from_residual.ensures.1 in
    rw (p.1, p.2)
    (shows_first (Unit {0}) (Unit {0}) (IsGoneIn c.args.files.now c.args.heads.now) c.in_err-fetch.field-0.0 c.in_err-fetch.ensures.shown)

pub returns-clause-shown : goal.returns-clause-shown
returns-clause-shown g c =
    let w = segment_name (codes "demux") (book_view c.args.book.now).next in
    shows_opened (IsGoneIn c.args.files.now c.args.heads.now) c.split_value.result c.split_value.ensures.only
    (works_then (ReadsOrWrites w) c.fetch.result c.split_value.result
    (works_as ReadsFile (ReadsOrWrites w) (λ call k. inl k) c.fetch.result
    (worked ReadsFile c.fetch.result c.fetch.ensures.own c.fetch.ensures.pieces c.fetch.ensures.last))
    (works_as (WritesTo w) (ReadsOrWrites w) (λ call k. inr k) c.split_value.result c.split_value.ensures.works))

pub returns-in_err-fetch-clause-only : goal.returns-in_err-fetch-clause-only
returns-in_err-fetch-clause-only g c =
    let p = err_from_is_err_and c.from_residual.result c.from_residual.ensures.1 in
    rw (p.1, p.2) c.in_err-fetch.ensures.only

pub returns-clause-only : goal.returns-clause-only
returns-clause-only g c = writes_read c.split_value.result c.split_value.ensures.only

pub returns-then-not-ends_past-clause-due : goal.returns-then-not-ends_past-clause-due
returns-then-not-ends_past-clause-due g c = inl refl

pub returns-in_err-fetch-clause-due : goal.returns-in_err-fetch-clause-due
returns-in_err-fetch-clause-due g c =
    let p = err_from_is_err_and c.from_residual.result c.from_residual.ensures.1 in
    rw p.1 tt

pub returns-clause-due : goal.returns-clause-due
returns-clause-due g c =
    let e = end_view c.args.end.now in
    past_put c.split_value.result c.args.output.now.entries c.split_value.new.output.entries
    (sym (ap (ends_past e c.args.from) c.get-head.ensures.head)
    ∙ (sym c.ends_past.ensures ∙ c.if-not-ends_past.false))
