use Rattle.std.proofs.Common.{◌∙◌, List, ℕ, ap, flat_map}
use Rattle.std.proofs.lemmas.Result.{IfOk-weaker}
use Rattle.chk_book.specs.Books.{book_view}
use Rattle.chk_book.specs.Views.{end_view}
use Rattle.chk_book.specs.declared.lists.End.{End}
use Rattle.chk_ctl_status_rows.specs.declared.sinks.OpenSink.{OpenSink}
use Rattle.chk_ctl_status_rows.specs.Lines.{sink_line, stream_in}
use Rattle.chk_ctl_status.specs.Stores.{text_of}
use Rattle.chk_ctl_status.proofs.telling.store_text.Goals as goal

pub returns : goal.returns
returns c =
    let seen = c.args.seen.now in
    let folder = c.args.folder.now in
    let lines : List End → List ℕ =
    λ ends. flat_map (λ (e : End). stream_in (book_view seen.split).ends (end_view e)) ends in
    let rows : List OpenSink → List ℕ = λ sinks. flat_map sink_line sinks in
    let streams = c.as_str.ensures.value ∙ c.in_ok-streams.ensures
    ∙ ap lines c.as_slice.ensures in
    let sinks = c.as_str-2.ensures.value ∙ c.in_ok-sinks.ensures
    ∙ ap rows c.as_slice-2.ensures.value in
    let counts = c.as_str-3.ensures.value ∙ c.in_ok-counts.ensures in
    IfOk-weaker c.text_of.result _ _
    (λ r is.
    is ∙ ap (λ (t : List ℕ). text_of folder t c.as_str-2.result.now
    c.as_str-3.result.now) streams
    ∙ ap (λ (t : List ℕ). text_of folder (lines seen.waiting.book.ends) t
    c.as_str-3.result.now) sinks
    ∙ ap (λ (t : List ℕ). text_of folder (lines seen.waiting.book.ends) (rows
    seen.sinks.unclosed.items) t) counts)
    c.text_of.ensures
