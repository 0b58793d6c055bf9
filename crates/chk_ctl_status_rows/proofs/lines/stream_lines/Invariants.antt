use Rattle.std.proofs.Common.{◌≡◌, ◌++◌, drop}
use Rattle.std.specs.Prelude.{flat_map, string_bytes}
use Rattle.chk_book.specs.Books.{book_view}
use Rattle.chk_book.specs.Views.{end_view}
use Rattle.chk_book.specs.declared.lists.End.{End}
use Rattle.chk_ctl_status_rows.specs.Lines.{stream_in}
use Rattle.chk_ctl_status_rows.proofs.lines.stream_lines.Given as goal

abbrev pub invariant-loop-end : goal.invariant-loop-end
invariant-loop-end l =
    string_bytes l.text
    ++ flat_map (λ (e : End). stream_in (book_view l.records).ends (end_view e))
    (drop l.end-index l.ends)
    ≡ flat_map (λ (e : End). stream_in (book_view l.records).ends (end_view e)) l.ends
