use Rattle.std.proofs.Common.{◌≡◌, ◌++◌, take, IsTrue}
use Rattle.std.specs.List.{list_all}
use Rattle.chk_bytes.specs.Stems.{is_stem}
use Rattle.chk_http_grammar.specs.Messages.{query_text}
use Rattle.chk_http.proofs.writer.put_stems.Given as goal

abbrev pub invariant-loop-place : goal.invariant-loop-place
invariant-loop-place l = record {
  written : l.out ≡ l.initial.out ++ query_text (take l.place l.stems);
  valid : IsTrue (list_all is_stem (take l.place l.stems));
}
