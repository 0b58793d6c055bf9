use Rattle.std.proofs.Common.{refl, ap, ◌∙◌, map}
use Rattle.chk_seqfile.specs.Headers.{marker_of}
use Rattle.chk_book.specs.Views.{end_view}
use Rattle.chk_book.specs.Segmenting.{begun, raised_by}
use Rattle.chk_book.proofs.Segmented.{is_at, begun_form, begun_size}
use Rattle.chk_book.proofs.segmenter.Segmenter.new.Goals as goal

pub returns : goal.returns
returns c =
    let folder = c.args.folder.now in
    record {
      at =
          is_at _ (begun folder c.args.number) c.in_ok-from_text.ensures refl c.new.ensures (begun_form folder c.args.number)
          (c.after_header.ensures.place ∙ begun_size folder c.args.number)
          (c.after_header.ensures.marker ∙ ap marker_of (c.as_str.ensures.value ∙ c.in_ok-stem.ensures.stem))
          (λ es. ap (λ x. raised_by (map end_view x) es) c.new-3.ensures);
      who = c.in_ok-copy.ensures;
    }
