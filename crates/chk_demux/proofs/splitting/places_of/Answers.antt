use Rattle.std.proofs.Common.{◌≡◌, ◌∙◌, ◌+◌, ◌<◌, ◌++◌, ◌∷◌, List, [], length, map, take, get_or, ap, ap₂, sym, subst, length-append}
use Rattle.std.proofs.lemmas.List.{take_more, map-append, length-map, get_or-map}
use Rattle.chk_world.specs.Books.{End}
use Rattle.chk_book.specs.declared.lists.End.{End as EndStruct}
use Rattle.chk_book.specs.Books.{book_view}
use Rattle.chk_book.specs.Views.{end_view}
use Rattle.chk_record_reader.specs.OnePass.{no_end}
use Rattle.chk_demux.specs.Splitting.{split_from}
use Rattle.chk_demux.proofs.splitting.places_of.Goals as goal

pub loop-end-preserved : goal.loop-end-preserved
loop-end-preserved c =
    let b = book_view c.args.book.now in
    let ends : List EndStruct = c.args.archive.now.ends in
    let es : List End = map end_view ends in
    let i = c.loop-end.end-index in
    let item : EndStruct = c.end-item.result in
    let low : i < length ends = subst (λ (l : List EndStruct). i < length l) c.as_slice-end-items.ensures c.loop-end-test.true in
    let low_view : i < length es = subst (λ n. i < n) (sym (length-map ends end_view)) low in
    let there : item ≡ get_or ends i item =
    subst (λ (l : List EndStruct). item ≡ get_or l i item) c.as_slice-end-items.ensures c.end-item.is in
    let is : end_view item ≡ get_or es i no_end = ap end_view there ∙ sym (get_or-map end_view ends i item no_end low) in
    record {
      size = ap length c.in_ok-push.ensures.items
          ∙ (length-append c.loop-end.places.items (c.split_from.result ∷ [])
          ∙ ap (λ n. n + 1) c.loop-end.invariant.size);
      so_far = λ rises.
          c.in_ok-push.ensures.items
          ∙ (ap₂ (λ l y. l ++ y ∷ []) (c.loop-end.invariant.so_far rises)
          (c.split_from.ensures rises ∙ ap (split_from b) is)
          ∙ sym (ap (map (split_from b)) (take_more es i no_end low_view)
          ∙ map-append (split_from b) (take i es) (get_or es i no_end ∷ [])));
    }
