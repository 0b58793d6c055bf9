use Rattle.std.proofs.Common.{◌≢◌, get_or-set_other, get_or-set_same, ◌≡◌, ℕ, ◌<◌, List, length, map, get_or, true, sym, ◌∙◌, ap, subst, arith}
use Rattle.std.specs.List.{insert}
use Rattle.std.proofs.lemmas.List.Edits.{get_or-insert_below, get_or-insert_at}
use Rattle.std.specs.Prelude.{slice_set}
use Rattle.chk_world.proofs.NameTests.{streams_same}
use Rattle.chk_chunk.specs.Keys.{same_stream}
use Rattle.chk_book.specs.declared.lists.End.{End as EndStruct}
use Rattle.chk_book.specs.Views.{end_view}
use Rattle.chk_book.specs.Raising.{IsPlaceOf, ArePassed, AreUpTo}
use Rattle.chk_book.specs.Segmenting.{raised_end}
use Rattle.chk_book.proofs.EndRaises.{ending_at}
use Rattle.chk_book.proofs.EndPlaces.{same_item, raised_there, put_there, stands_last}
use Rattle.chk_book.proofs.lists.Ends.put_at.Goals as goal
use Rattle.chk_book.proofs.lists.Ends.put_at.Goals.{else-at-len-via-then-at-len+else-is_with, else-at-len-via-else-at-len}

pub returns-then-is_with-clause-ok : goal.returns-then-is_with-clause-ok
returns-then-is_with-clause-ok c =
    let xs = c.self.inside.items.items in
    let d = end_view c.args.end in
    let at : ℕ = c.args.at in
    let low : at < length xs = let size : c.len.result ≡ length xs = c.len.ensures ∙ c.self.inside.items.ok.0 in let below = c.if-at-len.true in omega (arith, size, below) in
    let x : EndStruct = c.index_mut.result.now in
    let there : x ≡ get_or xs at x = c.index_mut.ensures.value in
    let seen : c.index.result.now ≡ get_or xs at x = c.index.ensures ∙ same_item xs at c.index.result.now x low in
    let same : same_stream (end_view (get_or xs at x)).stream d.stream ≡ true =
    ap (λ (z : EndStruct). same_stream (end_view z).stream d.stream) (sym seen) ∙ (sym c.is_with.ensures ∙ c.if-is_with.true) in
    raised_there d xs at x _ (subst (λ (t : List EndStruct). IsPlaceOf d (map end_view t) at) (sym c.self.view_is) c.requires.place) low same
    (ap (λ (z : EndStruct). ending_at (end_view z) d.end) there)
    ∙ ap (λ (t : List EndStruct). raised_end d (map end_view t)) c.self.view_is

pub returns-clause-ok : goal.returns-clause-ok
returns-clause-ok c =
    let xs = c.self.inside.items.items in
    let d = end_view c.args.end in
    let at : ℕ = c.args.at in
    let size : c.len.result ≡ length xs = c.len.ensures ∙ c.self.inside.items.ok.0 in
    ap (map end_view) c.in_ok-insert.ensures.items
    ∙ (put_there xs at c.args.end (subst (λ (t : List EndStruct). IsPlaceOf d (map end_view t) at) (sym c.self.view_is) c.requires.place)
    (λ x low. elim c.else-at-len.branch [
      | else-at-len-via-then-at-len+else-is_with w ↦
          ap (λ (z : EndStruct). same_stream (end_view z).stream d.stream) (same_item xs at x w.index.result.now low ∙ sym w.index.ensures)
          ∙ (sym w.is_with.ensures ∙ w.if-is_with.false)
      | else-at-len-via-else-at-len w ↦ absurd (let past = w.if-at-len.false in let z : ⊥ = omega (arith, size, past, low) in z)
    ])
    ∙ ap (λ (t : List EndStruct). raised_end d (map end_view t)) c.self.view_is)

pub returns-then-is_with-clause-last : goal.returns-then-is_with-clause-last
returns-then-is_with-clause-last c =
    let xs = c.self.inside.items.items in
    let d = end_view c.args.end in
    let at = c.args.at in
    let size : c.len.result ≡ length xs = c.len.ensures ∙ c.self.inside.items.ok.0 in
    let below = c.if-at-len.true in
    let low : at < length xs = omega (arith, size, below) in
    let x : EndStruct = c.index_mut.result.now in
    let y : EndStruct = record { source = x.source; kind = x.kind; name = x.name; start = x.start; end = d.end } in
    let seen : c.index.result.now ≡ get_or xs at x = c.index.ensures ∙ same_item xs at c.index.result.now x low in
    let same : same_stream (end_view (get_or xs at x)).stream d.stream ≡ true =
    ap (λ (z : EndStruct). same_stream (end_view z).stream d.stream) (sym seen) ∙ (sym c.is_with.ensures ∙ c.if-is_with.true) in
    let of = ap (λ (z : EndStruct). (end_view z).stream) c.index_mut.ensures.value ∙ streams_same (end_view (get_or xs at x)).stream d.stream same in
    stands_last d xs (slice_set xs at y) at (subst (λ (t : List EndStruct). ArePassed d t at) (sym c.self.view_is) c.requires.passed)
    (λ k z early. let ne : k ≢ at = omega (arith, early) in get_or-set_other xs at k y z ne)
    (λ z. ap (λ (e : EndStruct). (end_view e).stream) (get_or-set_same xs at y z low) ∙ of)

pub returns-clause-last : goal.returns-clause-last
returns-clause-last c =
    let d = end_view c.args.end in
    let xs = c.self.inside.items.items in
    let at = c.args.at in
    let are : ArePassed d xs at = subst (λ (t : List EndStruct). ArePassed d t at) (sym c.self.view_is) c.requires.passed in
    let within = are.within in
    subst (λ (t : List EndStruct). AreUpTo t at) (sym c.in_ok-insert.ensures.items)
    (stands_last d xs (insert xs at c.args.end) at are
    (λ k x below. get_or-insert_below xs at c.args.end x k below within)
    (λ x. ap (λ (z : EndStruct). (end_view z).stream) (get_or-insert_at xs at c.args.end x within)))
