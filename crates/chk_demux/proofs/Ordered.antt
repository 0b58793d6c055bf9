-- The new records come in the order of their streams.
use Rattle.std.proofs.Common.{◌≡◌, ℕ, true, false, Bool, List, [], ◌∷◌, ◌++◌, ap₂, ◌∙◌, refl, map}
use Rattle.std.specs.Prelude.{flat_map}
use Rattle.std.proofs.lemmas.Bool.{and_parts}
use Rattle.chk_chunk.specs.Keys.{Stream, Chunk, stream_lt}
use Rattle.chk_world.specs.Books.{End, Book, ends_rise}
use Rattle.chk_world.specs.Splits.{Record}
use Rattle.chk_world.proofs.Each.{Each, each_as}
use Rattle.chk_world.proofs.BooksTrue.{each_append}
use Rattle.chk_record_index.specs.Heads.{Head}
use Rattle.chk_record_index.proofs.Orders.{streams}
use Rattle.chk_demux.specs.Demuxed.{InStreamOrder}
use Rattle.chk_demux.specs.Giving.{record_chunk}
use Rattle.chk_demux.specs.Splitting.{stream_chunks, all_chunks}

-- no stream stands before this one
abbrev NotBefore : Stream → Stream → Type 0
NotBefore s t = stream_lt t s ≡ false

not_itself : (s : Stream) → NotBefore s s
not_itself s = go (stream_lt s s) refl
  where
    go : (b : Bool) → stream_lt s s ≡ b → stream_lt s s ≡ false
    go true e = streams.order.one_way s s e
    go false e = e

later_ends : (e : End) (es : List End) → ends_rise (e ∷ es) ≡ true → Each (λ f. NotBefore e.stream f.stream) es
later_ends e [] r = tt
later_ends e (f ∷ es) r =
    let p = and_parts (stream_lt e.stream f.stream) (ends_rise (f ∷ es)) r in
    let first : NotBefore e.stream f.stream = streams.order.one_way e.stream f.stream p.0 in (
      first,
      each_as (λ g. NotBefore f.stream g.stream) (λ g. NotBefore e.stream g.stream) es
          (λ g k. streams.order.onward g.stream f.stream e.stream k first) (later_ends f es p.1),
    )

rest_rises : (e : End) (es : List End) → ends_rise (e ∷ es) ≡ true → ends_rise es ≡ true
rest_rises e [] r = refl
rest_rises e (f ∷ es) r = (and_parts (stream_lt e.stream f.stream) (ends_rise (f ∷ es)) r).1

order_append : (xs ys : List Chunk) → InStreamOrder xs → InStreamOrder ys
    → Each (λ (c : Chunk). Each (λ (d : Chunk). NotBefore c.key.stream d.key.stream) ys) xs → InStreamOrder (xs ++ ys)
order_append [] ys a b k = b
order_append (c ∷ xs) ys a b k = (
  each_append (λ (d : Chunk). NotBefore c.key.stream d.key.stream) xs ys a.0 k.0,
  order_append xs ys a.1 b k.1,
)

one_stream : (s : Stream) (xs : List Chunk) → Each (λ (c : Chunk). c.key.stream ≡ s) xs → InStreamOrder xs
one_stream s [] k = tt
one_stream s (c ∷ xs) k = (
  each_as (λ (d : Chunk). d.key.stream ≡ s) (λ (d : Chunk). NotBefore c.key.stream d.key.stream) xs
      (λ d is. ap₂ stream_lt is k.0 ∙ not_itself s) k.1,
  one_stream s xs k.1,
)

module _ (f : End → List Chunk) (of : (e : End) → Each (λ (c : Chunk). c.key.stream ≡ e.stream) (f e)) where
  later_chunks : (e : End) (c : Chunk) → c.key.stream ≡ e.stream → (es : List End)
      → Each (λ g. NotBefore e.stream g.stream) es → Each (λ (d : Chunk). NotBefore c.key.stream d.key.stream) (flat_map f es)
  later_chunks e c is [] k = tt
  later_chunks e c is (g ∷ es) k =
      each_append (λ (d : Chunk). NotBefore c.key.stream d.key.stream) (f g) (flat_map f es)
      (each_as (λ (d : Chunk). d.key.stream ≡ g.stream) (λ (d : Chunk). NotBefore c.key.stream d.key.stream) (f g)
      (λ d of_g. ap₂ stream_lt of_g is ∙ k.0) (of g))
      (later_chunks e c is es k.1)

  in_order : (es : List End) → ends_rise es ≡ true → InStreamOrder (flat_map f es)
  in_order [] r = tt
  in_order (e ∷ es) r =
      order_append (f e) (flat_map f es) (one_stream e.stream (f e) (of e)) (in_order es (rest_rises e es r))
      (each_as (λ (c : Chunk). c.key.stream ≡ e.stream)
      (λ (c : Chunk). Each (λ (d : Chunk). NotBefore c.key.stream d.key.stream) (flat_map f es)) (f e)
      (λ c is. later_chunks e c is es (later_ends e es r)) (of e))

pub of_stream : (heads : List Head) (e : End) (rs : List Record)
    → Each (λ (c : Chunk). c.key.stream ≡ e.stream) (map (record_chunk heads e) rs)
of_stream heads e [] = tt
of_stream heads e (r ∷ rs) = (refl, of_stream heads e rs)

pub all_in_order : (types : List (List ℕ)) (b : Book) (heads : List Head) (cs : List Chunk) (ends : List End)
    → ends_rise ends ≡ true → InStreamOrder (all_chunks types b heads cs ends)
all_in_order types b heads cs ends rise =
    in_order (stream_chunks types b heads cs) (λ e. of_stream heads e _) ends rise
